-- A record is found where its parts stand, and its parts stand where it is found.
use mathlib.Core.Path.{◌≡◌, refl, sym, ap, ◌∙◌}
use mathlib.Core.Bool.{Bool, true, false, cond}
use mathlib.Core.List.{List, [], ◌∷◌}
use Prim.Native.Nat.{ℕ, zero, suc, ◌+◌, ◌≤◌, ◌<◌}
use native.Mathlib.Nat.{add-zero, add_assoc}
use native.Mathlib.Omega.{arith}
use lib.Dec.{leb, eqb, lit<}
use lib.ListN.{length, take, drop}
use lib.Seq.{get_or-drop, drop-drop}
use borrow.Author.Tests.{le-leb, ne_eqb, leb-true, eqb-false}
use Rattle.std.specs.Prelude.{Result, Ok, Err}
use Rattle.protocol.specs.declared.Step.{Step}
use Rattle.records.specs.declared.Malformed.{Malformed}
use Rattle.records.specs.declared.Record.{Record}
use Rattle.records.specs.Records.{byte_at, two_at, no_step, kind_of_tag, tag_of, is_length, step_of, read_to, malformed, record_of_kind, record_at, AllBytes}
use Rattle.records.proofs.Table.{tag_back}

-- ---- a record seen from its position

pub byte_from : (l : List ℕ) (at : ℕ) → byte_at l at ≡ byte_at (drop at l) 0
byte_from l at = sym (get_or-drop at l 0 0 ∙ ap (byte_at l) (add-zero at))

pub two_from : (l : List ℕ) (at : ℕ) → two_at l (at + 1) ≡ two_at (drop at l) 1
unfolding two_at
two_from l at = simp (get_or-drop, add_assoc)

pub content_from : (l : List ℕ) (at : ℕ) → drop (at + 3) l ≡ drop 3 (drop at l)
content_from l at = sym (drop-drop 3 at l)

-- ---- a part of a list of bytes

pub bytes_drop : (l : List ℕ) (n : ℕ) → AllBytes l → AllBytes (drop n l)
bytes_drop l n b i = rw (get_or-drop n l i 0) (b (n + i))

pub bytes_take : (l : List ℕ) (n : ℕ) → AllBytes l → AllBytes (take n l)
bytes_take l zero b i = lit< tt
bytes_take [] (suc n) b i = lit< tt
bytes_take (x ∷ l) (suc n) b zero = b 0
bytes_take (x ∷ l) (suc n) b (suc i) = bytes_take l n (λ j. b (suc j)) i

-- ---- the parts

-- where tag, length and room are right, a record is found
pub found : (l : List ℕ) (at k w : ℕ) → kind_of_tag (byte_at l at) ≡ k → k < 16 → two_at l (at + 1) ≡ w → is_length k w ≡ true → at + 3 + w ≤ length l
    → record_at l at ≡ Ok (read_to (step_of k (take w (drop (at + 3) l))) (at + 3 + w))
unfolding record_at record_of_kind
found l at k w tag below size allowed room =
    simp (le-leb (at + 3) (length l) (omega arith), tag, ne_eqb k no_step (λ e. omega arith), size, allowed, le-leb _ _ room)

-- a test on the way to a record
passed : (t : Bool) (x : Result Record Malformed) {s : Step} {n : ℕ} → cond t x (Err malformed) ≡ Ok (read_to s n) → (t ≡ true) × (x ≡ Ok (read_to s n))
passed true x e = (refl, e)
passed false x e = let z : ◌≡◌ {A = ℕ} 0 1 = cc in absurd (omega arith)

not_stopped : (t : Bool) (x : Result Record Malformed) {s : Step} {n : ℕ} → cond t (Err malformed) x ≡ Ok (read_to s n) → (t ≡ false) × (x ≡ Ok (read_to s n))
not_stopped true x e = let z : ◌≡◌ {A = ℕ} 0 1 = cc in absurd (omega arith)
not_stopped false x e = (refl, e)

-- what stands where a record of a kind is found, its content having w bytes
pub record Parts (l : List ℕ) (at k w n : ℕ) (s : Step) : Type 0 where
  pub below : k < 16
  pub tag : byte_at l at ≡ tag_of k
  pub size : is_length k w ≡ true
  pub room : at + 3 + w ≤ length l
  pub step : step_of k (take w (drop (at + 3) l)) ≡ s
  pub next : at + 3 + w ≡ n

pub parts : (l : List ℕ) (at n : ℕ) (s : Step) → record_at l at ≡ Ok (read_to s n) → Parts l at (kind_of_tag (byte_at l at)) (two_at l (at + 1)) n s
unfolding record_at record_of_kind
parts l at n s e =
    let k : ℕ = kind_of_tag (byte_at l at) in
    let w : ℕ = two_at l (at + 1) in
    let p = passed (leb (at + 3) (length l)) _ e in
    let q = not_stopped (eqb k no_step) _ p.1 in
    let r = passed (is_length k w) _ q.1 in
    let t = passed (leb (at + 3 + w) (length l)) _ r.1 in
    let same : read_to (step_of k (take w (drop (at + 3) l))) (at + 3 + w) ≡ read_to s n = cc t.1 in
    let known = tag_back (byte_at l at) (eqb-false k no_step q.0) in
    record {
      below = known.0;
      tag = sym known.1;
      size = r.0;
      room = leb-true _ _ t.0;
      step = ap (λ (r : Record). r.step) same;
      next = ap (λ (r : Record). r.end) same;
    }
