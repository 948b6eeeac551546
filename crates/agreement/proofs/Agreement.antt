-- When the bytes of a part stand in s from a place on, and when not; parts one after the other; and the outputs of an input that is cut.
use mathlib.Core.Path.{◌≡◌, refl, sym, ap, ◌∙◌, subst}
use mathlib.Core.Bool.{Bool, true, false}
use mathlib.Core.List.{List, [], ◌++◌, append_assoc, append-nil}
use Prim.Native.Nat.{ℕ, zero, suc, ◌+◌, ◌-◌, ◌≤◌, ◌<◌}
use native.Mathlib.Numerals.{add-one}
use native.Mathlib.Omega.{arith}
use native.Mathlib.Decide.{ℕ_discrete, dec_lt}
use lib.Dec.{eqb, leb}
use lib.ListN.{length, get_or, take, length-append, get_or-append}
use lib.Seq.{get_or-append-add}
use borrow.Author.Tests.{eqb-true, eq-eqb, ne_eqb, leb-true, le-leb, lt-leb}
use Rattle.lists.proofs.Tests.{untrue, both, two_pass}
use Rattle.runs.specs.Runs.{printed}
use Rattle.agreement.specs.{agree_to, stands_in, same_bytes, outputs_to, outputs_of}

module _ (s : List ℕ) (at : ℕ) (part : List ℕ) where
  pub agree_more : (n : ℕ) → agree_to s at part n ≡ true → get_or s (at + n) 0 ≡ get_or part n 0 → agree_to s at part (n + 1) ≡ true
  unfolding agree_to
  agree_more n h e = rw (add-one n, eq-eqb _ _ e) h

  -- a byte that differs is a difference of the whole
  agree_fails : (k n : ℕ) → k < n → (get_or s (at + k) 0 ≡ get_or part k 0 → ⊥) → agree_to s at part n ≡ false
  unfolding agree_to
  agree_fails k zero b d = absurd (omega arith)
  agree_fails k (suc n) b d =
      elim (ℕ_discrete k n) [
        | yes e ↦ rw (← e, ne_eqb _ _ d)
        | no e ↦ rw (agree_fails k n (omega arith) d) (both (λ (b : Bool). b ≡ false) (eqb (get_or s (at + n) 0) (get_or part n 0)) refl refl)
      ]

  pub too_short : length s < at + length part → false ≡ stands_in s at part
  unfolding stands_in
  too_short h = rw (lt-leb _ _ h)

  module _ (room : at + length part ≤ length s) where
    pub differs : (k : ℕ) → k < length part → (get_or s (at + k) 0 ≡ get_or part k 0 → ⊥) → false ≡ stands_in s at part
    unfolding stands_in
    differs k b d = rw (le-leb _ _ room, agree_fails k (length part) b d)

    pub stands : (i : ℕ) → i ≡ length part → agree_to s at part i ≡ true → true ≡ stands_in s at part
    unfolding stands_in
    stands i e h = rw (le-leb _ _ room, ← e, h)

-- ---- byte by byte

-- the bytes of a part stand in s from a place on
pub record Stand (s : List ℕ) (at : ℕ) (part : List ℕ) : Type 0 where
  pub room : at + length part ≤ length s
  pub same : (k : ℕ) → k < length part → get_or s (at + k) 0 ≡ get_or part k 0

module _ (s : List ℕ) (at : ℕ) (part : List ℕ) where
  agreed : (n : ℕ) → agree_to s at part n ≡ true → (k : ℕ) → k < n → get_or s (at + k) 0 ≡ get_or part k 0
  unfolding agree_to
  agreed zero e k h = absurd (omega arith)
  agreed (suc n) e k h =
      let t = two_pass (eqb (get_or s (at + n) 0) (get_or part n 0)) (agree_to s at part n) e in
      elim (ℕ_discrete k n) [
        | yes is ↦ rw is (eqb-true _ _ t.0)
        | no other ↦ agreed n t.1 k (omega arith)
      ]

  agrees : (n : ℕ) → ((k : ℕ) → k < n → get_or s (at + k) 0 ≡ get_or part k 0) → agree_to s at part n ≡ true
  unfolding agree_to
  agrees zero h = refl
  agrees (suc n) h = rw (eq-eqb _ _ (h n (omega arith))) (agrees n (λ k b. h k (omega arith)))

  pub stand_told : stands_in s at part ≡ true → Stand s at part
  unfolding stands_in
  stand_told e =
      let t = two_pass (leb (at + length part) (length s)) (agree_to s at part (length part)) e in
      record { room = leb-true _ _ t.0; same = agreed (length part) t.1 }

  stand_shown : Stand s at part → stands_in s at part ≡ true
  unfolding stands_in
  stand_shown h = rw (le-leb _ _ h.room) (agrees (length part) h.same)

module _ (s a b : List ℕ) where
  -- two parts, one after the other
  pub stands_both : stands_in s 0 a ≡ true → stands_in s (length a) b ≡ true → stands_in s 0 (a ++ b) ≡ true
  stands_both p q =
      let first = stand_told s 0 a p in
      let second = stand_told s (length a) b q in
      stand_shown s 0 (a ++ b) (record {
        room = omega (arith, second.room, length-append a b);
        same = λ k h. go k h (dec_lt k (length a)) first second;
      })
    where
      go : (k : ℕ) → k < length (a ++ b) → Dec (k < length a) → Stand s 0 a → Stand s (length a) b → get_or s (0 + k) 0 ≡ get_or (a ++ b) k 0
      go k h (yes low) first second = first.same k low ∙ sym (get_or-append a b 0 k low)
      go k h (no high) first second =
          let place : k ≡ length a + (k - length a) = omega (arith, high) in
          let all : 0 + k ≡ length a + (k - length a) = omega (arith, place) in
          ap (λ (i : ℕ). get_or s i 0) all ∙ second.same (k - length a) (omega (arith, high, h, length-append a b)) ∙
          sym (ap (λ (i : ℕ). get_or (a ++ b) i 0) place ∙ get_or-append-add a b (k - length a) 0)

  -- the second of them alone, before more
  pub stands_second : (c : List ℕ) → stands_in s 0 ((a ++ b) ++ c) ≡ true → stands_in s (length a) b ≡ true
  stands_second c p =
      let whole = stand_told s 0 ((a ++ b) ++ c) p in
      stand_shown s (length a) b (record {
        room = omega (arith, whole.room, length-append (a ++ b) c, length-append a b);
        same = λ k h.
            let inside : length a + k < length (a ++ b) = omega (arith, h, length-append a b) in
            let all : length a + k ≡ 0 + (length a + k) = omega arith in
            ap (λ (i : ℕ). get_or s i 0) all ∙ whole.same (length a + k) (omega (arith, inside, length-append (a ++ b) c)) ∙
            get_or-append (a ++ b) c 0 (length a + k) inside ∙ get_or-append-add a b k 0;
      })

-- ---- the outputs of an input that is cut

-- the first of them, and more
outputs_more : (n m : ℕ) (input : List ℕ) → n ≤ m → (rest : List ℕ) × (outputs_to m input ≡ outputs_to n input ++ rest)
unfolding outputs_to
outputs_more n zero input h = let none : n ≡ 0 = omega arith in ([], rw none refl)
outputs_more n (suc m) input h =
    elim (ℕ_discrete n (suc m)) [
      | yes is ↦ ([], rw is (sym (append-nil (outputs_to (suc m) input))))
      | no other ↦
          let less = outputs_more n m input (omega (arith, h, other)) in
          (less.0 ++ printed (take m input), ap (λ (l : List ℕ). l ++ printed (take m input)) less.1 ∙ append_assoc (outputs_to n input) less.0 (printed (take m input)))
    ]

pub stands_none : (s input : List ℕ) → stands_in s 0 (outputs_to 0 input) ≡ true
unfolding stands_in agree_to outputs_to
stands_none s input = rw (le-leb 0 (length s) (omega arith))

-- one cut after others, whose outputs stand
module _ (input expected : List ℕ) (cut at : ℕ) (place : at ≡ length (outputs_to cut input)) where
  abbrev output : List ℕ
  output = printed (take cut input)

  there : stands_in expected at output ≡ stands_in expected (length (outputs_to cut input)) output
  there = ap (λ (i : ℕ). stands_in expected i output) place

  pub cut_differs : cut ≤ length input → stands_in expected at output ≡ false → false ≡ same_bytes expected (outputs_of input)
  unfolding same_bytes outputs_to
  cut_differs h e = sym (go (same_bytes expected (outputs_of input)) refl)
    where
      go : (t : Bool) → same_bytes expected (outputs_of input) ≡ t → same_bytes expected (outputs_of input) ≡ false
      go false q = q
      go true q =
          let whole = (two_pass (eqb (length expected) (length (outputs_of input))) (stands_in expected 0 (outputs_of input)) q).1 in
          let more = outputs_more (suc cut) (length input + 1) input (omega (arith, h)) in
          untrue (sym e ∙ there ∙ stands_second expected (outputs_to cut input) output more.0 (subst (λ (l : List ℕ). stands_in expected 0 l ≡ true) more.1 whole))

  pub cut_stands : stands_in expected 0 (outputs_to cut input) ≡ true → stands_in expected at output ≡ true
      → (at + length output ≤ length expected) × (at + length output ≡ length (outputs_to (cut + 1) input)) × (stands_in expected 0 (outputs_to (cut + 1) input) ≡ true)
  unfolding outputs_to
  cut_stands before e = (
    (stand_told expected at output e).room,
    rw (add-one cut) (omega (arith, place, length-append (outputs_to cut input) output)),
    rw (add-one cut) (stands_both expected (outputs_to cut input) output before (sym there ∙ e)),
  )

  pub cuts_end : cut ≡ length input + 1 → stands_in expected 0 (outputs_to cut input) ≡ true → eqb at (length expected) ≡ same_bytes expected (outputs_of input)
  unfolding same_bytes
  cuts_end all stands =
      let outputs : length (outputs_of input) ≡ at = ap (λ (k : ℕ). length (outputs_to k input)) (sym all) ∙ sym place in
      let whole : stands_in expected 0 (outputs_of input) ≡ true = ap (λ (k : ℕ). stands_in expected 0 (outputs_to k input)) (sym all) ∙ stands in
      rw whole (
      elim (ℕ_discrete at (length expected)) [
        | yes is ↦ rw (eq-eqb at (length expected) is, eq-eqb (length expected) (length (outputs_of input)) (sym is ∙ sym outputs)) refl
        | no other ↦ rw (ne_eqb at (length expected) other, ne_eqb (length expected) (length (outputs_of input)) (λ e. other (sym outputs ∙ sym e))) refl
      ]
      )
