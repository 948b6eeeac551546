-- The answer for the records that are kept.
use mathlib.Core.Path.{◌≡◌, refl, ◌∙◌}
use mathlib.Core.Bool.{Bool, true, false, cond}
use mathlib.Core.List.{List, ◌++◌}
use Prim.Native.Nat.{ℕ, ◌≤◌}
use lib.Dec.{eqb, leb}
use lib.IntN.{pos, neg_ℤ}
use lib.ListN.{length, drop, replicate}
use Rattle.std.specs.Prelude.{Ok, Err, IfOk}
use Rattle.shortening.specs.declared.ShortenError.{ShortenError}
use Rattle.shortening.specs.Shortening.{refusal_of, kept_to, rounds, most_records, records_in, flags_of, shortened, kept_refusal, signed, answer_number, handed}

-- what is kept in the end
pub shortened_is : (l flags : List ℕ) (count k : ℕ) (start : List ℕ) → flags ≡ rounds most_records l count k start → count ≡ records_in l → k ≡ refusal_of l → start ≡ replicate most_records 1
    → kept_to count l flags ≡ shortened l
unfolding shortened flags_of
shortened_is l flags count k start e c n s =
    (λ j. kept_to (c j) l (e j)) ∙ (λ j. kept_to (records_in l) l (rounds most_records l (c j) (n j) (s j)))

module _ (l out : List ℕ) (some : eqb (refusal_of l) 0 ≡ false) where
  kept_room : kept_refusal (length out) l ≡ cond (leb (length (shortened l)) (length out)) 0 15
  unfolding kept_refusal
  kept_room = rw some refl

  pub kept_answer : (size : ℕ) → size ≡ length (shortened l) → cond (leb size (length out)) (pos size) (neg_ℤ (pos 15)) ≡ signed (kept_refusal (length out) l) (length (shortened l))
  unfolding signed
  kept_answer size e = rw (kept_room, e) (go (leb (length (shortened l)) (length out)))
    where
      go : (t : Bool) → cond t (pos (length (shortened l))) (neg_ℤ (pos 15)) ≡ cond (eqb (cond t 0 15) 0) (pos (length (shortened l))) (neg_ℤ (pos (cond t 0 15)))
      go true = refl
      go false = refl

  pub kept_buffer : (size : ℕ) (bytes : List ℕ) → size ≡ length (shortened l) → bytes ≡ shortened l
      → cond (leb size (length out)) (bytes ++ drop size out) out ≡ handed out (kept_refusal (length out) l) (shortened l)
  unfolding handed
  kept_buffer size bytes e b = rw (kept_room, e, b) (go (leb (length (shortened l)) (length out)))
    where
      go : (t : Bool) → cond t (shortened l ++ drop (length (shortened l)) out) out ≡ cond (eqb (cond t 0 15) 0) (shortened l ++ drop (length (shortened l)) out) out
      go true = refl
      go false = refl

-- the answer of what is handed out, as a number, and how long it is
pub answer_of : (t : Bool) (size : ℕ) → answer_number (cond t (Ok size) (Err ShortenError.BufferTooShort)) ≡ cond t (pos size) (neg_ℤ (pos 15))
answer_of true size = refl
answer_of false size = refl

pub answer_short : (t : Bool) (size : ℕ) → size ≤ 9728 → IfOk (cond t (Ok size) (Err ShortenError.BufferTooShort)) (λ bytes. bytes ≤ 9728)
answer_short true size h = h
answer_short false size h = tt
