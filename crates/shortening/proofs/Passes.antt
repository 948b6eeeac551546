-- Passes over the records between the first and the last: what they leave of the flags, turn by turn.
use mathlib.Core.Path.{◌≡◌, refl, ap, ◌∙◌}
use mathlib.Core.Bool.{Bool, true, false, cond}
use mathlib.Core.List.{List}
use Prim.Native.Nat.{ℕ, zero, suc, ◌+◌, ◌-◌, ◌≤◌, ◌<◌}
use native.Mathlib.Omega.{arith}
use lib.Dec.{eqb}
use lib.ListN.{length, length-set}
use borrow.Author.Tests.{eq-eqb, ne_eqb}
use Rattle.lists.proofs.Tests.{both}
use Rattle.shortening.specs.Shortening.{drops, tried, passed, dropped, rounds}

-- one turn of a pass
pub passed_next : (l : List ℕ) (count k i : ℕ) (flags : List ℕ) → 0 < i → passed l count k i flags ≡ passed l count k (i - 1) (tried l count k flags i)
unfolding passed
passed_next l count k zero flags h = absurd (omega arith)
passed_next l count k (suc i) flags h = let same : i ≡ suc i - 1 = omega arith in ap (λ (j : ℕ). passed l count k j (tried l count k flags (suc i))) same

pub dropped_next : (l : List ℕ) (count k i : ℕ) (flags : List ℕ) → 0 < i
    → dropped l count k i flags ≡ cond (drops l count k flags i) 1 0 + dropped l count k (i - 1) (tried l count k flags i)
unfolding dropped
dropped_next l count k zero flags h = absurd (omega arith)
dropped_next l count k (suc i) flags h =
    let same : i ≡ suc i - 1 = omega arith in ap (λ (j : ℕ). cond (drops l count k flags (suc i)) 1 0 + dropped l count k j (tried l count k flags (suc i))) same

pub passed_none : (l : List ℕ) (count k i : ℕ) (flags : List ℕ) → i ≡ 0 → passed l count k i flags ≡ flags
unfolding passed
passed_none l count k i flags e = rw e refl

pub dropped_none : (l : List ℕ) (count k i : ℕ) (flags : List ℕ) → i ≡ 0 → dropped l count k i flags ≡ 0
unfolding dropped
dropped_none l count k i flags e = rw e refl

-- the flags keep their number
pub tried_length : (l : List ℕ) (count k : ℕ) (flags : List ℕ) (i : ℕ) → length (tried l count k flags i) ≡ length flags
unfolding tried
tried_length l count k flags i = both (λ (fs : List ℕ). length fs ≡ length flags) (drops l count k flags i) (length-set flags i 0) refl

pub passed_length : (l : List ℕ) (count k i : ℕ) (flags : List ℕ) → length (passed l count k i flags) ≡ length flags
unfolding passed
passed_length l count k zero flags = refl
passed_length l count k (suc i) flags = passed_length l count k i (tried l count k flags (suc i)) ∙ tried_length l count k flags (suc i)

-- one turn of the passes
pub rounds_stop : (f : ℕ) (l : List ℕ) (count k : ℕ) (flags : List ℕ) → 0 < f → dropped l count k (count - 2) flags ≡ 0
    → rounds f l count k flags ≡ passed l count k (count - 2) flags
unfolding rounds
rounds_stop zero l count k flags h e = absurd (omega arith)
rounds_stop (suc f) l count k flags h e = rw (eq-eqb (dropped l count k (count - 2) flags) 0 e) refl

pub rounds_more : (f : ℕ) (l : List ℕ) (count k : ℕ) (flags : List ℕ) → 0 < f → (dropped l count k (count - 2) flags ≡ 0 → ⊥)
    → rounds f l count k flags ≡ rounds (f - 1) l count k (passed l count k (count - 2) flags)
unfolding rounds
rounds_more zero l count k flags h e = absurd (omega arith)
rounds_more (suc f) l count k flags h e =
    let same : f ≡ suc f - 1 = omega arith in
    rw (ne_eqb (dropped l count k (count - 2) flags) 0 e) (ap (λ (j : ℕ). rounds j l count k (passed l count k (count - 2) flags)) same)

pub rounds_none : (f : ℕ) (l : List ℕ) (count k : ℕ) (flags : List ℕ) → f ≡ 0 → rounds f l count k flags ≡ flags
unfolding rounds
rounds_none f l count k flags e = rw e refl

pub rounds_length : (f : ℕ) (l : List ℕ) (count k : ℕ) (flags : List ℕ) → length (rounds f l count k flags) ≡ length flags
unfolding rounds
rounds_length zero l count k flags = refl
rounds_length (suc f) l count k flags = go (eqb (dropped l count k (count - 2) flags) 0) (rounds_length f l count k (passed l count k (count - 2) flags))
  where
    go : (t : Bool) → length (rounds f l count k (passed l count k (count - 2) flags)) ≡ length (passed l count k (count - 2) flags)
        → length (cond t (passed l count k (count - 2) flags) (rounds f l count k (passed l count k (count - 2) flags))) ≡ length flags
    go true e = passed_length l count k (count - 2) flags
    go false e = e ∙ passed_length l count k (count - 2) flags
