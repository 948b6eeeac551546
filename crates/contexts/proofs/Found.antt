-- What the search for a free row tells, found or not.
use mathlib.Core.Path.{◌≡◌, refl}
use mathlib.Core.Bool.{Bool, true, false}
use mathlib.Core.Logic.{◌⊎◌, inl, inr}
use mathlib.Core.List.{List}
use Prim.Native.Nat.{ℕ, ◌≤◌, ◌<◌}
use native.Mathlib.Omega.{arith}
use borrow.Author.Tests.{le-ltb, lt-ltb}
use lib.Dec.{ltb}
use Rattle.std.specs.Prelude.{Option, Some, None, cond, MatchOption}
use Rattle.contexts.specs.{size_at, free_row, found_row}
use Rattle.contexts.proofs.Rows.{free_first, free_none}

-- the first row with no numbers is the row found, and where every row has some none is found
pub row_is : (l : List ℕ) (o : Option ℕ)
    → MatchOption o ((k : ℕ) → 0 ≤ k → k < 64 → size_at l k ≡ 0 → ⊥) (λ r. (0 ≤ r) × (r < 64) × (size_at l r ≡ 0) × ((k : ℕ) → 0 ≤ k → k < r → size_at l k ≡ 0 → ⊥))
    → o ≡ found_row l
unfolding found_row
row_is l None never =
    let past = free_none l (λ k b. never k (omega arith) b) in
    simp (le-ltb (free_row l) 64 (omega (arith, past))) refl
row_is l (Some r) h =
    let at = free_first l r h.1 (λ k b. h.3 k (omega arith) b) h.2 in
    simp (at, lt-ltb r 64 h.1) refl

-- the two cases of the search. The first part is trivially true: it gives `grind` the term to match
pub row_cases : (l : List ℕ) → (found_row l ≡ found_row l) × (((ltb (free_row l) 64 ≡ true) × (found_row l ≡ Some (free_row l))) ⊎ ((ltb (free_row l) 64 ≡ false) × (found_row l ≡ None)))
unfolding found_row
row_cases l = (refl, go (ltb (free_row l) 64) refl)
  where
    go : (b : Bool) → ltb (free_row l) 64 ≡ b → ((ltb (free_row l) 64 ≡ true) × (cond (ltb (free_row l) 64) (Some (free_row l)) None ≡ Some (free_row l))) ⊎ ((ltb (free_row l) 64 ≡ false) × (cond (ltb (free_row l) 64) (Some (free_row l)) None ≡ None))
    go true e = inl (e, simp e refl)
    go false e = inr (e, simp e refl)

pub ruleset found = (row_cases)
