-- Whether a number is in a list, as a test.
use mathlib.Core.Path.{◌≡◌}
use mathlib.Core.Logic.{inl, inr}
use mathlib.Core.Bool.{Bool, true, false, cond}
use mathlib.Core.List.{List, [], ◌∷◌}
use Prim.Native.Nat.{ℕ}
use native.Mathlib.Omega.{arith}
use lib.Dec.{eqb}
use Rattle.lists.proofs.Tests.{by_test}
use Rattle.history.specs.History.{◌∈◌}
use Rattle.history.proofs.Lists.{here, there, no_member, cases_cons, ◌∉◌}
use Rattle.history.proofs.Tests.{eqb-true, eqb-false}

-- whether o is in the list
unfoldable pub has : ℕ → List ℕ → Bool
has o [] = false
has o (p ∷ l) = cond (eqb o p) true (has o l)

-- if the test gives true, o is in the list
pub has_true : (o : ℕ) (l : List ℕ) → has o l ≡ true → o ∈ l
unfolding has
has_true o [] e = absurd (let z : ◌≡◌ {A = ℕ} 0 1 = cc in omega arith)
has_true o (p ∷ l) e = by_test (λ (b : Bool). b ≡ true → o ∈ p ∷ l) (eqb o p) (λ q z. here (eqb-true o p q)) (λ q z. there (has_true o l z)) e

-- if it gives false, o is not
pub has_false : (o : ℕ) (l : List ℕ) → has o l ≡ false → o ∉ l
unfolding has
has_false o [] e m = no_member m
has_false o (p ∷ l) e m = by_test (λ (b : Bool). b ≡ false → ⊥) (eqb o p)
    (λ q z. let n : ◌≡◌ {A = ℕ} 0 1 = cc in omega arith)
    (λ q z. elim (cases_cons m) [ inl s ↦ eqb-false o p q s | inr t ↦ has_false o l z t ])
    e
