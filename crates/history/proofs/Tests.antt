-- The test whether two lists are equal. The laws of `eqb` are the kit's.
use mathlib.Core.Path.{◌≡◌, refl, ap₂}
use mathlib.Core.Bool.{Bool, true, false, cond}
use mathlib.Core.List.{List, [], ◌∷◌}
use Prim.Native.Nat.{ℕ}
use lib.Dec.{eqb}
pub use borrow.Author.Tests.{eqb-true, eqb-false, eq-eqb, ne_eqb}
use Rattle.lists.proofs.Tests.{by_test}

-- whether two lists are equal
abbrev pub equal : List ℕ → List ℕ → Bool
equal [] [] = true
equal [] (y ∷ ys) = false
equal (x ∷ xs) [] = false
equal (x ∷ xs) (y ∷ ys) = cond (eqb x y) (equal xs ys) false

-- the test and the fact
pub equal_true : (xs ys : List ℕ) → equal xs ys ≡ true → xs ≡ ys
equal_true [] [] e = refl
equal_true [] (y ∷ ys) e = cc
equal_true (x ∷ xs) [] e = cc
equal_true (x ∷ xs) (y ∷ ys) e =
    by_test (λ (b : Bool). b ≡ true → x ∷ xs ≡ y ∷ ys) (eqb x y)
    (λ q r. ap₂ (λ (z : ℕ) (l : List ℕ). z ∷ l) (eqb-true x y q) (equal_true xs ys r))
    (λ q r. cc)
    e

pub equal_self : (xs : List ℕ) → equal xs xs ≡ true
equal_self [] = refl
equal_self (x ∷ xs) = rw (eq-eqb x x refl, equal_self xs)
