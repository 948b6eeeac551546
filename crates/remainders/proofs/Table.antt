-- A table's rule, proved at all of its entries by one test that is computed, one entry after the other.
use mathlib.Core.Path.{◌≡◌, ◌∙◌, ap, subst, sym}
use mathlib.Core.Bool.{Bool, true, false}
use mathlib.Core.List.{List, [], ◌∷◌}
use Prim.Native.Nat.{ℕ, zero, suc, ◌+◌, ◌%◌, ◌<◌}
use native.Mathlib.Nat.{add-zero, zero-add, add-suc, suc-add, le_of_suc-le-suc, not-suc-le-zero}
use native.Mathlib.Omega.{arith}
use lib.Dec.{T, eqb, eqb→eq}
use lib.ListN.{length, get_or}

abbrev pub both : Bool → Bool → Bool
both true b = b
both false b = false

both_left : (a b : Bool) → T (both a b) → T a
both_left true b t = tt
both_left false b t = t

both_right : (a b : Bool) → T (both a b) → T b
both_right true b t = t
both_right false b t = absurd t

-- the test passes at each entry of the row and its place, counted from i
abbrev pub every : (ℕ → ℕ → Bool) → ℕ → List ℕ → Bool
every f i [] = true
every f i (x ∷ xs) = both (f i x) (every f (suc i) xs)

from : (f : ℕ → ℕ → Bool) (xs : List ℕ) (i : ℕ) → T (every f i xs) → (k : ℕ) → k < length xs → T (f (i + k) (get_or xs k 0))
from f [] i t k h = absurd (not-suc-le-zero h)
from f (x ∷ xs) i t zero h = subst (λ (m : ℕ). T (f m x)) (sym (add-zero i)) (both_left (f i x) (every f (suc i) xs) t)
from f (x ∷ xs) i t (suc k) h =
    subst (λ (m : ℕ). T (f m (get_or xs k 0))) (suc-add i k ∙ sym (add-suc i k))
    (from f xs (suc i) (both_right (f i x) (every f (suc i) xs) t) k (le_of_suc-le-suc h))

-- the rule of the row of n: the entry of each choice is its remainder
abbrev pub right : ℕ → ℕ → ℕ → Bool
right n k x = eqb x (k % n)

pub remainder_at : (n k : ℕ) (row : List ℕ) → T (every (right k) 0 row) → length row ≡ 256 → n ≡ k → (choice i : ℕ) → i ≡ choice → choice < 256 → get_or row i 0 ≡ choice % n
remainder_at n k row t l e choice i q h =
    ap (λ (j : ℕ). get_or row j 0) q ∙
    eqb→eq (get_or row choice 0) (choice % k) (subst (λ (m : ℕ). T (right k m (get_or row choice 0))) (zero-add choice) (from (right k) row 0 t choice (omega (arith, h, l)))) ∙
    ap (λ (m : ℕ). choice % m) (sym e)
