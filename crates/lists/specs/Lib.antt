-- Lists: closing one up by one element, the place of a number, a list by its places, and a test of every number.
use Rattle.std.specs.Prelude.{Bool, true, false, cond, List, [], ◌∷◌, ◌++◌, ℕ, zero, suc, ◌+◌, eqb, get_or, set, take, drop}

-- k elements, from place i up, each take the value of the place after it
unfoldable pub moves : {A : Type 0} → A → List A → ℕ → ℕ → List A
moves d l i zero = l
moves d l i (suc k) = moves d (set l i (get_or l (i + 1) d)) (i + 1) k

-- l without the element at place i
unfoldable pub without : {A : Type 0} → List A → ℕ → List A
without l i = take i l ++ drop (suc i) l

-- the first place at which a number stands, and the list's length where it stands at none
unfoldable pub index_of : List ℕ → ℕ → ℕ
index_of [] r = 0
index_of (q ∷ l) r = cond (eqb q r) 0 (suc (index_of l r))

-- the numbers f 0, f 1, .. of n places
unfoldable pub list_of : (ℕ → ℕ) → ℕ → List ℕ
list_of f zero = []
list_of f (suc n) = f 0 ∷ list_of (λ i. f (suc i)) n

-- every number passes a test
unfoldable pub all_of : (ℕ → Bool) → List ℕ → Bool
all_of test [] = true
all_of test (q ∷ l) = cond (test q) (all_of test l) false
