-- The numbers of a context by their places, and what the loops over them find.
use mathlib.Core.Path.{◌≡◌, refl, sym, ap, ◌∙◌}
use mathlib.Core.Bool.{Bool, true, false, not, cond}
use mathlib.Core.List.{List, ◌∷◌, map, Memᴰ}
use Prim.Native.Nat.{ℕ, zero, suc, ◌≤◌, ◌<◌}
use native.Mathlib.Omega.{arith}
use lib.Dec.{leb, eqb}
use lib.ListN.{get_or}
use borrow.Author.Tests.{eq-eqb, ne_eqb, eqb-true, eqb-false, lt-ltb, ltb-true, leb-true}
use Rattle.lists.specs.{index_of, list_of, all_of}
use Rattle.lists.proofs.AllOf.{all_pass, all_member}
use Rattle.lists.proofs.Index.{at_in}
use Rattle.lists.proofs.Tests.{two_pass}
use Rattle.lists.proofs.Places.{get_d_list_of, list_of_same}
use Rattle.contexts.specs.declared.Context.{Context}
use Rattle.contexts.specs.declared.Objects.{Objects}
use Rattle.contexts.specs.{place_of, size_of, numbers_of, kept_at, mapped, is_object, are_objects, stands_first, is_count, is_context, empty_at, is_naming}

pub size_most : (v : Context) → size_of v ≤ 8
unfolding size_of
size_most v = omega arith

pub size_within : (v : Context) → size_of v ≤ v.count
unfolding size_of
size_within v = omega arith

-- ---- the first place of a number

eqb_suc : (a b : ℕ) → eqb a b ≡ eqb (suc a) (suc b)
eqb_suc a b = go (eqb a b) refl
  where
    go : (t : Bool) → eqb a b ≡ t → t ≡ eqb (suc a) (suc b)
    go true e = sym (eq-eqb (suc a) (suc b) (ap suc (eqb-true a b e)))
    go false e = sym (ne_eqb (suc a) (suc b) (λ d. eqb-false a b e (omega (arith, d))))

-- a number is the first of its kind where none before it is the same
first_by_all : (f : ℕ → ℕ) (n i x : ℕ) → i < n → f i ≡ x → all_of (λ q. not (eqb q x)) (list_of f i) ≡ eqb (index_of (list_of f n) x) i
unfolding all_of list_of index_of
first_by_all f zero i x h e = absurd (omega (arith, h))
first_by_all f (suc n) zero x h e = rw (eq-eqb (f 0) x e) refl
first_by_all f (suc n) (suc i) x h e = go (eqb (f 0) x) (first_by_all (λ k. f (suc k)) n i x (omega (arith, h)) e)
  where
    go : (b : Bool) → all_of (λ q. not (eqb q x)) (list_of (λ k. f (suc k)) i) ≡ eqb (index_of (list_of (λ k. f (suc k)) n) x) i
        → cond (not b) (all_of (λ q. not (eqb q x)) (list_of (λ k. f (suc k)) i)) false ≡ eqb (cond b 0 (suc (index_of (list_of (λ k. f (suc k)) n) x))) (suc i)
    go true p = sym (ne_eqb 0 (suc i) (λ d. omega (arith, d)))
    go false p = p ∙ eqb_suc _ i

pub stands_first_lem : (v : Context) (i : ℕ) → i < size_of v → all_of (λ q. not (eqb q (place_of v i))) (list_of (place_of v) i) ≡ stands_first (numbers_of v) i
unfolding stands_first numbers_of
stands_first_lem v i h = first_by_all (place_of v) (size_of v) i (place_of v i) h refl ∙ ap (λ (x : ℕ). eqb (index_of (list_of (place_of v) (size_of v)) x) i) (sym (get_d_list_of (place_of v) (size_of v) i h))

-- ---- a function of every number

map_list_of : (f g : ℕ → ℕ) (n : ℕ) → map f (list_of g n) ≡ list_of (λ i. f (g i)) n
unfolding list_of
map_list_of f g zero = refl
map_list_of f g (suc n) = ap (λ (l : List ℕ). f (g 0) ∷ l) (map_list_of f (λ i. g (suc i)) n)

place_mapped : (f : ℕ → ℕ) (v : Context) (i : ℕ) → i < 8 → place_of (mapped f v) i ≡ kept_at v.count i (f (place_of v i))
unfolding place_of mapped
place_mapped f v zero h = refl
place_mapped f v (suc zero) h = refl
place_mapped f v (suc (suc zero)) h = refl
place_mapped f v (suc (suc (suc zero))) h = refl
place_mapped f v (suc (suc (suc (suc zero)))) h = refl
place_mapped f v (suc (suc (suc (suc (suc zero))))) h = refl
place_mapped f v (suc (suc (suc (suc (suc (suc zero)))))) h = refl
place_mapped f v (suc (suc (suc (suc (suc (suc (suc zero))))))) h = refl
place_mapped f v (suc (suc (suc (suc (suc (suc (suc (suc i)))))))) h = absurd (omega arith)

kept_inside : (n i x : ℕ) → i < n → kept_at n i x ≡ x
unfolding kept_at
kept_inside n i x h = rw (lt-ltb i n h)

pub numbers_mapped : (f : ℕ → ℕ) (v : Context) → numbers_of (mapped f v) ≡ map f (numbers_of v)
unfolding numbers_of size_of mapped
numbers_mapped f v =
    list_of_same (place_of (mapped f v)) (λ i. f (place_of v i)) (size_of v) (λ i h.
    place_mapped f v i (omega (arith, h, size_most v)) ∙ kept_inside v.count i (f (place_of v i)) (omega (arith, h, size_within v))) ∙
    sym (map_list_of f (place_of v) (size_of v))

-- ---- the objects of a step

pub count_some : (n : ℕ) → is_count n ≡ true → 2 ≤ n
unfolding is_count
count_some n e = leb-true 2 n (two_pass (leb 2 n) (leb n 8) e).0

-- the last place decides where the others are as they should be
pub naming_last : (x : Objects) → is_count x.count ≡ true → empty_at x.count 2 x.third ≡ true → empty_at x.count 3 x.fourth ≡ true
    → empty_at x.count 4 x.fifth ≡ true → empty_at x.count 5 x.sixth ≡ true → empty_at x.count 6 x.seventh ≡ true
    → is_naming x ≡ empty_at x.count 7 x.eighth
unfolding is_naming
naming_last x n a b c d e = rw (n, a, b, c, d, e)

-- there are 2 to 8 objects
pub naming_count : (x : Objects) → is_naming x ≡ true → is_count x.count ≡ true
unfolding is_naming
naming_count x e = (two_pass (is_count x.count) _ e).0

-- each object is one that there is
pub objects_small : (v : Context) → are_objects v ≡ true → (x : ℕ) → Memᴰ x (numbers_of v) → x < 1024
unfolding are_objects is_object
objects_small v e x i = ltb-true x 1024 (all_member is_object (numbers_of v) x e i)

-- so 2 to 8 objects that there are make a context
pub context_known : (v : Context) → is_count v.count ≡ true → ((x : ℕ) → Memᴰ x (numbers_of v) → x < 1024) → is_context v ≡ true
unfolding is_context are_objects is_object
context_known v c f = rw c (all_pass is_object (numbers_of v) (λ k h. lt-ltb (get_or (numbers_of v) k 0) 1024 (f (get_or (numbers_of v) k 0) (at_in (numbers_of v) k 0 h))))
