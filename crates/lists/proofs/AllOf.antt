-- A test of every element of a list: what a loop that stops at the first failure finds.
use mathlib.Core.Path.{◌≡◌, refl, ap, ◌∙◌}
use mathlib.Core.Bool.{Bool, true, false, cond}
use mathlib.Core.List.Memᴰ
use mathlib.Core.List.{List, [], ◌∷◌, Memᴰ}
use mathlib.Core.Logic.{⊎_elim}
use Prim.Native.Nat.{ℕ, zero, suc, ◌<◌, suc-le-suc, zero-le}
use native.Mathlib.Nat.{not-suc-le-zero, le_of_suc-le-suc}
use lib.ListN.{length, get_or}
use Rattle.lists.specs.{all_of}
use Rattle.lists.proofs.Tests.{untrue}

all_head : (t : ℕ → Bool) (q : ℕ) (l : List ℕ) → t q ≡ true → all_of t (q ∷ l) ≡ all_of t l
unfolding all_of
all_head t q l e = rw e

-- every one passes
pub all_pass : (t : ℕ → Bool) (l : List ℕ) → ((k : ℕ) → k < length l → t (get_or l k 0) ≡ true) → all_of t l ≡ true
unfolding all_of
all_pass t [] h = refl
all_pass t (q ∷ l) h =
    all_head t q l (h zero (suc-le-suc zero-le)) ∙ all_pass t l (λ k b. h (suc k) (suc-le-suc b))

-- one does not
pub all_fail : (t : ℕ → Bool) (l : List ℕ) (k : ℕ) → k < length l → t (get_or l k 0) ≡ false → all_of t l ≡ false
unfolding all_of
all_fail t [] k h e = absurd (not-suc-le-zero h)
all_fail t (q ∷ l) zero h e = rw e
all_fail t (q ∷ l) (suc k) h e = go (t q) (all_fail t l k (le_of_suc-le-suc h) e)
  where
    go : (b : Bool) → all_of t l ≡ false → cond b (all_of t l) false ≡ false
    go true f = f
    go false f = refl

-- where every one passes, each member does
pub all_member : (t : ℕ → Bool) (l : List ℕ) (r : ℕ) → all_of t l ≡ true → Memᴰ r l → t r ≡ true
unfolding all_of
all_member t [] r a m = absurd (Memᴰ.not-nil m)
all_member t (q ∷ l) r a m = go (t q) refl (λ rest tail. all_member t l r rest tail)
  where
    go : (b : Bool) → t q ≡ b → (all_of t l ≡ true → Memᴰ r l → t r ≡ true) → t r ≡ true
    go true e rest = ⊎_elim (λ s. ap t s ∙ e) (λ tail. rest (rw e at a) tail) (Memᴰ.cases_cons m)
    go false e rest = untrue (rw e at a)

-- of one element
pub all_one : (t : ℕ → Bool) (x : ℕ) → all_of t (x ∷ []) ≡ t x
unfolding all_of
all_one t x = go (t x)
  where
    go : (b : Bool) → cond b true false ≡ b
    go true = refl
    go false = refl
