-- Searches through a list: what a loop that stops at the first hit finds, and membership.
use mathlib.Core.Path.{◌≡◌, refl, sym, ap, ◌∙◌}
use mathlib.Core.List.Memᴰ
use mathlib.Core.List.{List, [], ◌∷◌, Memᴰ}
use mathlib.Core.Logic.{⊎_elim}
use Prim.Native.Nat.{ℕ, zero, suc, ◌<◌, suc-le-suc, zero-le}
use native.Mathlib.Nat.{not-suc-le-zero, le_of_suc-le-suc}
use native.Mathlib.Decide.{ℕ_discrete}
use lib.ListN.{length, get_or}
use borrow.Author.Tests.{eq-eqb, ne_eqb}
use Rattle.lists.specs.{index_of}

index_head : (q : ℕ) (l : List ℕ) (r : ℕ) → q ≡ r → index_of (q ∷ l) r ≡ 0
unfolding index_of
index_head q l r e = rw (eq-eqb q r e)

index_tail : (q : ℕ) (l : List ℕ) (r : ℕ) → (q ≡ r → ⊥) → index_of (q ∷ l) r ≡ suc (index_of l r)
unfolding index_of
index_tail q l r n = rw (ne_eqb q r n)

-- the first place that holds the number is its place
pub index_first : (l : List ℕ) (i r : ℕ) → i < length l → ((k : ℕ) → k < i → get_or l k 0 ≡ r → ⊥) → get_or l i 0 ≡ r → index_of l r ≡ i
index_first [] i r h before e = absurd (not-suc-le-zero h)
index_first (q ∷ l) zero r h before e = index_head q l r e
index_first (q ∷ l) (suc i) r h before e =
    index_tail q l r (before zero (suc-le-suc zero-le)) ∙
    ap suc (index_first l i r (le_of_suc-le-suc h) (λ k b. before (suc k) (suc-le-suc b)) e)

-- where no place holds it, its place is the list's end
pub index_none : (l : List ℕ) (r : ℕ) → ((k : ℕ) → k < length l → get_or l k 0 ≡ r → ⊥) → index_of l r ≡ length l
unfolding index_of
index_none [] r never = refl
index_none (q ∷ l) r never =
    index_tail q l r (never zero (suc-le-suc zero-le)) ∙ ap suc (index_none l r (λ k b. never (suc k) (suc-le-suc b)))

-- what stands at its place
pub index_at : (l : List ℕ) (r : ℕ) → index_of l r < length l → get_or l (index_of l r) 0 ≡ r
index_at [] r h = absurd (not-suc-le-zero h)
index_at (q ∷ l) r h =
    elim (ℕ_discrete q r) [
      | yes e ↦ rw (index_head q l r e) e
      | no n ↦ rw (index_tail q l r n) (index_at l r (le_of_suc-le-suc (rw (index_tail q l r n) at h)))
    ]

-- a member's place is in the list
pub in_index : (l : List ℕ) (r : ℕ) → Memᴰ r l → index_of l r < length l
in_index [] r m = absurd (Memᴰ.not-nil m)
in_index (q ∷ l) r m =
    elim (ℕ_discrete q r) [
      | yes e ↦ rw (index_head q l r e) (suc-le-suc zero-le)
      | no n ↦ rw (index_tail q l r n) (suc-le-suc (⊎_elim (λ e. absurd (n (sym e))) (λ t. in_index l r t) (Memᴰ.cases_cons m)))
    ]

-- what stands at a place is a member
pub at_in : {A : Type 0} (l : List A) (p : ℕ) (d : A) → p < length l → Memᴰ (get_or l p d) l
at_in [] p d h = absurd (not-suc-le-zero h)
at_in (q ∷ l) zero d h = Memᴰ.head refl
at_in (q ∷ l) (suc p) d h = Memᴰ.tail (at_in l p d (le_of_suc-le-suc h))
