-- A list by its places, and what stands at each place of a list that was closed up.
use mathlib.Core.Path.{◌≡◌, refl, sym, ap, ◌∙◌}
use mathlib.Core.List.{List, ◌∷◌}
use Prim.Native.Nat.{ℕ, zero, suc, ◌+◌, ◌-◌, ◌≤◌, ◌<◌, suc-le-suc, zero-le}
use native.Mathlib.Nat.{not-suc-le-zero, le_of_suc-le-suc}
use native.Mathlib.Decide.{ℕ_discrete}
use native.Mathlib.Omega.{arith}
use lib.ListN.{length, get_or, set, length-set}
use lib.Seq.{get_or-set_same, get_or-set_other, set-get_or}
use Rattle.lists.specs.{moves, list_of}
use Rattle.lists.proofs.Closing.{moves_turn}

pub length_list_of : (f : ℕ → ℕ) (n : ℕ) → length (list_of f n) ≡ n
unfolding list_of
length_list_of f zero = refl
length_list_of f (suc n) = ap suc (length_list_of (λ i. f (suc i)) n)

pub get_d_list_of : (f : ℕ → ℕ) (n i : ℕ) → i < n → get_or (list_of f n) i 0 ≡ f i
unfolding list_of
get_d_list_of f zero i h = absurd (not-suc-le-zero h)
get_d_list_of f (suc n) zero h = refl
get_d_list_of f (suc n) (suc i) h = get_d_list_of (λ j. f (suc j)) n i (le_of_suc-le-suc h)

pub list_of_same : (f g : ℕ → ℕ) (n : ℕ) → ((i : ℕ) → i < n → f i ≡ g i) → list_of f n ≡ list_of g n
unfolding list_of
list_of_same f g zero e = refl
list_of_same f g (suc n) e =
    λ j. e 0 (suc-le-suc zero-le) j ∷ list_of_same (λ i. f (suc i)) (λ i. g (suc i)) n (λ i h. e (suc i) (suc-le-suc h)) j

module _ {A : Type 0} (d : A) where
  -- a place that nothing moved to
  pub get_d_moves_other : (l : List A) (i k j : ℕ) → ((i ≤ j) × (j < i + k) → ⊥) → get_or (moves d l i k) j d ≡ get_or l j d
  unfolding moves
  get_d_moves_other l i zero j n = refl
  get_d_moves_other l i (suc k) j n =
      get_d_moves_other (set l i (get_or l (i + 1) d)) (i + 1) k j (λ h. n (omega (arith, h), omega (arith, h))) ∙
      get_or-set_other l i j (get_or l (i + 1) d) d (λ e. n (omega (arith, e), omega (arith, e)))

  -- a place that took the element of the place after it
  pub get_d_moves : (l : List A) (i k j : ℕ) → i ≤ j → j < i + k → j < length l → get_or (moves d l i k) j d ≡ get_or l (j + 1) d
  unfolding moves
  get_d_moves l i zero j a b h = absurd (omega arith)
  get_d_moves l i (suc k) j a b h =
      elim (ℕ_discrete j i) [
        | yes e ↦ rw e
            (get_d_moves_other (set l i (get_or l (i + 1) d)) (i + 1) k i (λ p. omega (arith, p)) ∙
            get_or-set_same l i (get_or l (i + 1) d) d (omega (arith, e)))
        | no n ↦
            get_d_moves (set l i (get_or l (i + 1) d)) (i + 1) k j (omega arith) (omega arith) (rw length-set h) ∙
            get_or-set_other l i (j + 1) (get_or l (i + 1) d) d (λ e. omega arith)
      ]

  -- the element of place e is moved down once more: all are then moved up to there, whether it was moved before or not
  pub moves_last : (l : List A) (p i e : ℕ) → p < e → p ≤ i → i ≤ e → e ≤ i + 1 → e < length l →
      set (moves d l p (i - p)) (e - 1) (get_or (moves d l p (i - p)) e d) ≡ moves d l p (e - p)
  moves_last l p i e b h k m fits =
      elim (ℕ_discrete i e) [
        | yes q ↦
            let row : List A = moves d l p (e - p) in
            let same : get_or row e d ≡ get_or row (e - 1) d =
            get_d_moves_other l p (e - p) e (λ a. omega (arith, a)) ∙
            sym (get_d_moves l p (e - p) (e - 1) (omega arith) (omega arith) (omega arith) ∙ ap (λ (n : ℕ). get_or l n d) (omega arith)) in
            rw q (ap (set row (e - 1)) same ∙ set-get_or row (e - 1) d)
        | no q ↦
            let next : e ≡ i + 1 = omega arith in
            let before : e - 1 ≡ i = omega arith in
            rw (before, next) (moves_turn d l p i h)
      ]
