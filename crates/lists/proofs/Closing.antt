-- Closing a list up by one: what the moves of a loop leave is the list without one element.
use mathlib.Core.Path.{◌≡◌, refl, sym, ap, ◌∙◌}
use mathlib.Core.List.{List, [], ◌∷◌}
use Prim.Native.Nat.{ℕ, zero, suc, ◌+◌, ◌-◌, ◌≤◌, ◌<◌}
use native.Mathlib.Nat.{not-suc-le-zero, le_of_suc-le-suc, suc-add, zero-add, add-zero, sub_self}
use native.Mathlib.Omega.{arith}
use lib.ListN.{length, get_or, set, take, length-set, length-append, length-take, length-drop}
use Rattle.lists.specs.{moves, without}

module _ {A : Type 0} (d : A) where
  -- moving elements keeps the length
  pub length_moves : (l : List A) (i k : ℕ) → length (moves d l i k) ≡ length l
  unfolding moves
  length_moves l i zero = refl
  length_moves l i (suc k) = length_moves (set l i (get_or l (i + 1) d)) (i + 1) k ∙ length-set l i (get_or l (i + 1) d)

  -- no element moved, as a loop has it that counts up from place `at`
  pub moves_none : (l : List A) (at : ℕ) → moves d l at (at - at) ≡ l
  unfolding moves
  moves_none l at = rw (sub_self at)

  -- one more element moved, at the end of what was moved
  pub moves_more : (l : List A) (i k : ℕ) →
      moves d l i (suc k) ≡ set (moves d l i k) (i + k) (get_or (moves d l i k) (i + k + 1) d)
  unfolding moves
  moves_more l i zero = ap (λ (n : ℕ). set l n (get_or l (n + 1) d)) (sym (add-zero i))
  moves_more l i (suc k) =
      let m : List A = set l i (get_or l (i + 1) d) in
      moves_more m (i + 1) k ∙ ap (λ (n : ℕ). set (moves d m (i + 1) k) n (get_or (moves d m (i + 1) k) (n + 1) d)) (omega arith)

  -- the same, as a turn of that loop has it
  pub moves_turn : (l : List A) (at i : ℕ) → at ≤ i →
      set (moves d l at (i - at)) i (get_or (moves d l at (i - at)) (i + 1) d) ≡ moves d l at (i + 1 - at)
  moves_turn l at i h =
      ap (λ (n : ℕ). set (moves d l at (i - at)) n (get_or (moves d l at (i - at)) (n + 1) d)) (omega arith) ∙
      sym (moves_more l at (i - at)) ∙ ap (λ (k : ℕ). moves d l at k) (omega arith)

  -- the elements before the first that moves stay
  moves_cons : (x : A) (l : List A) (i k : ℕ) → moves d (x ∷ l) (suc i) k ≡ x ∷ moves d l i k
  unfolding moves
  moves_cons x l i zero = refl
  moves_cons x l i (suc k) = rw (suc-add i 1) (moves_cons x (set l i (get_or l (i + 1) d)) (i + 1) k)

  -- all elements but the first take the place before their own
  take_moves_first : (x : A) (l : List A) (k : ℕ) → k ≤ length l → take k (moves d (x ∷ l) 0 k) ≡ take k l
  unfolding moves
  take_moves_first x l zero h = refl
  take_moves_first x [] (suc k) h = absurd (not-suc-le-zero h)
  take_moves_first x (y ∷ l) (suc k) h =
      rw (moves_cons y (y ∷ l) 0 k) (ap (λ (r : List A). y ∷ r) (take_moves_first y l k (le_of_suc-le-suc h)))

  -- the law below, where the row's length is told by the place and the number of moves
  take_moves_add : (l : List A) (i k : ℕ) → i + k < length l →
      take (i + k) (moves d l i k) ≡ without (take (suc (i + k)) l) i
  unfolding without
  take_moves_add [] i k h = absurd (not-suc-le-zero h)
  take_moves_add (x ∷ l) zero k h = rw (zero-add k) (take_moves_first x l k (omega arith))
  take_moves_add (x ∷ l) (suc i) k h =
      rw (suc-add i k, moves_cons x l i k) (ap (λ (r : List A). x ∷ r) (take_moves_add l i k (omega arith)))

  -- closing up a row of n elements by one leaves the row without element i
  pub take_moves : (l : List A) (n i : ℕ) → i < n → n ≤ length l →
      take (n - 1) (moves d l i (n - 1 - i)) ≡ without (take n l) i
  take_moves l n i h k =
      let e : i + (n - 1 - i) ≡ n - 1 = omega arith in
      let s : suc (n - 1) ≡ n = omega arith in
      rw (e, s) at (take_moves_add l i (n - 1 - i) (omega arith))

-- one element fewer
pub length_without : {A : Type 0} (l : List A) (i : ℕ) → i < length l → length (without l i) ≡ length l - 1
unfolding without
length_without l i h = simp (length-append, length-take, length-drop) (omega arith)
