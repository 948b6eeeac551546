-- What the sum over the cells says of the places that hold a number.
use mathlib.Core.Path.{◌≡◌, refl, sym, ◌∙◌}
use mathlib.Core.Bool.{false}
use mathlib.Core.List.{List}
use Prim.Native.Nat.{ℕ, zero, suc, ◌+◌, ◌-◌, ◌*◌, ◌≤◌, ◌<◌}
use native.Mathlib.Omega.{arith}
use native.Mathlib.Decide.{ℕ_discrete}
use lib.Dec.{ltb}
use lib.ListN.{get_or, take, length}
use borrow.Author.Tests.{eq-eqb, ne_eqb, le-ltb, lt-ltb}
use Rattle.std.specs.Prelude.{Option, Some, None, MatchOption}
use Rattle.std.specs.Option.{is_some}
use Rattle.std.specs.List.{AllWithin, HoldsAt}
use Rattle.std.proofs.lemmas.List.{get_or-take, length-take-le}
use Rattle.operations.specs.Search.{weight_at, weighed, IsPlace}
use Rattle.operations.specs.{open_count, open_place}
use Rattle.operations.proofs.Laws.{count_most, place_first, place_none}

-- of the first n cells none holds the number
abbrev pub NoneHolds : List ℕ → ℕ → ℕ → Type 0
NoneHolds l o n = (k : ℕ) → k < n → get_or l k 0 ≡ o → ⊥

-- w is the sum over the first n cells, of which none holds the number, one does, or several do
pub data Weighs (l : List ℕ) (o n w : ℕ) : Type 0 where
  none : w ≡ 0 → NoneHolds l o n → Weighs l o n w
  one : (i : ℕ) → w ≡ 65536 + i → i < n → get_or l i 0 ≡ o → NoneHolds l o i → Weighs l o n w
  several : 131072 ≤ w → Weighs l o n w

-- one cell more does not hold it
none_more : (l : List ℕ) (o n : ℕ) → NoneHolds l o n → (get_or l n 0 ≡ o → ⊥) → NoneHolds l o (suc n)
none_more l o n h d k b e = elim (ℕ_discrete k n) [ yes q ↦ d (rw q at e) | no q ↦ h k (omega arith) e ]

-- one cell more
weighs_more : (l : List ℕ) (o n w : ℕ) → Dec (get_or l n 0 ≡ o) → Weighs l o n w → Weighs l o (suc n) (w + weight_at (get_or l n 0) o n)
weighs_more l o n w (yes e) (none q h) = one n (rw (eq-eqb _ _ e) (omega arith)) (omega arith) e h
weighs_more l o n w (no d) (none q h) = none (rw (ne_eqb _ _ d) (omega arith)) (none_more l o n h d)
weighs_more l o n w (yes e) (one i q b g h) = several (rw (eq-eqb _ _ e) (omega arith))
weighs_more l o n w (no d) (one i q b g h) = one i (rw (ne_eqb _ _ d) (omega arith)) (omega arith) g h
weighs_more l o n w d (several h) = several (omega arith)

pub weighs : (l : List ℕ) (o n : ℕ) → Weighs l o n (weighed l o n)
unfolding weighed
weighs l o zero = none (omega arith) (λ k b. absurd (omega arith))
weighs l o (suc n) = weighs_more l o n (weighed l o n) (ℕ_discrete (get_or l n 0) o) (weighs l o n)

-- the sum over 64 cells has 32 bits
pub weighed_most : (l : List ℕ) (o n : ℕ) → n ≤ 64 → weighed l o n ≤ n * 65600
unfolding weighed
weighed_most l o zero h = omega arith
weighed_most l o (suc n) h =
    elim (ℕ_discrete (get_or l n 0) o) [
      | yes e ↦ rw (eq-eqb _ _ e) (omega (arith, weighed_most l o n (omega arith)))
      | no d ↦ rw (ne_eqb _ _ d) (omega (arith, weighed_most l o n (omega arith)))
    ]

-- ---- the place that the sum tells

module _ (l : List ℕ) (o : ℕ) where
  -- 0 tells that the operation is not open
  pub place_unheld : weighed l o 64 ≡ 0 → open_place l o ≡ open_count l
  place_unheld e = go (weighs l o 64)
    where
      go : Weighs l o 64 (weighed l o 64) → open_place l o ≡ open_count l
      go (none q h) = place_none l o (λ k b. h k (omega (arith, count_most l)))
      go (one i q b g h) = absurd (omega arith)
      go (several h) = absurd (omega arith)

  -- one cell holds the number: if it is in use, that is the operation's place, and else the operation is not open
  module _ (some : weighed l o 64 ≡ 0 → ⊥) (few : weighed l o 64 < 131072) where
    pub weighed_least : 65536 ≤ weighed l o 64
    weighed_least = go (weighs l o 64)
      where
        go : Weighs l o 64 (weighed l o 64) → 65536 ≤ weighed l o 64
        go (none q h) = absurd (some q)
        go (one i q b g h) = omega arith
        go (several h) = absurd (omega arith)

    pub place_told : weighed l o 64 - 65536 < open_count l → open_place l o ≡ weighed l o 64 - 65536
    place_told b = go (weighs l o 64)
      where
        go : Weighs l o 64 (weighed l o 64) → open_place l o ≡ weighed l o 64 - 65536
        go (none q h) = absurd (some q)
        go (one i q a g h) = place_first l o i (omega arith) h g ∙ omega arith
        go (several h) = absurd (omega arith)

    pub place_unused : open_count l ≤ weighed l o 64 - 65536 → open_place l o ≡ open_count l
    place_unused b = go (weighs l o 64)
      where
        go : Weighs l o 64 (weighed l o 64) → open_place l o ≡ open_count l
        go (none q h) = absurd (some q)
        go (one i q a g h) = place_none l o (λ k c. h k (omega arith))
        go (several h) = absurd (omega arith)

-- ---- a place that was found, or none

pub found_open : (place count : ℕ) (r : Option ℕ) → IsPlace place count r → is_some r ≡ ltb place count
found_open place count (Some i) h = sym (lt-ltb place count (omega (arith, h.0, h.1)))
found_open place count None h = sym (le-ltb place count (omega (arith, h)))

pub none_found : (place count : ℕ) (r : Option ℕ) → IsPlace place count r → ((i : ℕ) → r ≡ Some i → ⊥) → ltb place count ≡ false
none_found place count (Some i) h n = absurd (n i refl)
none_found place count None h n = le-ltb place count (omega (arith, h))

-- the first cell in use that holds the number is the operation's place
abbrev pub NotIn : List ℕ → ℕ → ℕ → Type 0
NotIn used o n = AllWithin (λ x. x ≡ o → ⊥) used 0 n

pub scanned : (l : List ℕ) (o : ℕ) (r : Option ℕ) → open_count l ≤ length l →
    MatchOption r (NotIn (take (open_count l) l) o (length (take (open_count l) l)))
    (λ i. (i < length (take (open_count l) l)) × HoldsAt (λ x. x ≡ o) (take (open_count l) l) i × NotIn (take (open_count l) l) o i) →
    IsPlace (open_place l o) (open_count l) r
scanned l o (Some i) b h =
    let size : length (take (open_count l) l) ≡ open_count l = length-take-le (open_count l) l b in
    let below : i < open_count l = omega (arith, h.0, size) in (
      place_first l o i below (λ k q e. h.2 k 0 (omega arith) q (get_or-take (open_count l) l k 0 (omega arith) ∙ e)) (sym (get_or-take (open_count l) l i 0 below) ∙ h.1 0),
      below,
    )
scanned l o None b h =
    let size : length (take (open_count l) l) ≡ open_count l = length-take-le (open_count l) l b in
    place_none l o (λ k q e. h k 0 (omega arith) (omega (arith, size)) (get_or-take (open_count l) l k 0 q ∙ e))
