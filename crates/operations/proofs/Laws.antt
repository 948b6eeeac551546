-- The laws of the open operations: which are open after one more opens, and after one closes.
use mathlib.Core.Path.{◌≡◌, refl, sym, ap, ◌∙◌}
use mathlib.Core.Bool.{Bool, true, false, cond}
use mathlib.Core.List.{List}
use mathlib.Core.Logic.{◌⊎◌, inl, inr}
use Prim.Native.Nat.{ℕ, zero, suc, ◌+◌, ◌-◌, ◌≤◌, ◌<◌}
use native.Mathlib.Omega.{arith}
use native.Mathlib.Decide.{ℕ_discrete}
use lib.ListN.{length, get_or, set, replicate, length-set, length-replicate}
use lib.Seq.{get_or-set_same, get_or-set_other}
use borrow.Author.Tests.{ltb-true, ltb-false, lt-ltb}
use Rattle.limits.specs as limits
use Rattle.lists.proofs.Index.{index_first, index_none, index_at, in_index, at_in}
use Rattle.lists.proofs.Places.{length_list_of, get_d_list_of}
use Rattle.operations.specs.{open_cells, open_count, open_numbers, last_given, none_open, open_place, is_open, room_to_open, opening, closing}

-- ---- the open numbers by their places

pub count_most : (l : List ℕ) → open_count l ≤ limits.open_operations
unfolding open_count
count_most l = omega arith

length_numbers : (l : List ℕ) → length (open_numbers l) ≡ open_count l
unfolding open_numbers
length_numbers l = length_list_of (λ i. get_or l i 0) (open_count l)

number_at_lem : (l : List ℕ) (i : ℕ) → i < open_count l → get_or (open_numbers l) i 0 ≡ get_or l i 0
unfolding open_numbers
number_at_lem l i h = get_d_list_of (λ j. get_or l j 0) (open_count l) i h

-- the first place that holds the number is its place; none does
pub place_first : (l : List ℕ) (o i : ℕ) → i < open_count l → ((k : ℕ) → k < i → get_or l k 0 ≡ o → ⊥) → get_or l i 0 ≡ o → open_place l o ≡ i
unfolding open_place
place_first l o i h before e =
    index_first (open_numbers l) i o (omega (arith, length_numbers l))
    (λ k b q. before k b (sym (number_at_lem l k (omega arith)) ∙ q)) (number_at_lem l i h ∙ e)

pub place_none : (l : List ℕ) (o : ℕ) → ((k : ℕ) → k < open_count l → get_or l k 0 ≡ o → ⊥) → open_place l o ≡ open_count l
unfolding open_place
place_none l o never =
    index_none (open_numbers l) o (λ k b q. never k (omega (arith, length_numbers l)) (sym (number_at_lem l k (omega (arith, length_numbers l))) ∙ q)) ∙
    length_numbers l

-- operation o is open, at place i
abbrev pub OpenAt : List ℕ → ℕ → ℕ → Type 0
OpenAt l o i = (i < open_count l) × (get_or l i 0 ≡ o)

pub open_place_lem : (l : List ℕ) (o : ℕ) → is_open l o ≡ true → OpenAt l o (open_place l o)
unfolding is_open open_place
open_place_lem l o e =
    let b = ltb-true (open_place l o) (open_count l) e in
    (b, sym (number_at_lem l (open_place l o) b) ∙ index_at (open_numbers l) o (omega (arith, length_numbers l)))

pub open_at : (l : List ℕ) (o i : ℕ) → OpenAt l o i → is_open l o ≡ true
unfolding is_open open_place
open_at l o i h =
    let m = in_index (open_numbers l) o (rw (number_at_lem l i h.0 ∙ h.1) at (at_in (open_numbers l) i 0 (omega (arith, h.0, length_numbers l)))) in
    lt-ltb (open_place l o) (open_count l) (omega (arith, length_numbers l))

pub closed_place : (l : List ℕ) (o : ℕ) → is_open l o ≡ false → open_count l ≤ open_place l o
unfolding is_open
closed_place l o e = ltb-false (open_place l o) (open_count l) e

-- ---- as many cells as the code's type gives

abbrev pub SizedOpens : List ℕ → Type 0
SizedOpens l = length l ≡ open_cells

pub sized_none : SizedOpens none_open
unfolding none_open
sized_none = length-replicate {A = ℕ} open_cells 0

pub sized_opening : (l : List ℕ) (o : ℕ) → SizedOpens l → SizedOpens (opening l o)
unfolding opening
sized_opening l o h = go (room_to_open l)
  where
    go : (b : Bool) → SizedOpens (cond b (set (set (set l (open_count l) o) 64 (open_count l + 1)) 65 o) l)
    go true = simp length-set h
    go false = h

pub sized_closing : (l : List ℕ) (o : ℕ) → SizedOpens l → SizedOpens (closing l o)
unfolding closing
sized_closing l o h = go (is_open l o)
  where
    go : (b : Bool) → SizedOpens (cond b (set (set (set l (open_place l o) (get_or l (open_count l - 1) 0)) (open_count l - 1) 0) 64 (open_count l - 1)) l)
    go true = simp length-set h
    go false = h

-- ---- none is open at the start

pub zeros : (n j : ℕ) → ◌≡◌ {A = ℕ} (get_or (replicate n 0) j 0) 0
zeros zero j = refl
zeros (suc n) zero = refl
zeros (suc n) (suc j) = zeros n j

pub count_none : open_count none_open ≡ 0
unfolding open_count none_open
count_none = omega (arith, zeros open_cells 64)

pub last_none : last_given none_open ≡ 0
unfolding last_given none_open
last_none = zeros open_cells 65

pub none_open_lem : (o : ℕ) → is_open none_open o ≡ true → ⊥
none_open_lem o e = omega (arith, (open_place_lem none_open o e).0, count_none)

-- ---- one more opens

module _ (l : List ℕ) (o : ℕ) (z : SizedOpens l) (room : room_to_open l ≡ true) where
  below : open_count l < 64
  unfolding room_to_open
  below = ltb-true (open_count l) 64 room

  opening_is : opening l o ≡ set (set (set l (open_count l) o) 64 (open_count l + 1)) 65 o
  unfolding opening
  opening_is = rw room

  pub count_opening : open_count (opening l o) ≡ open_count l + 1
  unfolding open_count
  count_opening =
      let cell : get_or (opening l o) 64 0 ≡ open_count l + 1 =
      ap (λ (k : List ℕ). get_or k 64 0) opening_is ∙
      get_or-set_other (set (set l (open_count l) o) 64 (open_count l + 1)) 65 64 o 0 (λ e. omega arith) ∙
      get_or-set_same (set l (open_count l) o) 64 (open_count l + 1) 0 (simp length-set (omega arith)) in
      omega (arith, cell, below)

  pub last_opening : last_given (opening l o) ≡ o
  unfolding last_given
  last_opening =
      ap (λ (k : List ℕ). get_or k 65 0) opening_is ∙
      get_or-set_same (set (set l (open_count l) o) 64 (open_count l + 1)) 65 o 0 (simp length-set (omega arith))

  -- the new number stands behind the others, which stay
  opened_last : get_or (opening l o) (open_count l) 0 ≡ o
  opened_last =
      ap (λ (k : List ℕ). get_or k (open_count l) 0) opening_is ∙
      get_or-set_other (set (set l (open_count l) o) 64 (open_count l + 1)) 65 (open_count l) o 0 (λ e. omega (arith, below)) ∙
      get_or-set_other (set l (open_count l) o) 64 (open_count l) (open_count l + 1) 0 (λ e. omega (arith, below)) ∙
      get_or-set_same l (open_count l) o 0 (omega (arith, below))

  opened_other : (i : ℕ) → i < open_count l → get_or (opening l o) i 0 ≡ get_or l i 0
  opened_other i h =
      ap (λ (k : List ℕ). get_or k i 0) opening_is ∙
      get_or-set_other (set (set l (open_count l) o) 64 (open_count l + 1)) 65 i o 0 (λ e. omega (arith, below)) ∙
      get_or-set_other (set l (open_count l) o) 64 i (open_count l + 1) 0 (λ e. omega (arith, below)) ∙
      get_or-set_other l (open_count l) i o 0 (λ e. omega arith)

  pub opened_now : is_open (opening l o) o ≡ true
  opened_now = open_at (opening l o) o (open_count l) (omega (arith, count_opening), opened_last)

  pub still_open : (p : ℕ) → is_open l p ≡ true → is_open (opening l o) p ≡ true
  still_open p e =
      let at = open_place_lem l p e in
      open_at (opening l o) p (open_place l p) (omega (arith, count_opening, at.0), opened_other (open_place l p) at.0 ∙ at.1)

  pub open_before : (p : ℕ) → is_open (opening l o) p ≡ true → (p ≡ o) ⊎ (is_open l p ≡ true)
  open_before p e = go (open_place_lem (opening l o) p e) (ℕ_discrete (open_place (opening l o) p) (open_count l))
    where
      go : OpenAt (opening l o) p (open_place (opening l o) p) → Dec (open_place (opening l o) p ≡ open_count l) → (p ≡ o) ⊎ (is_open l p ≡ true)
      go at (yes q) = inl (sym at.1 ∙ ap (λ (i : ℕ). get_or (opening l o) i 0) q ∙ opened_last)
      go at (no q) =
          let b : open_place (opening l o) p < open_count l = omega (arith, at.0, count_opening, q) in
          inr (open_at l p (open_place (opening l o) p) (b, sym (opened_other (open_place (opening l o) p) b) ∙ at.1))

-- without room nothing changes
pub opening_full : (l : List ℕ) (o : ℕ) → room_to_open l ≡ false → opening l o ≡ l
unfolding opening
opening_full l o e = rw e

pub room_below : (l : List ℕ) → room_to_open l ≡ true → open_count l < limits.open_operations
unfolding room_to_open
room_below l e = ltb-true (open_count l) limits.open_operations e

pub full_count : (l : List ℕ) → room_to_open l ≡ false → open_count l ≡ limits.open_operations
unfolding room_to_open
full_count l e = omega (arith, ltb-false (open_count l) limits.open_operations e, count_most l)

-- ---- one closes. No number is open twice in a run: so it is open no more

pub record OpenOnce (l : List ℕ) : Type 0 where
  pub once : (i j : ℕ) → i < open_count l → j < open_count l → get_or l i 0 ≡ get_or l j 0 → i ≡ j

pub once_none : OpenOnce none_open
once_none = record { once = λ i j a b e. absurd (omega (arith, a, count_none)) }

pub closing_shut : (l : List ℕ) (o : ℕ) → is_open l o ≡ false → closing l o ≡ l
unfolding closing
closing_shut l o e = rw e

module _ (l : List ℕ) (o : ℕ) (z : SizedOpens l) (was : is_open l o ≡ true) where
  here : OpenAt l o (open_place l o)
  here = open_place_lem l o was

  -- the cells with the last number in the closed one's place, and then without it in its own
  moved : List ℕ
  moved = set l (open_place l o) (get_or l (open_count l - 1) 0)

  emptied : List ℕ
  emptied = set moved (open_count l - 1) 0

  closing_is : closing l o ≡ set emptied 64 (open_count l - 1)
  unfolding closing emptied moved
  closing_is = rw was

  length_emptied : length emptied ≡ length l
  unfolding emptied moved
  length_emptied = simp length-set

  pub count_closing : open_count (closing l o) ≡ open_count l - 1
  unfolding open_count
  count_closing =
      let cell : get_or (closing l o) 64 0 ≡ open_count l - 1 =
      ap (λ (k : List ℕ). get_or k 64 0) closing_is ∙ get_or-set_same emptied 64 (open_count l - 1) 0 (omega (arith, length_emptied)) in
      omega (arith, cell)

  -- any other place than the two
  closed_at : (i : ℕ) → (i ≡ 64 → ⊥) → (i ≡ open_count l - 1 → ⊥) → get_or (closing l o) i 0 ≡ get_or moved i 0
  unfolding emptied
  closed_at i a b =
      ap (λ (k : List ℕ). get_or k i 0) closing_is ∙ get_or-set_other emptied 64 i (open_count l - 1) 0 a ∙ get_or-set_other moved (open_count l - 1) i 0 0 b

  pub last_closing : last_given (closing l o) ≡ last_given l
  unfolding last_given moved
  last_closing =
      closed_at 65 (λ e. omega arith) (λ e. omega (arith, count_most l)) ∙
      get_or-set_other l (open_place l o) 65 (get_or l (open_count l - 1) 0) 0 (λ e. omega (arith, here.0, count_most l))

  -- the last number stands in the closed one's place, and the others stay
  closed_here : open_place l o < open_count l - 1 → get_or (closing l o) (open_place l o) 0 ≡ get_or l (open_count l - 1) 0
  unfolding moved
  closed_here b =
      closed_at (open_place l o) (λ e. omega (arith, count_most l)) (λ e. omega arith) ∙
      get_or-set_same l (open_place l o) (get_or l (open_count l - 1) 0) 0 (omega (arith, here.0, count_most l))

  closed_other : (i : ℕ) → i < open_count l - 1 → (i ≡ open_place l o → ⊥) → get_or (closing l o) i 0 ≡ get_or l i 0
  unfolding moved
  closed_other i b n =
      closed_at i (λ e. omega (arith, count_most l)) (λ e. omega arith) ∙ get_or-set_other l (open_place l o) i (get_or l (open_count l - 1) 0) 0 n

  -- the place that a number stood in before
  abbrev Stood : ℕ → ℕ → Type 0
  Stood i k = ((i ≡ open_place l o) × (k ≡ open_count l - 1)) ⊎ ((i ≡ open_place l o → ⊥) × (k ≡ i))

  stood : (i : ℕ) → i < open_count (closing l o) → (k : ℕ) × (k < open_count l) × (k ≡ open_place l o → ⊥) × (get_or (closing l o) i 0 ≡ get_or l k 0) × Stood i k
  stood i h =
      elim (ℕ_discrete i (open_place l o)) [
        | yes e ↦ (
          open_count l - 1,
          omega (arith, h, count_closing),
          λ q. omega (arith, h, count_closing, e),
          ap (λ (j : ℕ). get_or (closing l o) j 0) e ∙ closed_here (omega (arith, h, count_closing, e)),
          inl (e, refl),
        )
        | no n ↦ (i, omega (arith, h, count_closing), n, closed_other i (omega (arith, h, count_closing)) n, inr (n, refl))
      ]

  pub others_stay_open : (p : ℕ) → (p ≡ o → ⊥) → is_open l p ≡ true → is_open (closing l o) p ≡ true
  others_stay_open p d e = go (open_place_lem l p e) (ℕ_discrete (open_place l p) (open_count l - 1))
    where
      apart : OpenAt l p (open_place l p) → open_place l p ≡ open_place l o → ⊥
      apart at q = d (sym at.1 ∙ ap (λ (i : ℕ). get_or l i 0) q ∙ here.1)

      go : OpenAt l p (open_place l p) → Dec (open_place l p ≡ open_count l - 1) → is_open (closing l o) p ≡ true
      go at (yes q) =
          open_at (closing l o) p (open_place l o) (
            omega (arith, count_closing, here.0, apart at, q),
            closed_here (omega (arith, here.0, apart at, q)) ∙ ap (λ (i : ℕ). get_or l i 0) (sym q) ∙ at.1,
          )
      go at (no q) =
          open_at (closing l o) p (open_place l p) (omega (arith, count_closing, at.0, q), closed_other (open_place l p) (omega (arith, at.0, q)) (apart at) ∙ at.1)

  module _ (u : OpenOnce l) where
    pub open_after_closing : (p : ℕ) → is_open (closing l o) p ≡ true → (is_open l p ≡ true) × (p ≡ o → ⊥)
    open_after_closing p e =
        let at = open_place_lem (closing l o) p e in
        let s = stood (open_place (closing l o) p) at.0 in (
          open_at l p s.0 (s.1, sym s.3 ∙ at.1),
          λ q. s.2 (u.once s.0 (open_place l o) s.1 here.0 (sym s.3 ∙ at.1 ∙ q ∙ sym here.1)),
        )

    pub once_closing : OpenOnce (closing l o)
    once_closing = record {
      once = λ i j a b e.
          let s = stood i a in
          let t = stood j b in
          same i j s.0 t.0 s.4 t.4 (u.once s.0 t.0 s.1 t.1 (sym s.3 ∙ e ∙ t.3)) (omega (arith, a, count_closing)) (omega (arith, b, count_closing));
    }
      where
        same : (i j k m : ℕ) → Stood i k → Stood j m → k ≡ m → i < open_count l - 1 → j < open_count l - 1 → i ≡ j
        same i j k m (inl a) (inl b) e c d = a.0 ∙ sym b.0
        same i j k m (inl a) (inr b) e c d = absurd (omega (arith, a.1, b.1))
        same i j k m (inr a) (inl b) e c d = absurd (omega (arith, a.1, b.1))
        same i j k m (inr a) (inr b) e c d = omega (arith, a.1, b.1)

-- a number that is not open yet can open
pub once_opening : (l : List ℕ) (o : ℕ) → SizedOpens l → room_to_open l ≡ true → is_open l o ≡ false → OpenOnce l → OpenOnce (opening l o)
once_opening l o z room shut u = record {
  once = λ i j a b e. go i j a b e (ℕ_discrete i (open_count l)) (ℕ_discrete j (open_count l));
}
  where
    fresh : (i : ℕ) → i < open_count l → get_or l i 0 ≡ o → ⊥
    fresh i h e = let q : true ≡ false = sym (open_at l o i (h, e)) ∙ shut in let x : ◌≡◌ {A = ℕ} 0 1 = cc in omega arith

    go : (i j : ℕ) → i < open_count (opening l o) → j < open_count (opening l o) → get_or (opening l o) i 0 ≡ get_or (opening l o) j 0 → Dec (i ≡ open_count l) → Dec (j ≡ open_count l) → i ≡ j
    go i j a b e (yes p) (yes q) = p ∙ sym q
    go i j a b e (yes p) (no q) =
        let h : j < open_count l = omega (arith, b, count_opening l o z room, q) in
        absurd (fresh j h (sym (opened_other l o z room j h) ∙ sym e ∙ ap (λ (k : ℕ). get_or (opening l o) k 0) p ∙ opened_last l o z room))
    go i j a b e (no p) (yes q) =
        let h : i < open_count l = omega (arith, a, count_opening l o z room, p) in
        absurd (fresh i h (sym (opened_other l o z room i h) ∙ e ∙ ap (λ (k : ℕ). get_or (opening l o) k 0) q ∙ opened_last l o z room))
    go i j a b e (no p) (no q) =
        let h : i < open_count l = omega (arith, a, count_opening l o z room, p) in
        let k : j < open_count l = omega (arith, b, count_opening l o z room, q) in
        u.once i j h k (sym (opened_other l o z room i h) ∙ e ∙ opened_other l o z room j k)
