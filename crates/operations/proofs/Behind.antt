-- Cells of which the first 66 or the others stay: what crates/contexts needs of the open operations, and they of it.
use mathlib.Core.Path.{◌≡◌, refl, sym, ap, ◌∙◌}
use mathlib.Core.Bool.{Bool, true, false, cond}
use mathlib.Core.List.{List}
use Prim.Native.Nat.{ℕ, ◌+◌, ◌-◌, ◌≤◌, ◌<◌, min}
use native.Mathlib.Omega.{arith}
use lib.Dec.{ltb}
use lib.ListN.{get_or, set}
use lib.Seq.{get_or-set_other}
use Rattle.limits.specs as limits
use Rattle.lists.proofs.Places.{list_of_same}
use Rattle.operations.specs.{open_count, open_numbers, last_given, open_place, is_open, room_to_open, opening, closing}
use Rattle.operations.proofs.Laws.{count_most, open_place_lem, OpenOnce}

-- ---- the open operations are the same

pub record SameOpens (l l' : List ℕ) : Type 0 where
  pub cells : (j : ℕ) → j < 66 → get_or l' j 0 ≡ get_or l j 0

pub same_self : {l : List ℕ} → SameOpens l l
same_self = record { cells = λ j h. refl }

module _ {l l' : List ℕ} (s : SameOpens l l') where
  pub same_count : open_count l' ≡ open_count l
  unfolding open_count
  same_count = ap (min limits.open_operations) (s.cells 64 (omega arith))

  pub same_last : last_given l' ≡ last_given l
  unfolding last_given
  same_last = s.cells 65 (omega arith)

  same_numbers : open_numbers l' ≡ open_numbers l
  unfolding open_numbers
  same_numbers =
      rw same_count (list_of_same (λ i. get_or l' i 0) (λ i. get_or l i 0) (open_count l) (λ i h. s.cells i (omega (arith, h, count_most l))))

  pub same_open : (o : ℕ) → is_open l' o ≡ is_open l o
  unfolding is_open open_place
  same_open o = rw (same_count, same_numbers)

  pub same_room : room_to_open l' ≡ room_to_open l
  unfolding room_to_open
  same_room = ap (λ (n : ℕ). ltb n limits.open_operations) same_count

  pub same_once : OpenOnce l → OpenOnce l'
  same_once u = record {
    once = λ i j a b e.
        let h : i < open_count l = omega (arith, a, same_count) in
        let k : j < open_count l = omega (arith, b, same_count) in
        u.once i j h k (sym (s.cells i (omega (arith, h, count_most l))) ∙ e ∙ s.cells j (omega (arith, k, count_most l)));
  }

-- ---- the cells behind them are

pub opening_behind : (l : List ℕ) (o j : ℕ) → 66 ≤ j → get_or (opening l o) j 0 ≡ get_or l j 0
unfolding opening
opening_behind l o j h = go (room_to_open l)
  where
    go : (b : Bool) → get_or (cond b (set (set (set l (open_count l) o) 64 (open_count l + 1)) 65 o) l) j 0 ≡ get_or l j 0
    go true =
        get_or-set_other (set (set l (open_count l) o) 64 (open_count l + 1)) 65 j o 0 (λ e. omega (arith, e, h)) ∙
        get_or-set_other (set l (open_count l) o) 64 j (open_count l + 1) 0 (λ e. omega (arith, e, h)) ∙
        get_or-set_other l (open_count l) j o 0 (λ e. omega (arith, e, h, count_most l))
    go false = refl

pub closing_behind : (l : List ℕ) (o j : ℕ) → 66 ≤ j → get_or (closing l o) j 0 ≡ get_or l j 0
unfolding closing
closing_behind l o j h = go (is_open l o) refl
  where
    go : (b : Bool) → is_open l o ≡ b → get_or (cond b (set (set (set l (open_place l o) (get_or l (open_count l - 1) 0)) (open_count l - 1) 0) 64 (open_count l - 1)) l) j 0 ≡ get_or l j 0
    go true e =
        get_or-set_other (set (set l (open_place l o) (get_or l (open_count l - 1) 0)) (open_count l - 1) 0) 64 j (open_count l - 1) 0 (λ q. omega (arith, q, h)) ∙
        get_or-set_other (set l (open_place l o) (get_or l (open_count l - 1) 0)) (open_count l - 1) j 0 0 (λ q. omega (arith, q, h, count_most l)) ∙
        get_or-set_other l (open_place l o) j (get_or l (open_count l - 1) 0) 0 (λ q. omega (arith, q, h, count_most l, (open_place_lem l o e).0))
    go false e = refl
