-- A plan followed is the edit done: the code's numbers and `edited` say the same, of every row and every count.
use mathlib.Core.Path.{◌≡◌, refl, sym, ap, ◌∙◌}
use mathlib.Core.Bool.{Bool, true, false, cond}
use mathlib.Core.List.{List, [], ◌∷◌}
use Prim.Native.Nat.{ℕ, zero, suc, ◌+◌, ◌-◌, ◌≤◌, ◌<◌, min}
use native.Mathlib.Nat.{not-suc-le-zero, le_of_suc-le-suc}
use native.Mathlib.Omega.{arith}
use lib.Dec.{leb, ltb}
use lib.ListN.{length, set, length-set}
use borrow.Author.Tests.{leb-true, leb-false, ltb-true, ltb-false, le-leb, lt-leb}
use Rattle.limits.specs as limits
use Rattle.lists.specs.{moves}
use Rattle.lists.proofs.Closing.{length_moves}
use Rattle.waiting.specs.declared.Packet.{Packet}
use Rattle.waiting.specs.declared.Edit.{Edit}
use Rattle.waiting.specs.Waiting.{waiting_list, blank, held_in, takes_out, left_by, fits, after_taking, adding, edited}
use Rattle.waiting.specs.Plans.{still, moving, planned, plan_of, carried}

-- past the end `set` changes nothing
pub set_past : (l : List Packet) (i : ℕ) (p : Packet) → length l ≤ i → l ≡ set l i p
set_past [] i p h = refl
set_past (x ∷ xs) zero p h = absurd (not-suc-le-zero h)
set_past (x ∷ xs) (suc i) p h = ap (λ (t : List Packet). x ∷ t) (set_past xs i p (le_of_suc-le-suc h))

-- how many are left where one goes out
pub left_taken : (count : ℕ) (e : Edit) → takes_out count e ≡ true → (left_by count e ≡ held_in count - 1) × (e.at < held_in count)
unfolding left_by takes_out
left_taken count e t = (rw t, at_held e.take t)
  where
    at_held : (b : Bool) → cond b (ltb e.at (held_in count)) false ≡ true → e.at < held_in count
    at_held true s = ltb-true e.at (held_in count) s
    at_held false s = absurd (let z : ◌≡◌ {A = ℕ} 0 1 = cc in omega arith)

-- the packets that a plan puts
plan_adds : (l : List Packet) (k m : ℕ) (e : Edit) → k ≡ length l → m + e.add ≤ k → adding l m e ≡
    set (set l (cond (leb 1 e.add) m k) e.first) (cond (leb 2 e.add) (m + 1) k) e.second
unfolding adding
plan_adds l k m e same h = go (leb 1 e.add) (leb 2 e.add) refl refl
  where
    past : (r : List Packet) (p : Packet) → length r ≡ length l → r ≡ set r k p
    past r p q = set_past r k p (omega (arith, q))

    go : (s t : Bool) → leb 1 e.add ≡ s → leb 2 e.add ≡ t →
        cond s (cond t (set (set l m e.first) (m + 1) e.second) (set l m e.first)) l ≡
        set (set l (cond s m k) e.first) (cond t (m + 1) k) e.second
    go true true a b = refl
    go true false a b = past (set l m e.first) e.second (length-set l m e.first)
    go false true a b = absurd (omega (arith, leb-false 1 e.add a, leb-true 2 e.add b))
    go false false a b = past l e.first refl ∙ past (set l k e.first) e.second (length-set l k e.first)

-- a plan that moves nothing
still_keeps : (l : List Packet) (n : ℕ) (e : Edit) → l ≡ carried l (still (length l) n) e
unfolding moves
still_keeps l n e =
    set_past l (length l) e.first (omega arith) ∙
    set_past (set l (length l) e.first) (length l) e.second (omega (arith, length-set l (length l) e.first))

-- an edit that fits leaves no more than 64 packets, and there are as many places
pub fits_places : (length left add : ℕ) → fits length left add ≡ true → (left + add ≤ limits.waiting) × (limits.waiting ≤ length)
unfolding fits
fits_places length left add = go (ltb length limits.waiting) refl
  where
    go : (t : Bool) → ltb length limits.waiting ≡ t → cond t false (leb (left + add) limits.waiting) ≡ true →
        (left + add ≤ limits.waiting) × (limits.waiting ≤ length)
    go true a e = absurd (let z : ◌≡◌ {A = ℕ} 0 1 = cc in omega arith)
    go false a e = (leb-true (left + add) limits.waiting e, ltb-false length limits.waiting a)

-- as the code tests it: a sum that goes no higher than the greatest number of 64 bits
pub fits_capped : (sum capped : ℕ) → capped ≡ min sum 18446744073709551615 → leb capped limits.waiting ≡ leb sum limits.waiting
fits_capped sum capped h = go (leb sum limits.waiting) refl
  where
    go : (t : Bool) → leb sum limits.waiting ≡ t → leb capped limits.waiting ≡ leb sum limits.waiting
    go true e = le-leb capped limits.waiting (omega (arith, leb-true sum limits.waiting e)) ∙ sym e
    go false e = lt-leb capped limits.waiting (omega (arith, leb-false sum limits.waiting e)) ∙ sym e

-- as the code chooses a place
pub chosen : (k n a b r : ℕ) → k ≤ n → r ≡ a → r ≡ cond (leb k n) a b
chosen k n a b r h e = rw (le-leb k n h) e

pub not_chosen : (k n a b r : ℕ) → n < k → r ≡ b → r ≡ cond (leb k n) a b
not_chosen k n a b r h e = rw (lt-leb k n h) e

-- what moves lies in the row
planned_within : (length count from last left add : ℕ) → from ≤ last → last ≤ limits.waiting - 1 →
    ((planned length count from last left add).from ≤ (planned length count from last left add).last) × ((planned length count from last left add).last ≤ length - 1)
unfolding planned
planned_within length count from last left add ordered most = go (fits length left add) refl
  where
    go : (f : Bool) → fits length left add ≡ f →
        ((cond f (moving length from last left add) (still length count)).from ≤ (cond f (moving length from last left add) (still length count)).last) ×
        ((cond f (moving length from last left add) (still length count)).last ≤ length - 1)
    go false f = (omega arith, omega arith)
    go true f = (ordered, omega (arith, (fits_places length left add f).1))

pub plan_within : (length count : ℕ) (e : Edit) → ((plan_of length count e).from ≤ (plan_of length count e).last) × ((plan_of length count e).last ≤ length - 1)
unfolding plan_of held_in
plan_within length count e = go (takes_out count e) refl
  where
    go : (t : Bool) → takes_out count e ≡ t →
        ((cond t (planned length count e.at (held_in count - 1) (held_in count - 1) e.add) (planned length count 0 0 count e.add)).from ≤
        (cond t (planned length count e.at (held_in count - 1) (held_in count - 1) e.add) (planned length count 0 0 count e.add)).last) ×
        ((cond t (planned length count e.at (held_in count - 1) (held_in count - 1) e.add) (planned length count 0 0 count e.add)).last ≤ length - 1)
    go true t = planned_within length count e.at (held_in count - 1) (held_in count - 1) e.add (omega (arith, (left_taken count e t).1)) (omega arith)
    go false t = planned_within length count 0 0 count e.add (omega arith) (omega arith)

-- a whole plan
planned_edits : (l : List Packet) (n from last left : ℕ) (e : Edit) →
    cond (fits (length l) left e.add) (waiting_list (adding (moves blank l from (last - from)) left e) (left + e.add)) (waiting_list l n) ≡
    waiting_list (carried l (planned (length l) n from last left e.add) e) (planned (length l) n from last left e.add).count
unfolding planned
planned_edits l n from last left e = go (fits (length l) left e.add) refl
  where
    go : (t : Bool) → fits (length l) left e.add ≡ t →
        cond t (waiting_list (adding (moves blank l from (last - from)) left e) (left + e.add)) (waiting_list l n) ≡
        waiting_list (carried l (cond t (moving (length l) from last left e.add) (still (length l) n)) e)
        (cond t (moving (length l) from last left e.add) (still (length l) n)).count
    go true f =
        ap (λ (r : List Packet). waiting_list r (left + e.add))
        (plan_adds (moves blank l from (last - from)) (length l) left e (sym (length_moves blank l from (last - from)))
        (omega (arith, fits_places (length l) left e.add f)))
    go false f = ap (λ (r : List Packet). waiting_list r n) (still_keeps l n e)

pub plan_edits : (l : List Packet) (n : ℕ) (e : Edit) →
    edited (waiting_list l n) e ≡ waiting_list (carried l (plan_of (length l) n e) e) (plan_of (length l) n e).count
unfolding edited plan_of left_by after_taking moves
plan_edits l n e = go (takes_out n e)
  where
    go : (t : Bool) →
        cond (fits (length l) (cond t (held_in n - 1) n) e.add)
        (waiting_list (adding (cond t (moves blank l e.at (held_in n - 1 - e.at)) l) (cond t (held_in n - 1) n) e) (cond t (held_in n - 1) n + e.add))
        (waiting_list l n) ≡
        waiting_list
        (carried l (cond t (planned (length l) n e.at (held_in n - 1) (held_in n - 1) e.add) (planned (length l) n 0 0 n e.add)) e)
        (cond t (planned (length l) n e.at (held_in n - 1) (held_in n - 1) e.add) (planned (length l) n 0 0 n e.add)).count
    go true = planned_edits l n e.at (held_in n - 1) (held_in n - 1) e
    go false = planned_edits l n 0 0 n e
