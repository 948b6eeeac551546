-- The laws of the waiting list for the crates above: each operation in terms of `waits`, the packets that wait.
use mathlib.Core.Path.{◌≡◌, refl, sym, ap, ◌∙◌}
use mathlib.Core.Bool.{Bool, true, false, cond}
use mathlib.Core.List.{List, [], ◌∷◌, ◌++◌, append_assoc, append-nil}
use Prim.Native.Nat.{ℕ, ◌+◌, ◌-◌, ◌≤◌, ◌<◌}
use native.Mathlib.Numerals.{add-one}
use native.Mathlib.Omega.{arith}
use lib.Dec.{leb, ltb}
use lib.ListN.{length, get_or, set, take, length-take, length-set}
use lib.Seq.{get_or-take, take-suc-set}
use borrow.Author.Tests.{lt-leb, leb-true, leb-false, lt-ltb, le-ltb, le-leb}
use Rattle.limits.specs as limits
use Rattle.lists.specs.{moves, without}
use Rattle.lists.proofs.Closing.{length_moves, take_moves}
use Rattle.waiting.specs.declared.Packet.{Packet}
use Rattle.waiting.specs.declared.Edit.{Edit}
use Rattle.waiting.specs.Waiting.{WaitingList, waiting_list, blank, held_in, held, waits, none_wait, look_at, takes_out, left_by, fits, after_taking, adding, edited, added}

-- as many lent places as the list may use
abbrev pub Roomy : WaitingList → Type 0
Roomy w = limits.waiting ≤ length w.packets

-- the count is how many wait
abbrev pub Exact : WaitingList → Type 0
Exact w = w.count ≤ limits.waiting

pub held_most : (w : WaitingList) → held w ≤ limits.waiting
unfolding held_in
held_most w = omega arith

pub held_is : (count : ℕ) → count ≤ limits.waiting → held_in count ≡ count
unfolding held_in
held_is count h = omega arith

pub exact_held : (w : WaitingList) → Exact w → w.count ≡ held w
exact_held w x = sym (held_is w.count x)

pub length_waits : (w : WaitingList) → Roomy w → length (waits w) ≡ held w
unfolding waits
length_waits w h = length-take (held w) w.packets ∙ omega (arith, held_most w)

-- the packet at a place where one waits
pub look_is : (w : WaitingList) (i : ℕ) → i < held w → look_at w.packets i ≡ get_or (waits w) i blank
unfolding look_at waits
look_is w i h = sym (get_or-take (held w) w.packets i blank h)

-- ---- none waits

pub held_none : (row : List Packet) → held (none_wait row) ≡ 0
unfolding none_wait held_in
held_none row = omega arith

pub waits_none : (row : List Packet) → waits (none_wait row) ≡ []
unfolding waits none_wait
waits_none row = ap (λ (k : ℕ). take k row) (held_none row)

pub exact_none : (row : List Packet) → Exact (none_wait row)
unfolding none_wait
exact_none row = omega arith

-- ---- an edit

-- an edit that does not fit changes nothing
edited_not : (w : WaitingList) (e : Edit) → fits (length w.packets) (left_by w.count e) e.add ≡ false → edited w e ≡ w
unfolding edited
edited_not w e f = rw f

edited_fits : (w : WaitingList) (e : Edit) → fits (length w.packets) (left_by w.count e) e.add ≡ true →
    edited w e ≡ waiting_list (adding (after_taking w e) (left_by w.count e) e) (left_by w.count e + e.add)
unfolding edited
edited_fits w e f = rw f

-- with fewer than 64 places none fits
short_fits : (length left add : ℕ) → length < limits.waiting → fits length left add ≡ false
unfolding fits
short_fits length left add h = rw (lt-ltb length limits.waiting h)

roomy_fits : (length left add : ℕ) → limits.waiting ≤ length → left + add ≤ limits.waiting → fits length left add ≡ true
unfolding fits
roomy_fits length left add h k = rw (le-ltb length limits.waiting h, le-leb (left + add) limits.waiting k)

fits_within : (length left add : ℕ) → fits length left add ≡ true → left + add ≤ limits.waiting
unfolding fits
fits_within length left add = go (ltb length limits.waiting)
  where
    go : (t : Bool) → cond t false (leb (left + add) limits.waiting) ≡ true → left + add ≤ limits.waiting
    go true e = absurd (let z : ◌≡◌ {A = ℕ} 0 1 = cc in omega arith)
    go false e = leb-true (left + add) limits.waiting e

pub edited_short : (w : WaitingList) (e : Edit) → length w.packets < limits.waiting → edited w e ≡ w
edited_short w e h = edited_not w e (short_fits (length w.packets) (left_by w.count e) e.add h)

-- what goes out, or that none does
takes_not : (count : ℕ) (e : Edit) → e.take ≡ false → takes_out count e ≡ false
unfolding takes_out
takes_not count e t = rw t

takes_one : (count : ℕ) (e : Edit) → e.take ≡ true → e.at < held_in count → takes_out count e ≡ true
unfolding takes_out
takes_one count e t h = rw (t, lt-ltb e.at (held_in count) h)

left_all : (count : ℕ) (e : Edit) → e.take ≡ false → left_by count e ≡ count
unfolding left_by
left_all count e t = rw (takes_not count e t)

left_one : (count : ℕ) (e : Edit) → e.take ≡ true → e.at < held_in count → left_by count e ≡ held_in count - 1
unfolding left_by
left_one count e t h = rw (takes_one count e t h)

after_all : (w : WaitingList) (e : Edit) → e.take ≡ false → after_taking w e ≡ w.packets
unfolding after_taking
after_all w e t = rw (takes_not w.count e t)

after_one : (w : WaitingList) (e : Edit) → e.take ≡ true → e.at < held w → after_taking w e ≡ moves blank w.packets e.at (held w - 1 - e.at)
unfolding after_taking
after_one w e t h = rw (takes_one w.count e t h)

adds_none : (l : List Packet) (k : ℕ) (e : Edit) → e.add ≡ 0 → adding l k e ≡ l
unfolding adding
adds_none l k e n = rw n

-- an edit after which more than 64 packets would wait changes nothing
fits_over : (length left add : ℕ) → limits.waiting < left + add → fits length left add ≡ false
unfolding fits
fits_over length left add h = go (ltb length limits.waiting)
  where
    go : (b : Bool) → cond b false (leb (left + add) limits.waiting) ≡ false
    go true = refl
    go false = lt-leb (left + add) limits.waiting h

pub edited_over : (w : WaitingList) (e : Edit) → Exact w → e.take ≡ false → limits.waiting < held w + e.add → edited w e ≡ w
edited_over w e x t h =
    edited_not w e (fits_over (length w.packets) (left_by w.count e) e.add (omega (arith, h, left_all w.count e t, exact_held w x)))

pub edited_over_taking : (w : WaitingList) (e : Edit) → e.take ≡ true → e.at < held w → limits.waiting < held w - 1 + e.add → edited w e ≡ w
edited_over_taking w e t k h =
    edited_not w e (fits_over (length w.packets) (left_by w.count e) e.add (omega (arith, h, left_one w.count e t k)))

-- an edit as it would be without a look at the limit: the same where it fits
abbrev pub edited_whole : WaitingList → Edit → WaitingList
edited_whole w e = waiting_list (adding (after_taking w e) (left_by w.count e) e) (left_by w.count e + e.add)

pub whole_adding : (w : WaitingList) (e : Edit) → limits.waiting ≤ length w.packets → e.take ≡ false → 0 < e.add → held w + e.add ≤ limits.waiting → edited w e ≡ edited_whole w e
unfolding held_in
whole_adding w e wide t some h =
    edited_fits w e (roomy_fits (length w.packets) (left_by w.count e) e.add wide (omega (arith, left_all w.count e t, some, h)))

pub whole_taking : (w : WaitingList) (e : Edit) → limits.waiting ≤ length w.packets → e.take ≡ true → e.at < held w → held w - 1 + e.add ≤ limits.waiting → edited w e ≡ edited_whole w e
whole_taking w e wide t k h =
    edited_fits w e (roomy_fits (length w.packets) (left_by w.count e) e.add wide (omega (arith, left_one w.count e t k, h)))

pub whole_none : (w : WaitingList) (e : Edit) → e.take ≡ false → e.add ≡ 0 → edited_whole w e ≡ w
whole_none w e t n = λ j. waiting_list ((adds_none (after_taking w e) (left_by w.count e) e n ∙ after_all w e t) j) (count j)
  where
    count : left_by w.count e + e.add ≡ w.count
    count = omega (arith, left_all w.count e t, n)

-- an edit that takes no packet out and adds none changes nothing
pub edited_none : (w : WaitingList) (e : Edit) → e.take ≡ false → e.add ≡ 0 → edited w e ≡ w
edited_none w e t n = go (fits (length w.packets) (left_by w.count e) e.add) refl
  where
    row : adding (after_taking w e) (left_by w.count e) e ≡ w.packets
    row = adds_none (after_taking w e) (left_by w.count e) e n ∙ after_all w e t

    count : left_by w.count e + e.add ≡ w.count
    count = omega (arith, left_all w.count e t, n)

    go : (b : Bool) → fits (length w.packets) (left_by w.count e) e.add ≡ b → edited w e ≡ w
    go true f = edited_fits w e f ∙ λ j. waiting_list (row j) (count j)
    go false f = edited_not w e f

-- ---- the row keeps its length

length_adding : (l : List Packet) (n : ℕ) (e : Edit) → length (adding l n e) ≡ length l
unfolding adding
length_adding l n e = go (leb 1 e.add) (leb 2 e.add)
  where
    go : (s t : Bool) → length (cond s (cond t (set (set l n e.first) (n + 1) e.second) (set l n e.first)) l) ≡ length l
    go false t = refl
    go true false = length-set l n e.first
    go true true = length-set (set l n e.first) (n + 1) e.second ∙ length-set l n e.first

length_after : (w : WaitingList) (e : Edit) → length (after_taking w e) ≡ length w.packets
unfolding after_taking
length_after w e = go (takes_out w.count e)
  where
    go : (t : Bool) → length (cond t (moves blank w.packets e.at (held w - 1 - e.at)) w.packets) ≡ length w.packets
    go true = length_moves blank w.packets e.at (held w - 1 - e.at)
    go false = refl

pub length_edited : (w : WaitingList) (e : Edit) → length (edited w e).packets ≡ length w.packets
length_edited w e = go (fits (length w.packets) (left_by w.count e) e.add) refl
  where
    go : (b : Bool) → fits (length w.packets) (left_by w.count e) e.add ≡ b → length (edited w e).packets ≡ length w.packets
    go true f = rw (edited_fits w e f) (length_adding (after_taking w e) (left_by w.count e) e ∙ length_after w e)
    go false f = ap (λ (v : WaitingList). length v.packets) (edited_not w e f)

pub exact_edited : (w : WaitingList) (e : Edit) → Exact w → Exact (edited w e)
exact_edited w e x = go (fits (length w.packets) (left_by w.count e) e.add) refl
  where
    go : (b : Bool) → fits (length w.packets) (left_by w.count e) e.add ≡ b → Exact (edited w e)
    go true f = rw (edited_fits w e f) (fits_within (length w.packets) (left_by w.count e) e.add f)
    go false f = rw (edited_not w e f) x

-- ---- what waits afterwards

-- one packet put behind the first n, which then has n + 1
take_put : (l : List Packet) (n : ℕ) (p : Packet) → n < length l → take (n + 1) (set l n p) ≡ take n l ++ p ∷ []
take_put l n p h = rw add-one (take-suc-set l n p h)

-- the packets that an edit adds come to the end, in their order
take_adding : (l : List Packet) (n : ℕ) (e : Edit) → e.add ≤ 2 → n + e.add ≤ length l → take (n + e.add) (adding l n e) ≡ take n l ++ added e
unfolding adding added
take_adding l n e most h = go (leb 1 e.add) (leb 2 e.add) refl refl
  where
    go : (s t : Bool) → leb 1 e.add ≡ s → leb 2 e.add ≡ t →
        take (n + e.add) (cond s (cond t (set (set l n e.first) (n + 1) e.second) (set l n e.first)) l) ≡
        take n l ++ cond s (e.first ∷ cond t (e.second ∷ []) []) []
    go false t a b =
        let none : n + e.add ≡ n = omega (arith, leb-false 1 e.add a) in
        ap (λ (k : ℕ). take k l) none ∙ sym (append-nil (take n l))
    go true false a b =
        let one : n + e.add ≡ n + 1 = omega (arith, leb-true 1 e.add a, leb-false 2 e.add b) in
        ap (λ (k : ℕ). take k (set l n e.first)) one ∙ take_put l n e.first (omega arith)
    go true true a b =
        let two : n + e.add ≡ n + 1 + 1 = omega (arith, leb-true 2 e.add b) in
        ap (λ (k : ℕ). take k (set (set l n e.first) (n + 1) e.second)) two ∙
        take_put (set l n e.first) (n + 1) e.second (rw (length-set l n e.first) (omega arith)) ∙
        ap (λ (k : List Packet). k ++ e.second ∷ []) (take_put l n e.first (omega arith)) ∙
        append_assoc (take n l) (e.first ∷ []) (e.second ∷ [])

-- what waits after an edit that fits
waits_edited : (w : WaitingList) (e : Edit) → Roomy w → e.add ≤ 2 → left_by w.count e + e.add ≤ limits.waiting →
    waits (edited w e) ≡ take (left_by w.count e) (after_taking w e) ++ added e
unfolding waits
waits_edited w e r most h =
    ap waits (edited_fits w e (roomy_fits (length w.packets) (left_by w.count e) e.add r h)) ∙
    ap (λ (k : ℕ). take k (adding (after_taking w e) (left_by w.count e) e)) (held_is (left_by w.count e + e.add) h) ∙
    take_adding (after_taking w e) (left_by w.count e) e most (omega (arith, length_after w e))

-- an edit that takes no packet out
pub waits_edited_keeping : (w : WaitingList) (e : Edit) → Roomy w → Exact w → e.take ≡ false → e.add ≤ 2 → held w + e.add ≤ limits.waiting →
    waits (edited w e) ≡ waits w ++ added e
unfolding waits
waits_edited_keeping w e r x t most h =
    let all : left_by w.count e ≡ held w = left_all w.count e t ∙ exact_held w x in
    waits_edited w e r most (omega (arith, all)) ∙ rw (all, after_all w e t)

-- an edit that takes one out
pub waits_edited_taking : (w : WaitingList) (e : Edit) → Roomy w → e.take ≡ true → e.at < held w → e.add ≤ 2 → held w - 1 + e.add ≤ limits.waiting →
    waits (edited w e) ≡ without (waits w) e.at ++ added e
unfolding waits
waits_edited_taking w e r t k most h =
    let one : left_by w.count e ≡ held w - 1 = left_one w.count e t k in
    waits_edited w e r most (omega (arith, one)) ∙
    rw (one, after_one w e t k)
    (ap (λ (l : List Packet). l ++ added e) (take_moves blank w.packets (held w) e.at k (omega (arith, held_most w))))

-- how many wait afterwards
pub held_edited_keeping : (w : WaitingList) (e : Edit) → Roomy w → Exact w → e.take ≡ false → held w + e.add ≤ limits.waiting →
    held (edited w e) ≡ held w + e.add
held_edited_keeping w e r x t h =
    let all : left_by w.count e ≡ held w = left_all w.count e t ∙ exact_held w x in
    ap held (edited_fits w e (roomy_fits (length w.packets) (left_by w.count e) e.add r (omega (arith, all)))) ∙
    held_is (left_by w.count e + e.add) (omega (arith, all)) ∙ omega (arith, all)

pub held_edited_taking : (w : WaitingList) (e : Edit) → Roomy w → e.take ≡ true → e.at < held w → held w - 1 + e.add ≤ limits.waiting →
    held (edited w e) ≡ held w - 1 + e.add
held_edited_taking w e r t k h =
    let one : left_by w.count e ≡ held w - 1 = left_one w.count e t k in
    ap held (edited_fits w e (roomy_fits (length w.packets) (left_by w.count e) e.add r (omega (arith, one)))) ∙
    held_is (left_by w.count e + e.add) (omega (arith, one)) ∙ omega (arith, one)
