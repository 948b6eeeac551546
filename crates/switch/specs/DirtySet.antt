-- The switch of document 01: 'The marks (dirty set)', and what a completion and a replacement do to it. w is the list of the switch's numbers.
-- A mark is the field's dirty-set entry: an object with a write on its way, and the stamp of that write.
use Rattle.std.specs.Prelude.{Bool, false, cond, List, ℕ, zero, suc, ◌+◌, ◌-◌, set, replicate, eqb, ltb}
use Rattle.limits.specs as limits
use Rattle.slots.specs.{first_slot, second_slot, third_slot, holds_object, counts_above, is_free, holds_above, is_completed}
use Rattle.stamp.specs.Stamps.{stamp_of, number_of, larger_of, set_stamp}
use Rattle.switch.specs.Numbers.{number_cell, counter_cell, committed_cell, direct_cell, slots, object_cell, slot_stamp_cell, marks_cell, switch_cells}
use Rattle.switch.specs.Numbers.{number_in, counter_in, committed_in, slot_object, slot_stamp, marks_in}

abbrev pub holds_at : List ℕ → ℕ → ℕ → Bool
holds_at w o i = holds_object (slot_object w i) (slot_stamp w i) o

-- what is found at the first of the object's three slots that passes the test, and `none` where no slot passes
abbrev pub first_of : {A : Type 0} → ℕ → (ℕ → Bool) → (ℕ → A) → A → A
first_of o test found none =
    cond (test (first_slot o)) (found (first_slot o))
    (cond (test (second_slot o)) (found (second_slot o)) (cond (test (third_slot o)) (found (third_slot o)) none))

-- the first stage whose slot is free
unfoldable pub free_slot : List ℕ → ℕ → ℕ
free_slot w o = first_of o (λ i. is_free (slot_stamp w i) (committed_in w)) (λ i. i) slots

-- 'if any slot holds that object, counting or not, that slot takes the new stamp; otherwise the first stage whose slot is free'
unfoldable pub slot_for : List ℕ → ℕ → ℕ
slot_for w o = first_of o (holds_at w o) (λ i. i) (free_slot w o)

-- the stamp of the object's first mark that is above c, or (0,0)
unfoldable pub mark_above : List ℕ → ℕ → ℕ → ℕ
mark_above w o c = first_of o (λ i. holds_above (slot_object w i) (slot_stamp w i) o c) (slot_stamp w) 0

-- the stamp of the object's counting mark, or (0,0) where it has none
unfoldable pub looked_up : List ℕ → ℕ → ℕ
looked_up w o = mark_above w o (committed_in w)

unfoldable pub next_stamp : List ℕ → ℕ
next_stamp w = stamp_of (number_in w) (counter_in w + 1)

-- Req 03: the stored number less one; 0 stays, which no run meets
unfoldable pub less_one : Bool → ℕ → ℕ
less_one b n = cond b (n - 1) n

-- and one more; the end of its width stays, which no run reaches
unfoldable pub one_more : Bool → ℕ → ℕ
one_more b n = cond b (cond (eqb n limits.last_marks) n (n + 1)) n

-- the stored number when slot i takes this stamp: less one if the slot counted before, one more if the new mark counts
unfoldable pub marks_for : List ℕ → ℕ → ℕ → ℕ
marks_for w i stamp = one_more (counts_above stamp (committed_in w)) (less_one (counts_above (slot_stamp w i) (committed_in w)) (marks_in w))

-- 'the counter rises by one, the object is marked'
abbrev pub slot_marked : List ℕ → ℕ → ℕ → List ℕ
slot_marked w o i = set_stamp (set (set w counter_cell (counter_in w + 1)) (object_cell i) o) (slot_stamp_cell i) (next_stamp w)

unfoldable pub marking : List ℕ → ℕ → ℕ → List ℕ
marking w o i = set (slot_marked w o i) marks_cell (marks_for w i (next_stamp w))

-- 'If no stage has one, the write is dropped and the counter does not move.' So too with the counter at its last number.
unfoldable pub can_mark : List ℕ → ℕ → Bool
can_mark w o = cond (eqb (counter_in w) limits.last_counter) false (ltb (slot_for w o) slots)

unfoldable pub marked : List ℕ → ℕ → List ℕ
marked w o = cond (can_mark w o) (marking w o (slot_for w o)) w

-- the stamp that the write gets: (0,0), which is no write's, where it is dropped
unfoldable pub stamp_for : List ℕ → ℕ → ℕ
stamp_for w o = cond (can_mark w o) (next_stamp w) 0

-- 'counting marks (counted over the slots)': those of the first n slots whose stamp is above c
unfoldable pub counted_to : List ℕ → ℕ → ℕ → ℕ
counted_to w c zero = 0
counted_to w c (suc n) = cond (counts_above (slot_stamp w n) c) (counted_to w c n + 1) (counted_to w c n)

unfoldable pub counted_marks : List ℕ → ℕ
counted_marks w = counted_to w (committed_in w) slots

unfoldable pub cleared_at : List ℕ → ℕ → ℕ → ℕ → List ℕ
cleared_at w o t i = cond (is_completed (slot_object w i) (slot_stamp w i) o t) (set_stamp w (slot_stamp_cell i) 0) w

abbrev pub cleared : List ℕ → ℕ → ℕ → List ℕ
cleared w o t = cleared_at (cleared_at (cleared_at w o t (first_slot o)) o t (second_slot o)) o t (third_slot o)

-- Req 10: 'only if its stamp bears the present switch's number'
unfoldable pub is_own : List ℕ → ℕ → Bool
is_own w t = eqb (number_of t) (number_in w)

-- 'Last-committed becomes the larger of the two.'
unfoldable pub raising : List ℕ → ℕ → ℕ → List ℕ
raising w o t = set_stamp (cleared w o t) committed_cell (larger_of (committed_in w) t)

-- 'Direct reads are on from now', if the completion is the present switch's own; a former one's leaves them as they are
unfoldable pub committing : List ℕ → ℕ → ℕ → List ℕ
committing w o t = cond (is_own w t) (set (raising w o t) direct_cell 1) (raising w o t)

-- Req 03: 'also when one completion stops several marks from counting': the stored number is counted anew
unfoldable pub completed : List ℕ → ℕ → ℕ → List ℕ
completed w o t = set (committing w o t) marks_cell (counted_marks (committing w o t))

-- 'replace the switch by this number: counter 0, last-committed (0,0), no marks, direct reads off'; so is the first switch, number 1
unfoldable pub new_switch : ℕ → List ℕ
new_switch number = set (replicate switch_cells 0) number_cell number
