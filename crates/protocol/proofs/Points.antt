-- Document 01, 'Points to prove, marked P': a table with a row for each, and one theorem, that every test of every row passes; and the same for document 02's Req 02, the
-- refusals of a read of a whole context, and Req 03, the stored number of counting marks.
use mathlib.Core.Path.{◌≡◌, refl}
use mathlib.Core.Bool.{Bool, true, false, cond, not}
use mathlib.Core.List.{List, [], ◌∷◌}
use Prim.Native.Nat.{ℕ, ◌+◌}
use lib.Dec.{eqb}
use lib.ListN.{get_or, set, replicate}
use Rattle.limits.specs as limits
use Rattle.lists.specs.{index_of, list_of, moves, all_of}
use Rattle.contexts.specs.{is_context, place_of, size_of, numbers_of, is_count, is_object, are_objects, stands_first, are_different, empty_at, is_naming, row_cell, size_at, free_row}
use Rattle.stamp.specs.Stamps.{stamp_of, number_of, counter_of, is_above, larger_of, stamp_in, set_stamp}
use Rattle.operations.specs.{none_open, open_count, open_numbers, open_place, is_open, last_given, room_to_open, opening}
use Rattle.store.specs.{entry_cell, entry_stamp_cell, value_cell, stamp_cell, store_cells, live_count, order_at, number_at, members, row_of, highest_of, permitted_by, applied_by, value_at, stamp_at, logged, tabled, raised, is_quorum}
use Rattle.chain.specs.{is_read_place, is_read_replica, read_replica_number, member_at, head_of, tail_of, numbers, place_of as placeOfNumber, is_member, is_tail, table_of, number_in as numberInChain, head_number, tail_number, chosen_by, permits, all_permit, permitting, removed, empty_cells, numbered, empty_store}
use Rattle.replicas.specs.Replicas.{is_not_above, linked_writes, accepts, next_position, applying, taking, pending_at, oldest, answers_direct}
use Rattle.joins.specs.{is_join_set, is_joining, copies_made, is_copied, handing_on, join_ended, without}
use Rattle.switch.specs.Numbers.{slots, marks_cell, number_in, counter_in, committed_in, direct_in, marks_in, slot_object, slot_stamp}
use Rattle.slots.specs.{first_slot, second_slot, third_slot, holds_object, counts_above, is_free, holds_above, is_completed}
use Rattle.switch.specs.DirtySet.{free_slot, slot_for, mark_above, looked_up, next_stamp, less_one, one_more, marks_for, marking, can_mark, marked, stamp_for, cleared_at, is_own, raising, committing, completed, new_switch, counted_to, counted_marks}
use Rattle.waiting.specs.declared.Packet.{Packet}
use Rattle.waiting.specs.Waiting.{WaitingList, waiting_list, held_in, held, blank, none_wait, look_at, takes_out, left_by, fits, after_taking, adding, edited}
use Rattle.protocol.specs.declared.Answer.{Answer}
use Rattle.protocol.specs.declared.Answer.TheVariants.{Done, Finished, FinishedContext, Refused}
use Rattle.protocol.specs.declared.Message.{Message}
use Rattle.protocol.specs.declared.Message.TheVariants.{UnstampedWrite, SwitchRead, StampedWrite, NormalRead, Completion, Reply}
use Rattle.protocol.specs.declared.Decision.{Decision}
use Rattle.protocol.specs.declared.Setup.TheVariants.{Chain}
use Rattle.protocol.specs.declared.Step.{Step}
use Rattle.protocol.specs.declared.Step.TheVariants.{Start, BeginRead, BeginWrite, Deliver, Lose, Repeat, Advance, Replace, Tell, Remove, GiveUp, BeginContext}
use Rattle.protocol.specs.Answers.{refusal_number, no_freshness}
use Rattle.protocol.specs.Messages.{packet_of, message_of, is_unstamped, is_of_context, is_context_reply}
use Rattle.protocol.specs.Decisions.{refusing, dropping, passing, overfull}
use Rattle.protocol.specs.Reads.{is_unmarked, goes_directly, answers_read}
use Rattle.protocol.specs.Contexts.{has_row, released, leaving}
use Rattle.protocol.specs.Delivery.{stamping, unstamped_write, switch_read, chain_write, stamped_write, direct_read, normal_read, completion, reply, delivered_message}
use Rattle.protocol.specs.Starts.{start_refused, start_answer}
use Rattle.protocol.specs.Steps.{Machine, machine, asking, begin_operation, begin_context, is_sound, delivered, lost, copied, repeated, chain_advancing, advancing, replacing, telling, removing, giving_up, position_of, is_malformed, decided, decided_in, answer_to, after, stepped_by}

-- a point of document 01: its number, and tests that must all pass
pub record Point : Type 0 where
  pub number : ℕ
  pub tests : List Bool

-- a row of the table
abbrev pub point : ℕ → List Bool → Point
point number tests = record { number = number; tests = tests }

-- every test passes
unfoldable pub all_true : List Bool → Bool
all_true [] = true
all_true (b ∷ l) = cond b (all_true l) false

-- the rows are numbered from n up to the last one, and every test of each passes
unfoldable pub all_hold : ℕ → ℕ → List Point → Bool
all_hold n last [] = eqb n (last + 1)
all_hold n last (p ∷ l) = cond (eqb p.number n) (cond (all_true p.tests) (all_hold (n + 1) last l) false) false

-- ---- what the rows speak of

-- the answer is the refusal with this number; 0 stands for a step that was done
unfoldable pub gives : Answer → ℕ → Bool
gives Done n = eqb 0 n
gives (Finished o v f) n = eqb 0 n
gives (FinishedContext o v) n = eqb 0 n
gives (Refused r) n = eqb (refusal_number r) n

-- a machine with a lone replica, nothing written, no operation open, and these packets waiting
lone : WaitingList → Machine
lone w = machine (new_switch 1) (empty_store 1) none_open w

-- so many packets with this message
copies : ℕ → Message → WaitingList
copies n q = waiting_list (replicate limits.waiting (packet_of q)) n

-- 64 places, and no packet waiting
unfoldable pub empty_list : WaitingList
empty_list = none_wait (replicate limits.waiting blank)

-- the switch after these objects were marked in turn
marked_all : List ℕ → List ℕ → List ℕ
marked_all w [] = w
marked_all w (o ∷ l) = marked_all (marked w o) l

-- P4's five marks, one after the other
switch_of_p4 : List ℕ
switch_of_p4 = marked_all (new_switch 1) (16 ∷ 512 ∷ 32 ∷ 17 ∷ 33 ∷ [])

-- object 5 has the mark (1,4)
switch_of_p7 : List ℕ
switch_of_p7 = marked_all (new_switch 1) (5 ∷ 5 ∷ 5 ∷ 5 ∷ [])

-- of two replicas, replica 1 has value 9 and stamp (1,4) for object 0
store_of_p6 : List ℕ
store_of_p6 = applying (empty_store 2) 1 (record { operation = 1; object = 0; value = 9; stamp = stamp_of 1 4 })

-- operation 7 reads object 0 at replica 1 of 2, with switch number 1 and this stamp
read_of_p6 : ℕ → Decision
read_of_p6 t = direct_read store_of_p6 0 1 1 t 7 0

-- the decision puts this message, and no other, into the waiting list
unfoldable pub sends : Decision → Message → Bool
sends d q = same d.edit.first (packet_of q)
  where
    same : Packet → Packet → Bool
    same a b =
        all_true
        (eqb d.edit.add 1 ∷ eqb a.kind b.kind ∷ eqb a.replica b.replica ∷ eqb a.number b.number ∷
        eqb a.operation b.operation ∷ eqb a.object b.object ∷ eqb a.value b.value ∷ eqb a.stamp b.stamp ∷ [])

-- a stamped write that replica 1 accepts
write_of_p10 : Message
write_of_p10 = StampedWrite 1 (record { operation = 1; object = 5; value = 9; stamp = stamp_of 1 1 })

-- of four replicas, 3 is gone
store_of_p11 : List ℕ
store_of_p11 = removed (empty_store 4) 2

-- a step that names n objects: these eight, as far as they are given
naming : ℕ → List ℕ → Step
naming n xs = BeginContext (record {
  count = n;
  first = get_or xs 0 0;
  second = get_or xs 1 0;
  third = get_or xs 2 0;
  fourth = get_or xs 3 0;
  fifth = get_or xs 4 0;
  sixth = get_or xs 5 0;
  seventh = get_or xs 6 0;
  eighth = get_or xs 7 0;
})

-- a switch without marks that has this number stored
stored : ℕ → List ℕ
stored n = set (new_switch 1) marks_cell n

-- objects 5, 6 and 7 have the marks (1,1), (1,2) and (1,3)
several : List ℕ
several = marked_all (new_switch 1) (5 ∷ 6 ∷ 7 ∷ [])

-- the marks that a step hands back, with two replicas
marks_after : List ℕ → WaitingList → Step → ℕ
marks_after w l x = (stepped_by (machine w (empty_store 2) none_open l) x).marks

-- ---- the tables

-- P1 to P11, each under its sentence
pub points : List Point
points =
    -- '(1,65535) is below (2,1).'
    point 1
    (is_above (stamp_of 2 1) (stamp_of 1 65535) ∷ not (is_above (stamp_of 1 65535) (stamp_of 2 1)) ∷ is_above (stamp_of 2 1) (stamp_of 1 limits.last_counter) ∷
    is_above (stamp_of 1 65536) (stamp_of 1 65535) ∷ []) ∷
    -- 'Object 1,023 is taken; 1,024 gives 3.'
    point 2
    (gives (answer_to (lone empty_list) (BeginRead 1023)) 0 ∷ gives (answer_to (lone empty_list) (BeginRead 1024)) 3 ∷
    gives (answer_to (lone empty_list) (BeginWrite 1023 9)) 0 ∷ gives (answer_to (lone empty_list) (BeginWrite 1024 9)) 3 ∷ []) ∷
    -- 'Starts 1 and 8 stand; 0 and 9 give 2.'
    point 3
    (gives (start_answer (Chain 1)) 0 ∷ gives (start_answer (Chain 8)) 0 ∷
    gives (start_answer (Chain 0)) 2 ∷ gives (start_answer (Chain 9)) 2 ∷ []) ∷
    -- 'From no marks and with none completed, marking 16, 512, 32, 17, 33 leaves no slot for 0.'
    point 4 (eqb (counted_marks switch_of_p4) 5 ∷ eqb (slot_for switch_of_p4 0) slots ∷ not (can_mark switch_of_p4 0) ∷ []) ∷
    -- 'After P4, object 256 takes slot 4 of the third stage.'
    point 5 (eqb (slot_for switch_of_p4 256) (32 + 4) ∷ can_mark switch_of_p4 256 ∷ []) ∷
    -- 'Object stamp (1,4): a direct read with (1,4) is answered, with (1,3) sent to the tail.'
    point 6 (sends (read_of_p6 (stamp_of 1 4)) (Reply 7 9 0 no_freshness) ∷ sends (read_of_p6 (stamp_of 1 3)) (NormalRead 2 7 0 0) ∷ []) ∷
    -- 'Completion (1,3) leaves the same object's mark (1,4) counting.'
    point 7 (eqb (looked_up (completed switch_of_p7 5 (stamp_of 1 3)) 5) (stamp_of 1 4) ∷ []) ∷
    -- 'Completion (1,7) of object 9 stops a mark (1,4) on object 5 from counting.'
    point 8 (eqb (looked_up switch_of_p7 5) (stamp_of 1 4) ∷ eqb (counted_marks (completed switch_of_p7 9 (stamp_of 1 7))) 0 ∷ []) ∷
    -- 'With 64 waiting, repeating a reply gives 6; repeating an unstamped write gives 8.'
    point 9
    (gives (answer_to (lone (copies 64 (Reply 1 9 0 no_freshness))) (Repeat 0)) 6 ∷
    gives (answer_to (lone (copies 64 (UnstampedWrite 1 5 9))) (Repeat 0)) 8 ∷ []) ∷
    -- 'Lone replica, an acceptable stamped write delivered: 64 waiting gives 6; 63 waiting leaves 64.'
    point 10
    (gives (answer_to (lone (copies 64 write_of_p10)) (Deliver 0 0)) 6 ∷ gives (answer_to (lone (copies 63 write_of_p10)) (Deliver 0 0)) 0 ∷
    eqb (held (after (lone (copies 63 write_of_p10)) (Deliver 0 0)).waiting) 64 ∷ []) ∷
    -- 'Live 1, 2, 4 and choice 5: replica 4.'
    point 11 (eqb (live_count store_of_p11) 3 ∷ eqb (chosen_by store_of_p11 5) 4 ∷ []) ∷
    []

-- Req 02, the order of refusals at tag 11: 1, 3, 16, then 4 to 6
pub context_points : List Point
context_points =
    -- 2 to 8 objects are taken
    point 1
    (gives (answer_to (lone empty_list) (naming 2 (5 ∷ 6 ∷ []))) 0 ∷
    gives (answer_to (lone empty_list) (naming 8 (0 ∷ 1 ∷ 2 ∷ 3 ∷ 4 ∷ 5 ∷ 6 ∷ 1023 ∷ []))) 0 ∷ []) ∷
    -- another number of objects, or something behind the last: 1, before 3 and 16
    point 2
    (gives (answer_to (lone empty_list) (naming 0 [])) 1 ∷ gives (answer_to (lone empty_list) (naming 1 (5 ∷ []))) 1 ∷
    gives (answer_to (lone empty_list) (naming 9 (0 ∷ 1 ∷ 2 ∷ 3 ∷ 4 ∷ 5 ∷ 6 ∷ 7 ∷ []))) 1 ∷
    gives (answer_to (lone empty_list) (naming 2 (1024 ∷ 1024 ∷ 5 ∷ []))) 1 ∷ []) ∷
    -- an object above 1,023: 3, before 16
    point 3
    (gives (answer_to (lone empty_list) (naming 2 (5 ∷ 1024 ∷ []))) 3 ∷ gives (answer_to (lone empty_list) (naming 2 (1024 ∷ 1024 ∷ []))) 3 ∷
    gives (answer_to (lone empty_list) (naming 3 (5 ∷ 5 ∷ 1024 ∷ []))) 3 ∷ []) ∷
    -- an object named twice: 16, before 6
    point 4
    (gives (answer_to (lone empty_list) (naming 2 (5 ∷ 5 ∷ []))) 16 ∷ gives (answer_to (lone empty_list) (naming 8 (7 ∷ 1 ∷ 2 ∷ 3 ∷ 4 ∷ 5 ∷ 6 ∷ 7 ∷ []))) 16 ∷
    gives (answer_to (lone (copies 64 write_of_p10)) (naming 2 (5 ∷ 5 ∷ []))) 16 ∷ []) ∷
    -- 64 packets wait: 6
    point 5 (gives (answer_to (lone (copies 64 write_of_p10)) (naming 2 (5 ∷ 6 ∷ []))) 6 ∷ gives (answer_to (lone (copies 63 write_of_p10)) (naming 2 (5 ∷ 6 ∷ []))) 0 ∷ []) ∷
    []

-- Req 03, 'Every step but the delivery of an unstamped write or a completion and the replacing of the switch hands the stored number on, even a wrong one'
pub marks_points : List Point
marks_points =
    -- a stored 7 where no mark counts is handed on by begins, refused or not
    point 1
    (eqb (marks_after (stored 7) empty_list (BeginRead 5)) 7 ∷ eqb (marks_after (stored 7) empty_list (BeginRead 1024)) 7 ∷
    eqb (marks_after (stored 7) empty_list (BeginWrite 5 9)) 7 ∷ eqb (marks_after (stored 7) empty_list (naming 2 (5 ∷ 6 ∷ []))) 7 ∷
    eqb (marks_after (stored 7) empty_list (Start (Chain 2))) 7 ∷ []) ∷
    -- .. by deliveries of other packets, by losses and by repeats
    point 2
    (eqb (marks_after (stored 7) (copies 1 (SwitchRead 1 5)) (Deliver 0 0)) 7 ∷ eqb (marks_after (stored 7) (copies 1 write_of_p10) (Deliver 0 0)) 7 ∷
    eqb (marks_after (stored 7) (copies 1 (Reply 1 9 0 no_freshness)) (Deliver 0 0)) 7 ∷ eqb (marks_after (stored 7) (copies 1 (NormalRead 2 1 5 0)) (Deliver 0 0)) 7 ∷
    eqb (marks_after (stored 7) (copies 1 (UnstampedWrite 1 5 9)) (Lose 0)) 7 ∷ eqb (marks_after (stored 7) (copies 1 (Completion 5 (stamp_of 1 1))) (Repeat 0)) 7 ∷ []) ∷
    -- .. by what is done to replicas and operations, and by a refused replacement
    point 3
    (eqb (marks_after (stored 7) empty_list (Advance 2)) 7 ∷ eqb (marks_after (stored 7) empty_list (Tell 1)) 7 ∷ eqb (marks_after (stored 7) empty_list (Remove 1)) 7 ∷
    eqb (marks_after (stored 7) empty_list (GiveUp 1)) 7 ∷ eqb (marks_after (stored 7) empty_list (Replace 1)) 7 ∷ []) ∷
    -- .. and by a write that is dropped: no permit, no slot
    point 4
    (eqb (marks_after (set (new_switch 2) marks_cell 7) (copies 1 (UnstampedWrite 1 5 9)) (Deliver 0 0)) 7 ∷
    eqb (marks_after (set switch_of_p4 marks_cell 7) (copies 1 (UnstampedWrite 1 0 9)) (Deliver 0 0)) 7 ∷ []) ∷
    -- a mark of a slot that did not count adds one; of one that did, none. A number at the end of its width stays; so does 0 where one is taken off
    point 5
    (eqb (marks_after (stored 7) (copies 1 (UnstampedWrite 1 5 9)) (Deliver 0 0)) 8 ∷ eqb (marks_in (marked_all (stored 7) (5 ∷ 5 ∷ []))) 8 ∷
    eqb (marks_in (marked (stored 4294967295) 5)) 4294967295 ∷ eqb (marks_in (marked (set switch_of_p7 marks_cell 0) 5)) 1 ∷ []) ∷
    -- a replaced switch has none, and a completion counts anew
    point 6
    (eqb (marks_after (stored 7) empty_list (Replace 2)) 0 ∷ eqb (marks_after (stored 7) (copies 1 (Completion 5 (stamp_of 1 1))) (Deliver 0 0)) 0 ∷
    eqb (marks_after (set switch_of_p4 marks_cell 7) (copies 1 (Completion 5 0)) (Deliver 0 0)) 5 ∷ []) ∷
    -- 'also when one completion stops several marks from counting': of three, two and three at once
    point 7
    (eqb (marks_in several) 3 ∷ eqb (marks_after several (copies 1 (Completion 6 (stamp_of 1 2))) (Deliver 0 0)) 1 ∷
    eqb (marks_after several (copies 1 (Completion 7 (stamp_of 1 3))) (Deliver 0 0)) 0 ∷ []) ∷
    []

-- the definitions compute every row, and no row is missing
pub record PointsHold : Type 0 where
  pub points_hold : all_hold 1 11 points ≡ true
  pub context_points_hold : all_hold 1 5 context_points ≡ true
  pub marks_points_hold : all_hold 1 7 marks_points ≡ true

pub holds : PointsHold
unfolding points is_quorum chain_write answers_read chain_advancing is_join_set is_read_place is_read_replica read_replica_number is_not_above is_unmarked goes_directly is_sound has_row is_context_reply is_context all_hold all_true gives lone copies empty_list marked_all switch_of_p4 switch_of_p7 store_of_p6 read_of_p6 sends write_of_p10 store_of_p11 stamp_of number_of counter_of is_above larger_of stamp_in set_stamp entry_stamp_cell none_open open_count last_given room_to_open index_of list_of moves entry_cell value_cell stamp_cell store_cells live_count order_at number_at members row_of highest_of permitted_by applied_by value_at stamp_at logged tabled raised member_at head_of tail_of numbers placeOfNumber is_member is_tail table_of numberInChain head_number tail_number chosen_by removed empty_cells numbered empty_store linked_writes accepts next_position applying taking answers_direct number_in counter_in committed_in slot_object slot_stamp first_slot second_slot third_slot holds_object counts_above is_free holds_above free_slot slot_for mark_above looked_up next_stamp marking can_mark marked is_completed cleared_at completed new_switch counted_to counted_marks held_in none_wait look_at takes_out left_by fits after_taking adding edited packet_of message_of is_unstamped is_of_context refusing passing overfull direct_read stamped_write delivered_message start_refused start_answer begin_operation delivered copied repeated position_of is_malformed decided decided_in answer_to after context_points naming begin_context all_of place_of size_of numbers_of is_count is_object are_objects stands_first are_different empty_at is_naming row_cell size_at free_row opening marks_points stored several marks_after marks_in less_one one_more marks_for is_own raising committing leaving released dropping stamping unstamped_write switch_read normal_read completion reply lost advancing pending_at oldest handing_on is_copied is_joining copies_made join_ended without replacing telling permitting removing giving_up stamp_for asking all_permit permits direct_in is_open open_place open_numbers
holds = record { points_hold = refl; context_points_hold = refl; marks_points_hold = refl }
