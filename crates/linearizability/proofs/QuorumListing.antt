-- Document 02, Req 11: runs of a quorum store, computed by the definitions. A follower that lags is asked twice: once it answers, once the read is sent on to the leader. And a late completion of the
-- former switch, which without Req 10 would have a follower answer with a value that is old.
use mathlib.Core.Path.{◌≡◌, refl}
use mathlib.Core.Bool.{cond}
use mathlib.Core.List.{List, [], ◌∷◌}
use Prim.Native.Nat.{ℕ, ◌-◌}
use lib.Dec.{eqb}
use lib.ListN.{replicate}
use Rattle.limits.specs as limits
use Rattle.store.specs.declared.Write.{Write}
use Rattle.waiting.specs.declared.Packet.{Packet}
use Rattle.waiting.specs.Waiting.{blank, held_in, none_wait, look_at, takes_out, left_by, fits, after_taking, adding, edited}
use Rattle.protocol.specs.declared.Decision.{Decision}
use Rattle.protocol.specs.declared.Message.{Message}
use Rattle.protocol.specs.declared.Message.TheVariants.{UnstampedWrite, SwitchRead, StampedWrite, DirectRead, NormalRead, Completion, Reply, Acknowledgement, Unknown}
use Rattle.protocol.specs.declared.Setup.TheVariants.{Quorum as QuorumOf}
use Rattle.protocol.specs.declared.Step.{Step}
use Rattle.protocol.specs.declared.Step.TheVariants.{BeginRead, BeginWrite, Deliver, Lose, Advance, Replace, Tell, Execute}
use Rattle.protocol.specs.Answers.{no_freshness}
use Rattle.protocol.specs.Messages.{packet_of, context_message, message_of, is_of_context}
use Rattle.protocol.specs.Decisions.{refusing, dropping, passing, overfull}
use Rattle.protocol.specs.Contexts as Rules
use Rattle.protocol.specs.Reads as Directly
use Rattle.protocol.specs.Delivery.{stamping, unstamped_write, switch_read, leader_write, stamped_write, acknowledgement, direct_read, freshness, normal_read, completion, reply, delivered_message}
use Rattle.protocol.specs.Steps.{is_sound, asking, begin_operation, delivered, lost, follower_advancing, advancing, executing_on, replacing, telling, position_of, decided, is_malformed, decided_in, answer_to, after as next, Machine, started}
use Rattle.lists.specs.{moves, index_of, list_of, all_of}
use Rattle.operations.specs.{open_count, open_numbers, last_given, none_open, open_place, is_open, room_to_open, opening, closing}
use Rattle.stamp.specs.Stamps.{stamp_of, number_of, counter_of, is_above, larger_of, stamp_in, set_stamp}
use Rattle.switch.specs.Numbers.{number_in, counter_in, committed_in, direct_in, marks_in, slot_object, slot_stamp}
use Rattle.slots.specs.{first_slot, second_slot, third_slot, holds_object, counts_above, is_free, holds_above, is_completed}
use Rattle.switch.specs.DirtySet.{free_slot, slot_for, mark_above, looked_up, next_stamp, less_one, one_more, marks_for, marking, can_mark, marked, stamp_for, counted_to, counted_marks, cleared_at, is_own, raising, committing, completed, new_switch}
use Rattle.chain.specs as Chain
use Rattle.store.specs as Cells
use Rattle.quorum.specs as Quorum
use Rattle.replicas.specs.Replicas
use Rattle.linearizability.proofs.Limits.{machine_of}

abbrev row : List Packet
row = replicate limits.waiting blank

abbrev first : Step
first = Deliver 0 0

-- three replicas. A write of object 5 is logged, acknowledged by replica 2, which makes a majority with the leader, and executed by both; then one of object 6, which replica 2 logs and yet to execute.
-- Object 5 is read while the second write's completion waits, and object 6 after it: both reads go directly to replica 2
abbrev pub lagging_run : List Step
lagging_run =
    BeginWrite 5 1 ∷ first ∷ first ∷ Advance 2 ∷ first ∷ Execute ∷ first ∷ first ∷ Advance 2 ∷
    BeginWrite 6 2 ∷ first ∷ first ∷ Advance 2 ∷ first ∷ Execute ∷
    BeginRead 5 ∷ Deliver 2 1 ∷ Deliver 2 0 ∷ Deliver 2 0 ∷ first ∷ first ∷
    BeginRead 6 ∷ Deliver 0 1 ∷ first ∷ first ∷ first ∷ []

-- object 5 is written twice, and both writes finish; replica 2 has executed the first alone. The first one's completion is late, and the second one's lost; the switch is replaced, and replica 2 told. Then the late
-- completion comes, and object 5 is read
abbrev pub late_run : List Step
late_run =
    BeginWrite 5 1 ∷ first ∷ first ∷ Advance 2 ∷ first ∷ Execute ∷ first ∷ Advance 2 ∷
    BeginWrite 5 2 ∷ Deliver 1 0 ∷ Deliver 1 0 ∷ Advance 2 ∷ Deliver 1 0 ∷ Execute ∷ Deliver 1 0 ∷ Lose 1 ∷
    Replace 2 ∷ Tell 2 ∷ first ∷ BeginRead 5 ∷ []

-- the newest message that waits after each step; Unknown where none does
abbrev newest : Machine → Message
newest m = cond (eqb m.waiting.count 0) Unknown (message_of (look_at m.waiting.packets (m.waiting.count - 1)))

abbrev pub newest_along : Machine → List Step → List Message
newest_along m [] = []
newest_along m (x ∷ xs) = newest (next m x) ∷ newest_along (next m x) xs

-- what the switch makes of the read that waits alone, and what replica 2 makes of it as a direct read
abbrev read_and : Machine → Message × Decision
read_and m = (newest (next m (Deliver 0 1)), direct_read m.store 0 2 2 (stamp_of 1 1) 3 5)

abbrev written : ℕ → ℕ → ℕ → ℕ → Write
written o x v counter = record { operation = o; object = x; value = v; stamp = stamp_of 1 counter }

pub record QuorumComputed : Type 0 where
  -- replica 2 has executed up to the stamp that the first read carries, and answers, though the leader has executed more; it has not executed up to the stamp that the second read carries, which is sent
  -- on to the leader with no stamp
  pub lagging : newest_along (started (QuorumOf 3) row) lagging_run ≡
      UnstampedWrite 1 5 1 ∷ StampedWrite 1 (written 1 5 1 1) ∷ Unknown ∷ Acknowledgement 2 1 ∷ Unknown ∷ Completion 5 (stamp_of 1 1) ∷ Completion 5 (stamp_of 1 1) ∷ Unknown ∷ Unknown ∷
      UnstampedWrite 2 6 2 ∷ StampedWrite 1 (written 2 6 2 2) ∷ Unknown ∷ Acknowledgement 2 2 ∷ Unknown ∷ Completion 6 (stamp_of 1 2) ∷
      SwitchRead 3 5 ∷ DirectRead 2 1 (stamp_of 1 1) 3 5 ∷ Reply 3 1 0 no_freshness ∷ Completion 6 (stamp_of 1 2) ∷ Completion 6 (stamp_of 1 2) ∷ Unknown ∷
      SwitchRead 4 6 ∷ DirectRead 2 1 (stamp_of 1 2) 4 6 ∷ NormalRead 1 4 6 0 ∷ Reply 4 2 0 no_freshness ∷ Unknown ∷ []
  -- Req 10: after the late completion the read goes to the leader, where replica 2 would have answered a direct read with the present number and last-committed, (1,1), and given the first value
  pub late : read_and (machine_of (QuorumOf 3) row late_run) ≡ (NormalRead 1 3 5 0, passing 0 (Reply 3 1 0 no_freshness))

pub quorum_computed : QuorumComputed
unfolding Cells.is_quorum leader_write acknowledgement follower_advancing executing_on replacing telling lost Rules.released Rules.leaving Chain.permitting Directly.answers_read Cells.item_cell Quorum.logged_by Quorum.acknowledged_by Quorum.is_entry Quorum.items_taken Quorum.linked_items Quorum.has_room Quorum.links_have_room Quorum.last_logged Quorum.unexecuted Quorum.logs Quorum.sending_item Quorum.count_logged Quorum.logging Quorum.next_is_entry Quorum.next_entry Quorum.taking_item Quorum.acknowledging Quorum.is_holder Quorum.count_of Quorum.majority_holds Quorum.executes Quorum.executing Quorum.answers_behind Quorum.quorum_store packet_of Rules.has_row is_sound is_of_context Directly.is_unmarked Directly.goes_directly Chain.is_read_place Chain.is_read_replica Chain.read_replica_number Chain.read_replica_of context_message message_of refusing dropping passing overfull stamping unstamped_write switch_read stamped_write direct_read normal_read completion reply delivered_message asking begin_operation delivered advancing position_of decided is_malformed decided_in answer_to next started held_in none_wait look_at takes_out left_by fits after_taking adding edited moves index_of list_of open_count open_numbers last_given none_open open_place is_open room_to_open opening closing stamp_of number_of counter_of is_above larger_of number_in counter_in committed_in direct_in slot_object slot_stamp first_slot second_slot third_slot holds_object counts_above is_free holds_above free_slot slot_for mark_above looked_up next_stamp less_one one_more marks_for marking can_mark marked stamp_for counted_to counted_marks is_completed cleared_at is_own raising committing completed new_switch marks_in Chain.chain_place Chain.is_live Chain.member_at Chain.head_of Chain.tail_of Chain.numbers Chain.place_of Chain.is_member Chain.table_of Chain.number_in Chain.head_number Chain.tail_number Chain.chosen_by all_of Chain.permits Chain.all_permit Chain.empty_cells Chain.numbered Chain.empty_store Cells.entry_cell Cells.value_cell Cells.stamp_cell Cells.entry_stamp_cell stamp_in set_stamp Cells.store_cells Cells.live_count Cells.order_at Cells.number_at Cells.members Cells.row_of Cells.highest_of Cells.permitted_by Cells.applied_by Cells.entry_at Cells.value_at Cells.stamp_at Cells.logged Cells.tabled Cells.raised Replicas.next_position Replicas.applying freshness
quorum_computed = record { lagging = refl; late = refl }
