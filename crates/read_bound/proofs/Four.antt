-- The number four is met: a read that is sent directly, is overtaken by a write, goes to the tail and then to its client. After three deliveries it has not finished.
use mathlib.Core.Path.{◌≡◌, refl}
use mathlib.Core.List.{List, [], ◌∷◌, ◌++◌}
use native.Mathlib.Omega.{arith}
use lib.ListN.{replicate}
use Rattle.limits.specs as limits
use Rattle.history.specs.History.{reads, writes, begun, finished}
use Rattle.protocol.specs.declared.Setup.TheVariants.{Chain as ChainOf}
use Rattle.protocol.specs.declared.Step.{Step}
use Rattle.protocol.specs.declared.Step.TheVariants.{BeginRead, BeginWrite, Deliver}
use Rattle.protocol.specs.Messages.{packet_of, context_message, message_of, is_unstamped, is_of_context, is_context_reply}
use Rattle.protocol.specs.Decisions.{refusing, dropping, passing, overfull}
use Rattle.protocol.specs.Contexts as Rules
use Rattle.protocol.specs.Reads as Directly
use Rattle.protocol.specs.Delivery.{stamping, unstamped_write, switch_read, chain_write, stamped_write, direct_read, normal_read, completion, reply, delivered_message}
use Rattle.protocol.specs.Steps.{is_sound, asking, begin_operation, begin_context, delivered, chain_advancing, advancing, removing, giving_up, position_of, decided, is_malformed, decided_in, answer_to, after as next, started}
use Rattle.waiting.specs.declared.Packet.{Packet}
use Rattle.waiting.specs.Waiting.{blank, held_in, none_wait, look_at, takes_out, left_by, fits, after_taking, adding, edited}
use Rattle.lists.specs.{moves, index_of, list_of, all_of}
use Rattle.contexts.specs as Contexts
use Rattle.operations.specs.{open_count, open_numbers, last_given, none_open, open_place, is_open, room_to_open, opening, closing}
use Rattle.stamp.specs.Stamps.{stamp_of, number_of, counter_of, is_above, larger_of, stamp_in, set_stamp}
use Rattle.switch.specs.Numbers.{number_in, counter_in, committed_in, direct_in, marks_in, slot_object, slot_stamp}
use Rattle.slots.specs.{first_slot, second_slot, third_slot, holds_object, counts_above, is_free, holds_above, is_completed}
use Rattle.switch.specs.DirtySet.{free_slot, slot_for, mark_above, looked_up, next_stamp, less_one, one_more, marks_for, marking, can_mark, marked, stamp_for, counted_to, counted_marks, cleared_at, is_own, raising, committing, completed, new_switch}
use Rattle.chain.specs as Chain
use Rattle.joins.specs as Joins
use Rattle.store.specs as Cells
use Rattle.replicas.specs.Links
use Rattle.replicas.specs.Replicas
use Rattle.replicas.specs.Visible
use Rattle.linearizability.specs.Run.{history_of}
use Rattle.linearizability.proofs.Limits.{machine_of}
use Rattle.read_bound.specs.Follow.{at, place_after, deliveries, Unhindered, ReadAtSwitch}

abbrev row : List Packet
row = replicate limits.waiting blank

abbrev first : Step
first = Deliver 0 0

-- a lone replica has a write, its completion turns direct reads on, and a read begins
abbrev before : List Step
before = BeginWrite 5 9 ∷ first ∷ first ∷ first ∷ first ∷ BeginRead 5 ∷ []

-- the switch sends the read directly; the replica applies another write; the direct read is turned down and goes to the tail, which answers
abbrev three : List Step
three = first ∷ BeginWrite 5 8 ∷ Deliver 1 0 ∷ Deliver 1 0 ∷ first ∷ Deliver 2 0 ∷ []

pub record Met : Type 0 where
  pub asks : ReadAtSwitch (machine_of (ChainOf 1) row before) 0 2
  pub unhindered : Unhindered (machine_of (ChainOf 1) row before) 2 (at 0) three
  pub three_deliveries : deliveries (machine_of (ChainOf 1) row before) (at 0) three ≡ 3
  -- nothing of operation 2 has finished
  pub not_yet : history_of (ChainOf 1) row (before ++ three) ≡ begun 3 (writes 5 8) ∷ begun 2 (reads (5 ∷ [])) ∷ finished 1 (9 ∷ []) ∷ begun 1 (writes 5 9) ∷ []
  -- it does by the fourth, of the packet that is now the third that waits
  pub third_waits : place_after (machine_of (ChainOf 1) row before) (at 0) three ≡ at 2
  pub fourth : history_of (ChainOf 1) row (before ++ three ++ Deliver 2 0 ∷ []) ≡
      finished 2 (8 ∷ []) ∷ begun 3 (writes 5 8) ∷ begun 2 (reads (5 ∷ [])) ∷ finished 1 (9 ∷ []) ∷ begun 1 (writes 5 9) ∷ []

pub met : Met
unfolding Cells.is_quorum chain_write chain_advancing Directly.answers_read packet_of Rules.has_row is_sound is_of_context is_context_reply Directly.is_unmarked Directly.goes_directly Chain.is_read_place Chain.is_read_replica Chain.read_replica_number Chain.read_replica_of Joins.is_join_set Replicas.is_not_above Visible.visible_count Visible.made_visible context_message message_of is_unstamped Contexts.place_of Contexts.size_of Contexts.numbers_of Contexts.kept_at Contexts.mapped Contexts.is_count Contexts.is_object Contexts.are_objects Contexts.stands_first Contexts.are_different Contexts.is_context Contexts.empty_at Contexts.is_naming Contexts.row_cell Contexts.size_at Contexts.number_at Contexts.context_at Contexts.free_row Contexts.puts Contexts.holding Contexts.freeing Rules.context_read Rules.answering_context Rules.normal_context Rules.context_reply begin_context refusing dropping passing overfull stamping unstamped_write switch_read stamped_write direct_read normal_read completion reply delivered_message asking begin_operation delivered advancing removing giving_up position_of decided is_malformed decided_in answer_to next started held_in none_wait look_at takes_out left_by fits after_taking adding edited moves index_of list_of open_count open_numbers last_given none_open open_place is_open room_to_open opening closing stamp_of number_of counter_of is_above larger_of number_in counter_in committed_in direct_in slot_object slot_stamp first_slot second_slot third_slot holds_object counts_above is_free holds_above free_slot slot_for mark_above looked_up next_stamp less_one one_more marks_for marking can_mark marked stamp_for counted_to counted_marks is_completed cleared_at is_own raising committing completed new_switch marks_in Chain.chain_place Chain.is_live Chain.member_at Chain.head_of Chain.tail_of Chain.numbers Chain.place_of Chain.is_member Chain.is_tail Chain.table_of Chain.number_in Chain.head_number Chain.tail_number Chain.chosen_by all_of Chain.permits Chain.all_permit Chain.removed Chain.empty_cells Chain.numbered Chain.empty_store Links.entries Joins.is_joining Joins.copies_made Joins.newcomer Joins.is_copied Joins.handing_on Joins.join_ended Joins.without Cells.entry_cell Cells.value_cell Cells.stamp_cell Cells.entry_stamp_cell stamp_in set_stamp Cells.store_cells Cells.live_count Cells.order_at Cells.number_at Cells.members Cells.row_of Cells.highest_of Cells.permitted_by Cells.applied_by Cells.entry_at Cells.value_at Cells.stamp_at Cells.logged Cells.tabled Cells.raised Replicas.linked_writes Replicas.accepts Replicas.next_position Replicas.applying Replicas.taking Replicas.pending_at Replicas.pending Replicas.oldest Replicas.answers_direct
met = record {
  asks = record { waits = omega arith; asks = refl; still_open = refl };
  unhindered = (refl, (refl, (refl, (refl, (refl, (refl, tt))))));
  three_deliveries = refl;
  not_yet = refl;
  third_waits = refl;
  fourth = refl;
}
