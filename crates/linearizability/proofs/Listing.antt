-- Runs computed by the definitions: document 01's listing, a removed tail, a removed head, a read of a whole context, and a completion that stops three marks. So the theorem is not about a machine that drops every packet.
use mathlib.Core.Path.{◌≡◌, refl, sym, ◌∙◌, subst}
use mathlib.Core.List.{List, [], ◌∷◌, map}
use Prim.Native.Nat.{ℕ}
use lib.ListN.{replicate}
use Rattle.limits.specs as limits
use Rattle.history.specs.History.{History, reads, writes, begun, finished, Finished}
use Rattle.history.proofs.Lists.{here, there}
use Rattle.history.proofs.Entries.{Entry, Store, after, empty}
use Rattle.protocol.specs.declared.Setup.TheVariants.{Chain as ChainOf}
use Rattle.protocol.specs.declared.Step.{Step}
use Rattle.protocol.specs.declared.Step.TheVariants.{BeginRead, BeginWrite, Deliver, Advance, Remove, GiveUp, BeginContext}
use Rattle.protocol.specs.Messages.{packet_of, context_message, message_of, is_unstamped, is_of_context, is_context_reply}
use Rattle.protocol.specs.Decisions.{refusing, dropping, passing, overfull}
use Rattle.protocol.specs.Contexts as Rules
use Rattle.protocol.specs.Reads as Directly
use Rattle.protocol.specs.Delivery.{stamping, unstamped_write, switch_read, chain_write, stamped_write, direct_read, normal_read, completion, reply, delivered_message}
use Rattle.protocol.specs.Steps.{is_sound, asking, begin_operation, begin_context, delivered, chain_advancing, advancing, removing, giving_up, position_of, decided, is_malformed, decided_in, answer_to, after as next, Machine, stepped_by, started}
use Rattle.waiting.specs.declared.Packet.{Packet}
use Rattle.waiting.specs.Waiting.{blank, held_in, none_wait, look_at, takes_out, left_by, fits, after_taking, adding, edited}
use Rattle.lists.specs.{moves, index_of, list_of, all_of}
use Rattle.contexts.specs as Contexts
use Rattle.contexts.specs.declared.Objects.{Objects}
use Rattle.operations.specs.{open_count, open_numbers, last_given, none_open, open_place, is_open, room_to_open, opening, closing}
use Rattle.stamp.specs.Stamps.{stamp_of, number_of, counter_of, is_above, larger_of, stamp_in, set_stamp}
use Rattle.switch.specs.Numbers.{number_in, counter_in, committed_in, direct_in, marks_in, slot_object, slot_stamp}
use Rattle.slots.specs.{first_slot, second_slot, third_slot, holds_object, counts_above, is_free, holds_above, is_completed}
use Rattle.switch.specs.DirtySet.{free_slot, slot_for, mark_above, looked_up, next_stamp, less_one, one_more, marks_for, marking, can_mark, marked, stamp_for, counted_to, counted_marks, cleared_at, is_own, raising, committing, completed, new_switch}
use Rattle.chain.specs as Chain
use Rattle.joins.specs as Joins
use Rattle.store.specs as Cells
use Rattle.replicas.specs.Links
use Rattle.replicas.specs.Replicas
use Rattle.replicas.specs.Visible
use Rattle.linearizability.specs.Run.{history_of}
use Rattle.linearizability.proofs.Members.{has}
use Rattle.linearizability.proofs.Order.{objects_of, finish_order}
use Rattle.linearizability.proofs.OneOrder.{order_from, order_of}

-- the lent places
abbrev row : List Packet
row = replicate limits.waiting blank

abbrev pub first : Step
first = Deliver 0 0

-- 'start 2; write object 5 value 9; deliver 0 twice; advance 2; deliver 0 twice; read 5; deliver 0 three times; give up 2'
abbrev pub listing : List Step
listing = BeginWrite 5 9 ∷ first ∷ first ∷ Advance 2 ∷ first ∷ first ∷ BeginRead 5 ∷ first ∷ first ∷ first ∷ GiveUp 2 ∷ []

-- a write is in the link to the tail when a replica is removed; then its object is read
abbrev pub removing_run : ℕ → List Step
removing_run r = BeginWrite 5 9 ∷ first ∷ first ∷ Remove r ∷ BeginRead 5 ∷ first ∷ first ∷ first ∷ []

-- a read that begins after a write, and is answered before the tail has it
abbrev pub overtaking_run : List Step
overtaking_run = BeginWrite 5 9 ∷ BeginRead 5 ∷ Deliver 1 0 ∷ Deliver 1 0 ∷ Deliver 1 0 ∷ first ∷ first ∷ Advance 2 ∷ first ∷ []

-- objects 5 and 6
abbrev pair : Objects
pair = record { count = 2; first = 5; second = 6; third = 0; fourth = 0; fifth = 0; sixth = 0; seventh = 0; eighth = 0 }

-- reads of 5, of 6 and of pair are open together. 5 is read, 5 is written, pair are read, 6 is written, and 6 is read; then the three reads finish
abbrev pub context_run : List Step
context_run =
    BeginRead 5 ∷ BeginRead 6 ∷ BeginContext pair ∷ BeginWrite 5 1 ∷ BeginWrite 6 2 ∷
    first ∷ Deliver 4 0 ∷ Deliver 2 0 ∷ Deliver 4 0 ∷ Deliver 1 0 ∷ Deliver 5 0 ∷ Deliver 1 0 ∷ Deliver 5 0 ∷ first ∷ Deliver 6 0 ∷
    first ∷ Deliver 2 0 ∷ Deliver 4 0 ∷ []

-- what the objects xs hold at each point of an order, from before its first operation to behind its last
abbrev pub points : Store → List Entry → List ℕ → List (List ℕ)
points s [] xs = map s xs ∷ []
points s (e ∷ es) xs = map s xs ∷ points (after s (e ∷ [])) es xs

-- three writes are stamped, and the replica takes the last of them first: its completion stops all three marks
abbrev pub several_run : List Step
several_run = BeginWrite 5 1 ∷ BeginWrite 6 2 ∷ BeginWrite 7 3 ∷ first ∷ first ∷ first ∷ Deliver 2 0 ∷ Deliver 3 0 ∷ []

-- the counting marks after each step
abbrev pub marks_along : Machine → List Step → List ℕ
marks_along m [] = []
marks_along m (x ∷ xs) = (stepped_by m x).marks ∷ marks_along (next m x) xs

pub record Computed : Type 0 where
  pub listing_history : history_of (ChainOf 2) row listing ≡ finished 2 (9 ∷ []) ∷ begun 2 (reads (5 ∷ [])) ∷ finished 1 (9 ∷ []) ∷ begun 1 (writes 5 9) ∷ []
  pub listing_order : order_of (ChainOf 2) row listing ≡ 1 ∷ 2 ∷ []
  -- the write of a removed tail's link is visible, without a reply
  pub tail_removed : history_of (ChainOf 2) row (removing_run 2) ≡ finished 2 (9 ∷ []) ∷ begun 2 (reads (5 ∷ [])) ∷ begun 1 (writes 5 9) ∷ []
  pub tail_removed_order : order_of (ChainOf 2) row (removing_run 2) ≡ 1 ∷ 2 ∷ []
  -- the write of a removed head's link is lost
  pub head_removed : history_of (ChainOf 2) row (removing_run 1) ≡ finished 2 (0 ∷ []) ∷ begun 2 (reads (5 ∷ [])) ∷ begun 1 (writes 5 9) ∷ []
  pub overtaken_order : order_of (ChainOf 2) row overtaking_run ≡ 2 ∷ 1 ∷ []
  -- the single reads finish with 0 for object 5 and 2 for object 6, the read of pair with 1 and 0
  pub context_history : history_of (ChainOf 1) row context_run ≡
      finished 2 (2 ∷ []) ∷ finished 3 (1 ∷ 0 ∷ []) ∷ finished 1 (0 ∷ []) ∷ begun 5 (writes 6 2) ∷ begun 4 (writes 5 1) ∷
      begun 3 (reads (5 ∷ 6 ∷ [])) ∷ begun 2 (reads (6 ∷ [])) ∷ begun 1 (reads (5 ∷ [])) ∷ []
  pub context_order : order_of (ChainOf 1) row context_run ≡ 1 ∷ 4 ∷ 3 ∷ 5 ∷ 2 ∷ []
  -- no point of the order has the pair 0 and 2, and two have the pair 1 and 0: before and behind operation 3
  pub context_points : points empty (order_from (started (ChainOf 1) row) [] [] context_run) (5 ∷ 6 ∷ []) ≡
      (0 ∷ 0 ∷ []) ∷ (0 ∷ 0 ∷ []) ∷ (1 ∷ 0 ∷ []) ∷ (1 ∷ 0 ∷ []) ∷ (1 ∷ 2 ∷ []) ∷ (1 ∷ 2 ∷ []) ∷ []
  -- Req 03: 'also when one completion stops several marks from counting'
  pub several_marks : marks_along (started (ChainOf 1) row) several_run ≡ 0 ∷ 0 ∷ 0 ∷ 1 ∷ 2 ∷ 3 ∷ 3 ∷ 0 ∷ []

pub computed : Computed
unfolding Cells.is_quorum chain_write chain_advancing Directly.answers_read packet_of Rules.has_row is_sound is_of_context is_context_reply Directly.is_unmarked Directly.goes_directly Chain.is_read_place Chain.is_read_replica Chain.read_replica_number Chain.read_replica_of Joins.is_join_set Replicas.is_not_above Visible.visible_count Visible.made_visible context_message message_of is_unstamped Contexts.place_of Contexts.size_of Contexts.numbers_of Contexts.kept_at Contexts.mapped Contexts.is_count Contexts.is_object Contexts.are_objects Contexts.stands_first Contexts.are_different Contexts.is_context Contexts.empty_at Contexts.is_naming Contexts.row_cell Contexts.size_at Contexts.number_at Contexts.context_at Contexts.free_row Contexts.puts Contexts.holding Contexts.freeing Rules.context_read Rules.answering_context Rules.normal_context Rules.context_reply begin_context refusing dropping passing overfull stamping unstamped_write switch_read stamped_write direct_read normal_read completion reply delivered_message asking begin_operation delivered advancing removing giving_up position_of decided is_malformed decided_in answer_to next started held_in none_wait look_at takes_out left_by fits after_taking adding edited moves index_of list_of open_count open_numbers last_given none_open open_place is_open room_to_open opening closing stamp_of number_of counter_of is_above larger_of number_in counter_in committed_in direct_in slot_object slot_stamp first_slot second_slot third_slot holds_object counts_above is_free holds_above free_slot slot_for mark_above looked_up next_stamp less_one one_more marks_for marking can_mark marked stamp_for counted_to counted_marks is_completed cleared_at is_own raising committing completed new_switch marks_in Chain.chain_place Chain.is_live Chain.member_at Chain.head_of Chain.tail_of Chain.numbers Chain.place_of Chain.is_member Chain.is_tail Chain.table_of Chain.number_in Chain.head_number Chain.tail_number Chain.chosen_by all_of Chain.permits Chain.all_permit Chain.removed Chain.empty_cells Chain.numbered Chain.empty_store Links.entries has objects_of finish_order Joins.is_joining Joins.copies_made Joins.newcomer Joins.is_copied Joins.handing_on Joins.join_ended Joins.without Cells.entry_cell Cells.value_cell Cells.stamp_cell Cells.entry_stamp_cell stamp_in set_stamp Cells.store_cells Cells.live_count Cells.order_at Cells.number_at Cells.members Cells.row_of Cells.highest_of Cells.permitted_by Cells.applied_by Cells.entry_at Cells.value_at Cells.stamp_at Cells.logged Cells.tabled Cells.raised Replicas.linked_writes Replicas.accepts Replicas.next_position Replicas.applying Replicas.taking Replicas.pending_at Replicas.pending Replicas.oldest Replicas.answers_direct
computed = record { listing_history = refl; listing_order = refl; tail_removed = refl; tail_removed_order = refl; head_removed = refl; overtaken_order = refl; context_history = refl; context_order = refl; context_points = refl; several_marks = refl }

-- a machine that drops every packet finishes nothing: the listing's history is not its history
pub not_dropping : (h : History) → ((o : ℕ) → Finished h o → ⊥) → history_of (ChainOf 2) row listing ≡ h → ⊥
not_dropping h never e = never 1 (subst (λ (k : History). Finished k 1) (sym computed.listing_history ∙ e) (9 ∷ [], there (there (here refl))))
