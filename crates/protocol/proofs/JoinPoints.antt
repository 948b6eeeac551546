-- Document 02, Req 04, as rows of computed tests: refusals in their order, also in states that no run reaches, and what a join changes.
use mathlib.Core.Path.{◌≡◌, refl}
use mathlib.Core.Bool.{Bool, true, not}
use mathlib.Core.List.{List, [], ◌∷◌}
use Prim.Native.Nat.{ℕ, ◌+◌}
use lib.Dec.{eqb}
use lib.ListN.{set}
use Rattle.lists.specs.{index_of, list_of, moves}
use Rattle.stamp.specs.Stamps.{stamp_of, number_of, counter_of, stamp_in, set_stamp}
use Rattle.operations.specs.{none_open}
use Rattle.store.specs.declared.Write.{Write}
use Rattle.store.specs.{last_number_cell, join_cell, value_cell, stamp_cell, store_cells, live_count, order_at, number_at, members, row_of, value_at, stamp_at, tabled, is_quorum}
use Rattle.chain.specs.{is_read_place, is_read_replica, read_replica_number, member_at, numbers, place_of, is_member, is_tail, table_of, number_in, tail_number, removed, empty_cells, numbered, empty_store}
use Rattle.joins.specs.{is_join_set, is_joining, copies_made, newcomer, newcomer_number, last_number, is_full, beginning, is_copied, handing_on, join_ended, without}
use Rattle.switch.specs.DirtySet.{new_switch}
use Rattle.waiting.specs.Waiting.{held_in, none_wait, look_at}
use Rattle.protocol.specs.declared.Message.TheVariants.{NormalRead, Reply}
use Rattle.protocol.specs.declared.Step.{Step}
use Rattle.protocol.specs.declared.Step.TheVariants.{Advance, Tell, Remove, Join, Copy}
use Rattle.protocol.specs.Answers.{no_freshness}
use Rattle.protocol.specs.Messages.{packet_of}
use Rattle.protocol.specs.Decisions.{refusing, dropping, passing}
use Rattle.protocol.specs.Delivery.{freshness, normal_read}
use Rattle.protocol.specs.Steps.{Machine, machine, chain_advancing, advancing, telling, removing, joining, copying_on, position_of, is_malformed, decided, decided_in, answer_to, after}
use Rattle.protocol.proofs.Points.{Point, point, all_true, all_hold, gives, sends, empty_list}

-- a machine with this store, nothing marked, no operation open and no packet waiting
chained : List ℕ → Machine
chained s = machine (new_switch 1) s none_open empty_list

-- the answer to a step in that machine has this number, 0 for a step that is done
answers : List ℕ → Step → ℕ → Bool
answers s x n = gives (answer_to (chained s) x) n

-- of two replicas; a third joins, and has so many copies
joined_by : ℕ → List ℕ
joined_by made = set (beginning (empty_store 2)) join_cell (made + 1)

-- the last number has been given
used_up : List ℕ → List ℕ
used_up s = set s last_number_cell 255

-- the cell of a join is set and eight are live, as no run has it
overfull_join : List ℕ
overfull_join = set (empty_store 8) join_cell 1

abbrev written : ℕ → Write
written x = record { operation = 1; object = x; value = 9; stamp = stamp_of 1 1 }

pub join_points : List Point
join_points =
    -- 17 'if eight are live or number 255 has been given', then 18 'if a join is under way'
    point 1
    (answers (empty_store 8) Join 17 ∷ answers (used_up (empty_store 2)) Join 17 ∷ answers (used_up (joined_by 0)) Join 17 ∷ answers overfull_join Join 17 ∷
    answers (joined_by 0) Join 18 ∷ answers (empty_store 7) Join 0 ∷ []) ∷
    -- 19 'if none is'; with eight live none is under way
    point 2
    (answers (empty_store 2) Copy 19 ∷ answers (empty_store 8) Copy 19 ∷ answers overfull_join Copy 19 ∷ answers (joined_by 0) Copy 0 ∷ answers (joined_by 15) Copy 0 ∷ []) ∷
    -- the newcomer has the next number, and 'Before that it is not live': tell, advance and remove that name it give 9
    point 3
    (eqb (newcomer_number (joined_by 0)) 3 ∷ eqb (last_number (joined_by 0)) 3 ∷ eqb (live_count (joined_by 0)) 2 ∷ answers (joined_by 15) (Tell 3) 9 ∷
    answers (joined_by 15) (Advance 3) 9 ∷ answers (joined_by 15) (Remove 3) 9 ∷ []) ∷
    -- 'A normal read that reaches a former tail is sent on to the present one', with the stamp that it carries
    point 4
    (sends (normal_read (empty_store 2) 0 1 7 5 3) (NormalRead 2 7 5 3) ∷ sends (normal_read (empty_store 2) 0 2 7 5 0) (Reply 7 0 0 no_freshness) ∷
    eqb (normal_read (joined_by 15) 0 3 7 5 0).edit.add 0 ∷ []) ∷
    -- 'Removing the tail meanwhile ends the join, and the newcomer's number is used up'; the removal of another does not
    point 5
    (not (is_joining (after (chained (joined_by 3)) (Remove 2)).store) ∷ eqb (last_number (after (chained (joined_by 3)) (Remove 2)).store) 3 ∷
    is_joining (after (chained (joined_by 3)) (Remove 1)).store ∷ eqb (newcomer_number (after (chained (joined_by 3)) (Remove 1)).store) 3 ∷
    is_joining (after (chained (joined_by 3)) (Remove 3)).store ∷ []) ∷
    -- a write reaches the newcomer exactly if its object has been copied
    point 6
    (eqb (value_at (handing_on (joined_by 1) (written 63)) 3 63) 9 ∷ eqb (stamp_at (handing_on (joined_by 1) (written 63)) 3 63) (stamp_of 1 1) ∷
    eqb (value_at (handing_on (joined_by 1) (written 64)) 3 64) 0 ∷ eqb (value_at (handing_on (joined_by 0) (written 0)) 3 0) 0 ∷
    eqb (value_at (handing_on (empty_store 2) (written 0)) 3 0) 0 ∷ []) ∷
    []

-- the definitions compute every row, and no row is missing
pub join_points_hold : all_hold 1 6 join_points ≡ true
unfolding join_points is_quorum chain_advancing is_join_set is_read_place is_read_replica read_replica_number chained answers joined_by used_up overfull_join all_hold all_true gives sends empty_list stamp_of number_of counter_of stamp_in set_stamp index_of list_of moves none_open value_cell stamp_cell store_cells live_count order_at number_at members row_of value_at stamp_at tabled member_at numbers place_of is_member is_tail table_of number_in tail_number removed empty_cells numbered empty_store is_joining copies_made newcomer newcomer_number last_number is_full beginning is_copied handing_on join_ended without new_switch held_in none_wait look_at packet_of refusing dropping passing freshness normal_read advancing telling removing joining copying_on position_of is_malformed decided decided_in answer_to after
join_points_hold = refl
