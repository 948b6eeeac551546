-- What a run cannot reach: the waiting list, the links, the open operations, the operation numbers, the counter and the log's positions keep their limits. And the stored number of
-- counting marks is the count over the slots.
use mathlib.Core.Path.{◌≡◌, refl, ap, ◌∙◌}
use mathlib.Core.Bool.{true, false}
use mathlib.Core.List.{List, [], ◌∷◌}
use Prim.Native.Nat.{ℕ, ◌+◌, ◌≤◌, ◌<◌}
use native.Mathlib.Omega.{arith}
use lib.ListN.{length, length-append}
use Rattle.limits.specs as limits
use Rattle.history.specs.History.{◌∈◌, History}
use Rattle.history.proofs.Entries.{Entry}
use Rattle.switch.specs.Numbers.{counter_in, marks_in}
use Rattle.switch.specs.DirtySet.{counted_marks}
use Rattle.operations.specs.{open_cells, open_count, last_given}
use Rattle.operations.proofs.Laws as operations
use Rattle.stamp.specs.Stamps.{is_above}
use Rattle.stamp.proofs.Laws.{above_true}
use Rattle.store.specs.declared.Write.{Write}
use Rattle.store.specs.{highest_of, applied_by, is_quorum}
use Rattle.chain.specs.{head_of, is_live, is_member, table_of}
use Rattle.chain.proofs.Members.{live_in}
use Rattle.replicas.specs.Replicas.{linked_writes}
use Rattle.waiting.specs.declared.Packet.{Packet}
use Rattle.waiting.specs.Waiting.{held}
use Rattle.waiting.proofs.Laws as waiting
use Rattle.protocol.specs.declared.Setup.{Setup}
use Rattle.protocol.specs.Starts.{start_refused}
use Rattle.protocol.specs.declared.Message.TheVariants.{UnstampedWrite, StampedWrite}
use Rattle.protocol.specs.declared.Step.{Step}
use Rattle.protocol.specs.Steps.{Machine, after, stepped_by, started}
use Rattle.write_log.proofs.Log.{top}
use Rattle.write_log.proofs.Shows.{applied_between, head_highest, linked_is}
use Rattle.write_log.proofs.Tables.{at_head_first}
use Rattle.write_log.proofs.Quorum.{executed_low}
use Rattle.write_log.proofs.QuorumHolds.{QuorumHolds}
use Rattle.linearizability.specs.Run.{history_from, history_of}
use Rattle.linearizability.proofs.Packets.{unstamped, unstamped_in}
use Rattle.linearizability.proofs.Bounds.{log_bounded}
use Rattle.linearizability.proofs.Logged.{logged_accept}
use Rattle.linearizability.proofs.Waits.{messages}
use Rattle.linearizability.proofs.Invariant.{ChainHolds, ReplicasHold, in_chain, in_quorum, chain_held, quorum_held, Good}
use Rattle.linearizability.proofs.OneOrder.{order_from, good_start, good_after}

-- the machine reached by these steps, from m and from the empty store that a start gives
abbrev pub reached : Machine → List Step → Machine
reached m [] = m
reached m (x ∷ xs) = reached (after m x) xs

abbrev pub machine_of : Setup → List Packet → List Step → Machine
machine_of b row xs = reached (started b row) xs

-- every run keeps the invariant
pub good_reached : {m : Machine} {h : History} {es : List Entry} → Good m h es → (xs : List Step) → Good (reached m xs) (history_from m h xs) (order_from m h es xs)
good_reached g [] = g
good_reached {m} {h} {es} g (x ∷ xs) = good_reached {m = after m x} (good_after g x) xs

-- how many writes a live replica has applied, or executed
applied_most : {s : List ℕ} {log : List Write} {n : ℕ} → ReplicasHold s log n → n ≤ length log → (r : ℕ) → is_live s r ≡ true → applied_by s r ≤ length log
applied_most (in_chain k) fits r live = (applied_between k.shown r live).1
applied_most {s} (in_quorum k) fits r live = omega (arith, executed_low k.shown r (live_in s r live), fits)

-- FOR EVERY START THAT IS NOT REFUSED, EVERY LENT ROW OF PLACES AND EVERY LIST OF STEPS, refused ones included
module _ (b : Setup) (starts : start_refused b ≡ false) (row : List Packet) (xs : List Step) where
  pub good_run : Good (machine_of b row xs) (history_of b row xs) (order_from (started b row) [] [] xs)
  good_run = good_reached (good_start b starts row) xs

  -- what holds of its replicas, in a chain and in a quorum store
  pub held_run : is_quorum (machine_of b row xs).store ≡ false → ChainHolds (machine_of b row xs).store good_run.log good_run.n
  held_run chain = chain_held chain good_run.replicas

  pub quorum_run : is_quorum (machine_of b row xs).store ≡ true → QuorumHolds (machine_of b row xs).store good_run.log good_run.n
  quorum_run quorum = quorum_held quorum good_run.replicas

  -- 'at most 64 packets', and the count that a step hands back is how many wait
  pub waiting_within : held (machine_of b row xs).waiting ≤ 64
  waiting_within = waiting.held_most (machine_of b row xs).waiting

  pub count_is : (machine_of b row xs).waiting.count ≡ held (machine_of b row xs).waiting
  count_is = waiting.exact_held (machine_of b row xs).waiting good_run.exact

  -- 'All links together hold at most 64 writes'
  pub linked_within : is_quorum (machine_of b row xs).store ≡ false → linked_writes (machine_of b row xs).store ≤ 64
  linked_within chain = omega (arith, linked_is (held_run chain).shown, (held_run chain).shown.room)

  -- 'at most 64 are open', none twice, and there is a cell for each
  pub open_within : open_count (machine_of b row xs).opens ≤ 64
  open_within = operations.count_most (machine_of b row xs).opens

  pub open_once : operations.OpenOnce (machine_of b row xs).opens
  open_once = good_run.books.open_numbers_lem.once

  pub open_cells_lem : length (machine_of b row xs).opens ≡ open_cells
  open_cells_lem = good_run.books.open_numbers_lem.sized

  -- Req 07: operations are numbered from 1 to 4,294,967,295
  pub operations_within : last_given (machine_of b row xs).opens ≤ limits.last_operation
  operations_within = good_run.books.few

  -- the counter and the unstamped writes that wait are at most as many as the operations
  pub counter_within : counter_in (machine_of b row xs).switch + unstamped (messages (machine_of b row xs).waiting) ≤ last_given (machine_of b row xs).opens
  counter_within = good_run.counted

  -- so while an unstamped write waits, the counter is not at its last number: no run comes to the rule for that
  pub counter_never_out : (o x v : ℕ) → UnstampedWrite o x v ∈ messages (machine_of b row xs).waiting → counter_in (machine_of b row xs).switch < limits.last_counter
  counter_never_out o x v i = omega (arith, operations_within, counter_within, unstamped_in (messages (machine_of b row xs).waiting) i)

  -- Req 03: the stored number 'must equal the count over the slots after every step of a run'
  pub marks_counted : marks_in (machine_of b row xs).switch ≡ counted_marks (machine_of b row xs).switch
  marks_counted = good_run.switch_holds.invariant.stored

  -- so 'In a run printed numbers are as before': what any further step hands back is the count over the slots after it
  pub marks_handed_back : (x : Step) → (stepped_by (machine_of b row xs) x).marks ≡ counted_marks (after (machine_of b row xs) x).switch
  marks_handed_back x = (good_after good_run x).switch_holds.invariant.stored

  -- a live replica has applied no more writes than there are operations ..
  pub positions_within : (r : ℕ) → is_live (machine_of b row xs).store r ≡ true → applied_by (machine_of b row xs).store r ≤ last_given (machine_of b row xs).opens
  positions_within r live =
      omega (arith, applied_most good_run.replicas good_run.logged.fits r live, log_bounded good_run.core.visible good_run.books.bounded good_run.logged, good_run.books.numbered)

  -- .. and before it takes a write, fewer than that: the test of the log's last position turns no write down in a run
  pub position_never_out : is_quorum (machine_of b row xs).store ≡ false → (r : ℕ) (w : Write) → StampedWrite r w ∈ messages (machine_of b row xs).waiting → is_member (machine_of b row xs).store r ≡ true
      → is_above w.stamp (highest_of (machine_of b row xs).store (table_of (machine_of b row xs).store r)) ≡ true
      → applied_by (machine_of b row xs).store (table_of (machine_of b row xs).store r) < limits.last_position
  position_never_out chain r w i member above =
      let g = good_run in
      let s = (machine_of b row xs).store in
      let first : table_of s r ≡ head_of s = at_head_first s r (g.posted (StampedWrite r w) i).0 member in
      let highest : highest_of s (table_of s r) ≡ top 0 g.log = ap (highest_of s) first ∙ head_highest (held_run chain).shown in
      let later = logged_accept g.logged w (g.core.packets.fine (StampedWrite r w) i) refl (omega (arith, highest, above_true w.stamp (highest_of s (table_of s r)) above)) in
      omega (
        arith,
        operations_within,
        g.books.numbered,
        log_bounded g.core.visible g.books.bounded later,
        length-append g.log (w ∷ []),
        ap (applied_by s) first,
        (held_run chain).shown.head_has,
      )
