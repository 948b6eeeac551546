-- Document 02, Req 11: what holds of a quorum store in every run. Its executed writes stand in the logs of a majority, its links hold at most 64 items, and they do what the request says.
use mathlib.Core.Path.{◌≡◌, refl, sym, ap, ◌∙◌}
use mathlib.Core.Bool.{true, false}
use mathlib.Core.List.{List, [], ◌∷◌, ◌++◌}
use mathlib.Core.Logic.{◌⊎◌, inl, inr}
use Prim.Native.Nat.{ℕ, ◌+◌, ◌*◌, ◌≤◌, ◌<◌}
use native.Mathlib.Omega.{arith}
use lib.Dec.{eqb, leb, ltb}
use lib.ListN.{length, length-append}
use borrow.Author.Tests.{eqb-false, leb-true, lt-ltb}
use Rattle.limits.specs as limits
use Rattle.lists.proofs.Tests.{by_test, both}
use Rattle.history.specs.History.{◌∈◌, History}
use Rattle.history.proofs.Entries.{Entry}
use Rattle.stamp.specs.Stamps.{is_above}
use Rattle.store.specs.declared.Write.{Write}
use Rattle.store.specs.{live_count, members, applied_by, entry_at, is_quorum}
use Rattle.chain.specs.{head_of, is_member, table_of}
use Rattle.replicas.specs.Replicas.{applying}
use Rattle.replicas.proofs.Cells.{row_apart, members_applying, applied_applying_other}
use Rattle.quorum.specs.{logged_by, acknowledged_by, linked_items, last_logged, unexecuted, logs, count_logged, logging, next_is_entry, next_entry, count_of, executes, executing}
use Rattle.quorum.specs.Links.{entry, executed, link_to}
use Rattle.quorum.proofs.Counts.{count_most}
use Rattle.quorum.proofs.Cells.{same_counted, logged_counted_other, logged_behind, applying_behind}
use Rattle.waiting.specs.declared.Packet.{Packet}
use Rattle.protocol.specs.declared.Answer.TheVariants.{Done}
use Rattle.protocol.specs.declared.Message.TheVariants.{StampedWrite}
use Rattle.protocol.specs.declared.Setup.{Setup}
use Rattle.protocol.specs.declared.Step.{Step}
use Rattle.protocol.specs.declared.Step.TheVariants.{Advance, Execute}
use Rattle.protocol.specs.Starts.{start_refused}
use Rattle.protocol.specs.Roles.{Role}
use Rattle.protocol.specs.Decisions.{Outcome, Stored, changing_store, refusing, overfull}
use Rattle.protocol.specs.Steps.{Machine, new_store, started, given_by, outcome_of, follower_advancing, advancing, executing_on, decided, is_malformed, decided_in, answer_to, after}
use Rattle.protocol.proofs.Effects.{StoreEffect, store_kept, takes, takes_as_tail, applies, applies_as_tail, permits, removes, joins, copies, leader_logs, leader_hears, follower_logs, follower_executes, leader_executes, effect}
use Rattle.write_log.proofs.Quorum.{executed_logged, shows_entry_taken, shows_stamp_taken}
use Rattle.write_log.proofs.Leader.{above_logged}
use Rattle.write_log.proofs.StoreKind.{SameKind, kind_applying, kind_taking, kind_handing, kind_permitting, kind_beginning, kind_copying, kind_without, kind_counted, kind_acknowledging, kind_logging, kind_executing}
use Rattle.write_log.proofs.QuorumHolds.{QuorumHolds, follower, left, logs_one}
use Rattle.write_log.proofs.QuorumLinks.{link_within, link_kept, link_logging, link_executing, link_entry_taken, link_stamp_taken}
use Rattle.linearizability.proofs.Bounds.{log_bounded}
use Rattle.linearizability.proofs.Logged.{logged_accept}
use Rattle.linearizability.proofs.Waits.{messages}
use Rattle.linearizability.proofs.Invariant.{ReplicasHold, chain_held, Good}
use Rattle.linearizability.proofs.Deliveries.{log_small}
use Rattle.linearizability.proofs.QuorumMoves.{table_in_lem}
use Rattle.linearizability.specs.Run.{history_of}
use Rattle.linearizability.proofs.OneOrder.{order_from, good_start, good_after}
use Rattle.linearizability.proofs.Limits.{reached, machine_of, good_run, quorum_run, operations_within}
use Rattle.linearizability.proofs.NewTail.{refused}

-- ---- the kind of store

kind_of_lem : {s : List ℕ} {log : List Write} {n : ℕ} → ReplicasHold s log n → {k : Role} {t : List ℕ} → StoreEffect k s t → SameKind s t
kind_of_lem h store_kept = refl
kind_of_lem {s} h (permits r number member) = kind_permitting s (table_of s r) number
kind_of_lem {s} h (takes r w chain member) = kind_taking s (table_of s r) w
kind_of_lem {s} h (takes_as_tail r w chain member) = kind_handing _ w ∙ kind_taking s (table_of s r) w
kind_of_lem {s} h (applies r w chain member) = kind_applying s (table_of s r) w
kind_of_lem {s} h (applies_as_tail r w chain member) = kind_handing _ w ∙ kind_applying s (table_of s r) w
kind_of_lem {s} h (removes r chain e member) = let k = chain_held chain h in kind_without k.shown k.joined r member
kind_of_lem {s} h (joins chain room none) = kind_beginning s
kind_of_lem {s} h (copies chain e under) = kind_copying s
kind_of_lem {s} h (leader_logs w quorum accepted) = kind_logging s w
kind_of_lem {s} h (leader_hears r k quorum member) = kind_acknowledging s (table_of s r) k
kind_of_lem {s} h (follower_logs r quorum member some is) = kind_counted s (table_of s r)
kind_of_lem {s} h (follower_executes r quorum member some stamp) = kind_applying s (table_of s r) (next_entry s (table_of s r))
kind_of_lem {s} h (leader_executes quorum can) = kind_executing s

kind_reached : {m : Machine} {h : History} {es : List Entry} → Good m h es → (xs : List Step) → SameKind m.store (reached m xs).store
unfolding after
kind_reached g [] = refl
kind_reached {m} g (x ∷ xs) = kind_reached {m = after m x} (good_after g x) xs ∙ kind_of_lem g.replicas (effect m x).store

-- the store of a run is of the kind of its start
pub kind_run : (b : Setup) → start_refused b ≡ false → (row : List Packet) (xs : List Step) → is_quorum (machine_of b row xs).store ≡ is_quorum (new_store b)
unfolding started
kind_run b starts row xs = kind_reached (good_start b starts row) xs

-- ---- the steps of a quorum store that are done

-- the leader has executed a write that a majority holds
abbrev Executed : List ℕ → Outcome → Type 0
Executed s u = u.decision.answer ≡ Done → (executes s ≡ true) × (u.store ≡ executing s)

executed_by : (m : Machine) → Executed m.store (outcome_of m Execute)
unfolding decided_in decided executing_on refusing
executed_by m =
    both P (is_malformed Execute) refused
    (both P (ltb (length m.waiting.packets) limits.waiting) refused
    (both Q (is_quorum m.store) (by_test Q (executes m.store) (λ can. both Q (overfull _ 0 2) refused (λ e. (can, refl))) (λ cannot. refused)) refused))
  where
    P : Outcome → Type 0
    P = Executed m.store

    Q : Stored → Type 0
    Q u = P (changing_store (given_by m) u)

-- a follower has taken the oldest item of its link
abbrev Took : List ℕ → ℕ → Outcome → Type 0
Took s r u = u.decision.answer ≡ Done → (is_member s r ≡ true) × (0 < linked_items s (table_of s r))
    × (((next_is_entry s (table_of s r) ≡ true) × (u.store ≡ count_logged s (table_of s r)))
    ⊎ ((next_is_entry s (table_of s r) ≡ false) × (u.store ≡ applying s (table_of s r) (next_entry s (table_of s r)))))

took_by : (m : Machine) (r : ℕ) → is_quorum m.store ≡ true → Took m.store r (outcome_of m (Advance r))
unfolding decided_in decided advancing follower_advancing refusing
took_by m r quorum =
    both P (is_malformed (Advance r)) refused
    (both P (ltb (length m.waiting.packets) limits.waiting) refused
    (rw quorum
    (by_test Q (is_member m.store r)
    (λ member. by_test Q (eqb (linked_items m.store table) 0) (λ none. refused)
    (λ some.
    let items : 0 < linked_items m.store table = omega (arith, eqb-false (linked_items m.store table) 0 some) in
    by_test Q (next_is_entry m.store table)
    (λ is. both Q (overfull _ 0 1) refused (λ e. (member, items, inl (is, refl))))
    (λ stamp e. (member, items, inr (stamp, refl)))))
    (λ gone. refused))))
  where
    table : ℕ
    table = table_of m.store r

    P : Outcome → Type 0
    P = Took m.store r

    Q : Stored → Type 0
    Q u = P (changing_store (given_by m) u)

-- FOR EVERY START THAT IS NOT REFUSED, EVERY LENT ROW OF PLACES AND EVERY LIST OF STEPS, refused ones included, of a quorum store
module _ (b : Setup) (starts : start_refused b ≡ false) (row : List Packet) (xs : List Step) (quorum : is_quorum (machine_of b row xs).store ≡ true) where
  abbrev m : Machine
  m = machine_of b row xs

  abbrev s : List ℕ
  s = m.store

  abbrev g : Good m (history_of b row xs) (order_from (started b row) [] [] xs)
  g = good_run b starts row xs

  k : QuorumHolds s g.log g.n
  k = quorum_run b starts row xs quorum

  head_is : head_of s ≡ k.lead
  head_is = k.shown.leads

  executed_count : applied_by s (head_of s) ≡ g.n
  executed_count = ap (applied_by s) head_is ∙ k.shown.leader_executed

  -- EVERY WRITE THAT THE LEADER HAS EXECUTED STANDS IN THE LOGS OF A MAJORITY
  pub executed_by_majority : (p : ℕ) → p < applied_by s (head_of s) → live_count s < 2 * count_of (λ r. ltb p (logged_by s r)) (members s)
  executed_by_majority p below =
      let most = count_most (λ r. leb g.n (logged_by s r)) (λ r. ltb p (logged_by s r)) (members s)
      (λ r i e. lt-ltb p (logged_by s r) (omega (arith, below, executed_count, leb-true g.n (logged_by s r) e))) in
      omega (arith, k.majority, most)

  -- 'at most 64 unexecuted'
  pub unexecuted_within : unexecuted s ≤ 64
  unfolding unexecuted
  unexecuted_within = omega (arith, ap (logged_by s) head_is, ap (applied_by s) head_is, (executed_logged k.shown k.lead k.shown.lead_in).1)

  -- 'an ordered link of 64 entries and executed stamps'
  pub quorum_link_within : (r : ℕ) → r ∈ members s → length (link_to s r) ≤ 64
  quorum_link_within r i = link_within k.shown r i

  -- no replica has executed what it has not logged, and none is known to have logged more than it has
  pub executed_are_logged : (r : ℕ) → r ∈ members s → applied_by s r ≤ logged_by s r
  executed_are_logged r i = (executed_logged k.shown r i).0

  pub acknowledged_are_logged : (r : ℕ) → r ∈ members s → acknowledged_by s r ≤ logged_by s r
  acknowledged_are_logged r i = k.shown.known r i

  -- before the leader logs a write, its log is shorter than the operations are many: the test of the log's last position turns no write down in a run
  pub logging_never_out : (r : ℕ) (w : Write) → StampedWrite r w ∈ messages m.waiting → is_above w.stamp (last_logged s) ≡ true → logged_by s (head_of s) < limits.last_position
  logging_never_out r w i above =
      let later = logged_accept g.logged w (g.core.packets.fine (StampedWrite r w) i) refl (above_logged k.shown w.stamp above) in
      omega (
        arith,
        operations_within b starts row xs,
        g.books.numbered,
        log_bounded g.core.visible g.books.bounded later,
        length-append g.log (w ∷ []),
        ap (logged_by s) head_is,
        k.shown.leader_logged,
      )

  -- ---- what becomes of the links

  -- 'sends each down an ordered link .. to every follower': a write that the leader logs (crates/protocol/specs/Delivery.antt, `leader_write`)
  pub logged_to_all : (w : Write) → logs s w.stamp ≡ true → (r : ℕ) → r ∈ members s → (r ≡ head_of s → ⊥) → link_to (logging s w) r ≡ link_to s r ++ entry w ∷ []
  logged_to_all w accepted r i d = link_logging k.shown r i (λ e. d (e ∙ sym head_is)) w accepted

  -- 'put its executed stamp in every link'
  pub executed_to_all : answer_to m Execute ≡ Done → (r : ℕ) → r ∈ members s → (r ≡ head_of s → ⊥) → link_to (after m Execute).store r ≡ link_to s r ++ executed (next_entry s (head_of s)).stamp ∷ []
  unfolding answer_to after
  executed_to_all done r i d =
      let t = executed_by m done in
      rw t.1 (link_executing k.shown r i (λ e. d (e ∙ sym head_is)) t.0 g.logged.rising (log_small g))

  -- the step advance, done of the replica with number r
  module _ (r : ℕ) (done : answer_to m (Advance r) ≡ Done) where
    abbrev table : ℕ
    table = table_of s r

    abbrev t : List ℕ
    t = (after m (Advance r)).store

    took : Took s r (outcome_of m (Advance r))
    took = took_by m r quorum

    i : table ∈ members s
    unfolding answer_to
    i = table_in_lem s r (took done).0

    -- 'Advancing a follower logs the entry', the next of the log; 'a follower executes up to that stamp on taking it': the item leaves the front of its link
    pub item_taken : ((link_to s table ≡ entry (entry_at s (logged_by s table)) ∷ link_to t table) × (logged_by t table ≡ logged_by s table + 1))
        ⊎ ((link_to s table ≡ executed (next_entry s table).stamp ∷ link_to t table) × (t ≡ applying s table (next_entry s table)))
    unfolding answer_to after
    item_taken =
        let (member, some, which) = took done in
        let d = follower k table i some in
        let more = left k table i some in
        elim which [
          | inl (is, store) ↦ inl (rw store (link_entry_taken k.shown table i d more is), rw store (logs_one k table i some is))
          | inr (is, store) ↦ inr (rw store (link_stamp_taken k.shown table i d more is g.logged.rising (log_small g)), store)
        ]

    -- and the links of the other followers stay
    pub other_items_stay : (q : ℕ) → q ∈ members s → (q ≡ table → ⊥) → link_to t q ≡ link_to s q
    unfolding answer_to after
    other_items_stay q j other =
        let (member, some, which) = took done in
        let d = follower k table i some in
        let more = left k table i some in
        let rows = row_apart q table (k.shown.named q j) (k.shown.named table i) other in
        elim which [
          | inl (is, store) ↦ rw store
              (link_kept k.shown (shows_entry_taken k.shown table i d more is) q j (same_counted s table).members_are (logged_counted_other s table q rows) ((same_counted s table).applied_is q))
          | inr (is, store) ↦
              let w = next_entry s table in
              rw store
              (link_kept k.shown (shows_stamp_taken k.shown table i d more is g.logged.rising (log_small g)) q j (members_applying s table w)
              (logged_behind s (applying s table w) (applying_behind s table w) q) (applied_applying_other s table w q rows))
        ]
