-- Every delivery keeps the invariant: a case for each kind of message.
use mathlib.Core.Path.{◌≡◌, refl, sym, ap, ◌∙◌}
use mathlib.Core.Bool.{Bool, true, false, cond}
use mathlib.Core.List.{List, [], ◌∷◌, ◌++◌}
use Prim.Native.Nat.{ℕ, ◌+◌, ◌≤◌, ◌<◌}
use native.Mathlib.Omega.{arith}
use lib.Dec.{eqb}
use lib.ListN.{take}
use borrow.Author.Tests.{eqb-true, eqb-false}
use Rattle.lists.proofs.Tests.{by_test, both, two_pass}
use Rattle.history.specs.History.{◌∈◌, reads, History, begun}
use Rattle.history.proofs.Lists.{here}
use Rattle.history.proofs.Entries.{Entry}
use Rattle.stamp.specs.Stamps.{stamp_of}
use Rattle.stamp.proofs.Laws.{larger_is}
use Rattle.lists.specs.{all_of}
use Rattle.lists.proofs.AllOf.{all_member}
use Rattle.switch.specs.Numbers.{number_in, counter_in, committed_in, direct_in}
use Rattle.switch.specs.DirtySet.{looked_up, marked, stamp_for, completed}
use Rattle.switch.proofs.Laws.{SizedSwitch, marked_committed, marked_counter, completed_committed, completed_counter}
use Rattle.operations.specs.{is_open}
use Rattle.store.specs.declared.Write.{Write}
use Rattle.store.specs.{value_at, stamp_at}
use Rattle.chain.specs.{is_member, is_tail, table_of, head_number, chosen_by, all_permit}
use Rattle.replicas.specs.Replicas.{accepts}
use Rattle.quorum.specs.{logs}
use Rattle.chain.proofs.Numbers.{table_live, tail_table}
use Rattle.waiting.specs.Waiting.{held}
use Rattle.protocol.specs.Answers.{no_freshness}
use Rattle.protocol.specs.declared.Decision.{Decision}
use Rattle.protocol.specs.declared.Message.{Message}
use Rattle.protocol.specs.declared.Message.TheVariants.{UnstampedWrite, SwitchRead, StampedWrite, DirectRead, NormalRead, Completion, Reply, ContextRead, DirectContext, NormalContext, ContextReply, Acknowledgement, Unknown}
use Rattle.protocol.specs.declared.Refusal.TheVariants.{WaitingFull}
use Rattle.protocol.specs.declared.Step.TheVariants.{Deliver}
use Rattle.protocol.specs.Decisions.{Switched, Stored, Opened, switched, stored, dropping, keeping, changing_switch, changing_store, changing_opens, overfull}
use Rattle.protocol.specs.Contexts.{context_read, direct_context, normal_context, context_reply}
use Rattle.protocol.specs.Delivery.{stamping, unstamped_write, switch_read, chain_write, leader_write, stamped_write, acknowledgement, direct_read, freshness, normal_read, completion, reply, delivered_message}
use Rattle.protocol.specs.Steps.{Machine, given_by}
use Rattle.protocol.proofs.Freshness.{new_from}
use Rattle.write_log.proofs.Log.{stamps}
use Rattle.write_log.proofs.Tables.{at_head_first, table_not_tail}
use Rattle.linearizability.proofs.Logged.{logged_stamp}
use Rattle.linearizability.proofs.Packets.{row_numbers, Direct}
use Rattle.linearizability.proofs.Core.{core_normal, context_now, core_passes, core_commit, core_stamp}
use Rattle.linearizability.proofs.Waits.{front, back, Stands}
use Rattle.linearizability.proofs.SwitchLaws.{unmarked_low, holds_completed, holds_dropped, holds_marked}
use Rattle.linearizability.proofs.Invariant.{one_chain, only, ChainCore, Good, good_refused}
use Rattle.chain.specs.{is_read_replica, read_replica_number}
use Rattle.protocol.specs.Reads.{is_unmarked, goes_directly, answers_read}
use Rattle.linearizability.proofs.Invariant.{ReplicasHold, in_chain, in_quorum, quorum_held}
use Rattle.linearizability.proofs.Replicas.{sent_placed, chosen_given, read_given, read_is, direct_answered, context_answered}
use Rattle.linearizability.proofs.Deliveries.{After, rest, whole, fine, placed, lost, fewer, good_switched, good_passed, good_answered, good_sent, good_moved, good_values, good_freed, good_dropped, good_finished, good_context, good_ignored, visible_given, not_later}
use Rattle.linearizability.proofs.ChainMoves.{good_taken, good_taken_lone}
use Rattle.linearizability.proofs.QuorumMoves.{good_logged, good_heard}

-- a read that goes directly: direct reads are on, and none of its objects has a counting mark
goes_on_lem : (w xs : List ℕ) → goes_directly w xs ≡ true → direct_in w ≡ true
unfolding goes_directly
goes_on_lem w xs e = (two_pass (direct_in w) (all_of (is_unmarked w) xs) e).0

goes_unmarked : (w xs : List ℕ) → goes_directly w xs ≡ true → (x : ℕ) → x ∈ xs → looked_up w x ≡ 0
unfolding goes_directly is_unmarked
goes_unmarked w xs e x i = eqb-true (looked_up w x) 0 (all_member (is_unmarked w) xs x (two_pass (direct_in w) (all_of (is_unmarked w) xs) e).1 i)

-- THE MARKS: no write to its objects was ever stamped above the stamp that it carries
direct_passes : {m : Machine} {h : History} {es : List Entry} (g : Good m h es) (o : ℕ) (xs : List ℕ) → goes_directly m.switch xs ≡ true
    → Direct one_chain h es (only (take g.n g.log)) (committed_in m.switch) o xs
direct_passes {m} g o xs clean =
    core_passes g.core o 0 (committed_in m.switch) xs (λ y j. refl) (g.core.low 0)
    (λ u k j. unmarked_low g.switch_holds (goes_on_lem m.switch xs clean) u.object (goes_unmarked m.switch xs clean u.object j) u k refl)

pub good_message : {m : Machine} {h : History} {es : List Entry} (g : Good m h es) {at : ℕ} (choice : ℕ) (msg : Message) (i : Stands m.waiting at msg)
    → After g choice i (delivered_message (given_by m) at choice msg)
unfolding delivered_message stamping unstamped_write switch_read chain_write leader_write stamped_write acknowledgement direct_read normal_read completion context_read direct_context normal_context context_reply rest
good_message {m} {h} {es} g {at} choice (UnstampedWrite o x v) i =
    by_test (λ (u : Switched). After g choice i (changing_switch (given_by m) u)) (all_permit m.store (number_in m.switch))
    (λ e. by_test (λ (d : Decision). After g choice i (changing_switch (given_by m) (switched d (marked m.switch x)))) (eqb (stamp_for m.switch x) 0)
    (λ none. good_switched g choice i (marked m.switch x) (rw (marked_committed m.switch x) (lost g choice i))
    (omega (arith, counter true none)) (holds_dropped g.switch_holds x low (eqb-true (stamp_for m.switch x) 0 none)))
    (λ some. good_passed g choice i (marked m.switch x) (StampedWrite (head_number m.store) w) (g.issued ++ w ∷ [])
    (rw (marked_committed m.switch x) (core_stamp (front at m.waiting) (back at m.waiting) w (head_number m.store) (whole g choice i))) (logged_stamp g.logged w)
    (sent_placed g.replicas, (sent_placed g.replicas).1) refl (omega (arith, counter false some))
    (holds_marked g.switch_holds x low (eqb-false (stamp_for m.switch x) 0 some) (omega (arith, fewer g choice i, g.books.few)) w refl refl)))
    (λ e. good_dropped g choice i)
  where
    w : Write
    w = record { operation = o; object = x; value = v; stamp = stamp_for m.switch x }

    low : committed_in m.switch ≤ stamp_of (number_in m.switch) (counter_in m.switch)
    low = omega (arith, g.core.low x, visible_given g)

    counter : (b : Bool) → eqb (stamp_for m.switch x) 0 ≡ b → counter_in (marked m.switch x) ≡ cond b (counter_in m.switch) (counter_in m.switch + 1)
    counter b e = marked_counter m.switch x g.switch_holds.invariant.sized ∙ ap (λ (c : Bool). cond c (counter_in m.switch) (counter_in m.switch + 1)) e
good_message {m} {h} {es} g {at} choice (SwitchRead o x) i =
    by_test (λ (d : Decision). After g choice i (keeping (given_by m) d)) (goes_directly m.switch (x ∷ []))
    (λ clean. good_sent g choice i (DirectRead (chosen_by m.store choice) (number_in m.switch) (committed_in m.switch) o x) (fine g choice i, direct_passes g o (x ∷ []) clean) (λ p q. q) (λ p q. q) (tt, chosen_given g.replicas choice))
    (λ slow. good_sent g choice i (NormalRead (read_replica_number m.store) o x (looked_up m.switch x)) (fine g choice i) (λ p q. q) (λ p q. q) (tt, read_given g.replicas))
good_message {m} {h} {es} g {at} choice (StampedWrite r w) i = go g.replicas
  where
    P : Stored → Type 0
    P u = After g choice i (changing_store (given_by m) u)

    go : ReplicasHold m.store g.log g.n → P (stamped_write m.store (held m.waiting) at r w)
    go (in_quorum k) =
        rw k.kind
        (by_test (λ (s : List ℕ). P (stored (dropping at) s)) (logs m.store w.stamp)
        (λ accepted. good_logged g k choice i w accepted (fine g choice i))
        (λ old. good_dropped g choice i))
    go (in_chain k) =
        rw k.kind
        (by_test P (is_member m.store r)
        (λ member. by_test P (accepts m.store (table_of m.store r) w.stamp)
        (λ taken.
        let table = table_of m.store r in
        let first = at_head_first m.store r (placed g choice i).0 member in
        let known = fine g choice i in
        by_test P (is_tail m.store r)
        (λ e. by_test P (overfull (held m.waiting) 1 2)
        (λ full. good_refused (Deliver at choice) WaitingFull g)
        (λ roomy. good_taken_lone g k choice i table w taken first known (tail_table m.store r e) roomy))
        (λ e. good_taken g k choice i table w taken first known (table_not_tail m.store r k.shown.falls member e)))
        (λ e. good_dropped g choice i))
        (λ gone. good_dropped g choice i))
good_message {m} {h} {es} g {at} choice (DirectRead r number t o x) i =
    by_test P (is_member m.store r)
    (λ member. by_test P (answers_read m.store table number t (x ∷ []))
    (λ yes'. good_answered g choice i (Reply o (value_at m.store table x) 0 no_freshness)
    (direct_answered (lost g choice i) g.logged table number t o (table_live m.store r member) g.replicas x yes' small f) (tt, omega arith) refl)
    (λ no'. good_sent g choice i (NormalRead (read_replica_number m.store) o x 0) f.0 (λ p q. q) (λ p q. q) (tt, read_given g.replicas)))
    (λ gone. good_dropped g choice i)
  where
    P : Decision → Type 0
    P d = After g choice i (keeping (given_by m) d)

    table : ℕ
    table = table_of m.store r

    f : (begun o (reads (x ∷ [])) ∈ h) × Direct one_chain h es (only (take g.n g.log)) t o (x ∷ [])
    f = fine g choice i

    small : x < 1024
    small = g.books.ranged o (reads (x ∷ [])) f.0 x (here refl)
good_message {m} {h} {es} g {at} choice (NormalRead r o x c) i =
    both P (is_member m.store r)
    (by_test P (is_read_replica m.store r)
    (λ e. good_answered g choice i (Reply o (value_at m.store table x) c (freshness (stamp_at m.store table x) c)) (answered e) (tt, omega arith) refl)
    (λ former. good_sent g choice i (NormalRead (read_replica_number m.store) o x c) f (λ p q. q) (λ p q. q) (tt, read_given g.replicas)))
    (good_dropped g choice i)
  where
    P : Decision → Type 0
    P d = After g choice i (keeping (given_by m) d)

    table : ℕ
    table = table_of m.store r

    f : begun o (reads (x ∷ [])) ∈ h
    f = fine g choice i

    small : x < 1024
    small = g.books.ranged o (reads (x ∷ [])) f x (here refl)

    answered : is_read_replica m.store r ≡ true
        → ChainCore h es g.issued g.log g.n (rest g choice i ++ Reply o (value_at m.store table x) c (freshness (stamp_at m.store table x) c) ∷ []) (committed_in m.switch) m.opens
    answered e =
        let has = read_is g.replicas r e x small in
        rw (has.0, has.1)
        (core_normal (lost g choice i) o x c (freshness (stamps (take g.n g.log) x) c) f (new_from (stamps (take g.n g.log) x) c))
good_message {m} {h} {es} g {at} choice (Completion x t) i =
    good_switched g choice i (completed m.switch x t)
    (core_commit (lost g choice i) (λ d. committed_in (completed m.switch x t))
    (λ y. omega (arith, completed_committed m.switch x t sized, larger_is (committed_in m.switch) t, g.core.low y, fine g choice i)))
    (omega (arith, completed_counter m.switch x t sized))
    (holds_completed g.switch_holds x t (not_later g (committed_in m.switch) (g.core.low x)) (not_later g t (fine g choice i)))
  where
    sized : SizedSwitch m.switch
    sized = g.switch_holds.invariant.sized
good_message {m} {h} {es} g {at} choice (Reply o v c f) i = go (is_open m.opens o) refl
  where
    go : (b : Bool) → is_open m.opens o ≡ b → After g choice i (changing_opens (given_by m) (reply m.opens at o v f))
    go true e = good_finished g choice i o v c f refl e
    go false e = good_ignored g choice i o v f e
good_message {m} {h} {es} g {at} choice (ContextRead o r) i =
    by_test (λ (u : Opened). After g choice i (changing_opens (given_by m) u)) (goes_directly m.switch (row_numbers m.opens r))
    (λ clean. good_moved g choice i r refl (DirectContext (chosen_by m.store choice) (number_in m.switch) (committed_in m.switch) o r) (fine g choice i, direct_passes g o (row_numbers m.opens r) clean)
    (λ p q. q) (λ s e. sym e) (tt, chosen_given g.replicas choice))
    (λ dirty. good_moved g choice i r refl (NormalContext (read_replica_number m.store) o r) (fine g choice i) (λ p q. q) (λ s e. sym e) (tt, read_given g.replicas))
good_message {m} {h} {es} g {at} choice (DirectContext q number t o r) i =
    by_test P (is_member m.store q)
    (λ member. by_test P (answers_read m.store table number t xs)
    (λ yes'. good_values g choice i r refl table o
    (context_answered g.core g.logged table number t o (table_live m.store q member) g.replicas xs yes' (g.books.ranged o (reads xs) f.0) f))
    (λ no'. good_moved g choice i r refl (NormalContext (read_replica_number m.store) o r) f.0 (λ p q. q) (λ s e. sym e) (tt, read_given g.replicas)))
    (λ gone. good_freed g choice i r refl)
  where
    P : Opened → Type 0
    P u = After g choice i (changing_opens (given_by m) u)

    table : ℕ
    table = table_of m.store q

    xs : List ℕ
    xs = row_numbers m.opens r

    f : (begun o (reads xs) ∈ h) × Direct one_chain h es (only (take g.n g.log)) t o xs
    f = fine g choice i
good_message {m} {h} {es} g {at} choice (NormalContext q o r) i =
    both P (is_member m.store q)
    (by_test P (is_read_replica m.store q)
    (λ e. good_values g choice i r refl (table_of m.store q) o
    (context_now g.core o 0 (row_numbers m.opens r) (value_at m.store (table_of m.store q)) f (λ x j. refl)
    (λ x j. (read_is g.replicas q e x (g.books.ranged o (reads (row_numbers m.opens r)) f x j)).0)))
    (λ former. good_moved g choice i r refl (NormalContext (read_replica_number m.store) o r) f (λ p q. q) (λ s e. sym e) (tt, read_given g.replicas)))
    (good_freed g choice i r refl)
  where
    P : Opened → Type 0
    P u = After g choice i (changing_opens (given_by m) u)

    f : begun o (reads (row_numbers m.opens r)) ∈ h
    f = fine g choice i
good_message {m} {h} {es} g {at} choice (ContextReply o r) i =
    by_test (λ (u : Opened). After g choice i (changing_opens (given_by m) u)) (is_open m.opens o)
    (λ still. good_context g choice i o r refl still)
    (λ shut. good_freed g choice i r refl)
good_message {m} {h} {es} g {at} choice (Acknowledgement q j) i =
    let p = (placed g choice i).0 in
    rw (p.0, p.1) (good_heard g (quorum_held p.0 g.replicas) choice i q j p.1 p.2)
good_message {m} {h} {es} g {at} choice Unknown i = good_dropped g choice i
