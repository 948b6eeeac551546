-- What holds of the replicas of every kind of store: whom a stamped write is for, what the replica that answers normal reads has, and what a direct read is answered with.
use mathlib.Core.Path.{◌≡◌, refl, sym, ap, ◌∙◌, subst}
use mathlib.Core.Bool.{true}
use mathlib.Core.List.{List, [], ◌∷◌, ◌++◌, map}
use Prim.Native.Nat.{ℕ, ◌-◌, ◌%◌, ◌≤◌, ◌<◌}
use native.Mathlib.Nat.{mod-lt}
use native.Mathlib.Omega.{arith}
use lib.ListN.{take}
use borrow.Author.Tests.{eqb-true}
use Rattle.history.specs.History.{◌∈◌, reads, History, begun}
use Rattle.history.proofs.Lists.{here}
use Rattle.history.proofs.Entries.{Entry}
use Rattle.store.specs.declared.Write.{Write}
use Rattle.store.specs.{live_count, applied_by, value_at, stamp_at}
use Rattle.chain.specs.{member_at, is_live, place_of, is_read_replica, read_replica_number, table_of, head_number, chosen_by}
use Rattle.chain.proofs.Members.{head_is, in_live, live_in, place_below}
use Rattle.chain.proofs.Numbers.{table_is, head_number_is, number_order, chosen_at, tail_number_at, tail_table, read_replica_tail, read_number_is, read_number_leader, read_place_first}
use Rattle.joins.specs.{last_number}
use Rattle.replicas.specs.Replicas.{answers_direct}
use Rattle.replicas.proofs.Moves.{answers_stamp}
use Rattle.protocol.specs.Answers.{no_freshness}
use Rattle.protocol.specs.Reads.{answers_read}
use Rattle.protocol.specs.declared.Message.{Message}
use Rattle.protocol.specs.declared.Message.TheVariants.{Reply}
use Rattle.write_log.proofs.Log.{values, stamps, top, same_value}
use Rattle.write_log.proofs.Shows.{applied_between, read_value, read_stamp, read_tail, stamp_tail}
use Rattle.write_log.proofs.Places.{Places, AtHead}
use Rattle.write_log.proofs.Tables.{at_head_sent}
use Rattle.write_log.proofs.QuorumHolds.{QuorumHolds}
use Rattle.linearizability.proofs.Logged.{Logged}
use Rattle.linearizability.proofs.Packets.{AnsweredContext, Direct}
use Rattle.linearizability.proofs.Core.{core_direct, context_now}
use Rattle.linearizability.proofs.Invariant.{ChainHolds, ReplicasHold, in_chain, in_quorum, one_chain, only, ChainCore}
use Rattle.linearizability.proofs.QuorumReads.{quorum_answers, quorum_answers_context}

-- the stamp that a direct read of an object carries is not above what the chain shows
pub direct_low : {h : History} {es : List Entry} {ws : List Write} {c o : ℕ} {xs : List ℕ} → Direct one_chain h es (only ws) c o xs → (x : ℕ) → x ∈ xs → c ≤ top 0 ws
direct_low {ws} {c} (d, in_one, low, behind) x i = subst (λ (e : ℕ). c ≤ top 0 (only ws e)) (sym (in_one x i)) low

module _ {s : List ℕ} {log : List Write} {n : ℕ} where
  -- a replica is live, and the places are as runs have them
  pub some_live : ReplicasHold s log n → 0 < live_count s
  some_live (in_chain k) = k.shown.live
  some_live (in_quorum k) = omega (arith, place_below s k.lead (in_live s k.lead k.shown.lead_in))

  pub in_places : ReplicasHold s log n → Places s
  in_places (in_chain k) = k.joined.places
  in_places (in_quorum k) = k.places

  -- the head's number is one that a stamped write may wait for
  pub sent_placed : ReplicasHold s log n → AtHead s (head_number s)
  sent_placed k = at_head_sent s (in_places k) (some_live k)

  -- the replica that a choice names, and the one that answers normal reads, have numbers that were given
  pub chosen_given : ReplicasHold s log n → (choice : ℕ) → chosen_by s choice ≤ last_number s
  chosen_given k choice = rw (chosen_at s choice (some_live k)) ((in_places k).given (choice % live_count s) (mod-lt choice (some_live k)))

  pub read_given : ReplicasHold s log n → read_replica_number s ≤ last_number s
  read_given (in_chain k) = rw (read_number_is s k.kind, tail_number_at s k.shown.live) (k.joined.places.given (live_count s - 1) (omega (arith, k.shown.live)))
  read_given (in_quorum k) =
      let live = some_live (in_quorum k) in
      rw (read_number_leader s k.kind, head_number_is s, number_order s 0 live) (k.places.given 0 live)

  -- the leader's table, by its number
  leader_table : (k : QuorumHolds s log n) (r : ℕ) → is_read_replica s r ≡ true → table_of s r ≡ k.lead
  unfolding is_read_replica
  leader_table k r e =
      let first : place_of s r ≡ 0 = eqb-true (place_of s r) 0 (sym (read_place_first s k.kind (place_of s r)) ∙ e) in
      table_is s r ∙ ap (member_at s) first ∙ sym (head_is s) ∙ k.shown.leads

  -- the replica that answers normal reads has what the visible writes leave
  pub read_is : ReplicasHold s log n → (r : ℕ) → is_read_replica s r ≡ true → (x : ℕ) → x < 1024
      → (value_at s (table_of s r) x ≡ values (take n log) x) × (stamp_at s (table_of s r) x ≡ stamps (take n log) x)
  read_is (in_chain k) r e x small =
      let last = tail_table s r (sym (read_replica_tail s k.kind r) ∙ e) in
      (ap (λ (q : ℕ). value_at s q x) last ∙ read_tail k.shown x small, ap (λ (q : ℕ). stamp_at s q x) last ∙ stamp_tail k.shown x small)
  read_is (in_quorum k) r e x small =
      let has = k.shown.holds k.lead k.shown.lead_in in
      let all : applied_by s k.lead ≡ n = k.shown.leader_executed in
      let here_is = leader_table k r e in (
        ap (λ (q : ℕ). value_at s q x) here_is ∙ has.values_are x small ∙ ap (λ (i : ℕ). values (take i log) x) all,
        ap (λ (q : ℕ). stamp_at s q x) here_is ∙ has.stamps_are x small ∙ ap (λ (i : ℕ). stamps (take i log) x) all,
      )

  -- a live replica of a chain that answers a direct read of xs, whose stamp is not above what is visible, gives what the visible writes leave
  answered_is : ChainHolds s log n → {issued : List Write} → Logged one_chain issued log 0 n → (table number t : ℕ) (xs : List ℕ) → is_live s table ≡ true → answers_direct s table number t xs ≡ true
      → ((x : ℕ) → x ∈ xs → t ≤ top 0 (take n log)) → (x : ℕ) → x ∈ xs → x < 1024 → value_at s table x ≡ values (take n log) x
  answered_is k l table number t xs live e low x i small =
      read_value k.shown table x live small ∙
      same_value n (applied_by s table) t x log l.rising (applied_between k.shown table live).0 (low x i)
      (rw (read_stamp k.shown table x live small) at (answers_stamp s table number t xs e x i))

  -- a live replica that answers a direct read gives what the read may give
  module _ {h : History} {es : List Entry} {issued : List Write} {ms : List Message} {c : ℕ} {opens : List ℕ} (core : ChainCore h es issued log n ms c opens) (l : Logged one_chain issued log 0 n)
      (table number t o : ℕ) (live : is_live s table ≡ true) where
    -- of one object
    pub direct_answered : ReplicasHold s log n → (x : ℕ) → answers_read s table number t (x ∷ []) ≡ true → x < 1024 → (begun o (reads (x ∷ [])) ∈ h) × Direct one_chain h es (only (take n log)) t o (x ∷ [])
        → ChainCore h es issued log n (ms ++ Reply o (value_at s table x) 0 no_freshness ∷ []) c opens
    unfolding answers_read
    direct_answered (in_chain k) x e small f =
        core_direct core o x (value_at s table x) f.0 (answered_is k l table number t (x ∷ []) live (rw k.kind at e) (direct_low f.1) x (here refl) small)
    direct_answered (in_quorum k) x e small f = quorum_answers k.shown l.fits table (live_in s table live) number t (rw k.kind at e) core o x small f.0 f.1

    -- of several
    pub context_answered : ReplicasHold s log n → (xs : List ℕ) → answers_read s table number t xs ≡ true → ((x : ℕ) → x ∈ xs → x < 1024) → (begun o (reads xs) ∈ h) × Direct one_chain h es (only (take n log)) t o xs
        → AnsweredContext h es o (map (value_at s table) xs)
    unfolding answers_read
    context_answered (in_chain k) xs e small f =
        context_now core o 0 xs (value_at s table) f.0 (λ x j. refl) (λ x j. answered_is k l table number t xs live (rw k.kind at e) (direct_low f.1) x j (small x j))
    context_answered (in_quorum k) xs e small f = quorum_answers_context k.shown l.fits table (live_in s table live) number t (rw k.kind at e) o xs small f.0 f.1
