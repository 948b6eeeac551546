-- What keeps the invariant in a quorum store (document 02, Req 11): the leader logs a write and executes it, a follower takes an item of its link, an acknowledgement comes, a replica is told.
use mathlib.Core.Path.{◌≡◌, refl, sym, ap, ◌∙◌}
use mathlib.Core.Bool.{true, false}
use mathlib.Core.List.{List, [], ◌∷◌, ◌++◌}
use Prim.Native.Nat.{ℕ, suc, ◌+◌, ◌-◌, ◌≤◌, ◌<◌}
use native.Mathlib.Omega.{arith}
use lib.Dec.{eqb, ltb}
use lib.ListN.{length, get_or}
use lib.Seq.{slice, take-append-le}
use borrow.Author.Tests.{eqb-false}
use Rattle.limits.specs as limits
use Rattle.lists.proofs.Tests.{by_test, both}
use Rattle.history.specs.History.{◌∈◌, History}
use Rattle.history.proofs.Entries.{Entry}
use Rattle.switch.specs.Numbers.{number_in, committed_in}
use Rattle.store.specs.declared.Write.{Write}
use Rattle.store.specs.{members, applied_by, entry_at}
use Rattle.chain.specs.{head_of, place_of, is_member, table_of, permitting}
use Rattle.chain.proofs.Members.{live_in}
use Rattle.chain.proofs.Numbers.{table_live, member_below, number_order, number_at_lem, read_replica_leader}
use Rattle.replicas.specs.Replicas.{next_position, applying}
use Rattle.replicas.specs.Links.{entries}
use Rattle.replicas.specs.Visible.{visible_count, made_visible}
use Rattle.joins.specs.{last_number}
use Rattle.quorum.specs.{logged_by, linked_items, logs, count_logged, logging, next_is_entry, next_entry, acknowledging, executes, executing}
use Rattle.waiting.specs.Waiting.{held}
use Rattle.waiting.proofs.Laws as waiting
use Rattle.protocol.specs.declared.Message.{Message}
use Rattle.protocol.specs.declared.Message.TheVariants.{Acknowledgement}
use Rattle.protocol.specs.declared.Refusal.TheVariants.{WaitingFull, NotLive, NoLinkedWrite, NothingToExecute}
use Rattle.protocol.specs.declared.Step.TheVariants.{Advance, Tell, Execute}
use Rattle.protocol.specs.Messages.{packet_of}
use Rattle.protocol.specs.Decisions.{Stored, stored, changing_store, deciding, add_one, no_edit, dropping, overfull}
use Rattle.protocol.specs.Steps.{Machine, given_by, sending, follower_advancing, executing_on, telling}
use Rattle.write_log.proofs.Holds.{Small, no_write}
use Rattle.write_log.proofs.Moves.{slice_one}
use Rattle.write_log.proofs.Places.{Places, last_number_same, member_as, table_as, at_head_same}
use Rattle.write_log.proofs.Quorum.{entries_kept}
use Rattle.write_log.proofs.Leader.{logging_above, next_there, executed_entry}
use Rattle.write_log.proofs.QuorumHolds.{QuorumHolds, Later, later_permitting, holds_permitting, later_acknowledging, holds_acknowledging, logs_one, later_entry, holds_entry, later_stamp, holds_stamp, later_logging, holds_logging, later_executing, holds_executing}
use Rattle.linearizability.proofs.Logged.{Logged, logged_accept}
use Rattle.linearizability.proofs.Packets.{unstamped_append}
use Rattle.linearizability.proofs.Core.{core_add}
use Rattle.linearizability.proofs.Waits.{messages, Stands, taken_out, added_one}
use Rattle.linearizability.proofs.Invariant.{Acknowledged, one_chain, ChainCore, in_quorum, Good, Then, order_stays, good_refused, Keeps, placed_by, posted_add}
use Rattle.linearizability.proofs.Deliveries.{good_of, made_visible_lem, good_store, good_shown, log_small, After, rest, lost, others, fewer}

-- how many writes of the log are visible: those that the leader has executed
pub executed_is : {s : List ℕ} {log : List Write} {n : ℕ} → QuorumHolds s log n → visible_count s ≡ n
unfolding visible_count
executed_is {s} k = ap (applied_by s) (read_replica_leader s k.kind ∙ k.shown.leads) ∙ k.shown.leader_executed

-- a live replica's number was given, and its table is one of the members'
pub member_given : {s : List ℕ} → Places s → (r : ℕ) → is_member s r ≡ true → r ≤ last_number s
member_given {s} g r member =
    let low = member_below s r member in
    omega (arith, g.given (place_of s r) low, sym (number_order s (place_of s r) low) ∙ number_at_lem s r member)

pub table_in_lem : (s : List ℕ) (r : ℕ) → is_member s r ≡ true → table_of s r ∈ members s
table_in_lem s r member = live_in s (table_of s r) (table_live s r member)

-- every waiting message stays well placed
pub later_keeps : {s t : List ℕ} {log : List Write} {n : ℕ} → QuorumHolds s log n → Later s t → Keeps s t
later_keeps {s} k l = record {
  last = omega (arith, last_number_same l.places.same);
  heads = at_head_same l.places k.places;
  acknowledged = λ q j a. (
    l.kind ∙ a.0,
    member_as l.places.same q ∙ a.1,
    rw (table_as l.places.same q) (omega (arith, a.2, l.logged (table_of s q) (table_in_lem s q a.1))),
  );
}

next_most : (p : ℕ) → next_position p ≤ p + 1
unfolding next_position
next_most p = both (λ (q : ℕ). q ≤ p + 1) (ltb p limits.last_position) (omega arith) (omega arith)

module _ {m : Machine} {h : History} {es : List Entry} (g : Good m h es) (k : QuorumHolds m.store g.log g.n) where
  pub good_told : (r : ℕ) → Then (Tell r) m h es (changing_store (given_by m) (telling m.switch m.store r))
  unfolding telling
  good_told r =
      let table = table_of m.store r in
      let number = number_in m.switch in
      both (λ (u : Stored). Then (Tell r) m h es (changing_store (given_by m) u)) (is_member m.store r)
      (let s = holds_permitting k table number in
      rw (order_stays m.store (permitting m.store table number) es (executed_is s ∙ sym (executed_is k)))
      (good_store g (permitting m.store table number) (in_quorum s) (later_keeps k (later_permitting k table number))))
      (good_refused (Tell r) NotLive g)

  -- ---- a follower takes the oldest item of its link

  module _ (r : ℕ) (member : is_member m.store r ≡ true) (some : eqb (linked_items m.store (table_of m.store r)) 0 ≡ false) where
    abbrev table : ℕ
    table = table_of m.store r

    i : table ∈ members m.store
    i = table_in_lem m.store r member

    items : 0 < linked_items m.store table
    items = omega (arith, eqb-false (linked_items m.store table) 0 some)

    abbrev Takes : Stored → Type 0
    Takes u = Then (Advance r) m h es (changing_store (given_by m) u)

    -- an executed stamp
    good_executed : next_is_entry m.store table ≡ false → Takes (stored (deciding no_edit) (applying m.store table (next_entry m.store table)))
    good_executed stamp =
        let s = holds_stamp k table i items stamp g.logged.rising (log_small g) in
        let t = applying m.store table (next_entry m.store table) in
        rw (order_stays m.store t es (executed_is s ∙ sym (executed_is k)))
        (good_store g t (in_quorum s) (later_keeps k (later_stamp k table i items stamp g.logged.rising (log_small g))))

    -- an entry, which it acknowledges
    abbrev told : Message
    told = Acknowledgement r (next_position (logged_by m.store table))

    good_acknowledged : next_is_entry m.store table ≡ true → waiting.Roomy m.waiting → overfull (held m.waiting) 0 1 ≡ false
        → Takes (stored (deciding (add_one (packet_of told))) (count_logged m.store table))
    good_acknowledged entry wide roomy =
        let s = holds_entry k table i items entry in
        let later = later_entry k table i items entry in
        let t = count_logged m.store table in
        let keeps = later_keeps k later in
        let is-so : Acknowledged t r (next_position (logged_by m.store table)) = (
          s.kind,
          member_as later.places.same r ∙ member,
          rw (table_as later.places.same r) (omega (arith, next_most (logged_by m.store table), logs_one k table i items entry)),
        ) in
        rw (order_stays m.store t es (executed_is s ∙ sym (executed_is k)))
        (good_of g.issued g.log g.n (messages m.waiting ++ told ∷ []) (added_one m.waiting wide g.exact told roomy)
        (core_add g.core told tt (λ o a. a) (λ o a. a)) g.logged (in_quorum s)
        (posted_add t (messages m.waiting) told (λ q j. placed_by keeps q (g.posted q j)) (is-so, member_given s.places r is-so.1))
        g.books (omega (arith, g.counted, unstamped_append (messages m.waiting) (told ∷ []))) g.switch_holds (waiting.exact_edited m.waiting _ g.exact))

  pub good_follower : (r : ℕ) → waiting.Roomy m.waiting → Then (Advance r) m h es (changing_store (given_by m) (follower_advancing m.store (held m.waiting) r))
  unfolding follower_advancing
  good_follower r wide =
      by_test P (is_member m.store r)
      (λ member. by_test P (eqb (linked_items m.store (table_of m.store r)) 0)
      (λ none. good_refused (Advance r) NoLinkedWrite g)
      (λ some. by_test P (next_is_entry m.store (table_of m.store r))
      (λ entry. by_test P (overfull (held m.waiting) 0 1)
      (λ full. good_refused (Advance r) WaitingFull g)
      (λ roomy. good_acknowledged r member some entry wide roomy))
      (λ stamp. good_executed r member some stamp)))
      (λ gone. good_refused (Advance r) NotLive g)
    where
      P : Stored → Type 0
      P u = Then (Advance r) m h es (changing_store (given_by m) u)

  -- ---- the leader executes

  module _ (can : executes m.store ≡ true) where
    up : Small g.log
    up = log_small g

    abbrev write : Write
    write = next_entry m.store (head_of m.store)

    below : g.n < length g.log
    below = next_there k.shown can g.logged.rising up

    one : slice g.n (suc g.n) g.log ≡ write ∷ []
    one = rw (executed_entry k.shown can g.logged.rising up) (slice_one g.n g.log below)

    now : QuorumHolds (executing m.store) g.log (suc g.n)
    now = holds_executing k can g.logged.rising up

    -- the entry is in the store still
    stays : entry_at (executing m.store) g.n ≡ get_or g.log g.n no_write
    stays = now.shown.entries_are g.n below (omega (arith, entries_kept k.shown k.lead k.shown.lead_in, k.shown.leader_executed))

    shown : made_visible m.store (executing m.store) ≡ slice g.n (suc g.n) g.log
    unfolding entries
    shown =
        made_visible_lem m.store (executing m.store) (executed_is k) (executed_is now) ∙
        ap (entries (executing m.store) g.n) (one_more_lem g.n) ∙
        ap (λ (w : Write). w ∷ []) stays ∙ sym (slice_one g.n g.log below)
      where
        one_more_lem : (n : ℕ) → suc n - n ≡ 1
        one_more_lem n = omega arith

    good_leader : waiting.Roomy m.waiting → overfull (held m.waiting) 0 2 ≡ false → Then Execute m h es (changing_store (given_by m) (stored (deciding (sending write)) (executing m.store)))
    good_leader wide roomy =
        good_shown g wide (executing m.store) write (in_quorum now) (later_keeps k (later_executing k can g.logged.rising up)) (omega (arith, below)) one shown roomy

  pub good_execute : waiting.Roomy m.waiting → Then Execute m h es (changing_store (given_by m) (executing_on m.store (held m.waiting)))
  unfolding executing_on
  good_execute wide =
      rw k.kind
      (by_test P (executes m.store)
      (λ can. by_test P (overfull (held m.waiting) 0 2)
      (λ full. good_refused Execute WaitingFull g)
      (λ roomy. good_leader can wide roomy))
      (λ cannot. good_refused Execute NothingToExecute g))
    where
      P : Stored → Type 0
      P u = Then Execute m h es (changing_store (given_by m) u)

-- ---- what comes to the leader

module _ {m : Machine} {h : History} {es : List Entry} (g : Good m h es) (k : QuorumHolds m.store g.log g.n) {at : ℕ} (choice : ℕ) {msg : Message} (i : Stands m.waiting at msg) where
  -- a stamped write, which it logs
  pub good_logged : (w : Write) → logs m.store w.stamp ≡ true → w ∈ g.issued → After g choice i (changing_store (given_by m) (stored (dropping at) (logging m.store w)))
  unfolding rest dropping
  good_logged w accepted known =
      let t = logging m.store w in
      let s : QuorumHolds t (g.log ++ w ∷ []) g.n = holds_logging k w accepted in
      let longer : Logged one_chain g.issued (g.log ++ w ∷ []) 0 g.n = logged_accept g.logged w known refl (logging_above k.shown w accepted) in
      let core : ChainCore h es g.issued (g.log ++ w ∷ []) g.n (rest g choice i) (committed_in m.switch) m.opens =
      rw (take-append-le g.n g.log (w ∷ []) g.logged.fits) (lost g choice i) in
      rw (order_stays m.store t es (executed_is s ∙ sym (executed_is k)))
      (good_of g.issued (g.log ++ w ∷ []) g.n (rest g choice i) (taken_out m.waiting i) core longer (in_quorum s)
      (λ q j. placed_by (later_keeps k (later_logging k w accepted)) q (others g choice i q j)) g.books (omega (arith, fewer g choice i)) g.switch_holds
      (waiting.exact_edited m.waiting _ g.exact))

  -- an acknowledgement
  pub good_heard : (r j : ℕ) → is_member m.store r ≡ true → j ≤ logged_by m.store (table_of m.store r)
      → After g choice i (changing_store (given_by m) (stored (dropping at) (acknowledging m.store (table_of m.store r) j)))
  unfolding rest dropping
  good_heard r j member low =
      let table = table_of m.store r in
      let t = acknowledging m.store table j in
      let s = holds_acknowledging k table j (table_in_lem m.store r member) low in
      rw (order_stays m.store t es (executed_is s ∙ sym (executed_is k)))
      (good_of g.issued g.log g.n (rest g choice i) (taken_out m.waiting i) (lost g choice i) g.logged (in_quorum s)
      (λ q l. placed_by (later_keeps k (later_acknowledging k table j)) q (others g choice i q l)) g.books (omega (arith, fewer g choice i)) g.switch_holds
      (waiting.exact_edited m.waiting _ g.exact))
