-- What keeps the invariant in a chain: the head takes a write, a replica advances, is told, is removed, joins.
use mathlib.Core.Path.{◌≡◌, refl, sym, ap, ◌∙◌, subst}
use mathlib.Core.Bool.{true, false}
use mathlib.Core.List.{List, [], ◌∷◌, ◌++◌, append-nil}
use mathlib.Core.Logic.{inl, inr}
use Prim.Native.Nat.{ℕ, suc, ◌-◌, ◌≤◌, ◌<◌}
use native.Mathlib.Omega.{arith}
use lib.Dec.{eqb, leb}
use lib.ListN.{length, take, length-append}
use lib.Seq.{slice, take-append-le, length-take-le, take-take}
use borrow.Author.Tests.{eqb-false, leb-false}
use Rattle.lists.proofs.Tests.{by_test, both}
use Rattle.history.specs.History.{◌∈◌, History}
use Rattle.history.proofs.Lists.{cases_append, in_get_d}
use Rattle.history.proofs.Entries.{Entry}
use Rattle.switch.specs.Numbers.{number_in, committed_in}
use Rattle.store.specs.declared.Write.{Write}
use Rattle.store.specs.{applied_by, live_count, is_quorum}
use Rattle.chain.specs.{is_live, head_of, tail_of, is_member, is_tail, table_of, place_of, permitting}
use Rattle.joins.specs.{handing_on, is_joining, last_number, is_full, beginning, copying, without}
use Rattle.replicas.specs.Replicas.{accepts, taking, applying, pending_at, pending, oldest}
use Rattle.chain.proofs.Numbers.{table_live, tail_table, read_replica_is}
use Rattle.waiting.specs.Waiting.{held}
use Rattle.waiting.proofs.Laws as waiting
use Rattle.protocol.specs.Answers.{no_freshness}
use Rattle.protocol.specs.declared.Message.{Message}
use Rattle.protocol.specs.declared.Message.TheVariants.{Completion, Reply}
use Rattle.protocol.specs.declared.Refusal.TheVariants.{WaitingFull, NotLive, NoLinkedWrite, LastReplica, ChainFull, JoinUnderWay, NoJoin}
use Rattle.protocol.specs.declared.Step.TheVariants.{Advance, Tell, Remove, Join, Copy}
use Rattle.protocol.specs.Decisions.{Stored, stored, changing_store, deciding, dropping, overfull, no_edit}
use Rattle.protocol.specs.Delivery.{answering}
use Rattle.protocol.specs.Steps.{Machine, given_by, sending, chain_advancing, telling, removing, joining, copying_on}
use Rattle.write_log.proofs.Holds.{Small, small_append, no_write}
use Rattle.write_log.proofs.Shows.{Shows, head_live, shows_permitting}
use Rattle.write_log.proofs.Moves.{shows_taken_above, shows_taken, shows_taken_lone, taken_lone_all, visible_taken, visible_taken_lone, oldest_below, oldest_is, shows_advanced, shows_advanced_tail, oldest_tail_below, visible_advanced, visible_advanced_tail, shows_removed, visible_removed}
use Rattle.write_log.proofs.Places.{SamePlaces, places_same, places_trans, at_head_same, places_applying, places_permitting}
use Rattle.write_log.proofs.Tables.{table_not_tail, table_pending}
use Rattle.write_log.proofs.Beside.{places_handing, shows_handing, entries_handing}
use Rattle.write_log.proofs.Joined.{last_copying, joined_permitting, joined_applying, joined_handing, joined_beginning, shows_copying, joined_copying, at_head_copying}
use Rattle.write_log.proofs.Taken.{places_taking, joined_taking, joined_taking_lone}
use Rattle.write_log.proofs.StoreKind.{kind_applying, kind_taking, kind_handing, kind_permitting, kind_beginning, kind_copying, kind_without}
use Rattle.linearizability.proofs.Logged.{Logged, logged_accept, logged_show, logged_cut}
use Rattle.linearizability.proofs.Packets.{unstamped_append}
use Rattle.linearizability.proofs.Waits.{messages, Stands, taken_out, taken_out_add_two, edited_nothing}
use Rattle.linearizability.proofs.Invariant.{one_chain, ChainCore, Good, Then, order_stays, good_refused, placed_by, chain_keeps}
use Rattle.write_log.proofs.Kept.{shows_kept}
use Rattle.write_log.proofs.Joins.{last_beginning, not_full, replicas_beginning, at_head_beginning}
use Rattle.write_log.proofs.Without.{last_without, shows_ended, ended_live, ended_count, without_is, joined_without, at_head_without}
use Rattle.linearizability.proofs.Deliveries.{good_of, made_visible_lem, good_store, good_shown, answer_placed, chain_outcome, log_small}
use Rattle.joins.specs.{is_join_set}
use Rattle.replicas.specs.Links.{entries}
use Rattle.replicas.specs.Visible.{visible_count, made_visible}
use Rattle.write_log.proofs.Places.{joining_set, last_number_same}
use Rattle.linearizability.proofs.Invariant.{ChainHolds, in_chain}
use Rattle.linearizability.proofs.Deliveries.{After, rest, lost, others, fewer, issued_small}

-- how many writes of a chain's log are visible
pub visible_is : {s : List ℕ} {log : List Write} {n : ℕ} → is_quorum s ≡ false → Shows s log n → visible_count s ≡ n
unfolding visible_count
visible_is {s} e shown = ap (applied_by s) (read_replica_is s e) ∙ shown.tail_has

-- r is the table of the replica that advances, number the number that the step names
module _ {m : Machine} {h : History} {es : List Entry} (g : Good m h es) (k : ChainHolds m.store g.log g.n) (number r : ℕ) (live : is_live m.store r ≡ true) (p : 0 < pending m.store r) where
  -- the oldest write of the replica's link, and the store when it has applied it
  abbrev write : Write
  write = oldest m.store r

  abbrev store : List ℕ
  store = applying m.store r write

  abbrev Advances : Stored → Type 0
  Advances u = Then (Advance number) m h es (changing_store (given_by m) u)

  pub oldest_small : write.object < 1024
  oldest_small = log_small g write (rw (oldest_is k.shown r live p) (in_get_d g.log (applied_by m.store r) no_write (oldest_below k.shown r live p)))

  good_advanced : (r ≡ tail_of m.store → ⊥) → Advances (stored (deciding no_edit) store)
  good_advanced other =
      let s : Shows store g.log g.n = shows_advanced k.shown r live p g.logged.rising (log_small g) other in
      let chain : is_quorum store ≡ false = kind_applying m.store r write ∙ k.kind in
      rw (order_stays m.store store es (visible_is chain s ∙ sym (visible_is k.kind k.shown)))
      (good_store g store (in_chain (record { kind = chain; shown = s; joined = joined_applying m.store r write k.joined live k.shown.live oldest_small other }))
      (chain_keeps k.kind (omega (arith, last_number_same (places_applying m.store r write).same)) (at_head_same (places_applying m.store r write) k.joined.places)))

  -- the tail hands the write on to a newcomer
  abbrev handed : List ℕ
  handed = handing_on store write

  places_handed : SamePlaces m.store handed
  places_handed = places_trans (places_applying m.store r write) (places_handing store write)

  kind_handed : is_quorum handed ≡ false
  kind_handed = kind_handing store write ∙ kind_applying m.store r write ∙ k.kind

  good_advanced_tail : waiting.Roomy m.waiting → r ≡ tail_of m.store → overfull (held m.waiting) 0 2 ≡ false → Advances (stored (deciding (sending write)) handed)
  good_advanced_tail wide last roomy =
      let one_more_lem : Shows store g.log (suc g.n) = shows_advanced_tail k.shown r live p g.logged.rising (log_small g) last in
      let s : Shows handed g.log (suc g.n) = shows_handing one_more_lem (places_same (places_applying m.store r write) k.joined.places) write oldest_small in
      let long : suc g.n ≤ length g.log = oldest_tail_below k.shown r live p last in
      let one : slice g.n (suc g.n) g.log ≡ write ∷ [] = visible_advanced_tail k.shown r live p last in
      let shown : made_visible m.store handed ≡ slice g.n (suc g.n) g.log =
      made_visible_lem m.store handed (visible_is k.kind k.shown) (visible_is kind_handed s) ∙ entries_handing store write _ _ ∙ visible_advanced k.shown r live p (suc g.n) (omega arith) long in
      good_shown g wide handed write
      (in_chain (record { kind = kind_handed; shown = s; joined = joined_handing m.store r write k.joined live k.shown.live oldest_small k.shown.sized last }))
      (chain_keeps k.kind (omega (arith, last_number_same places_handed.same)) (at_head_same places_handed k.joined.places)) long one shown roomy

module _ {m : Machine} {h : History} {es : List Entry} (g : Good m h es) (k : ChainHolds m.store g.log g.n) (r : ℕ) where
  -- the table of the replica
  abbrev table : ℕ
  table = table_of m.store r

  abbrev Moves : Stored → Type 0
  Moves u = Then (Advance r) m h es (changing_store (given_by m) u)

  pub good_advance : waiting.Roomy m.waiting → Moves (chain_advancing m.store (held m.waiting) r)
  unfolding chain_advancing
  good_advance wide =
      by_test Moves (is_member m.store r)
      (λ member. by_test Moves (eqb (pending_at m.store (place_of m.store r) table) 0)
      (λ none. good_refused (Advance r) NoLinkedWrite g)
      (λ some.
      let live = table_live m.store r member in
      let p : 0 < pending m.store table = omega (arith, eqb-false (pending_at m.store (place_of m.store r) table) 0 some, table_pending m.store r k.shown.falls member) in
      by_test Moves (is_tail m.store r)
      (λ e. by_test Moves (overfull (held m.waiting) 0 2)
      (λ full. good_refused (Advance r) WaitingFull g)
      (λ roomy. good_advanced_tail g k r table live p wide (tail_table m.store r e) roomy))
      (λ e. good_advanced g k r table live p (table_not_tail m.store r k.shown.falls member e))))
      (λ gone. good_refused (Advance r) NotLive g)

  pub good_tell : Then (Tell r) m h es (changing_store (given_by m) (telling m.switch m.store r))
  unfolding telling
  good_tell =
      both (λ (u : Stored). Then (Tell r) m h es (changing_store (given_by m) u)) (is_member m.store r)
      (let told = permitting m.store table (number_in m.switch) in
      let s = shows_permitting k.shown table (number_in m.switch) in
      let chain : is_quorum told ≡ false = kind_permitting m.store table (number_in m.switch) ∙ k.kind in
      rw (order_stays m.store told es (visible_is chain s ∙ sym (visible_is k.kind k.shown)))
      (good_store g told (in_chain (record { kind = chain; shown = s; joined = joined_permitting m.store table (number_in m.switch) k.joined }))
      (chain_keeps k.kind (omega (arith, last_number_same (places_permitting m.store table (number_in m.switch)).same)) (at_head_same (places_permitting m.store table (number_in m.switch)) k.joined.places))))
      (good_refused (Tell r) NotLive g)

  pub good_remove : Then (Remove r) m h es (changing_store (given_by m) (removing m.store r))
  unfolding removing
  good_remove =
      rw k.kind
      (by_test P (is_member m.store r)
      (λ member. by_test P (leb (live_count m.store) 1)
      (λ one. good_refused (Remove r) LastReplica g)
      (λ several. goes member (leb-false (live_count m.store) 1 several)))
      (λ gone. good_refused (Remove r) NotLive g))
    where
      P : Stored → Type 0
      P u = Then (Remove r) m h es (changing_store (given_by m) u)

      goes : is_member m.store r ≡ true → 1 < live_count m.store → P (stored (deciding no_edit) (without m.store r))
      goes member several =
          let before = shows_ended k.shown k.joined r member in
          let is = without_is k.shown k.joined r member in
          let t = shows_removed before table (ended_live k.shown k.joined r member) (omega (arith, several, ended_count k.shown k.joined r member)) in
          let s : Shows (without m.store r) (take t.0 g.log) t.1 = rw is t.5 in
          let chain : is_quorum (without m.store r) ≡ false = kind_without k.shown k.joined r member ∙ k.kind in
          let below : g.n ≤ t.0 = omega (arith, t.2, t.3) in
          let shorter = logged_cut g.logged t.0 below in
          let cut : ChainCore h es g.issued (take t.0 g.log) g.n (messages m.waiting) (committed_in m.switch) m.opens =
          rw (take-take g.n t.0 g.log below) g.core in
          let long : length (take t.0 g.log) ≡ t.0 = length-take-le t.0 g.log t.4 in
          let c = chain_outcome cut shorter t.1 t.2 [] (inl refl) in
          let shown : made_visible m.store (without m.store r) ≡ slice g.n t.1 (take t.0 g.log) =
          made_visible_lem m.store (without m.store r) (visible_is k.kind k.shown) (visible_is chain s) ∙ ap (λ (l : List ℕ). entries l g.n (t.1 - g.n)) is ∙ visible_removed before table t.0 t.1 t.2 t.3 t.4 in
          rw shown
          (good_of g.issued (take t.0 g.log) t.1 (messages m.waiting) (ap messages (edited_nothing m.waiting)) (rw append-nil at c) (logged_show shorter t.1 (omega (arith, long, t.3)))
          (in_chain (record { kind = chain; shown = s; joined = joined_without k.shown k.joined r member }))
          (λ q i. placed_by (chain_keeps k.kind (omega (arith, last_without k.shown k.joined r member)) (at_head_without k.shown k.joined r member)) q (g.posted q i)) g.books g.counted g.switch_holds
          (waiting.exact_edited m.waiting no_edit g.exact))

-- ---- a replica joins

module _ {m : Machine} {h : History} {es : List Entry} (g : Good m h es) (k : ChainHolds m.store g.log g.n) where
  pub good_join : Then Join m h es (changing_store (given_by m) (joining m.store))
  unfolding joining
  good_join =
      rw k.kind
      (by_test P (is_full m.store)
      (λ full. good_refused Join ChainFull g)
      (λ room. both P (is_joining m.store) (good_refused Join JoinUnderWay g) (begins (not_full m.store room))))
    where
      P : Stored → Type 0
      P u = Then Join m h es (changing_store (given_by m) u)

      begins : (live_count m.store < 8) × (last_number m.store < 255) → P (stored (deciding no_edit) (beginning m.store))
      begins room =
          let z = k.shown.sized in
          let s = shows_kept (replicas_beginning m.store z room.0 room.1) k.shown in
          let chain : is_quorum (beginning m.store) ≡ false = kind_beginning m.store ∙ k.kind in
          rw (order_stays m.store (beginning m.store) es (visible_is chain s ∙ sym (visible_is k.kind k.shown)))
          (good_store g (beginning m.store) (in_chain (record { kind = chain; shown = s; joined = joined_beginning m.store z room.0 room.1 k.joined }))
          (chain_keeps k.kind (omega (arith, last_beginning m.store z room.0 room.1)) (at_head_beginning m.store z room.0 room.1)))

  pub good_copy : Then Copy m h es (changing_store (given_by m) (copying_on m.store))
  unfolding copying_on
  good_copy =
      rw k.kind
      (by_test P (is_joining m.store)
      (λ joins. copies (joining_set m.store joins))
      (λ none. good_refused Copy NoJoin g))
    where
      P : Stored → Type 0
      P u = Then Copy m h es (changing_store (given_by m) u)

      copies : is_join_set m.store ≡ true → P (stored (deciding no_edit) (copying m.store))
      copies joins =
          let s = shows_copying k.shown k.joined joins in
          let chain : is_quorum (copying m.store) ≡ false = kind_copying m.store ∙ k.kind in
          rw (order_stays m.store (copying m.store) es (visible_is chain s ∙ sym (visible_is k.kind k.shown)))
          (good_store g (copying m.store) (in_chain (record { kind = chain; shown = s; joined = joined_copying k.shown k.joined joins }))
          (chain_keeps k.kind (omega (arith, last_copying k.shown k.joined joins)) (at_head_copying k.shown k.joined joins)))

-- ---- the chain takes a write

module _ {m : Machine} {h : History} {es : List Entry} (g : Good m h es) (k : ChainHolds m.store g.log g.n) {at : ℕ} (choice : ℕ) {msg : Message} (i : Stands m.waiting at msg) where
  -- r is the table of the replica
  module _ (r : ℕ) (w : Write) (taken : accepts m.store r w.stamp ≡ true) (first : r ≡ head_of m.store) (known : w ∈ g.issued) where
    took : List ℕ
    took = taking m.store r w

    places : SamePlaces m.store took
    unfolding took
    places = places_taking m.store r w

    kind_took : is_quorum took ≡ false
    unfolding took
    kind_took = kind_taking m.store r w ∙ k.kind

    live : is_live m.store r ≡ true
    live = subst (λ (q : ℕ). is_live m.store q ≡ true) (sym first) (head_live k.shown)

    accepted : ChainCore h es g.issued (g.log ++ w ∷ []) g.n (rest g choice i) (committed_in m.switch) m.opens
    accepted = rw (take-append-le g.n g.log (w ∷ []) g.logged.fits) (lost g choice i)

    longer : Logged one_chain g.issued (g.log ++ w ∷ []) 0 g.n
    longer = logged_accept g.logged w known refl (shows_taken_above k.shown r w taken first)

    small : Small (g.log ++ w ∷ [])
    small = small_append g.log w (log_small g) (issued_small g w known)

    pub good_taken : (r ≡ tail_of m.store → ⊥) → After g choice i (changing_store (given_by m) (stored (dropping at) (taking m.store r w)))
    unfolding rest took dropping
    good_taken other =
        let s : Shows took (g.log ++ w ∷ []) g.n = shows_taken k.shown r w taken first g.logged.rising small other in
        rw (order_stays m.store took es (visible_is kind_took s ∙ sym (visible_is k.kind k.shown)))
        (good_of g.issued (g.log ++ w ∷ []) g.n (rest g choice i) (taken_out m.waiting i) accepted longer
        (in_chain (record { kind = kind_took; shown = s; joined = joined_taking m.store r w k.joined live k.shown.live (issued_small g w known) other }))
        (λ q j. placed_by (chain_keeps k.kind (omega (arith, last_number_same places.same)) (at_head_same places k.joined.places)) q (others g choice i q j)) g.books (omega (arith, fewer g choice i)) g.switch_holds
        (waiting.exact_edited m.waiting _ g.exact))

    -- a lone replica hands the write on to a newcomer
    taken_on : List ℕ
    taken_on = handing_on (taking m.store r w) w

    places_taken_on : SamePlaces m.store taken_on
    unfolding taken_on
    places_taken_on = places_trans (places_taking m.store r w) (places_handing (taking m.store r w) w)

    kind_taken_on : is_quorum taken_on ≡ false
    unfolding taken_on
    kind_taken_on = kind_handing (taking m.store r w) w ∙ kind_taking m.store r w ∙ k.kind

    pub good_taken_lone : r ≡ tail_of m.store → overfull (held m.waiting) 1 2 ≡ false
        → After g choice i (changing_store (given_by m) (stored (deciding (answering at w)) (handing_on (taking m.store r w) w)))
    unfolding rest taken_on
    good_taken_lone lone roomy =
        let t = taking m.store r w in
        let one_more_lem : Shows t (g.log ++ w ∷ []) (suc g.n) = shows_taken_lone k.shown r w taken first g.logged.rising small lone in
        let s : Shows taken_on (g.log ++ w ∷ []) (suc g.n) =
        shows_handing one_more_lem (places_same (places_taking m.store r w) k.joined.places) w (issued_small g w known) in
        let long : suc g.n ≤ length (g.log ++ w ∷ []) = rw length-append (omega (arith, taken_lone_all k.shown r w taken first lone)) in
        let one : slice g.n (suc g.n) (g.log ++ w ∷ []) ≡ w ∷ [] = visible_taken_lone k.shown r w taken first lone in
        let sent : List Message = Reply w.operation w.value 0 no_freshness ∷ Completion w.object w.stamp ∷ [] in
        let c = chain_outcome accepted longer (suc g.n) (omega arith) sent (inr (w, one, refl)) in
        let shown : made_visible m.store taken_on ≡ slice g.n (suc g.n) (g.log ++ w ∷ []) =
        made_visible_lem m.store taken_on (visible_is k.kind k.shown) (visible_is kind_taken_on s) ∙ entries_handing t w _ _ ∙ visible_taken k.shown r w taken first (suc g.n) (omega arith) long in
        rw shown
        (good_of g.issued (g.log ++ w ∷ []) (suc g.n) ((rest g choice i) ++ sent)
        (taken_out_add_two m.waiting i (Reply w.operation w.value 0 no_freshness) (Completion w.object w.stamp) roomy) c (logged_show longer (suc g.n) long)
        (in_chain (record { kind = kind_taken_on; shown = s; joined = joined_taking_lone m.store r w k.joined live k.shown.live (issued_small g w known) k.shown.sized lone }))
        (λ q j. placed_by (chain_keeps k.kind (omega (arith, last_number_same places_taken_on.same)) (at_head_same places_taken_on k.joined.places)) q (elim (cases_append (rest g choice i) j) [ inl l ↦ others g choice i q l | inr l ↦ answer_placed m.store w q l ])) g.books
        (omega (arith, fewer g choice i, unstamped_append (rest g choice i) sent)) g.switch_holds (waiting.exact_edited m.waiting _ g.exact))
