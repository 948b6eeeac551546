-- What the leader of a quorum store does keeps the log shown: it logs a stamped write, and it executes the next write that a majority holds.
use mathlib.Core.Path.{◌≡◌, refl, sym, ap, ◌∙◌, subst}
use mathlib.Core.Bool.{Bool, true, false, cond}
use mathlib.Core.List.{List, [], ◌∷◌, ◌++◌}
use Prim.Native.Nat.{ℕ, zero, suc, ◌+◌, ◌-◌, ◌*◌, ◌≤◌, ◌<◌}
use native.Mathlib.Numerals.{add-one}
use native.Mathlib.Decide.{ℕ_discrete}
use native.Mathlib.Omega.{arith}
use lib.Dec.{eqb, ltb}
use lib.ListN.{length, get_or, length-append, get_or-append}
use lib.Seq.{take-append-le, take_all, get_or-append_seam}
use borrow.Author.Tests.{eqb-true, eqb-false, ltb-true, lt-ltb}
use Rattle.limits.specs as limits
use Rattle.history.specs.History.{◌∈◌}
use Rattle.history.proofs.Lists.{in_get_d}
use Rattle.lists.proofs.AllOf.{all_member}
use Rattle.stamp.specs.Stamps.{is_above}
use Rattle.stamp.proofs.Laws.{above_true}
use Rattle.store.specs.declared.Write.{Write}
use Rattle.store.specs.{live_count, members, applied_by, entry_at, logged}
use Rattle.chain.specs.{head_of}
use Rattle.replicas.specs.Replicas.{applying}
use Rattle.chain.proofs.Members.{head_same}
use Rattle.replicas.proofs.Cells.{SizedStore, row_apart, sized_applying, members_applying, entry_applying, applied_applying_same, applied_applying_other}
use Rattle.replicas.proofs.Cells.{sized_logged, members_logged, highest_logged, applied_logged, value_logged, stamp_logged, entry_logged_same, entry_logged_other, positions_apart}
use Rattle.quorum.specs.{logged_by, acknowledged_by, is_entry, items_taken, linked_items, has_room, links_have_room, last_logged, unexecuted, logs, sending_item, count_logged, logging}
use Rattle.quorum.specs.{next_entry, is_holder, count_of, majority_holds, executes, executing}
use Rattle.quorum.proofs.Items.{entries_append, stamps_append, in_turn_snoc}
use Rattle.quorum.proofs.Counts.{count_most}
use Rattle.quorum.proofs.Cells.{SameTables, same_counted, same_sending, logged_counted, logged_counted_other, acknowledged_counted, item_counted, logged_sending, acknowledged_sending, item_sent, item_sent_other}
use Rattle.quorum.proofs.Cells.{logged_behind, acknowledged_behind, item_behind, applying_behind, logging_behind}
use Rattle.write_log.proofs.Log.{top, Rising, top_none, top_last}
use Rattle.write_log.proofs.Holds.{Small, no_write, Holds, holds_as, holds_next, holds_other}
use Rattle.write_log.proofs.Quorum.{Follows, ShowsQuorum, made_entries, made_stamps, executed_low, entries_kept}

-- two tests that both pass
both_pass : (b : Bool) (x : Bool) → cond b x false ≡ true → (b ≡ true) × (x ≡ true)
both_pass true x e = (refl, e)
both_pass false x e = absurd (let z : ◌≡◌ {A = ℕ} 0 1 = cc in omega arith)

logs_tests : (s : List ℕ) (stamp : ℕ) → logs s stamp ≡ true
    → (is_above stamp (last_logged s) ≡ true) × (unexecuted s < limits.linked) × (links_have_room s ≡ true) × (logged_by s (head_of s) < limits.last_position)
unfolding logs
logs_tests s stamp e =
    let a = both_pass (is_above stamp (last_logged s)) _ e in
    let b = both_pass (ltb (unexecuted s) limits.linked) _ a.1 in
    let c = both_pass (links_have_room s) _ b.1 in
    (a.0, ltb-true (unexecuted s) limits.linked b.0, c.0, ltb-true (logged_by s (head_of s)) limits.last_position c.1)

-- no link is full
room_of : (s : List ℕ) → links_have_room s ≡ true → (r : ℕ) → r ∈ members s → items_taken s (head_of s) - items_taken s r < 64
unfolding links_have_room has_room linked_items
room_of s e r m = ltb-true (items_taken s (head_of s) - items_taken s r) 64 (all_member (has_room s) (members s) r e m)

module _ {s : List ℕ} {lead : ℕ} {log : List Write} {n : ℕ} {items : List Bool} (k : ShowsQuorum s lead log n items) where
  -- one item more for everyone but the leader
  follows_sent : (t : List ℕ) (b : Bool) (r : ℕ) → links_have_room s ≡ true → r ∈ members s → logged_by t r ≡ logged_by s r → applied_by t r ≡ applied_by s r → Follows t (items ++ b ∷ []) r
  unfolding items_taken
  follows_sent t b r roomy m c d =
      let f = k.follows r m in
      let more = length-append items (b ∷ []) in
      let all : items_taken s (head_of s) ≡ length items = ap (items_taken s) k.leads ∙ k.all_made in
      record {
        taken = rw (c, d) (omega (arith, f.taken, more));
        room = rw (c, d) (omega (arith, room_of s roomy r m, more, all, f.taken));
        logged_is = rw (c, d, take-append-le (logged_by s r + applied_by s r) items (b ∷ []) f.taken) f.logged_is;
      }

  -- ---- the leader logs a stamped write

  at_end : logged_by s (head_of s) ≡ length log
  at_end = ap (logged_by s) k.leads ∙ k.leader_logged

  -- a stamp that is above the last logged is above all of them
  pub above_logged : (stamp : ℕ) → is_above stamp (last_logged s) ≡ true → top 0 log < stamp
  unfolding last_logged
  above_logged stamp e = go (length log) refl
    where
      above : last_logged s < stamp
      above = above_true stamp (last_logged s) e

      last_is : (j : ℕ) → length log ≡ suc j → last_logged s ≡ (get_or log j no_write).stamp
      last_is j q =
          let here : logged_by s (head_of s) - 1 ≡ j = omega (arith, at_end, q) in
          ap (λ (i : ℕ). (entry_at s i).stamp) here ∙ ap (λ (u : Write). u.stamp) (k.entries_are j (omega (arith, q)) (omega (arith, q)))

      go : (j : ℕ) → length log ≡ j → top 0 log < stamp
      go zero q = omega (arith, top_none 0 log q, above)
      go (suc j) q = omega (arith, top_last 0 no_write log j q, last_is j q, above)

  module _ (w : Write) (accepted : logs s w.stamp ≡ true) where
    abbrev L : ℕ
    L = logged_by s (head_of s)

    abbrev one : List ℕ
    one = logged s L w

    abbrev two : List ℕ
    two = sending_item one 1

    abbrev t : List ℕ
    t = count_logged two (head_of s)

    roomy : links_have_room s ≡ true
    roomy = (logs_tests s w.stamp accepted).2

    -- the stamp is above those of all that the leader has logged
    pub logging_above : top 0 log < w.stamp
    logging_above = above_logged w.stamp (logs_tests s w.stamp accepted).0

    -- where the item goes
    here_is : items_taken one (head_of one) ≡ length items
    unfolding items_taken
    here_is =
        let h = head_same one s (members_logged s L w) in
        ap (λ (q : ℕ). logged_by one q + applied_by one q) (h ∙ k.leads) ∙
        rw (logged_behind s one (logging_behind s L w) lead, applied_logged s L w lead) k.all_made

    c : SameTables one two
    c = same_sending one 1

    d : SameTables two t
    d = same_counted two (head_of s)

    pub same : members t ≡ members s
    same = d.members_are ∙ c.members_are ∙ members_logged s L w

    old : (q : ℕ) → q ∈ members t → q ∈ members s
    old q m = subst (λ (l : List ℕ). q ∈ l) same m

    before : (q : ℕ) → logged_by two q ≡ logged_by s q
    before q = logged_sending one 1 q ∙ logged_behind s one (logging_behind s L w) q

    sized : SizedStore two
    sized = c.sized (sized_logged s L w k.sized)

    leader_counts : logged_by t lead ≡ length log + 1
    leader_counts =
        ap (logged_by t) (sym k.leads) ∙
        logged_counted two (head_of s) sized (rw (before (head_of s)) (logs_tests s w.stamp accepted).3) ∙
        ap (λ (j : ℕ). j + 1) (before (head_of s) ∙ at_end)

    pub other_counts : (q : ℕ) → q ∈ members s → (q ≡ lead → ⊥) → logged_by t q ≡ logged_by s q
    other_counts q m e =
        logged_counted_other two (head_of s) q (rw k.leads (row_apart q lead (k.named q m) (k.named lead k.lead_in) e)) ∙ before q

    pub applied_all : (q : ℕ) → applied_by t q ≡ applied_by s q
    applied_all q = d.applied_is q ∙ c.applied_is q ∙ applied_logged s L w q

    acknowledged_all : (q : ℕ) → acknowledged_by t q ≡ acknowledged_by s q
    acknowledged_all q = acknowledged_counted two (head_of s) q ∙ acknowledged_sending one 1 q ∙ acknowledged_behind s one (logging_behind s L w) q

    more : length (items ++ true ∷ []) ≡ length items + 1
    more = length-append items (true ∷ [])

    longer : length (log ++ w ∷ []) ≡ length log + 1
    longer = length-append log (w ∷ [])

    made : items_taken t lead ≡ length (items ++ true ∷ [])
    unfolding items_taken
    made = omega (arith, leader_counts, applied_all lead, more, k.all_made, k.leader_logged)

    pub shows_logging : ShowsQuorum (logging s w) lead (log ++ w ∷ []) n (items ++ true ∷ [])
    unfolding logging unexecuted
    shows_logging = record {
      sized = d.sized sized;
      leads = head_same t s same ∙ k.leads;
      lead_in = rw same k.lead_in;
      named = λ q m. k.named q (old q m);
      leader_logged = leader_counts ∙ sym longer;
      leader_executed = applied_all lead ∙ k.leader_executed;
      all_made = made;
      in_turn = in_turn_snoc items true k.in_turn (
        omega (arith, entries_append items (true ∷ []), stamps_append items (true ∷ []), made_entries k, made_stamps k, executed_of),
        omega (arith, entries_append items (true ∷ []), stamps_append items (true ∷ []), made_entries k, made_stamps k, room),
      );
      follows = λ q m. elim (ℕ_discrete q lead) [
        | yes e ↦ rw e (record {
          taken = omega (arith, made);
          room = omega (arith, made);
          logged_is = rw (take_all (items_taken t lead) (items ++ true ∷ []) (omega (arith, made)))
              (entries_append items (true ∷ []) ∙ ap (λ (j : ℕ). j + 1) (made_entries k) ∙ sym leader_counts);
        })
        | no e ↦ follows_sent t true q roomy (old q m) (other_counts q (old q m) e) (applied_all q)
      ];
      holds = λ q m. rw (applied_all q)
          (holds_as t (log ++ w ∷ [])
          (λ x. d.value_is q x ∙ c.value_is q x ∙ value_logged s L w q x) (λ x. d.stamp_is_same q x ∙ c.stamp_is_same q x ∙ stamp_logged s L w q x)
          (d.highest_is q ∙ c.highest_is q ∙ highest_logged s L w q)
          (take-append-le (applied_by s q) log (w ∷ []) (omega (arith, executed_low k q (old q m), executed_of))) (k.holds q (old q m)));
      entries_are = λ i l h. d.entry_is i ∙ c.entry_is i ∙ elim (ℕ_discrete i (length log)) [
        | yes e ↦ rw e (ap (λ (p : ℕ). entry_at (logged s p w) (length log)) at_end ∙ entry_logged_same s (length log) w k.sized ∙ sym (get_or-append_seam log w [] no_write))
        | no e ↦
            let below : i < length log = omega (arith, l, longer, e) in
            entry_logged_other s L w i (λ q. positions_apart i L (omega (arith, below, at_end)) (omega (arith, h, longer, at_end)) (sym q)) ∙
            k.entries_are i below (omega (arith, h, longer)) ∙ sym (get_or-append log (w ∷ []) no_write i below)
      ];
      kinds = λ p l h. item_counted two (head_of s) p ∙ elim (ℕ_discrete p (length items)) [
        | yes e ↦ rw e (ap (is_entry two) (sym here_is) ∙ item_sent one 1 (sized_logged s L w k.sized) ∙ sym (get_or-append_seam items true [] false))
        | no e ↦
            let below : p < length items = omega (arith, l, more, e) in
            item_sent_other one 1 p (omega (arith, below, here_is)) (omega (arith, h, more, here_is)) ∙
            item_behind s one (logging_behind s L w) p ∙ k.kinds p below (omega (arith, h, more)) ∙ sym (get_or-append items (true ∷ []) false p below)
      ];
      short = omega (arith, longer, at_end, (logs_tests s w.stamp accepted).3);
      known = λ q m. rw (acknowledged_all q) (elim (ℕ_discrete q lead) [
        | yes e ↦ rw e (omega (arith, leader_counts, k.known lead k.lead_in, k.leader_logged))
        | no e ↦ rw (other_counts q (old q m) e) (k.known q (old q m))
      ]);
    }
      where
        executed_of : n ≤ length log
        executed_of = omega (arith, made_entries k, made_stamps k, rw (take_all (length items) items (omega arith)) at (k.in_turn (length items) (omega arith)).0)

        room : length log < n + 64
        room = omega (arith, unexecuted_is s, (logs_tests s w.stamp accepted).1, at_end, ap (applied_by s) k.leads ∙ k.leader_executed)
          where
            unexecuted_is : (s : List ℕ) → unexecuted s ≡ logged_by s (head_of s) - applied_by s (head_of s)
            unexecuted_is s = refl

  -- ---- the leader executes the next write

  executes_tests : executes s ≡ true → (unexecuted s ≡ 0 → ⊥) × (majority_holds s (applied_by s (head_of s)) ≡ true) × (links_have_room s ≡ true)
  unfolding executes
  executes_tests = go (eqb (unexecuted s) 0) refl
    where
      go : (b : Bool) → eqb (unexecuted s) 0 ≡ b → cond b false (cond (majority_holds s (applied_by s (head_of s))) (links_have_room s) false) ≡ true
          → (unexecuted s ≡ 0 → ⊥) × (majority_holds s (applied_by s (head_of s)) ≡ true) × (links_have_room s ≡ true)
      go true p e = absurd (let z : ◌≡◌ {A = ℕ} 0 1 = cc in omega arith)
      go false p e = let a = both_pass (majority_holds s (applied_by s (head_of s))) _ e in (eqb-false (unexecuted s) 0 p, a.0, a.1)

  module _ (can : executes s ≡ true) (up : Rising 0 log) (small : Small log) where
    abbrev v : Write
    v = next_entry s (head_of s)

    abbrev sent : List ℕ
    sent = sending_item s 0

    abbrev e : List ℕ
    e = applying sent (head_of s) v

    links : links_have_room s ≡ true
    links = (executes_tests can).2

    pub next_there : n < length log
    unfolding unexecuted
    next_there = omega (arith, (executes_tests can).0, ap (logged_by s) k.leads ∙ k.leader_logged, ap (applied_by s) k.leads ∙ k.leader_executed)

    pub executed_entry : next_entry s (head_of s) ≡ get_or log n no_write
    unfolding next_entry
    executed_entry =
        ap (entry_at s) (ap (applied_by s) k.leads ∙ k.leader_executed) ∙
        k.entries_are n next_there (omega (arith, entries_kept k lead k.lead_in, k.leader_executed))

    fits : v.object < 1024
    fits = small v (subst (λ (u : Write). u ∈ log) (sym executed_entry) (in_get_d log n no_write next_there))

    sent_same : SameTables s sent
    sent_same = same_sending s 0

    pub keeps : members e ≡ members s
    keeps = members_applying sent (head_of s) v ∙ sent_same.members_are

    was : (q : ℕ) → q ∈ members e → q ∈ members s
    was q m = subst (λ (l : List ℕ). q ∈ l) keeps m

    pub logged_all : (q : ℕ) → logged_by e q ≡ logged_by s q
    logged_all q = logged_behind sent e (applying_behind sent (head_of s) v) q ∙ logged_sending s 0 q

    known_all : (q : ℕ) → acknowledged_by e q ≡ acknowledged_by s q
    known_all q = acknowledged_behind sent e (applying_behind sent (head_of s) v) q ∙ acknowledged_sending s 0 q

    leader_applies : applied_by e lead ≡ n + 1
    leader_applies =
        ap (applied_by e) (sym k.leads) ∙
        applied_applying_same sent (head_of s) v (sent_same.sized k.sized) (omega (arith, sent_same.applied_is (head_of s), ap (applied_by s) k.leads ∙ k.leader_executed, next_there, k.short)) ∙
        ap (λ (j : ℕ). j + 1) (sent_same.applied_is (head_of s) ∙ ap (applied_by s) k.leads ∙ k.leader_executed)

    pub others_apply : (q : ℕ) → q ∈ members s → (q ≡ lead → ⊥) → applied_by e q ≡ applied_by s q
    others_apply q m d =
        applied_applying_other sent (head_of s) v q (rw k.leads (row_apart q lead (k.named q m) (k.named lead k.lead_in) d)) ∙ sent_same.applied_is q

    plus : length (items ++ false ∷ []) ≡ length items + 1
    plus = length-append items (false ∷ [])

    item_place : items_taken s (head_of s) ≡ length items
    item_place = ap (items_taken s) k.leads ∙ k.all_made

    all_now : items_taken e lead ≡ length (items ++ false ∷ [])
    unfolding items_taken
    all_now = omega (arith, leader_applies, logged_all lead, plus, k.all_made, k.leader_executed)

    -- what a replica holds before the leader applies the write
    holds_sent : (q : ℕ) → q ∈ members s → Holds sent log q (applied_by s q)
    holds_sent q m = holds_as sent log (sent_same.value_is q) (sent_same.stamp_is_same q) (sent_same.highest_is q) refl (k.holds q m)

    pub shows_executing : ShowsQuorum (executing s) lead log (suc n) (items ++ false ∷ [])
    unfolding executing
    shows_executing = record {
      sized = sized_applying sent (head_of s) v (sent_same.sized k.sized);
      leads = head_same e s keeps ∙ k.leads;
      lead_in = rw keeps k.lead_in;
      named = λ q m. k.named q (was q m);
      leader_logged = logged_all lead ∙ k.leader_logged;
      leader_executed = leader_applies ∙ add-one n;
      all_made = all_now;
      in_turn = in_turn_snoc items false k.in_turn (
        omega (arith, entries_append items (false ∷ []), stamps_append items (false ∷ []), made_entries k, made_stamps k, next_there),
        omega (arith, entries_append items (false ∷ []), stamps_append items (false ∷ []), rw (take_all (length items) items (omega arith)) at (k.in_turn (length items) (omega arith)).1),
      );
      follows = λ q m. elim (ℕ_discrete q lead) [
        | yes d ↦ rw d (record {
          taken = omega (arith, all_now);
          room = omega (arith, all_now);
          logged_is = rw (take_all (items_taken e lead) (items ++ false ∷ []) (omega (arith, all_now)))
              (omega (arith, entries_append items (false ∷ []), made_entries k, logged_all lead, k.leader_logged));
        })
        | no d ↦ follows_sent e false q links (was q m) (logged_all q) (others_apply q (was q m) d)
      ];
      holds = λ q m. elim (ℕ_discrete q lead) [
        | yes d ↦ rw (d, leader_applies, add-one n)
            (subst (λ (r : ℕ). Holds (applying sent (head_of s) v) log r (suc n)) k.leads
            (holds_next v (sent_same.sized k.sized) (rw k.leads (k.named lead k.lead_in)) up small next_there executed_entry
            (subst (Holds sent log (head_of s)) (ap (applied_by s) k.leads ∙ k.leader_executed) (rw k.leads (holds_sent lead k.lead_in)))))
        | no d ↦ rw (others_apply q (was q m) d)
            (holds_other (head_of s) v (k.named q (was q m)) (rw k.leads (k.named lead k.lead_in)) (rw k.leads d) fits (holds_sent q (was q m)))
      ];
      entries_are = λ i l h. entry_applying sent (head_of s) v i ∙ sent_same.entry_is i ∙ k.entries_are i l h;
      kinds = λ p l h. item_behind sent e (applying_behind sent (head_of s) v) p ∙ elim (ℕ_discrete p (length items)) [
        | yes d ↦ rw d (ap (is_entry sent) (sym item_place) ∙ item_sent s 0 k.sized ∙ sym (get_or-append_seam items false [] false))
        | no d ↦
            let below : p < length items = omega (arith, l, plus, d) in
            item_sent_other s 0 p (omega (arith, below, item_place)) (omega (arith, h, plus, item_place)) ∙
            k.kinds p below (omega (arith, h, plus)) ∙ sym (get_or-append items (false ∷ []) false p below)
      ];
      short = k.short;
      known = λ q m. rw (known_all q, logged_all q) (k.known q (was q m));
    }

    -- EVERY EXECUTED WRITE STANDS IN THE LOGS OF A MAJORITY: those that the leader knows to hold it do
    pub majority_has : live_count s < 2 * count_of (λ r. ltb n (logged_by s r)) (members s)
    unfolding majority_holds is_holder
    majority_has =
        let known = ltb-true (live_count s) (2 * count_of (is_holder s (applied_by s (head_of s))) (members s)) (executes_tests can).1 in
        let most = count_most (is_holder s (applied_by s (head_of s))) (λ r. ltb n (logged_by s r)) (members s) holder in
        omega (arith, known, most)
      where
        here_is : applied_by s (head_of s) ≡ n
        here_is = ap (applied_by s) k.leads ∙ k.leader_executed

        holder : (r : ℕ) → r ∈ members s → is_holder s (applied_by s (head_of s)) r ≡ true → ltb n (logged_by s r) ≡ true
        holder r m = go (eqb r (head_of s)) refl
          where
            go : (b : Bool) → eqb r (head_of s) ≡ b → cond b true (ltb (applied_by s (head_of s)) (acknowledged_by s r)) ≡ true → ltb n (logged_by s r) ≡ true
            go true d c = lt-ltb n (logged_by s r) (omega (arith, next_there, ap (logged_by s) (eqb-true r (head_of s) d ∙ k.leads) ∙ k.leader_logged))
            go false d c = lt-ltb n (logged_by s r) (omega (arith, ltb-true (applied_by s (head_of s)) (acknowledged_by s r) c, here_is, k.known r m))
