-- A quorum store shows one log: the leader has logged all of it and executed the first n writes, every replica has taken a front part of the items that the leader sent, and its tables are
-- those of the writes that it has executed.
use mathlib.Core.Path.{◌≡◌, refl, sym, ap, ◌∙◌, subst}
use mathlib.Core.Bool.{Bool, true, false}
use mathlib.Core.List.{List, []}
use Prim.Native.Nat.{ℕ, suc, ◌+◌, ◌≤◌, ◌<◌}
use native.Mathlib.Numerals.{add-one}
use native.Mathlib.Decide.{ℕ_discrete}
use native.Mathlib.Omega.{arith}
use lib.ListN.{length, get_or, take}
use lib.Seq.{take-nil, take_all, length-take-le}
use Rattle.limits.specs as limits
use Rattle.history.specs.History.{◌∈◌}
use Rattle.history.proofs.Lists.{in_get_d}
use Rattle.store.specs.declared.Write.{Write}
use Rattle.store.specs.{live_count, members, row_of, highest_of, applied_by, entry_at, value_at}
use Rattle.chain.specs.{chain_place, head_of, permitting, empty_store}
use Rattle.replicas.specs.Replicas.{applying}
use Rattle.chain.proofs.Members.{head_is, member_in, in_live, place_at, place_below, count_same, head_same}
use Rattle.replicas.proofs.Shape.{sized_empty, count_empty, member_empty, highest_empty, applied_empty, value_empty, stamp_empty}
use Rattle.replicas.proofs.Descending.{descending_empty}
use Rattle.replicas.proofs.Cells.{SizedStore, Named, row_apart, sized_applying, members_applying, entry_applying, applied_applying_same, applied_applying_other}
use Rattle.replicas.proofs.Cells.{sized_permitting, members_permitting, highest_permitting, applied_permitting, entry_permitting, value_permitting, stamp_permitting}
use Rattle.quorum.specs.{logged_by, acknowledged_by, is_entry, items_taken, count_logged}
use Rattle.quorum.specs.{next_is_entry, next_entry, acknowledging, quorum_store}
use Rattle.quorum.proofs.Items.{entries_in, stamps_in, counts_together, stamps_take, entries_most, entry_next, stamp_next, entry_stays, InTurn, kept_most}
use Rattle.quorum.proofs.Cells.{same_counted, same_acknowledging, same_start, logged_start, acknowledged_start}
use Rattle.quorum.proofs.Cells.{logged_counted, logged_counted_other, acknowledged_counted, item_counted}
use Rattle.quorum.proofs.Cells.{acknowledged_same, acknowledged_other, logged_acknowledging, item_acknowledging, logged_behind, acknowledged_behind, item_behind, applying_behind, permitting_behind}
use Rattle.write_log.proofs.Log.{values, top, Rising}
use Rattle.write_log.proofs.Holds.{Small, no_write, Holds, holds_as, holds_next, holds_other}

-- replica r has taken a front part of the items, and its link holds the rest, at most 64
pub record Follows (s : List ℕ) (items : List Bool) (r : ℕ) : Type 0 where
  pub taken : items_taken s r ≤ length items
  pub room : length items ≤ items_taken s r + 64
  pub logged_is : entries_in (take (items_taken s r) items) ≡ logged_by s r

-- lead is the leader, items are those that it has sent to every follower
pub record ShowsQuorum (s : List ℕ) (lead : ℕ) (log : List Write) (n : ℕ) (items : List Bool) : Type 0 where
  pub sized : SizedStore s
  pub leads : head_of s ≡ lead
  pub lead_in : lead ∈ members s
  pub named : (r : ℕ) → r ∈ members s → Named r
  pub leader_logged : logged_by s lead ≡ length log
  pub leader_executed : applied_by s lead ≡ n
  pub all_made : items_taken s lead ≡ length items
  pub in_turn : InTurn items
  pub follows : (r : ℕ) → r ∈ members s → Follows s items r
  pub holds : (r : ℕ) → r ∈ members s → Holds s log r (applied_by s r)
  -- the store has the last 128 entries of the log, and the kinds of the last 64 items
  pub entries_are : (i : ℕ) → i < length log → length log ≤ i + limits.kept → entry_at s i ≡ get_or log i no_write
  pub kinds : (p : ℕ) → p < length items → length items ≤ p + limits.linked → is_entry s p ≡ get_or items p false
  pub short : length log ≤ limits.last_position
  -- no replica is known to have logged more than it has
  pub known : (r : ℕ) → r ∈ members s → acknowledged_by s r ≤ logged_by s r

-- ---- what follows

module _ {s : List ℕ} {lead : ℕ} {log : List Write} {n : ℕ} {items : List Bool} (k : ShowsQuorum s lead log n items) where
  pub made_entries : entries_in items ≡ length log
  made_entries =
      ap entries_in (sym (take_all (items_taken s lead) items (omega (arith, k.all_made)))) ∙ (k.follows lead k.lead_in).logged_is ∙ k.leader_logged

  sum_of : (r : ℕ) → items_taken s r ≡ logged_by s r + applied_by s r
  unfolding items_taken
  sum_of r = refl

  pub made_stamps : stamps_in items ≡ n
  made_stamps = omega (arith, made_entries, counts_together items, k.all_made, sum_of lead, k.leader_logged, k.leader_executed)

  module _ (r : ℕ) (m : r ∈ members s) where
    -- a replica has executed as many writes as it has taken stamps
    pub executed_is : stamps_in (take (items_taken s r) items) ≡ applied_by s r
    executed_is =
        omega (arith, counts_together (take (items_taken s r) items), length-take-le (items_taken s r) items (k.follows r m).taken, (k.follows r m).logged_is, sum_of r)

    -- never more than the leader
    pub executed_low : applied_by s r ≤ n
    executed_low = omega (arith, executed_is, stamps_take (items_taken s r) items, made_stamps)

    -- nor more than it has logged, and at most 64 less
    pub executed_logged : (applied_by s r ≤ logged_by s r) × (logged_by s r ≤ applied_by s r + 64)
    executed_logged =
        let t = k.in_turn (items_taken s r) (k.follows r m).taken in
        (omega (arith, executed_is, (k.follows r m).logged_is, t.0), omega (arith, executed_is, (k.follows r m).logged_is, t.1))

    -- the store has every entry from the next that it executes on
    pub entries_kept : length log ≤ applied_by s r + limits.kept
    entries_kept =
        omega (arith, kept_most items (items_taken s r) k.in_turn (k.follows r m).taken (k.follows r m).room, executed_is, made_entries)

    -- WHAT IT ANSWERS: the writes that it has executed are a front part of the visible ones, and its executed stamp is the last of them
    pub answers_value : (x : ℕ) → x < 1024 → value_at s r x ≡ values (take (applied_by s r) log) x
    answers_value x b = (k.holds r m).values_are x b

    pub answers_stamp : highest_of s r ≡ top 0 (take (applied_by s r) log)
    answers_stamp = (k.holds r m).highest_is

-- ---- the same members

module _ {s : List ℕ} {lead : ℕ} {log : List Write} {n : ℕ} {items : List Bool} (k : ShowsQuorum s lead log n items) where
  -- a replica as it was
  follows_as : (t : List ℕ) (r : ℕ) → logged_by t r ≡ logged_by s r → applied_by t r ≡ applied_by s r → Follows s items r → Follows t items r
  unfolding items_taken
  follows_as t r a b f = record {
    taken = rw (a, b) f.taken;
    room = rw (a, b) f.room;
    logged_is = rw (a, b) f.logged_is;
  }

  -- ---- a replica is told to permit a switch
  pub shows_permitting : (r number : ℕ) → ShowsQuorum (permitting s r number) lead log n items
  unfolding items_taken
  shows_permitting r number =
      let t = permitting s r number in
      let same = members_permitting s r number in
      let a = logged_behind s t (permitting_behind s r number) in
      let b = applied_permitting s r number in
      let old : (q : ℕ) → q ∈ members t → q ∈ members s = λ q m. subst (λ (l : List ℕ). q ∈ l) same m in
      record {
        sized = sized_permitting s r number k.sized;
        leads = head_same t s same ∙ k.leads;
        lead_in = rw same k.lead_in;
        named = λ q m. k.named q (old q m);
        leader_logged = a lead ∙ k.leader_logged;
        leader_executed = b lead ∙ k.leader_executed;
        all_made = rw (a lead, b lead) k.all_made;
        in_turn = k.in_turn;
        follows = λ q m. follows_as t q (a q) (b q) (k.follows q (old q m));
        holds = λ q m. rw (b q)
            (holds_as t log (λ x. value_permitting s r number q x) (λ x. stamp_permitting s r number q x) (highest_permitting s r number q) refl (k.holds q (old q m)));
        entries_are = λ i l h. entry_permitting s r number i ∙ k.entries_are i l h;
        kinds = λ p l h. item_behind s t (permitting_behind s r number) p ∙ k.kinds p l h;
        short = k.short;
        known = λ q m. rw (acknowledged_behind s t (permitting_behind s r number) q, a q) (k.known q (old q m));
      }

  -- ---- an acknowledgement comes to the leader
  pub shows_acknowledging : (r j : ℕ) → r ∈ members s → j ≤ logged_by s r → ShowsQuorum (acknowledging s r j) lead log n items
  unfolding items_taken
  shows_acknowledging r j i low =
      let t = acknowledging s r j in
      let c = same_acknowledging s r j in
      let a = logged_acknowledging s r j in
      let b = c.applied_is in
      let old : (q : ℕ) → q ∈ members t → q ∈ members s = λ q m. subst (λ (l : List ℕ). q ∈ l) c.members_are m in
      record {
        sized = c.sized k.sized;
        leads = head_same t s c.members_are ∙ k.leads;
        lead_in = rw c.members_are k.lead_in;
        named = λ q m. k.named q (old q m);
        leader_logged = a lead ∙ k.leader_logged;
        leader_executed = b lead ∙ k.leader_executed;
        all_made = rw (a lead, b lead) k.all_made;
        in_turn = k.in_turn;
        follows = λ q m. follows_as t q (a q) (b q) (k.follows q (old q m));
        holds = λ q m. rw (b q) (holds_as t log (c.value_is q) (c.stamp_is_same q) (c.highest_is q) refl (k.holds q (old q m)));
        entries_are = λ p l h. c.entry_is p ∙ k.entries_are p l h;
        kinds = λ p l h. item_acknowledging s r j p ∙ k.kinds p l h;
        short = k.short;
        known = λ q m. rw (a q) (elim (ℕ_discrete q r) [
          | yes e ↦ rw (e, acknowledged_same s r j k.sized) (omega (arith, low, k.known r i))
          | no d ↦ rw (acknowledged_other s r j q (row_apart q r (k.named q (old q m)) (k.named r i) d)) (k.known q (old q m))
        ]);
      }

-- ---- a follower takes the oldest item of its link

module _ {s : List ℕ} {lead : ℕ} {log : List Write} {n : ℕ} {items : List Bool} (k : ShowsQuorum s lead log n items) where
  -- replica r has moved on, and everything else is as it was
  shows_moved : (t : List ℕ) (r : ℕ) → r ∈ members s → (r ≡ lead → ⊥) → SizedStore t → members t ≡ members s
      → ((q : ℕ) → q ∈ members s → (q ≡ r → ⊥) → (logged_by t q ≡ logged_by s q) × (applied_by t q ≡ applied_by s q) × Holds t log q (applied_by s q))
      → Follows t items r → Holds t log r (applied_by t r) → ((p : ℕ) → entry_at t p ≡ entry_at s p) → ((p : ℕ) → is_entry t p ≡ is_entry s p)
      → ((q : ℕ) → acknowledged_by t q ≡ acknowledged_by s q) → logged_by s r ≤ logged_by t r → ShowsQuorum t lead log n items
  unfolding items_taken
  shows_moved t r i d sized same others follows holds entry kind known more =
      let old : (q : ℕ) → q ∈ members t → q ∈ members s = λ q m. subst (λ (l : List ℕ). q ∈ l) same m in
      let o = others lead k.lead_in (λ e. d (sym e)) in
      record {
        sized = sized;
        leads = head_same t s same ∙ k.leads;
        lead_in = rw same k.lead_in;
        named = λ q m. k.named q (old q m);
        leader_logged = o.0 ∙ k.leader_logged;
        leader_executed = o.1 ∙ k.leader_executed;
        all_made = rw (o.0, o.1) k.all_made;
        in_turn = k.in_turn;
        follows = λ q m. elim (ℕ_discrete q r) [
          | yes e ↦ rw e follows
          | no e ↦ let u = others q (old q m) e in follows_as k t q u.0 u.1 (k.follows q (old q m))
        ];
        holds = λ q m. elim (ℕ_discrete q r) [
          | yes e ↦ rw e holds
          | no e ↦ let u = others q (old q m) e in rw u.1 u.2
        ];
        entries_are = λ p l h. entry p ∙ k.entries_are p l h;
        kinds = λ p l h. kind p ∙ k.kinds p l h;
        short = k.short;
        known = λ q m. rw (known q) (elim (ℕ_discrete q r) [
          | yes e ↦ rw e (omega (arith, more, k.known r i))
          | no e ↦ rw (others q (old q m) e).0 (k.known q (old q m))
        ]);
      }

  module _ (r : ℕ) (i : r ∈ members s) (d : r ≡ lead → ⊥) (some : items_taken s r < length items) where
    -- the item is the next one of those sent
    pub next_is : next_is_entry s r ≡ get_or items (items_taken s r) false
    unfolding next_is_entry
    next_is = k.kinds (items_taken s r) some (k.follows r i).room

    apart : (q : ℕ) → q ∈ members s → (q ≡ r → ⊥) → row_of q ≡ row_of r → ⊥
    apart q m e = row_apart q r (k.named q m) (k.named r i) e

    -- an entry: it is the next one of the log, and the follower logs it
    module _ (entry : next_is_entry s r ≡ true) where
      logged_next : entries_in (take (suc (items_taken s r)) items) ≡ logged_by s r + 1
      logged_next = entry_next (items_taken s r) items some (sym next_is ∙ entry) ∙ ap (λ (j : ℕ). j + 1) (k.follows r i).logged_is

      pub entry_there : logged_by s r < length log
      entry_there = omega (arith, logged_next, entries_most (suc (items_taken s r)) items, made_entries k)

      pub shows_entry_taken : ShowsQuorum (count_logged s r) lead log n items
      unfolding items_taken
      shows_entry_taken =
          let t = count_logged s r in
          let c = same_counted s r in
          let one : logged_by t r ≡ logged_by s r + 1 = logged_counted s r k.sized (omega (arith, entry_there, k.short)) in
          let moved : logged_by t r + applied_by t r ≡ suc (logged_by s r + applied_by s r) = omega (arith, one, c.applied_is r) in
          shows_moved t r i d (c.sized k.sized) c.members_are
          (λ q m e. (
            logged_counted_other s r q (apart q m e),
            c.applied_is q,
            holds_as t log (c.value_is q) (c.stamp_is_same q) (c.highest_is q) refl (k.holds q m),
          ))
          (record {
            taken = rw moved (omega (arith, some));
            room = rw moved (omega (arith, (k.follows r i).room));
            logged_is = rw moved (logged_next ∙ sym one);
          })
          (rw (c.applied_is r) (holds_as t log (c.value_is r) (c.stamp_is_same r) (c.highest_is r) refl (k.holds r i)))
          c.entry_is (item_counted s r) (acknowledged_counted s r) (omega (arith, one))

    -- an executed stamp: it is that of the next entry, which the follower has logged and now executes
    module _ (executed : next_is_entry s r ≡ false) (up : Rising 0 log) (small : Small log) where
      stays : entries_in (take (suc (items_taken s r)) items) ≡ logged_by s r
      stays = entry_stays (items_taken s r) items some (sym next_is ∙ executed) ∙ (k.follows r i).logged_is

      -- it has logged the entry
      pub logged_there : applied_by s r < logged_by s r
      logged_there =
          omega (arith, stamp_next (items_taken s r) items some (sym next_is ∙ executed), executed_is k r i, (k.in_turn (suc (items_taken s r)) some).0, stays)

      pub executed_there : applied_by s r < length log
      executed_there = omega (arith, logged_there, stays, entries_most (suc (items_taken s r)) items, made_entries k)

      pub next_entry_is : next_entry s r ≡ get_or log (applied_by s r) no_write
      unfolding next_entry
      next_entry_is = k.entries_are (applied_by s r) executed_there (entries_kept k r i)

      abbrev w : Write
      w = next_entry s r

      fits : w.object < 1024
      fits = small w (subst (λ (u : Write). u ∈ log) (sym next_entry_is) (in_get_d log (applied_by s r) no_write executed_there))

      pub shows_stamp_taken : ShowsQuorum (applying s r (next_entry s r)) lead log n items
      unfolding items_taken
      shows_stamp_taken =
          let t = applying s r w in
          let f = applying_behind s r w in
          let one : applied_by t r ≡ applied_by s r + 1 = applied_applying_same s r w k.sized (omega (arith, executed_there, k.short)) in
          let moved : logged_by t r + applied_by t r ≡ suc (logged_by s r + applied_by s r) = omega (arith, one, logged_behind s t f r) in
          shows_moved t r i d (sized_applying s r w k.sized) (members_applying s r w)
          (λ q m e. (
            logged_behind s t f q,
            applied_applying_other s r w q (apart q m e),
            holds_other r w (k.named q m) (k.named r i) e fits (k.holds q m),
          ))
          (record {
            taken = rw moved (omega (arith, some));
            room = rw moved (omega (arith, (k.follows r i).room));
            logged_is = rw moved (stays ∙ sym (logged_behind s t f r));
          })
          (rw (one, add-one (applied_by s r)) (holds_next w k.sized (k.named r i) up small executed_there next_entry_is (k.holds r i)))
          (entry_applying s r w) (item_behind s t f) (acknowledged_behind s t f) (omega (arith, logged_behind s t f r))

-- ---- at the start

pub shows_quorum_start : (n : ℕ) → 1 ≤ n → n ≤ 8 → ShowsQuorum (quorum_store n) 1 [] 0 []
unfolding items_taken
shows_quorum_start n l h =
    let t = quorum_store n in
    let c = same_start n in
    let z : (r : ℕ) → applied_by t r ≡ 0 = λ r. c.applied_is r ∙ applied_empty n r in
    let first : head_of t ≡ 1 = head_same t (empty_store n) c.members_are ∙ head_is (empty_store n) ∙ member_empty n 0 h (omega (arith, l)) in
    let live : 0 < live_count t = omega (arith, count_same t (empty_store n) c.members_are, count_empty n h, l) in
    let none : (r : ℕ) → logged_by t r + applied_by t r ≡ 0 = λ r. omega (arith, logged_start n r, z r) in
    record {
      sized = c.sized (sized_empty n);
      leads = first;
      lead_in = subst (λ (r : ℕ). r ∈ members t) (sym (head_is t) ∙ first) (member_in t 0 live);
      named = λ r m. start_named n h r (subst (λ (k : List ℕ). r ∈ k) c.members_are m);
      leader_logged = logged_start n 1;
      leader_executed = z 1;
      all_made = none 1;
      in_turn = λ q b. rw take-nil (omega arith, omega arith);
      follows = λ r m. record { taken = omega (arith, none r); room = omega arith; logged_is = rw (none r) (sym (logged_start n r)) };
      holds = λ r m. record {
        values_are = λ x b. rw take-nil (c.value_is r x ∙ value_empty n r x);
        stamps_are = λ x b. rw take-nil (c.stamp_is_same r x ∙ stamp_empty n r x);
        highest_is = rw take-nil (c.highest_is r ∙ highest_empty n r);
      };
      entries_are = λ i b. absurd (omega (arith, b));
      kinds = λ p b. absurd (omega (arith, b));
      short = omega arith;
      known = λ r m. omega (arith, acknowledged_start n r);
    }
  where
    start_named : (n : ℕ) → n ≤ 8 → (r : ℕ) → r ∈ members (empty_store n) → Named r
    start_named n h r m =
        let live = in_live (empty_store n) r m in
        rw (place_at (empty_store n) r live) at ((descending_empty n h).named (chain_place (empty_store n) r) (place_below (empty_store n) r live))
