-- Req 04: what is written into the newcomer's table while it joins leaves the log shown as it was: no live replica has that table.
use mathlib.Core.Path.{◌≡◌, refl, sym, ◌∙◌, subst}
use mathlib.Core.Bool.{true}
use mathlib.Core.List.{List, ◌∷◌}
use Prim.Native.Nat.{ℕ, zero, suc, ◌+◌, ◌*◌, ◌≤◌, ◌<◌}
use native.Mathlib.Omega.{arith}
use lib.Dec.{ltb}
use Rattle.lists.proofs.Tests.{by_test, two_pass}
use Rattle.store.specs.declared.Write.{Write}
use Rattle.store.specs.{live_count, members, order_at, applied_by, entry_at, tabled}
use Rattle.chain.specs.{chain_place, is_live, head_of, tail_of}
use Rattle.replicas.specs.Links.{entries}
use Rattle.joins.specs.{is_join_set, is_joining, copies_made, newcomer, holding_of, copied_object, copied, is_copied, handing_on}
use Rattle.chain.proofs.Members.{count_most, member_order, live_in, place_at, place_below}
use Rattle.replicas.proofs.Cells.{Named, members_same, low_tabled, sized_tabled, highest_tabled, applied_tabled, entry_tabled, value_tabled_other, stamp_tabled_other}
use Rattle.replicas.proofs.Descending.{descending_same}
use Rattle.write_log.proofs.Holds.{Holds}
use Rattle.write_log.proofs.Shows.{ShowsTo, shows_same, live_named}
use Rattle.write_log.proofs.Places.{Places, SamePlaces, joining_set, live_count_same, newcomer_same, places_same, places_self, places_tabled}
use Rattle.write_log.proofs.Copies.{places_copied}

-- a live replica's table is one of the eight
pub live_named_in : {s : List ℕ} → Places s → (r : ℕ) → is_live s r ≡ true → Named r
live_named_in {s} g r live =
    let p = chain_place s r in
    let low = place_below s r live in
    subst Named (sym (member_order s p low) ∙ place_at s r live) (g.named p (omega (arith, low, count_most s)))

module _ {s : List ℕ} (g : Places s) (free : live_count s < 8) where
  pub newcomer_named : Named (newcomer s)
  unfolding newcomer
  newcomer_named = g.named (live_count s) free

  -- no live replica has the newcomer's table
  pub newcomer_apart : (r : ℕ) → is_live s r ≡ true → r ≡ newcomer s → ⊥
  unfolding newcomer
  newcomer_apart r live e =
      let p = chain_place s r in
      let low = place_below s r live in
      let here : order_at s p ≡ r = sym (member_order s p low) ∙ place_at s r live in
      let same : p ≡ live_count s = g.apart p (live_count s) (omega (arith, low, free)) free (here ∙ e) in
      omega (arith, same, low)

module _ {s : List ℕ} {log : List Write} {m n : ℕ} (k : ShowsTo s log m n) (g : Places s) (free : live_count s < 8) where
  members_beside : (w : Write) → members (tabled s (newcomer s) w) ≡ members s
  members_beside w = members_same (tabled s (newcomer s) w) s (λ i h. low_tabled s (newcomer s) w i (omega arith))

  pub shows_beside : (w : Write) → w.object < 1024 → ShowsTo (tabled s (newcomer s) w) log m n
  shows_beside w small =
      let t = tabled s (newcomer s) w in
      shows_same k t log m n (members_beside w) (sized_tabled s (newcomer s) w k.sized)
      (descending_same s t (members_beside w) (λ r. applied_tabled s (newcomer s) w r) k.falls)
      (applied_tabled s (newcomer s) w (head_of s) ∙ k.head_has) (applied_tabled s (newcomer s) w (tail_of s) ∙ k.tail_has)
      (λ r live. rw (applied_tabled s (newcomer s) w r) (holds r live))
      (λ i a b. entry_tabled s (newcomer s) w i ∙ k.entries_are i a b)
      k.room
    where
      holds : (r : ℕ) → is_live s r ≡ true → Holds (tabled s (newcomer s) w) log r (applied_by s r)
      holds r live =
          let was = k.holds r (live_in s r live) in
          let named = live_named k r live in
          record {
            values_are = λ x l. value_tabled_other s (newcomer s) w r x named (newcomer_named g free) l small (λ e o. newcomer_apart g free r live e) ∙ was.values_are x l;
            stamps_are = λ x l. stamp_tabled_other s (newcomer s) w r x named (newcomer_named g free) l small (λ e o. newcomer_apart g free r live e) ∙ was.stamps_are x l;
            highest_is = highest_tabled s (newcomer s) w r ∙ was.highest_is;
          }

-- so while objects are copied to it
module _ {s : List ℕ} {log : List Write} {m n : ℕ} (k : ShowsTo s log m n) (g : Places s) (free : live_count s < 8) (t first : ℕ) where
  newcomer_copied : (i : ℕ) → newcomer (copied s (newcomer s) t first i) ≡ newcomer s
  unfolding newcomer
  newcomer_copied i =
      let e = places_copied s (newcomer s) t first i in
      newcomer_same e.same free

  pub shows_copied : (i : ℕ) → first + i ≤ 1024 → ShowsTo (copied s (newcomer s) t first i) log m n
  unfolding copied copied_object
  shows_copied zero h = k
  shows_copied (suc i) h =
      let u = copied s (newcomer s) t first i in
      let e = places_copied s (newcomer s) t first i in
      let w = holding_of u t (first + i) in
      subst (λ (q : ℕ). ShowsTo (tabled u q w) log m n) (newcomer_copied i)
      (shows_beside (shows_copied i (omega arith)) (places_same e g) (omega (arith, live_count_same e.same, free)) w (omega arith))

-- ---- a write is handed on

copied_joins : (s : List ℕ) (o : ℕ) → is_copied s o ≡ true → is_join_set s ≡ true
unfolding is_copied
copied_joins s o e = joining_set s (two_pass (is_joining s) (ltb o (64 * copies_made s)) e).0

pub places_handing : (s : List ℕ) (w : Write) → SamePlaces s (handing_on s w)
unfolding handing_on
places_handing s w = by_test (SamePlaces s) (is_copied s w.object) (λ c. places_tabled s (newcomer s) w) (λ c. places_self)

pub shows_handing : {s : List ℕ} {log : List Write} {m n : ℕ} → ShowsTo s log m n → Places s → (w : Write) → w.object < 1024 → ShowsTo (handing_on s w) log m n
unfolding handing_on
shows_handing {s} {log} {m} {n} k g w small =
    by_test (λ (t : List ℕ). ShowsTo t log m n) (is_copied s w.object)
    (λ c. shows_beside k g (g.joining (copied_joins s w.object c)).0 w small) (λ c. k)

-- the entries of the log stay
entry_handing : (s : List ℕ) (w : Write) (p : ℕ) → entry_at (handing_on s w) p ≡ entry_at s p
unfolding handing_on
entry_handing s w p = by_test (λ (t : List ℕ). entry_at t p ≡ entry_at s p) (is_copied s w.object) (λ c. entry_tabled s (newcomer s) w p) (λ c. refl)

pub entries_handing : (s : List ℕ) (w : Write) (p k : ℕ) → entries (handing_on s w) p k ≡ entries s p k
unfolding entries
entries_handing s w p zero = refl
entries_handing s w p (suc k) = λ j. entry_handing s w p j ∷ entries_handing s w (p + 1) k j
