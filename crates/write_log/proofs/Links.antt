-- Req 04, the links in document 01's words: a copy leaves every replica's incoming link as it is, and the new tail's is empty.
use mathlib.Core.Path.{◌≡◌, refl, sym, ap, ◌∙◌}
use mathlib.Core.Bool.{Bool, true, false}
use mathlib.Core.List.{List, []}
use Prim.Native.Nat.{ℕ, ◌+◌, ◌-◌, ◌<◌}
use native.Mathlib.Nat.{sub_self}
use native.Mathlib.Decide.{ℕ_discrete}
use native.Mathlib.Omega.{arith}
use lib.Dec.{eqb}
use lib.ListN.{set}
use borrow.Author.Tests.{eqb-true}
use Rattle.lists.proofs.Tests.{by_test}
use Rattle.store.specs.declared.Write.{Write}
use Rattle.store.specs.{join_cell, live_count, members, row_of, applied_by, entry_at}
use Rattle.chain.specs.{chain_place, is_live, member_at, tail_of}
use Rattle.replicas.specs.Replicas.{pending}
use Rattle.replicas.specs.Links.{entries, link_into}
use Rattle.joins.specs.{is_join_set, copies_made, newcomer, promoted, one_copy, copying}
use Rattle.chain.proofs.Members.{tail_is, member_in, in_live, place_at, place_below, below_live, member_same, place_same, live_same}
use Rattle.replicas.proofs.Cells.{SizedStore, row_apart}
use Rattle.replicas.proofs.Moves.{pending_head, pending_behind}
use Rattle.replicas.proofs.Descending.{Descending, place_is}
use Rattle.replicas.proofs.Links.{link_live, link_gone, link_is}
use Rattle.write_log.proofs.Shows.{Shows, tail_live}
use Rattle.write_log.proofs.Kept.{members_kept, applied_kept, entry_kept}
use Rattle.write_log.proofs.Places.{Places, members_as, places_same}
use Rattle.write_log.proofs.Copies.{Alike, applied_copied, entry_copied}
use Rattle.write_log.proofs.Beside.{live_named_in, newcomer_named, newcomer_apart}
use Rattle.write_log.proofs.Promotion.{count_promoted, member_promoted, member_promoted_last, entry_promoted, applied_promoted_own, applied_promoted}
use Rattle.write_log.proofs.Newcomer.{shows_promoted}
use Rattle.write_log.proofs.Joined.{JoinInvariant, few_left, noted_replicas, copy_places, copy_shows, copy_newcomer, copy_free, all_alike}

-- how much a live replica's link holds is told by its place, by the one before it and by what the two have applied
pending_same : (s t : List ℕ) (r : ℕ) → chain_place t r ≡ chain_place s r → (0 < chain_place s r → member_at t (chain_place s r - 1) ≡ member_at s (chain_place s r - 1))
    → (0 < chain_place s r → applied_by t (member_at s (chain_place s r - 1)) ≡ applied_by s (member_at s (chain_place s r - 1))) → applied_by t r ≡ applied_by s r → pending t r ≡ pending s r
pending_same s t r e before front own =
    elim (ℕ_discrete (chain_place s r) 0) [
      | yes z ↦ pending_head t r (e ∙ z) ∙ sym (pending_head s r z)
      | no d ↦
          let h : 0 < chain_place s r = omega (arith, d) in
          pending_behind t r (omega (arith, e, h)) ∙ rw (e, before h, front h, own) refl ∙ sym (pending_behind s r h)
    ]

-- two stores with the same members, which have applied the same of the same log
pub links_same : (s t : List ℕ) → members t ≡ members s → ((r : ℕ) → applied_by t r ≡ applied_by s r) → ((p : ℕ) → entry_at t p ≡ entry_at s p) → (r : ℕ) → link_into t r ≡ link_into s r
links_same s t e a f r = go (is_live s r) refl
  where
    go : (b : Bool) → is_live s r ≡ b → link_into t r ≡ link_into s r
    go true live =
        link_is s t r live (live_same t s e r ∙ live) (a r)
        (pending_same s t r (place_same t s e r) (λ h. member_same t s e (chain_place s r - 1)) (λ h. a (member_at s (chain_place s r - 1))) (a r)) (λ q b c. f q)
    go false gone = link_gone t r (live_same t s e r ∙ gone) ∙ sym (link_gone s r gone)

-- ---- the newcomer becomes the tail

module _ {s : List ℕ} {log : List Write} {n : ℕ} (k : Shows s log n) (g : Places s) (room : live_count s < 8)
    (alike : (o : ℕ) → o < 1024 → Alike s (newcomer s) (tail_of s) o) where
  abbrev t : List ℕ
  t = promoted s

  z : SizedStore s
  z = k.sized

  falls : Descending t
  falls = (shows_promoted k g room alike).falls

  -- a live replica has another row than the newcomer
  apart : (r : ℕ) → is_live s r ≡ true → row_of r ≡ row_of (newcomer s) → ⊥
  apart r live = row_apart r (newcomer s) (live_named_in g r live) (newcomer_named g room) (newcomer_apart g room r live)

  kept_applied : (r : ℕ) → is_live s r ≡ true → applied_by t r ≡ applied_by s r
  kept_applied r live = applied_promoted s z room r (apart r live)

  kept_place : (r : ℕ) → is_live s r ≡ true → chain_place t r ≡ chain_place s r
  kept_place r live =
      let low = place_below s r live in
      let here : member_at t (chain_place s r) ≡ r = member_promoted s z room (chain_place s r) low ∙ place_at s r live in
      ap (chain_place t) (sym here) ∙ place_is t (chain_place s r) falls (omega (arith, low, count_promoted s z room))

  -- every other link stays
  pub link_promoted : (r : ℕ) → is_live s r ≡ true → link_into t r ≡ link_into s r
  link_promoted r live =
      let low = place_below s r live in
      let e = kept_place r live in
      link_is s t r live (below_live t r (omega (arith, e, low, count_promoted s z room))) (kept_applied r live)
      (pending_same s t r e (λ h. member_promoted s z room (chain_place s r - 1) (omega (arith, low)))
      (λ h. kept_applied (member_at s (chain_place s r - 1)) (in_live s (member_at s (chain_place s r - 1)) (member_in s (chain_place s r - 1) (omega (arith, low)))))
      (kept_applied r live)) (λ q a b. entry_promoted s z room q)

  -- the new tail's is empty
  pub link_new : link_into t (newcomer s) ≡ []
  unfolding entries
  link_new =
      let q = newcomer s in
      let last : member_at t (live_count s) ≡ q = member_promoted_last s z room in
      let place : chain_place t q ≡ live_count s = ap (chain_place t) (sym last) ∙ place_is t (live_count s) falls (omega (arith, count_promoted s z room)) in
      let before : member_at t (chain_place t q - 1) ≡ tail_of s =
      ap (λ (i : ℕ). member_at t (i - 1)) place ∙ member_promoted s z room (live_count s - 1) (omega (arith, k.live)) ∙ sym (tail_is s) in
      let none : pending t q ≡ 0 =
      pending_behind t q (omega (arith, place, k.live)) ∙ rw (before, kept_applied (tail_of s) (tail_live k), applied_promoted_own s z room) (sub_self (applied_by s (tail_of s))) in
      link_live t q (below_live t q (omega (arith, place, count_promoted s z room))) ∙ rw none refl

-- ---- a copy

module _ {s : List ℕ} {log : List Write} {n : ℕ} (k : Shows s log n) (g : JoinInvariant s) (joins : is_join_set s ≡ true) where
  link_copied : (r : ℕ) → link_into (one_copy s) r ≡ link_into s r
  unfolding one_copy
  link_copied r =
      links_same s (one_copy s) (members_as (copy_places k g joins).same) (applied_copied s (newcomer s) (tail_of s) _ _) (entry_copied s (newcomer s) (tail_of s) _ _) r

  live_copied : (r : ℕ) → is_live s r ≡ true → is_live (one_copy s) r ≡ true
  live_copied r live = live_same (one_copy s) s (members_as (copy_places k g joins).same) r ∙ live

  -- every live replica's link stays
  pub link_copying : (r : ℕ) → is_live s r ≡ true → link_into (copying s) r ≡ link_into s r
  unfolding copying
  link_copying r live =
      by_test (λ (t : List ℕ). link_into t r ≡ link_into s r) (eqb (copies_made s + 1) 16)
      (λ e. link_promoted (copy_shows k g joins) (places_same (copy_places k g joins) g.places) (copy_free k g joins) (all_alike k g joins (eqb-true (copies_made s + 1) 16 e)) r (live_copied r live) ∙ link_copied r)
      (λ e.
      let same = noted_replicas k g joins (few_left k g joins e) in
      links_same (one_copy s) (set (one_copy s) join_cell (copies_made s + 2)) (members_kept same) (applied_kept same) (entry_kept same) r ∙ link_copied r)

  -- the sixteenth copy makes an empty one
  pub link_newcomer : copies_made s + 1 ≡ 16 → link_into (copying s) (newcomer s) ≡ []
  unfolding copying
  link_newcomer all =
      rw all
      (ap (link_into (promoted (one_copy s))) (sym (copy_newcomer k g joins)) ∙
      link_new (copy_shows k g joins) (places_same (copy_places k g joins) g.places) (copy_free k g joins) (all_alike k g joins all))
