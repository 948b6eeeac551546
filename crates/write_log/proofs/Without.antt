-- Req 04: a replica is removed by its number. Without its tail a join ends; otherwise the newcomer goes on, and what was copied stays alike.
use mathlib.Core.Path.{◌≡◌, refl, sym, ap, ◌∙◌}
use mathlib.Core.Bool.{Bool, true, false, not}
use mathlib.Core.List.{List}
use Prim.Native.Nat.{ℕ, ◌+◌, ◌-◌, ◌<◌}
use native.Mathlib.Omega.{arith}
use lib.Dec.{eqb}
use lib.ListN.{set}
use lib.Seq.{get_or-set_same}
use borrow.Author.Tests.{eqb-false}
use Rattle.lists.proofs.Tests.{by_test, both}
use Rattle.store.specs.declared.Write.{Write}
use Rattle.store.specs.{join_cell, live_count}
use Rattle.chain.specs.{chain_place, is_live, member_at, tail_of, place_of, is_member, is_tail, table_of, removed}
use Rattle.joins.specs.{last_number, is_join_set, newcomer, join_ended, without}
use Rattle.chain.proofs.Members.{live_same, place_same, count_same, tail_is}
use Rattle.chain.proofs.Numbers.{member_below, table_live}
use Rattle.replicas.proofs.Cells.{SizedStore, within, value_removed, stamp_removed}
use Rattle.replicas.proofs.Shape.{count_removed, member_removed_behind}
use Rattle.write_log.proofs.Shows.{Shows}
use Rattle.write_log.proofs.Kept.{SameReplicas, members_kept, shows_kept, replicas_join}
use Rattle.write_log.proofs.Places.{last_number_same, AtHead, places_order, order_join, at_head_order}
use Rattle.write_log.proofs.Tables.{table_place}
use Rattle.write_log.proofs.Joins.{last_left, joining_left, copies_left, newcomer_left, places_removed, at_head_removed}
use Rattle.write_log.proofs.Copies.{CopiedSoFar}
use Rattle.write_log.proofs.Joined.{JoinInvariant, nothing_copied}

-- the replica that is not the tail leaves the tail the tail
tail_left : (s : List ℕ) (x : ℕ) → SizedStore s → is_live s x ≡ true → chain_place s x + 1 < live_count s → tail_of (removed s (chain_place s x)) ≡ tail_of s
tail_left s x z live low =
    let t = removed s (chain_place s x) in
    tail_is t ∙ ap (λ (k : ℕ). member_at t (k - 1)) (count_removed s x z live) ∙
    member_removed_behind s x z live (live_count s - 1 - 1) (omega (arith, low)) ∙
    ap (member_at s) (omega (arith, low)) ∙ sym (tail_is s)

-- the join ends
ended_none : (s : List ℕ) → SizedStore s → is_join_set (set s join_cell 0) ≡ false
unfolding is_join_set
ended_none s z = ap (λ (n : ℕ). not (eqb n 0)) (get_or-set_same s join_cell 0 0 (within s join_cell z (omega arith)))

replicas_self : (s : List ℕ) → SizedStore s → SameReplicas s s
replicas_self s z = record { sized = z; order = λ i h. refl; cells = λ i a b. refl }

module _ {s : List ℕ} {log : List Write} {n : ℕ} (k : Shows s log n) (g : JoinInvariant s) (r : ℕ) (member : is_member s r ≡ true) where
  -- the table of the replica, and the store before it is removed
  abbrev pub table : ℕ
  table = table_of s r

  abbrev pub ended : List ℕ
  ended = join_ended s r

  z : SizedStore s
  z = k.sized

  pub replicas_ended : SameReplicas s ended
  unfolding join_ended
  replicas_ended = by_test (SameReplicas s) (is_tail s r) (λ e. replicas_join s 0 z) (λ e. replicas_self s z)

  pub shows_ended : Shows ended log n
  shows_ended = shows_kept replicas_ended k

  -- its place
  pub ended_place : chain_place ended table ≡ place_of s r
  ended_place = place_same ended s (members_kept replicas_ended) table ∙ table_place s r k.falls member

  pub ended_live : is_live ended table ≡ true
  ended_live = live_same ended s (members_kept replicas_ended) table ∙ table_live s r member

  pub ended_count : live_count ended ≡ live_count s
  ended_count = count_same ended s (members_kept replicas_ended)

  pub without_is : without s r ≡ removed ended (chain_place ended table)
  unfolding without
  without_is = ap (removed ended) (sym ended_place)

  -- what holds of the store in which the join has ended, if it does
  joined_ended : (b : Bool) → is_tail s r ≡ b → JoinInvariant ended
  unfolding join_ended
  joined_ended true e = rw e (record {
    places = places_order (order_join s 0) (λ j. absurd (let d : ◌≡◌ {A = Bool} false true = sym (ended_none s z) ∙ j in let c : ◌≡◌ {A = ℕ} 0 1 = cc in omega (arith, c))) g.places;
    copied = nothing_copied (set s join_cell 0) (ended_none s z);
  })
  joined_ended false e = rw e g

  at_head_ended : (b : Bool) → is_tail s r ≡ b → (q : ℕ) → AtHead s q → AtHead ended q
  unfolding join_ended
  at_head_ended true e q a =
      rw e (at_head_order (order_join s 0) (λ j. absurd (let d : ◌≡◌ {A = Bool} false true = sym (ended_none s z) ∙ j in let c : ◌≡◌ {A = ℕ} 0 1 = cc in omega (arith, c))) g.places q a)
  at_head_ended false e q a = rw e a

  abbrev left : List ℕ
  left = removed ended (chain_place ended table)

  none_ended : is_tail s r ≡ true → is_join_set ended ≡ false
  unfolding join_ended
  none_ended e = rw e (ended_none s z)

  -- without the tail nothing is copied any more; without another replica tail and newcomer stay
  copied_left : (b : Bool) → is_tail s r ≡ b → CopiedSoFar left
  unfolding is_tail
  copied_left true e =
      nothing_copied left
      (joining_left ended table shows_ended.sized ended_live ∙ none_ended e)
  copied_left false e = λ j o h.
      let size = shows_ended.sized in
      let was : is_join_set ended ≡ true = sym (joining_left ended table size ended_live) ∙ j in
      let inv = joined_ended false e in
      let low : chain_place ended table + 1 < live_count ended =
      omega (arith, ended_place, ended_count, member_below s r member, eqb-false (place_of s r + 1) (live_count s) e) in
      let a = inv.copied was o (omega (arith, h, copies_left ended table size ended_live)) in
      rw (newcomer_left ended table size ended_live (inv.places.joining was).0, tail_left ended table size ended_live low) (
        value_removed ended table (newcomer ended) o ∙ a.0 ∙ sym (value_removed ended table (tail_of ended) o),
        stamp_removed ended table (newcomer ended) o ∙ a.1 ∙ sym (stamp_removed ended table (tail_of ended) o),
      )

  -- nor by a removal
  last_ended : last_number ended ≡ last_number s
  unfolding join_ended
  last_ended = both (λ (t : List ℕ). last_number t ≡ last_number s) (is_tail s r) (last_number_same (order_join s 0)) refl

  pub last_without : last_number (without s r) ≡ last_number s
  last_without = ap last_number without_is ∙ last_left ended table shows_ended.sized ended_live ∙ last_ended

  pub joined_without : JoinInvariant (without s r)
  joined_without = rw without_is (record {
    places = places_removed ended table shows_ended.sized ended_live (joined_ended (is_tail s r) refl).places;
    copied = copied_left (is_tail s r) refl;
  })

  pub at_head_without : (q : ℕ) → AtHead s q → AtHead (without s r) q
  at_head_without q a =
      rw without_is (at_head_removed ended table shows_ended.sized ended_live (joined_ended (is_tail s r) refl).places q (at_head_ended (is_tail s r) refl q a))
