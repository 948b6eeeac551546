-- Who is live, and who answers normal reads, while no replica is removed and none becomes the tail.
use mathlib.Core.Path.{◌≡◌, refl, sym, ap, ◌∙◌}
use mathlib.Core.Bool.{Bool, true, false}
use mathlib.Core.List.{List}
use Prim.Native.Nat.{ℕ, ◌+◌, ◌-◌, ◌*◌, ◌/◌, ◌%◌, ◌≤◌, ◌<◌, min}
use native.Mathlib.Nat.{mod-lt}
use native.Mathlib.Omega.{arith}
use lib.Dec.{eqb}
use lib.ListN.{get_or}
use borrow.Author.Tests.{eq-eqb}
use Rattle.limits.specs as limits
use Rattle.lists.specs.{list_of}
use Rattle.lists.proofs.Places.{list_of_same}
use Rattle.history.specs.History.{History}
use Rattle.history.proofs.Entries.{Entry}
use Rattle.store.specs.{live_count, number_at, is_quorum}
use Rattle.chain.specs.{tail_of, numbers, place_of, is_member, is_read_place, is_read_replica, table_of, read_replica_number, chosen_by}
use Rattle.joins.specs.{copies_made, newcomer, one_copy, copying}
use Rattle.replicas.specs.Replicas.{applying, taking}
use Rattle.chain.proofs.Members.{count_most}
use Rattle.chain.proofs.Numbers.{place_first, below_member, head_number_is, number_order, tail_number_at, chosen_at, read_number_is, read_number_leader, read_place_last, read_place_first}
use Rattle.quorum.specs.{next_entry}
use Rattle.waiting.specs.declared.Packet.{Packet}
use Rattle.protocol.specs.declared.Step.{Step}
use Rattle.protocol.specs.Steps.{Machine, given_by, decided}
use Rattle.protocol.specs.Roles.{Role, role_of}
use Rattle.protocol.proofs.Effects.{StoreEffect, store_kept, takes, takes_as_tail, applies, applies_as_tail, permits, removes, joins, copies, leader_logs, leader_hears, follower_logs, follower_executes, leader_executes, step_effect}
use Rattle.write_log.proofs.Places.{Places, SamePlaces, places_applying, places_permitting, places_trans, order_join}
use Rattle.write_log.proofs.Joins.{not_full, replicas_beginning}
use Rattle.write_log.proofs.Copies.{places_copied}
use Rattle.write_log.proofs.Beside.{places_handing}
use Rattle.write_log.proofs.Taken.{places_taking}
use Rattle.write_log.proofs.StoreKind.{kind_applying, kind_taking, kind_handing, kind_permitting, kind_beginning, kind_copying, kind_counted, kind_acknowledging, kind_logging, kind_executing}
use Rattle.write_log.proofs.QuorumHolds.{places_counted, places_acknowledging, places_logging, places_executing}
use Rattle.linearizability.proofs.Invariant.{chain_held, Good}
use Rattle.read_bound.specs.Follow.{hinders_as, hinders}

-- ---- two stores of one kind with the same live replicas in the same order

pub record SameChain (s t : List ℕ) : Type 0 where
  pub kind : is_quorum t ≡ is_quorum s
  pub cells : (j : ℕ) → j ≤ live_count s → get_or t j 0 ≡ get_or s j 0

pub chain_self : (s : List ℕ) → SameChain s s
chain_self s = record { kind = refl; cells = λ j k. refl }

module _ {s t : List ℕ} (e : SameChain s t) where
  count_same : live_count t ≡ live_count s
  unfolding live_count
  count_same = ap (min 8) (e.cells 0 (omega arith))

  numbers_same : numbers t ≡ numbers s
  unfolding numbers number_at
  numbers_same =
      ap (list_of (number_at t)) count_same ∙ list_of_same (number_at t) (number_at s) (live_count s) (λ j h. ap (λ (n : ℕ). n / 256 % 256) (e.cells (1 + j) (omega (arith, h))))

  pub member_kept : (r : ℕ) → is_member t r ≡ is_member s r
  unfolding is_member place_of
  member_kept r = rw (numbers_same, count_same)

  pub read_kept : (r : ℕ) → is_read_replica t r ≡ is_read_replica s r
  unfolding is_read_replica is_read_place place_of
  read_kept r = rw (numbers_same, count_same, e.kind)

same_places : {s t : List ℕ} → is_quorum t ≡ is_quorum s → SamePlaces s t → SameChain s t
same_places {s} k e = record { kind = k; cells = λ j h. e.same.order j (omega (arith, h, count_most s)) }

-- ---- whom the switch names

module _ (s : List ℕ) (g : Places s) (live : 0 < live_count s) where
  number_place : (p : ℕ) → p < live_count s → place_of s (number_at s p) ≡ p
  number_place p h = place_first s p (number_at s p) h (λ k b e. let same : k ≡ p = g.numbers_apart k p (omega (arith, b, h)) h e in omega (arith, same, b)) refl

  pub chosen_member : (choice : ℕ) → is_member s (chosen_by s choice) ≡ true
  chosen_member choice =
      let low = mod-lt choice live in
      rw (chosen_at s choice live) (below_member s (number_at s (choice % live_count s)) (omega (arith, low, number_place (choice % live_count s) low)))

  -- the one that answers normal reads: the tail of a chain, the leader of a quorum store
  read_place : (is_member s (read_replica_number s) ≡ true) × (is_read_replica s (read_replica_number s) ≡ true)
  unfolding is_read_replica
  read_place = go (is_quorum s) refl
    where
      go : (b : Bool) → is_quorum s ≡ b → (is_member s (read_replica_number s) ≡ true) × (is_read_place s (place_of s (read_replica_number s)) ≡ true)
      go true quorum =
          let first : place_of s (read_replica_number s) ≡ 0 =
          ap (place_of s) (read_number_leader s quorum ∙ head_number_is s ∙ number_order s 0 live) ∙ number_place 0 live in
          (below_member s (read_replica_number s) (omega (arith, first, live)), read_place_first s quorum (place_of s (read_replica_number s)) ∙ eq-eqb (place_of s (read_replica_number s)) 0 first)
      go false chain =
          let last : place_of s (read_replica_number s) ≡ live_count s - 1 =
          ap (place_of s) (read_number_is s chain ∙ tail_number_at s live) ∙ number_place (live_count s - 1) (omega (arith, live)) in
          (below_member s (read_replica_number s) (omega (arith, last, live)), read_place_last s chain (place_of s (read_replica_number s)) live ∙ eq-eqb (place_of s (read_replica_number s)) (live_count s - 1) last)

  pub read_member : is_member s (read_replica_number s) ≡ true
  read_member = read_place.0

  pub read_is_read : is_read_replica s (read_replica_number s) ≡ true
  read_is_read = read_place.1

-- ---- a step that is accepted and does not hinder

module _ {m : Machine} {h : History} {es : List Entry} (g : Good m h es) where
  abbrev s : List ℕ
  s = m.store

  self : SameChain s s
  self = chain_self s

  chain_of_lem : (k : Role) (o i : ℕ) → hinders_as m o k i ≡ false → {t : List ℕ} → StoreEffect k s t → SameChain s t
  unfolding copying one_copy
  chain_of_lem k o i d store_kept = self
  chain_of_lem k o i d (takes r w chain member) = same_places (kind_taking s (table_of s r) w) (places_taking s (table_of s r) w)
  chain_of_lem k o i d (takes_as_tail r w chain member) =
      same_places (kind_handing (taking s (table_of s r) w) w ∙ kind_taking s (table_of s r) w) (places_trans (places_taking s (table_of s r) w) (places_handing _ w))
  chain_of_lem k o i d (applies r w chain member) = same_places (kind_applying s (table_of s r) w) (places_applying s (table_of s r) w)
  chain_of_lem k o i d (applies_as_tail r w chain member) =
      same_places (kind_handing (applying s (table_of s r) w) w ∙ kind_applying s (table_of s r) w) (places_trans (places_applying s (table_of s r) w) (places_handing _ w))
  chain_of_lem k o i d (permits r number member) = same_places (kind_permitting s (table_of s r) number) (places_permitting s (table_of s r) number)
  chain_of_lem k o i d (removes r chain e member) = absurd (let f : true ≡ false = sym (ap (λ (j : Role). hinders_as m o j i) e) ∙ d in let z : ◌≡◌ {A = ℕ} 0 1 = cc in omega (arith, z))
  chain_of_lem k o i d (joins chain room none) =
      let b = not_full s room in record { kind = kind_beginning s; cells = (replicas_beginning s (chain_held chain g.replicas).shown.sized b.0 b.1).order }
  chain_of_lem k o i d (copies chain e under) =
      let few : eqb (copies_made s + 1) limits.copies ≡ false = sym (ap (λ (j : Role). hinders_as m o j i) e) ∙ d in
      let same = kind_copying s in
      rw few
      (record {
        kind = rw few at same;
        cells = λ j k.
            let low : j < 9 = omega (arith, k, count_most s) in
            (order_join (one_copy s) (copies_made s + 2)).order j low ∙
            (places_copied s (newcomer s) (tail_of s) (limits.copied_at_once * copies_made s) limits.copied_at_once).same.order j low;
      })
  chain_of_lem k o i d (leader_logs w quorum accepted) = same_places (kind_logging s w) (places_logging s w)
  chain_of_lem k o i d (leader_hears r j quorum member) = same_places (kind_acknowledging s (table_of s r) j) (places_acknowledging s (table_of s r) j)
  chain_of_lem k o i d (follower_logs r quorum member some entry) = same_places (kind_counted s (table_of s r)) (places_counted s (table_of s r))
  chain_of_lem k o i d (follower_executes r quorum member some stamp) =
      same_places (kind_applying s (table_of s r) (next_entry s (table_of s r))) (places_applying s (table_of s r) (next_entry s (table_of s r)))
  chain_of_lem k o i d (leader_executes quorum can) = same_places (kind_executing s) (places_executing s)

  -- the live replicas and their order stay
  pub chain_kept : (p : Packet) (o i : ℕ) (x : Step) → hinders m o x i ≡ false → SameChain s (decided (given_by m) p x).store
  chain_kept p o i x d = chain_of_lem (role_of x) o i d (step_effect (given_by m) p x).store
