-- A replica by its number and by its table: packets and steps name the one, the log's laws the other.
use mathlib.Core.Path.{◌≡◌, sym, ap, ◌∙◌}
use mathlib.Core.Bool.{true, false}
use mathlib.Core.List.{List}
use Prim.Native.Nat.{ℕ, ◌+◌, ◌-◌, ◌<◌}
use native.Mathlib.Omega.{arith}
use borrow.Author.Tests.{eqb-false}
use Rattle.store.specs.{live_count}
use Rattle.chain.specs.{chain_place, member_at, head_of, tail_of, place_of, is_member, is_tail, table_of, head_number}
use Rattle.replicas.specs.Replicas.{pending_at, pending}
use Rattle.chain.proofs.Members.{head_is, tail_is}
use Rattle.chain.proofs.Numbers.{head_number_is, number_order, number_at_lem, member_below, table_is}
use Rattle.replicas.proofs.Moves.{pending_at_lem}
use Rattle.replicas.proofs.Descending.{Descending, place_is}
use Rattle.write_log.proofs.Places.{Places, AtHead, at_head_now}

-- a write that waits for a live replica waits for the head
pub at_head_first : (s : List ℕ) (r : ℕ) → AtHead s r → is_member s r ≡ true → table_of s r ≡ head_of s
at_head_first s r a member =
    let low = member_below s r member in
    table_is s r ∙ ap (member_at s) (a.0 (place_of s r) low (sym (number_order s (place_of s r) low) ∙ number_at_lem s r member)) ∙ sym (head_is s)

-- the switch sends writes so
pub at_head_sent : (s : List ℕ) → Places s → 0 < live_count s → AtHead s (head_number s)
at_head_sent s g live = rw (head_number_is s, number_order s 0 live) (at_head_now s g live)

module _ (s : List ℕ) (r : ℕ) (g : Descending s) (member : is_member s r ≡ true) where
  pub table_place : chain_place s (table_of s r) ≡ place_of s r
  table_place = ap (chain_place s) (table_is s r) ∙ place_is s (place_of s r) g (member_below s r member)

  -- how much its incoming link holds
  pub table_pending : pending_at s (place_of s r) (table_of s r) ≡ pending s (table_of s r)
  table_pending = ap (λ (p : ℕ). pending_at s p (table_of s r)) (sym table_place) ∙ sym (pending_at_lem s (table_of s r))

  -- one that is not the tail has another table
  pub table_not_tail : is_tail s r ≡ false → table_of s r ≡ tail_of s → ⊥
  unfolding is_tail
  table_not_tail e same =
      let low = member_below s r member in
      let last : place_of s r ≡ live_count s - 1 = g.distinct (place_of s r) (live_count s - 1) low (omega (arith, low)) (sym (table_is s r) ∙ same ∙ tail_is s) in
      omega (arith, last, low, eqb-false (place_of s r + 1) (live_count s) e)
