-- Two stores with the same live replicas, each of which keeps the same, show the same log: the places behind the live ones, the last number and the join may differ.
use mathlib.Core.Path.{◌≡◌, refl, ap, ◌∙◌}
use mathlib.Core.List.{List}
use Prim.Native.Nat.{ℕ, ◌+◌, ◌%◌, ◌≤◌, ◌<◌, min}
use native.Mathlib.Omega.{arith}
use lib.ListN.{get_or, set, length-set}
use lib.Seq.{get_or-set_other}
use Rattle.lists.specs.{list_of}
use Rattle.lists.proofs.Places.{list_of_same}
use Rattle.store.specs.declared.Write.{Write}
use Rattle.store.specs.{applied_cell, permit_cell, highest_cell, last_number_cell, join_cell, value_cell, stamp_cell, live_count, order_at, members, row_of, highest_of, permitted_by, applied_by, entry_at, value_at, stamp_at}
use Rattle.chain.specs.{head_of, tail_of}
use Rattle.chain.proofs.Members.{count_most, live_in}
use Rattle.replicas.proofs.Cells.{SizedStore, row_below, value_from_lem, value_below, stamp_is, stamp_over, entries_kept}
use Rattle.replicas.proofs.Descending.{descending_same}
use Rattle.write_log.proofs.Holds.{holds_as}
use Rattle.write_log.proofs.Shows.{ShowsTo, shows_same}

pub record SameReplicas (s t : List ℕ) : Type 0 where
  pub sized : SizedStore t
  pub order : (i : ℕ) → i ≤ live_count s → get_or t i 0 ≡ get_or s i 0
  pub cells : (i : ℕ) → 9 ≤ i → i < last_number_cell → get_or t i 0 ≡ get_or s i 0

module _ {s t : List ℕ} (e : SameReplicas s t) where
  count_kept : live_count t ≡ live_count s
  unfolding live_count
  count_kept = ap (min 8) (e.order 0 (omega arith))

  order_kept : (p : ℕ) → p < live_count s → order_at t p ≡ order_at s p
  unfolding order_at
  order_kept p h = ap (λ (n : ℕ). n % 256) (e.order (1 + p) (omega (arith, h)))

  pub members_kept : members t ≡ members s
  unfolding members
  members_kept = ap (list_of (order_at t)) count_kept ∙ list_of_same (order_at t) (order_at s) (live_count s) order_kept

  highest_kept : (r : ℕ) → highest_of t r ≡ highest_of s r
  unfolding highest_of
  highest_kept r = stamp_over t s (highest_cell (row_of r)) (λ j a b. e.cells j (omega (arith, a)) (omega (arith, b, row_below r)))

  pub permitted_kept : (r : ℕ) → permitted_by t r ≡ permitted_by s r
  unfolding permitted_by
  permitted_kept r = e.cells (permit_cell (row_of r)) (omega arith) (omega (arith, row_below r))

  pub applied_kept : (r : ℕ) → applied_by t r ≡ applied_by s r
  unfolding applied_by
  applied_kept r = e.cells (applied_cell (row_of r)) (omega arith) (omega (arith, row_below r))

  pub value_kept : (r o : ℕ) → value_at t r o ≡ value_at s r o
  unfolding value_at
  value_kept r o = e.cells (value_cell (row_of r) o) (omega (arith, value_from_lem r o)) (omega (arith, value_below r o))

  pub stamp_kept : (r o : ℕ) → stamp_at t r o ≡ stamp_at s r o
  unfolding stamp_at
  stamp_kept r o = stamp_over t s (stamp_cell (row_of r) o) (λ j a b. e.cells j (omega (arith, a, stamp_is r o)) (omega (arith, b, stamp_is r o, value_below r o)))

  pub entry_kept : (p : ℕ) → entry_at t p ≡ entry_at s p
  entry_kept p = entries_kept t s p (λ j a b. e.cells j (omega (arith, a)) (omega (arith, b)))

  pub shows_kept : {log : List Write} {m n : ℕ} → ShowsTo s log m n → ShowsTo t log m n
  shows_kept {log} {m} {n} k =
      shows_same k t log m n members_kept e.sized (descending_same s t members_kept applied_kept k.falls)
      (applied_kept (head_of s) ∙ k.head_has) (applied_kept (tail_of s) ∙ k.tail_has)
      (λ r live. rw (applied_kept r) (holds_as t log (value_kept r) (stamp_kept r) (highest_kept r) refl (k.holds r (live_in s r live))))
      (λ i a b. entry_kept i ∙ k.entries_are i a b) k.room

-- the join alone changes
pub replicas_join : (s : List ℕ) (v : ℕ) → SizedStore s → SameReplicas s (set s join_cell v)
replicas_join s v z = record {
  sized = simp length-set z;
  order = λ i h. get_or-set_other s join_cell i v 0 (λ e. omega (arith, e, h, count_most s));
  cells = λ i a b. get_or-set_other s join_cell i v 0 (λ e. omega (arith, e, b));
}
