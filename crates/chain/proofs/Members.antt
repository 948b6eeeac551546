-- The laws of the chain's shape for the crates above, so that they never open its cells: which tables are its members', and at which places.
use mathlib.Core.Path.{◌≡◌, refl, sym, ap, ◌∙◌}
use mathlib.Core.Bool.{true, false}
use mathlib.Core.List.Memᴰ
use mathlib.Core.List.{List, Memᴰ}
use Prim.Native.Nat.{ℕ, ◌-◌, ◌≤◌, ◌<◌}
use native.Mathlib.Omega.{arith}
use lib.Dec.{ltb}
use lib.ListN.{length, get_or, get_or-eq_default}
use borrow.Author.Tests.{ltb-true, ltb-false, lt-ltb, eqb-true}
use Rattle.limits.specs as limits
use Rattle.lists.specs.{index_of}
use Rattle.lists.proofs.Index.{index_first, index_at, in_index, at_in}
use Rattle.lists.proofs.Places.{length_list_of, get_d_list_of}
use Rattle.store.specs.{live_count, order_at, members, permitted_by}
use Rattle.chain.specs.{chain_place, is_live, member_at, head_of, tail_of, permits, all_permit}
use Rattle.lists.proofs.AllOf.{all_member}

-- ---- the members

pub count_most : (s : List ℕ) → live_count s ≤ limits.replicas
unfolding live_count
count_most s = omega arith

pub count_members : (s : List ℕ) → live_count s ≡ length (members s)
unfolding members
count_members s = sym (length_list_of (order_at s) (live_count s))

pub member_is : (s : List ℕ) (p : ℕ) → member_at s p ≡ get_or (members s) p 0
unfolding member_at
member_is s p = refl

-- what the cells hold at a place that is in use
pub member_order : (s : List ℕ) (p : ℕ) → p < live_count s → member_at s p ≡ order_at s p
unfolding member_at members
member_order s p h = get_d_list_of (order_at s) (live_count s) p h

-- past the last live one there is none
pub member_past : (s : List ℕ) (p : ℕ) → live_count s ≤ p → member_at s p ≡ 0
unfolding member_at
member_past s p h = get_or-eq_default (members s) 0 (omega (arith, count_members s))

pub head_is : (s : List ℕ) → head_of s ≡ member_at s 0
unfolding head_of
head_is s = refl

pub tail_is : (s : List ℕ) → tail_of s ≡ member_at s (live_count s - 1)
unfolding tail_of
tail_is s = refl

pub member_in : (s : List ℕ) (p : ℕ) → p < live_count s → Memᴰ (member_at s p) (members s)
unfolding member_at
member_in s p h = at_in (members s) p 0 (omega (arith, count_members s))

-- ---- who is live

-- a live replica has a place in the chain, and one that is gone has none
pub live_place : (s : List ℕ) (r : ℕ) → is_live s r ≡ ltb (chain_place s r) (live_count s)
unfolding is_live
live_place s r = refl

pub place_below : (s : List ℕ) (r : ℕ) → is_live s r ≡ true → chain_place s r < live_count s
place_below s r e = ltb-true (chain_place s r) (live_count s) (sym (live_place s r) ∙ e)

pub place_past : (s : List ℕ) (r : ℕ) → is_live s r ≡ false → live_count s ≤ chain_place s r
place_past s r e = ltb-false (chain_place s r) (live_count s) (sym (live_place s r) ∙ e)

pub below_live : (s : List ℕ) (r : ℕ) → chain_place s r < live_count s → is_live s r ≡ true
below_live s r h = live_place s r ∙ lt-ltb (chain_place s r) (live_count s) h

pub place_at : (s : List ℕ) (r : ℕ) → is_live s r ≡ true → member_at s (chain_place s r) ≡ r
unfolding member_at chain_place
place_at s r e = index_at (members s) r (omega (arith, place_below s r e, count_members s))

-- the first that has the table is at its place
pub place_found : (s : List ℕ) (i r : ℕ) → i < live_count s → ((k : ℕ) → k < i → member_at s k ≡ r → ⊥) → member_at s i ≡ r → chain_place s r ≡ i
unfolding chain_place member_at
place_found s i r h before e = index_first (members s) i r (omega (arith, count_members s)) before e

-- a live replica is a member, and a member is live
pub live_in : (s : List ℕ) (r : ℕ) → is_live s r ≡ true → Memᴰ r (members s)
live_in s r e = Memᴰ.cast (sym (place_at s r e)) (member_in s (chain_place s r) (place_below s r e))

pub in_live : (s : List ℕ) (r : ℕ) → Memᴰ r (members s) → is_live s r ≡ true
unfolding chain_place
in_live s r m = below_live s r (omega (arith, in_index (members s) r m, count_members s))

-- a store with the same members has the same chain
module _ (s t : List ℕ) (e : members s ≡ members t) where
  pub count_same : live_count s ≡ live_count t
  count_same = count_members s ∙ ap length e ∙ sym (count_members t)

  pub member_same : (p : ℕ) → member_at s p ≡ member_at t p
  unfolding member_at
  member_same p = ap (λ (l : List ℕ). get_or l p 0) e

  pub place_same : (r : ℕ) → chain_place s r ≡ chain_place t r
  unfolding chain_place
  place_same r = ap (λ (l : List ℕ). index_of l r) e

  pub live_same : (r : ℕ) → is_live s r ≡ is_live t r
  unfolding is_live
  live_same r = rw (place_same r, count_same)

  pub head_same : head_of s ≡ head_of t
  unfolding head_of
  head_same = member_same 0

  pub tail_same : tail_of s ≡ tail_of t
  unfolding tail_of
  tail_same = ap (λ (n : ℕ). member_at s (n - 1)) count_same ∙ member_same (live_count t - 1)

-- 'every live replica permits this switch's number'
pub all_permit_in : (s : List ℕ) (number r : ℕ) → all_permit s number ≡ true → Memᴰ r (members s) → permitted_by s r ≡ number
unfolding all_permit permits
all_permit_in s number r e m = eqb-true (permitted_by s r) number (all_member (permits s number) (members s) r e m)
