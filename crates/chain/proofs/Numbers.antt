-- The laws of the replicas' numbers, which packets and steps name: at which place the replica with a number stands, and which table it has.
use mathlib.Core.Path.{◌≡◌, refl, sym, ap, ◌∙◌}
use mathlib.Core.Bool.{Bool, true, false}
use mathlib.Core.List.{List}
use Prim.Native.Nat.{ℕ, ◌+◌, ◌-◌, ◌%◌, ◌≤◌, ◌<◌}
use native.Mathlib.Nat.{mod-lt}
use native.Mathlib.Omega.{arith}
use lib.ListN.{length, get_or, get_or-eq_default}
use lib.Dec.{eqb}
use borrow.Author.Tests.{ltb-true, lt-ltb, eqb-true, eqb-false, eq-eqb, ne_eqb}
use Rattle.lists.proofs.Index.{index_first, index_none, index_at}
use Rattle.lists.proofs.Places.{length_list_of, get_d_list_of}
use Rattle.store.specs.{live_count, number_at, is_quorum}
use Rattle.chain.specs.{is_live, member_at, head_of, tail_of, numbers, place_of, is_member, is_tail, table_of, number_in, head_number, tail_number, read_replica_of, read_replica_number, is_read_place, is_read_replica, chosen_by}
use Rattle.chain.proofs.Members.{member_in, in_live, tail_is}

-- ---- the numbers in chain order

pub count_numbers : (s : List ℕ) → live_count s ≡ length (numbers s)
unfolding numbers
count_numbers s = sym (length_list_of (number_at s) (live_count s))

-- what the cells hold at a place that is in use; past the last live one there is none
pub number_order : (s : List ℕ) (p : ℕ) → p < live_count s → number_in s p ≡ number_at s p
unfolding number_in numbers
number_order s p h = get_d_list_of (number_at s) (live_count s) p h

pub number_past : (s : List ℕ) (p : ℕ) → live_count s ≤ p → number_in s p ≡ 0
unfolding number_in
number_past s p h = get_or-eq_default (numbers s) 0 (omega (arith, count_numbers s))

pub head_number_is : (s : List ℕ) → head_number s ≡ number_in s 0
unfolding head_number
head_number_is s = refl

pub tail_number_at : (s : List ℕ) → 0 < live_count s → tail_number s ≡ number_at s (live_count s - 1)
unfolding tail_number
tail_number_at s h = number_order s (live_count s - 1) (omega arith)

-- a choice among none, and a choice among some
pub chosen_none : (s : List ℕ) (k : ℕ) → live_count s ≡ 0 → chosen_by s k ≡ 0
unfolding chosen_by
chosen_none s k e = number_past s (k % live_count s) (omega arith)

pub chosen_at : (s : List ℕ) (k : ℕ) → 0 < live_count s → chosen_by s k ≡ number_at s (k % live_count s)
unfolding chosen_by
chosen_at s k h = number_order s (k % live_count s) (mod-lt k h)

-- ---- the place of a number

in_numbers : (s : List ℕ) (k : ℕ) → k < live_count s → get_or (numbers s) k 0 ≡ number_at s k
unfolding numbers
in_numbers s k b = get_d_list_of (number_at s) (live_count s) k b

-- the first place that has the number is its place; none has
pub place_first : (s : List ℕ) (i r : ℕ) → i < live_count s → ((k : ℕ) → k < i → number_at s k ≡ r → ⊥) → number_at s i ≡ r → place_of s r ≡ i
unfolding place_of
place_first s i r h before e =
    index_first (numbers s) i r (omega (arith, count_numbers s)) (λ k b q. before k b (sym (in_numbers s k (omega arith)) ∙ q)) (in_numbers s i h ∙ e)

pub place_none : (s : List ℕ) (r : ℕ) → ((k : ℕ) → k < live_count s → number_at s k ≡ r → ⊥) → place_of s r ≡ live_count s
unfolding place_of
place_none s r never =
    index_none (numbers s) r (λ k b q.
    let h : k < live_count s = omega (arith, count_numbers s) in
    never k h (sym (in_numbers s k h) ∙ q)) ∙
    sym (count_numbers s)

-- a live replica has a place in the chain
pub member_below : (s : List ℕ) (r : ℕ) → is_member s r ≡ true → place_of s r < live_count s
unfolding is_member
member_below s r e = ltb-true (place_of s r) (live_count s) e

pub below_member : (s : List ℕ) (r : ℕ) → place_of s r < live_count s → is_member s r ≡ true
unfolding is_member
below_member s r h = lt-ltb (place_of s r) (live_count s) h

pub number_at_lem : (s : List ℕ) (r : ℕ) → is_member s r ≡ true → number_in s (place_of s r) ≡ r
unfolding number_in place_of
number_at_lem s r e = index_at (numbers s) r (omega (arith, member_below s r e, count_numbers s))

-- ---- the table of a number

pub table_is : (s : List ℕ) (r : ℕ) → table_of s r ≡ member_at s (place_of s r)
unfolding table_of
table_is s r = refl

pub table_live : (s : List ℕ) (r : ℕ) → is_member s r ≡ true → is_live s (table_of s r) ≡ true
unfolding table_of
table_live s r e = in_live s (member_at s (place_of s r)) (member_in s (place_of s r) (member_below s r e))

-- the tail's
pub tail_place : (s : List ℕ) (r : ℕ) → is_tail s r ≡ true → place_of s r + 1 ≡ live_count s
unfolding is_tail
tail_place s r e = eqb-true (place_of s r + 1) (live_count s) e

pub tail_table : (s : List ℕ) (r : ℕ) → is_tail s r ≡ true → table_of s r ≡ tail_of s
unfolding table_of
tail_table s r e = ap (member_at s) (omega (arith, tail_place s r e)) ∙ sym (tail_is s)

-- ---- the replica that answers normal reads

-- in a chain its place is the last
module _ (s : List ℕ) (chain : is_quorum s ≡ false) where
  pub read_place_none : (p : ℕ) → live_count s ≡ 0 → is_read_place s p ≡ false
  unfolding is_read_place
  read_place_none p e = rw chain (ne_eqb (p + 1) (live_count s) (λ d. omega (arith, d, e)))

  pub read_place_last : (p : ℕ) → 0 < live_count s → is_read_place s p ≡ eqb p (live_count s - 1)
  unfolding is_read_place
  read_place_last p h = rw chain (go (eqb p (live_count s - 1)) refl)
    where
      go : (t : Bool) → eqb p (live_count s - 1) ≡ t → eqb (p + 1) (live_count s) ≡ t
      go true e = eq-eqb (p + 1) (live_count s) (omega (arith, eqb-true p (live_count s - 1) e))
      go false e = ne_eqb (p + 1) (live_count s) (λ d. eqb-false p (live_count s - 1) e (omega (arith, d)))

  -- it is the tail
  pub read_replica_is : read_replica_of s ≡ tail_of s
  unfolding read_replica_of
  read_replica_is = rw chain refl

  pub read_number_is : read_replica_number s ≡ tail_number s
  unfolding read_replica_number
  read_number_is = rw chain refl

  pub read_replica_tail : (r : ℕ) → is_read_replica s r ≡ is_tail s r
  unfolding is_read_replica is_read_place is_tail
  read_replica_tail r = rw chain refl

-- in a quorum store it is the leader, at the head's place
module _ (s : List ℕ) (quorum : is_quorum s ≡ true) where
  pub read_place_first : (p : ℕ) → is_read_place s p ≡ eqb p 0
  unfolding is_read_place
  read_place_first p = rw quorum refl

  pub read_replica_leader : read_replica_of s ≡ head_of s
  unfolding read_replica_of
  read_replica_leader = rw quorum refl

  pub read_number_leader : read_replica_number s ≡ head_number s
  unfolding read_replica_number
  read_number_leader = rw quorum refl
