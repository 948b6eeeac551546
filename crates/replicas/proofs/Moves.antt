-- The laws of what the replicas do, for the crates above: what each test says.
use mathlib.Core.Path.{◌≡◌, refl}
use mathlib.Core.Bool.{Bool, true, false, not}
use mathlib.Core.List.{List, Memᴰ}
use Prim.Native.Nat.{ℕ, zero, suc, ◌-◌, ◌≤◌, ◌<◌}
use native.Mathlib.Omega.{arith}
use lib.Dec.{eqb, leb, ltb}
use borrow.Author.Tests.{eq-eqb, ne_eqb, eqb-true, ltb-true, leb-false}
use Rattle.limits.specs as limits
use Rattle.lists.proofs.Tests.{untrue, two_pass, second_passes}
use Rattle.lists.proofs.AllOf.{all_member}
use Rattle.stamp.specs.Stamps.{is_above}
use Rattle.stamp.proofs.Laws.{above_true, above_false}
use Rattle.store.specs.declared.Write.{Write}
use Rattle.store.specs.{highest_of, permitted_by, applied_by, entry_at, stamp_at, logged}
use Rattle.chain.specs.{chain_place, member_at, head_of, tail_of}
use Rattle.replicas.specs.Replicas.{linked_writes, accepts, applying, taking, pending_at, pending, oldest, is_not_above, answers_direct}

-- ---- a stamped write

abbrev Accepted : List ℕ → ℕ → ℕ → Type 0
Accepted s r stamp =
    (is_above stamp (highest_of s r) ≡ true) ×
    (leb limits.linked (linked_writes s) ≡ false) ×
    (ltb (applied_by s r) limits.last_position ≡ true)

accepted : (s : List ℕ) (r stamp : ℕ) → accepts s r stamp ≡ true → Accepted s r stamp
unfolding accepts
accepted s r stamp e =
    let above = two_pass (is_above stamp (highest_of s r)) _ e in
    let room = second_passes (leb limits.linked (linked_writes s)) _ above.1 in
    (above.0, room.0, room.1)

pub accepts_above : (s : List ℕ) (r stamp : ℕ) → accepts s r stamp ≡ true → highest_of s r < stamp
accepts_above s r stamp e = above_true stamp (highest_of s r) (accepted s r stamp e).0

pub accepts_room : (s : List ℕ) (r stamp : ℕ) → accepts s r stamp ≡ true → linked_writes s < limits.linked
accepts_room s r stamp e = leb-false limits.linked (linked_writes s) (accepted s r stamp e).1

pub accepts_position : (s : List ℕ) (r stamp : ℕ) → accepts s r stamp ≡ true → applied_by s r < limits.last_position
accepts_position s r stamp e = ltb-true (applied_by s r) limits.last_position (accepted s r stamp e).2

-- ---- a link that moves on

pub pending_at_lem : (s : List ℕ) (r : ℕ) → pending s r ≡ pending_at s (chain_place s r) r
unfolding pending
pending_at_lem s r = refl

-- the head has no incoming link
pub pending_head : (s : List ℕ) (r : ℕ) → chain_place s r ≡ 0 → pending s r ≡ 0
unfolding pending pending_at
pending_head s r z = rw (eq-eqb (chain_place s r) 0 z)

-- behind another replica a link holds what that one has applied and this one has not
pub pending_behind : (s : List ℕ) (r : ℕ) → 0 < chain_place s r → pending s r ≡ applied_by s (member_at s (chain_place s r - 1)) - applied_by s r
unfolding pending pending_at
pending_behind s r h = rw (ne_eqb (chain_place s r) 0 (λ z. omega arith))

pub pending_after : (s : List ℕ) (r : ℕ) → 0 < pending s r → 0 < chain_place s r
pending_after s r h = positive (chain_place s r) (λ z. omega (arith, pending_head s r z))
  where
    positive : (n : ℕ) → (n ≡ 0 → ⊥) → 0 < n
    positive zero d = absurd (d refl)
    positive (suc n) d = omega arith

pub pending_is : (s : List ℕ) (r : ℕ) → 0 < pending s r → pending s r ≡ applied_by s (member_at s (chain_place s r - 1)) - applied_by s r
pending_is s r h = pending_behind s r (pending_after s r h)

-- ---- a direct read

pub answers_permit : (s : List ℕ) (r number carried : ℕ) (xs : List ℕ) → answers_direct s r number carried xs ≡ true → permitted_by s r ≡ number
unfolding answers_direct
answers_permit s r number carried xs e = eqb-true (permitted_by s r) number (two_pass (eqb (permitted_by s r) number) _ e).0

not_above : (s : List ℕ) (r carried x : ℕ) → is_not_above s r carried x ≡ true → stamp_at s r x ≤ carried
unfolding is_not_above
not_above s r carried x = go (is_above (stamp_at s r x) carried) refl
  where
    go : (b : Bool) → is_above (stamp_at s r x) carried ≡ b → not b ≡ true → stamp_at s r x ≤ carried
    go true a e = untrue e
    go false a e = above_false (stamp_at s r x) carried a

pub answers_stamp : (s : List ℕ) (r number carried : ℕ) (xs : List ℕ) → answers_direct s r number carried xs ≡ true → (x : ℕ) → Memᴰ x xs → stamp_at s r x ≤ carried
unfolding answers_direct
answers_stamp s r number carried xs e x i = not_above s r carried x (all_member (is_not_above s r carried) xs x (two_pass (eqb (permitted_by s r) number) _ e).1 i)

-- ---- what the moves are made of

-- the links hold what the head has applied and the tail has not
pub linked_is : (s : List ℕ) → linked_writes s ≡ applied_by s (head_of s) - applied_by s (tail_of s)
unfolding linked_writes
linked_is s = refl

-- an accepted write is put in the log where the replica's applied writes end, and applied
pub taking_is : (s : List ℕ) (r : ℕ) (w : Write) → taking s r w ≡ applying (logged s (applied_by s r) w) r w
unfolding taking
taking_is s r w = refl

-- the oldest write of a link stands in the log where the replica's applied writes end
pub oldest_is : (s : List ℕ) (r : ℕ) → oldest s r ≡ entry_at s (applied_by s r)
unfolding oldest
oldest_is s r = refl
