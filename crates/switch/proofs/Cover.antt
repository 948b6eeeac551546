-- The dirty set covers the writes that were stamped: the stamp of each is not above last-committed, or its object has a counting mark that is not below it. Marking, completing and
-- replacing keep this, so a read of an object without a counting mark meets no write above last-committed.
use mathlib.Core.Path.{◌≡◌, refl}
use mathlib.Core.Bool.{Bool, true, false}
use mathlib.Core.List.{List}
use mathlib.Core.Logic.{◌⊎◌, inl, inr}
use Prim.Native.Nat.{ℕ, ◌≤◌}
use native.Mathlib.Omega.{arith}
use native.Mathlib.Decide.{ℕ_discrete}
use Rattle.stamp.specs.Stamps.{stamp_of, is_above, larger_of}
use Rattle.stamp.proofs.Laws.{above_false, larger_is}
use Rattle.switch.specs.Numbers.{number_in, counter_in, committed_in}
use Rattle.switch.specs.DirtySet.{looked_up, marked, stamp_for, completed}
use Rattle.switch.proofs.Laws.{SizedSwitch, stamp_used, marked_committed, marked_stays, completed_committed}
use Rattle.switch.proofs.Lookup.{lookup_marked, lookup_marked_other, lookup_kept}

-- a write to x with the stamp s is covered
abbrev pub Covers : List ℕ → ℕ → ℕ → Type 0
Covers w x s = (s ≤ committed_in w) ⊎ (s ≤ looked_up w x)

-- where the object has no counting mark, the stamp is not above last-committed
pub covers_unmarked : (w : List ℕ) (x s : ℕ) → looked_up w x ≡ 0 → Covers w x s → s ≤ committed_in w
covers_unmarked w x s none (inl l) = l
covers_unmarked w x s none (inr l) = omega (arith, none, l)

-- ---- a mark

-- of another object
covers_other : (w : List ℕ) (o x s : ℕ) → SizedSwitch w → (x ≡ o → ⊥) → Covers w x s → Covers (marked w o) x s
covers_other w o x s z n (inl l) = inl (rw (marked_committed w o) l)
covers_other w o x s z n (inr l) = inr (rw (lookup_marked_other w o x z n) l)

-- of the object itself: its mark has the new stamp, and covers every write up to that one
pub covers_own : (w : List ℕ) (o s : ℕ) → SizedSwitch w → committed_in w ≤ stamp_of (number_in w) (counter_in w) → (stamp_for w o ≡ 0 → ⊥) → s ≤ stamp_for w o → Covers (marked w o) o s
covers_own w o s z b n l = inr (rw (lookup_marked w o z b n) l)

-- a write up to the last stamp given stays covered, whichever object is marked
pub covers_marked : (w : List ℕ) (o x s : ℕ) → SizedSwitch w → committed_in w ≤ stamp_of (number_in w) (counter_in w) → s ≤ stamp_of (number_in w) (counter_in w)
    → Covers w x s → Covers (marked w o) x s
unfolding stamp_of
covers_marked w o x s z b g c = elim (ℕ_discrete x o) [
  | yes e ↦ elim (ℕ_discrete (stamp_for w o) 0) [
    | yes none ↦ rw (marked_stays w o none) c
    | no some ↦ rw e (covers_own w o s z b some (omega (arith, g, stamp_used w o some)))
  ]
  | no n ↦ covers_other w o x s z n c
]

-- ---- a completion, of whichever object

pub covers_completed : (w : List ℕ) (o t x s : ℕ) → SizedSwitch w → Covers w x s → Covers (completed w o t) x s
covers_completed w o t x s z (inl l) = inl (rw (completed_committed w o t z) (omega (arith, l, larger_is (committed_in w) t)))
covers_completed w o t x s z (inr l) = go (is_above (looked_up w x) (larger_of (committed_in w) t)) refl
  where
    go : (b : Bool) → is_above (looked_up w x) (larger_of (committed_in w) t) ≡ b → Covers (completed w o t) x s
    go true e = inr (rw (lookup_kept w o t x z e) l)
    go false e = inl (rw (completed_committed w o t z) (omega (arith, l, above_false (looked_up w x) (larger_of (committed_in w) t) e)))
