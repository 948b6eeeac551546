use mathlib.Core.Path.{◌≡◌, sym, ◌∙◌}
use mathlib.Core.Bool.{Bool, true, false, cond}
use mathlib.Core.List.{List}
use Prim.Native.Nat.{ℕ, ◌+◌, ◌/◌, ◌<◌}
use native.Mathlib.Numerals.{add-one}
use native.Mathlib.Omega.{arith}
use Rattle.stamp.specs.Stamps.{is_above}
use Rattle.switch.specs.Numbers.{slot_stamp}
use Rattle.slots.specs.{counts_above}
use Rattle.switch.specs.DirtySet.{counted_to, counted_marks}
use Rattle.switch.proofs.cells.count.Invariants.{Sums}
use Rattle.switch.proofs.cells.count.Goals as goal
use Rattle.switch.proofs.cells.count.Goals.{then-above, else-above}

-- one slot more
counted_more : (w : List ℕ) (c i s : ℕ) (t : Bool) → s ≡ slot_stamp w i → t ≡ is_above s c → counted_to w c (i + 1) ≡ cond t (counted_to w c i + 1) (counted_to w c i)
unfolding counted_to counts_above
counted_more w c i s t q e = rw (add-one i, e, q)

sums_more : (k k' i sum : ℕ) (t : Bool) → i < 48 → k' ≡ cond t (k + 1) k → Sums k i sum → Sums k' (i + 1) (cond t (sum + (65536 + i)) sum)
sums_more k k' i sum true b e h = (omega arith, omega arith, omega arith)
sums_more k k' i sum false b e h = (omega arith, omega arith, omega arith)

-- what the sum over all slots says
told : (k sum : ℕ) → Sums k 48 sum → sum / 65536 ≡ k
told k sum h = omega arith

pub loop-i-init : goal.loop-i-init
unfolding counted_to
loop-i-init c = (omega arith, (omega arith, omega arith, omega arith))

pub loop-i-preserved : goal.loop-i-preserved
loop-i-preserved c =
    let turn = c.loop-i in
    let q = c.stamp_at.ensures in
    let e = c.above.ensures in
    elim c.if-above.branch [
      | then-above w ↦ (omega arith, rw w.sum-is (sums_more _ _ turn.i turn.sum true (omega arith) (counted_more _ _ _ _ true q (sym w.if-above.true ∙ e)) turn.invariant.1))
      | else-above w ↦ (omega arith, rw w.sum-is (sums_more _ _ turn.i turn.sum false (omega arith) (counted_more _ _ _ _ false q (sym w.if-above.false ∙ e)) turn.invariant.1))
    ]

pub returns : goal.returns
unfolding counted_marks
returns c =
    let e : c.loop-i.i ≡ 48 = omega arith in
    simp (← c.committed-c.ensures) (told _ _ (rw e at c.loop-i.invariant.1))
