use mathlib.Core.Path.{◌≡◌, refl, ◌∙◌}
use mathlib.Core.Bool.{Bool, true, false, cond}
use Prim.Native.Nat.{ℕ, ◌+◌, ◌-◌, ◌<◌, min}
use native.Mathlib.Omega.{arith}
use lib.Dec.{eqb}
use borrow.Author.Tests.{eqb-true, eqb-false}
use Rattle.slots.specs.{counts_above}
use Rattle.limits.specs.{last_marks}
use Rattle.switch.specs.DirtySet.{marks_for, less_one, one_more}
use Rattle.switch.proofs.cells.marks_for.Goals as goal
use Rattle.switch.proofs.cells.marks_for.Goals.{then-above, else-above}

less_by : (b : Bool) (n m : ℕ) → b ≡ true → m ≡ n - 1 → m ≡ less_one b n
unfolding less_one
less_by b n m t e = simp t e

not_less : (b : Bool) (n m : ℕ) → b ≡ false → m ≡ n → m ≡ less_one b n
unfolding less_one
not_less b n m t e = simp t e

more_by : (b : Bool) (n : ℕ) → b ≡ true → n < 4294967296 → min (n + 1) 4294967295 ≡ one_more b n
unfolding one_more
more_by b n t h = simp t (go (eqb n last_marks) refl)
  where
    go : (s : Bool) → eqb n last_marks ≡ s → min (n + 1) 4294967295 ≡ cond s n (n + 1)
    go true e = omega (arith, eqb-true n last_marks e)
    go false e = omega (arith, eqb-false n last_marks e)

not_more : (b : Bool) (n : ℕ) → b ≡ false → n ≡ one_more b n
unfolding one_more
not_more b n t = simp t

pub returns-then-above-2 : goal.returns-then-above-2
unfolding marks_for counts_above
returns-then-above-2 c =
    let others : c.if-above.others ≡ less_one c.above.result c.marks-before.result = elim c.if-above.branch [
      | then-above w ↦ less_by _ _ _ w.if-above.true (w.others-is ∙ w.saturating_sub-others.ensures)
      | else-above w ↦ not_less _ _ _ w.if-above.false w.others-is
    ] in
    let fits : c.if-above.others < 4294967296 = elim c.if-above.branch [ then-above w ↦ omega arith | else-above w ↦ omega arith ] in
    simp (← c.committed-c.ensures, ← c.stamp_at.ensures, ← c.above.ensures, ← c.marks-before.ensures, ← c.above-2.ensures, ← others)
    (c.saturating_add.ensures ∙ more_by _ _ c.if-above-2.true fits)

pub returns-else-above-2 : goal.returns-else-above-2
unfolding marks_for counts_above
returns-else-above-2 c =
    let others : c.if-above.others ≡ less_one c.above.result c.marks-before.result = elim c.if-above.branch [
      | then-above w ↦ less_by _ _ _ w.if-above.true (w.others-is ∙ w.saturating_sub-others.ensures)
      | else-above w ↦ not_less _ _ _ w.if-above.false w.others-is
    ] in
    simp (← c.committed-c.ensures, ← c.stamp_at.ensures, ← c.above.ensures, ← c.marks-before.ensures, ← c.above-2.ensures, ← others) (not_more _ _ c.if-above-2.false)
