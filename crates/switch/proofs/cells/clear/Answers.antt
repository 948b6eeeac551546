use Rattle.switch.specs.DirtySet.{cleared_at}
use Rattle.switch.proofs.cells.clear.Goals as goal

pub returns-then-is_completed : goal.returns-then-is_completed
unfolding cleared_at
returns-then-is_completed c = simp (← c.object_at.ensures, ← c.stamp_at.ensures, ← c.is_completed.ensures, c.if-is_completed.true, c.write.ensures)

pub returns-else-is_completed : goal.returns-else-is_completed
unfolding cleared_at
returns-else-is_completed c = simp (← c.object_at.ensures, ← c.stamp_at.ensures, ← c.is_completed.ensures, c.if-is_completed.false)
