use Rattle.switch.specs.DirtySet.{raising}
use Rattle.switch.proofs.cells.raise.Goals as goal

pub returns : goal.returns
unfolding raising
returns c = simp (← c.committed.ensures, ← c.larger-c.ensures, ← c.clear_marks.ensures, ← c.write.ensures)
