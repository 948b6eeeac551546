use Rattle.switch.specs.DirtySet.{completed}
use Rattle.switch.proofs.cells.complete.Goals as goal

pub returns : goal.returns
unfolding completed
returns c = simp (← c.commit.ensures, ← c.recount.ensures)
