use Rattle.switch.specs.DirtySet.{is_own}
use Rattle.switch.proofs.cells.is_own.Goals as goal

pub returns : goal.returns
unfolding is_own
returns c = simp (← c.upper.ensures, c.from.ensures, ← c.number.ensures)
