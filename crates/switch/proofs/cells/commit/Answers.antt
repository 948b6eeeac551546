use Rattle.switch.specs.DirtySet.{committing}
use Rattle.switch.proofs.cells.commit.Goals as goal

pub returns-then-own : goal.returns-then-own
unfolding committing
returns-then-own c = simp (← c.is_own-own.ensures, c.if-own.true, c.raise.ensures)

pub returns-else-own : goal.returns-else-own
unfolding committing
returns-else-own c = simp (← c.is_own-own.ensures, c.if-own.false, c.raise.ensures)
