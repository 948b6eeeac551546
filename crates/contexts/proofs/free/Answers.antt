use Rattle.contexts.specs.{freeing}
use Rattle.contexts.proofs.free.Goals as goal

pub returns : goal.returns
unfolding freeing
returns c = simp (← c.row_cell.ensures.0)
