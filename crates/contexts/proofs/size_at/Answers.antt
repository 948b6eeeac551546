use Rattle.contexts.specs.{size_at}
use Rattle.contexts.proofs.size_at.Goals as goal

pub returns : goal.returns
unfolding size_at
returns c = simp (← c.row_cell.ensures.0)
