use Rattle.contexts.specs.{number_at}
use Rattle.contexts.proofs.number_at.Goals as goal

pub returns : goal.returns
unfolding number_at
returns c = simp (← c.row_cell.ensures.0, ← c.size_at.ensures, c.kept.ensures)
