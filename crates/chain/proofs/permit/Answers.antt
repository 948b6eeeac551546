use Rattle.chain.specs.{permitting}
use Rattle.chain.proofs.permit.Goals as goal

pub returns : goal.returns
unfolding permitting
returns c = simp (← c.row.ensures.0, c.from.ensures)
