use Rattle.quorum.specs.{acknowledged_by}
use Rattle.quorum.proofs.acknowledged.Goals as goal

pub returns : goal.returns
unfolding acknowledged_by
returns c = simp (← c.row.ensures.0)
