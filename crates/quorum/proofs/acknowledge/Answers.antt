use Rattle.quorum.specs.{acknowledging}
use Rattle.quorum.proofs.acknowledge.Goals as goal

pub returns : goal.returns
unfolding acknowledging
returns c = simp (← c.acknowledged-known.ensures, ← c.row.ensures.0, c.max.ensures)
