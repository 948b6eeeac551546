use Rattle.draws.specs.{kind_from}
use Rattle.draws.proofs.kind_from.Goals as goal

pub returns : goal.returns
unfolding kind_from
returns c = simp (← c.upper.ensures)
