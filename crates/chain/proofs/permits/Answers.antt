use Rattle.chain.specs.{permits}
use Rattle.chain.proofs.permits.Goals as goal

pub returns : goal.returns
unfolding permits
returns c = simp (← c.permitted.ensures, c.from.ensures)
