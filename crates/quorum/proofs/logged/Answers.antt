use Rattle.quorum.specs.{logged_by}
use Rattle.quorum.proofs.logged.Goals as goal

pub returns : goal.returns
unfolding logged_by
returns c = simp (← c.row.ensures.0)
