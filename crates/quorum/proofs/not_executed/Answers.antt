use Rattle.quorum.specs.{unexecuted}
use Rattle.quorum.proofs.not_executed.Goals as goal

pub returns : goal.returns
unfolding unexecuted
returns c = simp (← c.head-lead.ensures, ← c.logged.ensures, ← c.applied.ensures, c.saturating_sub.ensures)
