use Rattle.sessions.specs.{asked_by}
use Rattle.sessions.proofs.asked.Goals as goal

pub returns : goal.returns
unfolding asked_by
returns c = simp (c.whole_step.ensures, c.record_at.ensures)
