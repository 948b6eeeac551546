use Rattle.waiting.specs.Waiting.{takes_out}
use Rattle.waiting.proofs.takes_out.Goals as goal

pub returns-then-e : goal.returns-then-e
unfolding takes_out
returns-then-e c = simp (c.if-e.true, ← c.held.ensures.0)

pub returns-else-e : goal.returns-else-e
unfolding takes_out
returns-else-e c = simp c.if-e.false
