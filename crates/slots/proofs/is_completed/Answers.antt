use Rattle.slots.specs.{is_completed}
use Rattle.slots.proofs.Tests.{turned}
use Rattle.slots.proofs.is_completed.Goals as goal

pub returns-then-holds : goal.returns-then-holds
unfolding is_completed
returns-then-holds c = simp (← c.holds.ensures, c.if-holds.true, ← c.above.ensures, turned)

pub returns-else-holds : goal.returns-else-holds
unfolding is_completed
returns-else-holds c = simp (← c.holds.ensures, c.if-holds.false)
