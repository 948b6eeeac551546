use Rattle.slots.specs.{holds_above, counts_above}
use Rattle.slots.proofs.holds_above.Goals as goal

pub returns-then-holds : goal.returns-then-holds
unfolding holds_above counts_above
returns-then-holds c = simp (← c.holds.ensures, c.if-holds.true, ← c.above.ensures)

pub returns-else-holds : goal.returns-else-holds
unfolding holds_above counts_above
returns-else-holds c = simp (← c.holds.ensures, c.if-holds.false)
