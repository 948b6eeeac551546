use borrow.Author.Tests.{le-ltb, lt-ltb}
use Rattle.operations.specs.{opening, room_to_open}
use Rattle.operations.proofs.open.Goals as goal

pub returns-then-n-lt-OPEN : goal.returns-then-n-lt-OPEN
unfolding opening room_to_open
returns-then-n-lt-OPEN c = simp (← c.count-n.ensures.0, lt-ltb _ _ c.if-n-lt-OPEN.true)

pub returns-else-n-lt-OPEN : goal.returns-else-n-lt-OPEN
unfolding opening room_to_open
returns-else-n-lt-OPEN c = simp (← c.count-n.ensures.0, le-ltb _ _ c.if-n-lt-OPEN.false)
