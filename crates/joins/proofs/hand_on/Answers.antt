use Rattle.joins.specs.{handing_on}
use Rattle.joins.proofs.hand_on.Goals as goal

pub returns-then-is_copied : goal.returns-then-is_copied
unfolding handing_on
returns-then-is_copied c = simp (← c.is_copied.ensures, c.if-is_copied.true, ← c.newcomer-q.ensures, ← c.put_write.ensures)

pub returns-else-is_copied : goal.returns-else-is_copied
unfolding handing_on
returns-else-is_copied c = simp (← c.is_copied.ensures, c.if-is_copied.false)
