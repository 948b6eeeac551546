use Rattle.joins.specs.{is_newcomer}
use Rattle.joins.proofs.is_newcomer.Goals as goal

pub returns-then-is_joining : goal.returns-then-is_joining
unfolding is_newcomer
returns-then-is_joining c = simp (← c.is_joining.ensures, c.if-is_joining.true, ← c.newcomer_number.ensures)

pub returns-else-is_joining : goal.returns-else-is_joining
unfolding is_newcomer
returns-else-is_joining c = simp (← c.is_joining.ensures, c.if-is_joining.false)
