use Rattle.joins.specs.{is_copied}
use Rattle.joins.proofs.is_copied.Goals as goal

pub returns-then-is_joining : goal.returns-then-is_joining
unfolding is_copied
returns-then-is_joining c = simp (← c.is_joining.ensures, c.if-is_joining.true, ← c.copies.ensures.0)

pub returns-else-is_joining : goal.returns-else-is_joining
unfolding is_copied
returns-else-is_joining c = simp (← c.is_joining.ensures, c.if-is_joining.false)
