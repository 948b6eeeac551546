use Rattle.replica_values.specs.{copies_of}
use Rattle.replica_values.proofs.copies.Goals as goal

pub returns-then-is_joining : goal.returns-then-is_joining
unfolding copies_of
returns-then-is_joining c = simp (← c.is_joining.ensures, c.if-is_joining.true, ← c.copies.ensures.0)

pub returns : goal.returns
unfolding copies_of
returns c = simp (← c.is_joining.ensures, c.if-is_joining.false)
