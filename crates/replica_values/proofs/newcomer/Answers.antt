use Rattle.replica_values.specs.{newcomer_of}
use Rattle.replica_values.proofs.newcomer.Goals as goal

pub returns-then-is_joining : goal.returns-then-is_joining
unfolding newcomer_of
returns-then-is_joining c = simp (← c.is_joining.ensures, c.if-is_joining.true, ← c.newcomer_number.ensures)

pub returns : goal.returns
unfolding newcomer_of
returns c = simp (← c.is_joining.ensures, c.if-is_joining.false)
