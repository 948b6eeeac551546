use borrow.Author.Tests.{eq-eqb, ne_eqb}
use Rattle.replica_values.specs.{stamp_held}
use Rattle.replica_values.proofs.stamp.Goals as goal

pub returns-then-t-eq0 : goal.returns-then-t-eq0
unfolding stamp_held
returns-then-t-eq0 c = simp (← c.table-t.ensures, eq-eqb _ _ c.if-t-eq0.true)

pub returns : goal.returns
unfolding stamp_held
returns c = simp (← c.table-t.ensures, ne_eqb _ _ c.if-t-eq0.false, ← c.read_stamp.ensures)
