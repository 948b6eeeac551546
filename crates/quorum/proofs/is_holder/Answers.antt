use borrow.Author.Tests.{eq-eqb, ne_eqb}
use Rattle.quorum.specs.{is_holder}
use Rattle.quorum.proofs.is_holder.Goals as goal

pub returns-then-r-head : goal.returns-then-r-head
unfolding is_holder
returns-then-r-head c = simp (← c.head.ensures, eq-eqb _ _ c.if-r-head.true)

pub returns-else-r-head : goal.returns-else-r-head
unfolding is_holder
returns-else-r-head c = simp (← c.head.ensures, ne_eqb _ _ c.if-r-head.false, ← c.acknowledged.ensures)
