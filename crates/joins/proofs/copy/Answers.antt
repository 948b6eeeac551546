use borrow.Author.Tests.{eq-eqb, ne_eqb}
use Rattle.joins.specs.{copying}
use Rattle.joins.proofs.copy.Goals as goal

pub returns-then-made-eq-COPIES : goal.returns-then-made-eq-COPIES
unfolding copying
returns-then-made-eq-COPIES c = simp (← c.copies-made.ensures.0, ← c.copy_objects.ensures, eq-eqb _ _ c.if-made-eq-COPIES.true, ← c.promote.ensures)

pub returns-else-made-eq-COPIES : goal.returns-else-made-eq-COPIES
unfolding copying
returns-else-made-eq-COPIES c = simp (← c.copies-made.ensures.0, ← c.copy_objects.ensures, ne_eqb _ _ c.if-made-eq-COPIES.false)
