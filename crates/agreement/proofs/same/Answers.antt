use borrow.Author.Tests.{eq-eqb, ne_eqb}
use Rattle.agreement.specs.{same_bytes}
use Rattle.agreement.proofs.same.Goals as goal

pub returns-then-a-b : goal.returns-then-a-b
unfolding same_bytes
returns-then-a-b c = simp (eq-eqb _ _ c.if-a-b.true) c.stands_at.ensures

pub returns-else-a-b : goal.returns-else-a-b
unfolding same_bytes
returns-else-a-b c = simp (ne_eqb _ _ c.if-a-b.false)
