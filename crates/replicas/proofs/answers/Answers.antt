use Rattle.lists.proofs.AllOf.{all_one}
use borrow.Author.Tests.{eq-eqb, ne_eqb}
use Rattle.replicas.specs.Replicas.{answers_direct}
use Rattle.replicas.proofs.answers.Goals as goal

pub returns-then-permitted-from : goal.returns-then-permitted-from
unfolding answers_direct
returns-then-permitted-from c = simp (← c.permitted.ensures, ← c.from.ensures, eq-eqb _ _ c.if-permitted-from.true, all_one, c.is_not_above.ensures)

pub returns-else-permitted-from : goal.returns-else-permitted-from
unfolding answers_direct
returns-else-permitted-from c = simp (← c.permitted.ensures, ← c.from.ensures, ne_eqb _ _ c.if-permitted-from.false)
