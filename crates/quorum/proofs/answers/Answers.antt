use borrow.Author.Tests.{eq-eqb, ne_eqb}
use Rattle.quorum.specs.{answers_behind}
use Rattle.quorum.proofs.answers.Goals as goal

pub returns-then-permitted-from : goal.returns-then-permitted-from
unfolding answers_behind
returns-then-permitted-from c = simp (← c.permitted.ensures, ← c.from.ensures, eq-eqb _ _ c.if-permitted-from.true, ← c.highest.ensures, ← c.above.ensures)

pub returns-else-permitted-from : goal.returns-else-permitted-from
unfolding answers_behind
returns-else-permitted-from c = simp (← c.permitted.ensures, ← c.from.ensures, ne_eqb _ _ c.if-permitted-from.false)
