use borrow.Author.Tests.{eq-eqb, ne_eqb}
use Rattle.records.specs.Records.{is_context_length}
use Rattle.records.proofs.kinds.is_context_length.Goals as goal

pub returns-then-n-eq0 : goal.returns-then-n-eq0
unfolding is_context_length
returns-then-n-eq0 c = simp (eq-eqb _ _ c.if-n-eq0.true, c.is_count.ensures, c.from.ensures)

pub returns-else-n-eq0 : goal.returns-else-n-eq0
unfolding is_context_length
returns-else-n-eq0 c = simp (ne_eqb _ _ c.if-n-eq0.false)
