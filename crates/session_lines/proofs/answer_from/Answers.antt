use borrow.Author.Tests.{eq-eqb, ne_eqb, lt-ltb, le-ltb}
use Rattle.session_lines.specs.{answer_from}
use Rattle.session_lines.proofs.answer_from.Goals as goal

pub returns-then-operation-eq0 : goal.returns-then-operation-eq0
unfolding answer_from
returns-then-operation-eq0 c = simp (eq-eqb _ _ c.if-operation-eq0.true)

pub returns-then-count-lt-CONTEXT_LEAST : goal.returns-then-count-lt-CONTEXT_LEAST
unfolding answer_from
returns-then-count-lt-CONTEXT_LEAST c = simp (ne_eqb _ _ c.if-operation-eq0.false, lt-ltb _ _ c.if-count-lt-CONTEXT_LEAST.true)

pub returns : goal.returns
unfolding answer_from
returns c = simp (ne_eqb _ _ c.if-operation-eq0.false, le-ltb _ _ c.if-count-lt-CONTEXT_LEAST.false, c.context_from.ensures)
