use borrow.Author.Tests.{eq-eqb, ne_eqb}
use Rattle.sessions.specs.{marks_after}
use Rattle.sessions.proofs.marks_after.Goals as goal

pub returns-then-refusal-eq0 : goal.returns-then-refusal-eq0
unfolding marks_after
returns-then-refusal-eq0 c = simp (eq-eqb _ _ c.if-refusal-eq0.true)

pub returns-else-refusal-eq0 : goal.returns-else-refusal-eq0
unfolding marks_after
returns-else-refusal-eq0 c = simp (ne_eqb _ _ c.if-refusal-eq0.false)
