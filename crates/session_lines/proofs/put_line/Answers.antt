use borrow.Author.Tests.{eq-eqb, ne_eqb}
use Rattle.session_lines.specs.{line_for}
use Rattle.session_lines.proofs.put_line.Goals as goal

pub returns-then-refusal-ne0 : goal.returns-then-refusal-ne0
unfolding line_for
returns-then-refusal-ne0 c = simp (ne_eqb _ _ c.if-refusal-ne0.true) c.put_refusal.ensures

pub returns : goal.returns
unfolding line_for
returns c =
    simp (eq-eqb _ _ c.if-refusal-ne0.false, ← c.answer_from-answer.ensures, ← c.held-held.ensures.0)
    c.put_answer.ensures
