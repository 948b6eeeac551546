use borrow.Author.Tests.{eq-eqb, ne_eqb}
use Rattle.records.specs.Records.{is_length}
use Rattle.records.proofs.kinds.is_length.Goals as goal

pub returns-then-kind-eq-CONTEXT_KIND : goal.returns-then-kind-eq-CONTEXT_KIND
unfolding is_length
returns-then-kind-eq-CONTEXT_KIND c = simp (eq-eqb _ _ c.if-kind-eq-CONTEXT_KIND.true, c.is_context_length.ensures)

pub returns-then-is_short_give_up : goal.returns-then-is_short_give_up
unfolding is_length
returns-then-is_short_give_up c = simp (ne_eqb _ _ c.if-kind-eq-CONTEXT_KIND.false, ← c.is_short_give_up.ensures, c.if-is_short_give_up.true)

pub returns-else-is_short_give_up : goal.returns-else-is_short_give_up
unfolding is_length
returns-else-is_short_give_up c = simp (ne_eqb _ _ c.if-kind-eq-CONTEXT_KIND.false, ← c.is_short_give_up.ensures, c.if-is_short_give_up.false, c.content_length.ensures)
