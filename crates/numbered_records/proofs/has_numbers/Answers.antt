use borrow.Author.Tests.{eq-eqb, ne_eqb}
use Rattle.numbered_records.specs.{has_numbers}
use Rattle.numbered_records.proofs.has_numbers.Goals as goal

pub returns-then-kind-ne-CONTEXT_KIND : goal.returns-then-kind-ne-CONTEXT_KIND
unfolding has_numbers
returns-then-kind-ne-CONTEXT_KIND c = simp (ne_eqb _ _ c.if-kind-ne-CONTEXT_KIND.true)

pub returns-else-kind-ne-CONTEXT_KIND : goal.returns-else-kind-ne-CONTEXT_KIND
unfolding has_numbers
returns-else-kind-ne-CONTEXT_KIND c = simp (eq-eqb _ _ c.if-kind-ne-CONTEXT_KIND.false)
