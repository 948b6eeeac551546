use Rattle.records.specs.Records.{is_start}
use borrow.Author.Tests.{eq-eqb, ne_eqb}
use Rattle.reader.proofs.is_start.Goals as goal

pub returns-then-kind-eq0 : goal.returns-then-kind-eq0
unfolding is_start
returns-then-kind-eq0 c = simp (← c.kind_of-kind.ensures, eq-eqb _ _ c.if-kind-eq0.true)

pub returns-else-kind-eq0 : goal.returns-else-kind-eq0
unfolding is_start
returns-else-kind-eq0 c = simp (← c.kind_of-kind.ensures, ne_eqb _ _ c.if-kind-eq0.false)
