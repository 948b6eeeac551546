use Rattle.std.proofs.Common.{eq-eqb, ne_eqb}
use Rattle.draws.specs.{has_two}
use Rattle.draws.proofs.has_two.Goals as goal

pub returns-then-kind-eq2 : goal.returns-then-kind-eq2
unfolding has_two
returns-then-kind-eq2 c = simp (eq-eqb _ _ c.if-kind-eq2.true)

pub returns-else-kind-eq2 : goal.returns-else-kind-eq2
unfolding has_two
returns-else-kind-eq2 c = simp (ne_eqb _ _ c.if-kind-eq2.false)
