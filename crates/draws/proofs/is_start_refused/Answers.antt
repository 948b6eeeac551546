use Rattle.std.proofs.Common.{eq-eqb, ne_eqb}
use Rattle.protocol.specs.Starts.{start_refused}
use Rattle.draws.proofs.is_start_refused.Goals as goal

pub returns-then-n-eq0 : goal.returns-then-n-eq0
unfolding start_refused
returns-then-n-eq0 c = simp (eq-eqb _ _ c.if-n-eq0.true)

pub returns-else-n-eq0 : goal.returns-else-n-eq0
unfolding start_refused
returns-else-n-eq0 c = simp (ne_eqb _ _ c.if-n-eq0.false)
