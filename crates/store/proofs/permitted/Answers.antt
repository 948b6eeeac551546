use Rattle.store.specs.{permitted_by}
use Rattle.store.proofs.permitted.Goals as goal

pub returns : goal.returns
unfolding permitted_by
returns c = simp (← c.row.ensures.0)
