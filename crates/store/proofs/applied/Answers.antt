use Rattle.store.specs.{applied_by}
use Rattle.store.proofs.applied.Goals as goal

pub returns : goal.returns
unfolding applied_by
returns c = simp (← c.row.ensures.0)
