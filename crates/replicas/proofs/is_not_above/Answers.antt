use Rattle.replicas.specs.Replicas.{is_not_above}
use Rattle.replicas.proofs.is_not_above.Goals as goal

pub returns : goal.returns
unfolding is_not_above
returns c = simp (← c.read_stamp.ensures, c.above.ensures)
