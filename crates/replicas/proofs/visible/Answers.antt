use Rattle.replicas.specs.Visible.{visible_count}
use Rattle.replicas.proofs.visible.Goals as goal

pub returns : goal.returns
unfolding visible_count
returns c = simp (← c.read_replica.ensures, c.applied.ensures)
