use Rattle.replicas.specs.Replicas.{taking}
use Rattle.replicas.proofs.take.Goals as goal

pub returns : goal.returns
unfolding taking
returns c = simp (← c.applied-p.ensures, ← c.put_entry.ensures, c.apply.ensures)
