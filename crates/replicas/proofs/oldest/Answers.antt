use Rattle.replicas.specs.Replicas.{oldest}
use Rattle.replicas.proofs.oldest.Goals as goal

pub returns : goal.returns
unfolding oldest
returns c = simp (← c.applied.ensures, c.read_entry.ensures)
