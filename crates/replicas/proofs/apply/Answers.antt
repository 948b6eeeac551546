use Rattle.replicas.specs.Replicas.{applying}
use Rattle.replicas.proofs.apply.Goals as goal

pub returns : goal.returns
unfolding applying
returns c = simp (← c.highest.ensures, ← c.larger-highest.ensures, ← c.applied.ensures, ← c.next_position-applied.ensures, ← c.put_write.ensures, c.raise.ensures)
