use Rattle.replicas.specs.Replicas.{linked_writes}
use Rattle.replicas.proofs.linked.Goals as goal

pub returns : goal.returns
unfolding linked_writes
returns c = simp (← c.head.ensures, ← c.applied-first.ensures, ← c.tail.ensures, ← c.applied-last.ensures, c.saturating_sub.ensures)
