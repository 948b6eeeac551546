use Rattle.quorum.specs.{linked_items}
use Rattle.quorum.proofs.linked.Goals as goal

pub returns : goal.returns
unfolding linked_items
returns c = simp (← c.head.ensures, ← c.taken.ensures, ← c.taken-2.ensures, c.saturating_sub.ensures)
