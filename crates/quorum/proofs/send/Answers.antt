use Rattle.quorum.specs.{sending_item}
use Rattle.store.specs.{item_cell}
use Rattle.quorum.proofs.send.Goals as goal

pub returns : goal.returns
unfolding sending_item item_cell
returns c = simp (← c.head.ensures, ← c.taken-p.ensures)
