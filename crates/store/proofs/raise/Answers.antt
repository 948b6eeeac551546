use Rattle.store.specs.{raised}
use Rattle.store.proofs.raise.Goals as goal

pub returns : goal.returns
unfolding raised
returns c = simp (← c.row-i.ensures.0, ← c.write.ensures)
