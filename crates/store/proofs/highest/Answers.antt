use Rattle.store.specs.{highest_of}
use Rattle.store.proofs.highest.Goals as goal

pub returns : goal.returns
unfolding highest_of
returns c = simp (← c.row.ensures.0, ← c.read.ensures)
