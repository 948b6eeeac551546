use Rattle.store.specs.{stamp_at}
use Rattle.store.proofs.read_stamp.Goals as goal

pub returns : goal.returns
unfolding stamp_at
returns c = simp (← c.stamp_cell.ensures.0, ← c.read.ensures)
