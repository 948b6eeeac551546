use Rattle.store.specs.{tabled}
use Rattle.store.proofs.put_write.Goals as goal

pub returns : goal.returns
unfolding tabled
returns c = simp (← c.value_cell.ensures.0, ← c.stamp_cell.ensures.0, ← c.write.ensures)
