use Rattle.store.specs.{logged}
use Rattle.store.proofs.put_entry.Goals as goal

pub returns : goal.returns
unfolding logged
returns c = simp (← c.entry_cell.ensures.0, ← c.entry_cell-2.ensures.0, ← c.entry_cell-3.ensures.0, ← c.entry_stamp_cell.ensures.0, ← c.write.ensures)
