use Rattle.store.specs.{entry_at}
use Rattle.store.proofs.read_entry.Goals as goal

pub returns : goal.returns
unfolding entry_at
returns c = simp (← c.entry_cell.ensures.0, ← c.entry_cell-2.ensures.0, ← c.entry_cell-3.ensures.0, ← c.entry_stamp_cell.ensures.0, ← c.read.ensures)
