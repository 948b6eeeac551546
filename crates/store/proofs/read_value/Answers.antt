use Rattle.store.specs.{value_at}
use Rattle.store.proofs.read_value.Goals as goal

pub returns : goal.returns
unfolding value_at
returns c = simp (← c.value_cell.ensures.0)
