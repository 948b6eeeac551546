use Rattle.chain.specs.{empty_store, empty_cells}
use Rattle.chain.proofs.clear.Goals as goal

pub returns : goal.returns
unfolding empty_store empty_cells
returns c = simp (c.number.ensures, c.from.ensures, c.from-2.ensures)
