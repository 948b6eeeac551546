use mathlib.Core.Path.{refl}
use Rattle.store.specs.{value_cell}
use borrow.Author.Rules.{rules}
use Rattle.store.proofs.value_cell.Goals as goal

pub returns : goal.returns
unfolding value_cell
returns c = simp c.row.ensures.0 (refl, search rules)
