use mathlib.Core.Path.{refl}
use Rattle.store.specs.{stamp_cell}
use borrow.Author.Rules.{rules}
use Rattle.store.proofs.stamp_cell.Goals as goal

pub returns : goal.returns
unfolding stamp_cell
returns c = simp c.row.ensures.0 (refl, search rules)
