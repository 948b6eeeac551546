use mathlib.Core.Path.{refl}
use Rattle.contexts.specs.{row_cell}
use borrow.Author.Rules.{rules}
use Rattle.contexts.proofs.row_cell.Goals as goal

pub returns : goal.returns
unfolding row_cell
returns c = (refl, search rules)
