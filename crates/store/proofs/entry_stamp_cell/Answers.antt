use mathlib.Core.Path.{refl}
use Rattle.store.specs.{entry_stamp_cell}
use borrow.Author.Rules.{rules}
use Rattle.store.proofs.entry_stamp_cell.Goals as goal

pub returns : goal.returns
unfolding entry_stamp_cell
returns c = (refl, search rules)
