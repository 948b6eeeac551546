use Rattle.store.specs.{row_of}
use borrow.Author.Rules.{rules}
use Rattle.store.proofs.row.Goals as goal

pub returns : goal.returns
unfolding row_of
returns c = search rules
