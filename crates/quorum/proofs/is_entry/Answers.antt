use Rattle.quorum.specs.{is_entry}
use Rattle.store.specs.{item_cell}
use borrow.Author.Rules.{rules}
use Rattle.quorum.proofs.is_entry.Goals as goal

pub returns : goal.returns
unfolding is_entry item_cell
returns c = search rules
