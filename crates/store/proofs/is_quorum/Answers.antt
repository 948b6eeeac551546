use Rattle.store.specs.{is_quorum}
use borrow.Author.Rules.{rules}
use Rattle.store.proofs.is_quorum.Goals as goal

pub returns : goal.returns
unfolding is_quorum
returns c = search rules
