use Rattle.stamp.proofs.Laws.{larger_is}
use borrow.Author.Rules.{rules}
use Rattle.stamp.proofs.larger.Goals as goal

pub returns : goal.returns
returns c = simp larger_is (search rules)
