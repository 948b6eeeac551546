use Rattle.stamp.specs.Stamps.{number_of}
use borrow.Author.Rules.{rules}
use Rattle.stamp.proofs.upper.Goals as goal

pub returns : goal.returns
unfolding number_of
returns c = search rules
