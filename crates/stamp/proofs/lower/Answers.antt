use Rattle.stamp.specs.Stamps.{counter_of}
use borrow.Author.Rules.{rules}
use Rattle.stamp.proofs.lower.Goals as goal

pub returns : goal.returns
unfolding counter_of
returns c = search rules
