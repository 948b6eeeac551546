use Rattle.std.proofs.Common.{rules}
use Rattle.stamp.specs.Stamps.{set_stamp}
use Rattle.stamp.proofs.Ends.{none_taken}
use Rattle.stamp.proofs.write.Goals as goal

pub returns-then-at : goal.returns-then-at
unfolding set_stamp
returns-then-at g c = search rules

pub returns-else-at : goal.returns-else-at
returns-else-at g c = search (rules, none_taken)
