use Rattle.std.proofs.Common.{rules, ◌≡◌, arith}
use Rattle.stamp.specs.Stamps.{stamp_in}
use Rattle.stamp.proofs.Ends.{none_read}
use Rattle.stamp.proofs.read.Goals as goal

pub returns-then-at : goal.returns-then-at
returns-then-at g c = search (rules, none_read)

pub returns : goal.returns
unfolding stamp_in
returns g c = search rules
