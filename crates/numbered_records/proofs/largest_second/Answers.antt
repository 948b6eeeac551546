use Rattle.std.proofs.Common.{arith}
use Rattle.numbered_records.specs.{largest_second}
use Rattle.numbered_records.proofs.largest_second.Goals as goal

pub returns-in_default : goal.returns-in_default
unfolding largest_second
returns-in_default c = grind arith

pub returns-in-2 : goal.returns-in-2
unfolding largest_second
returns-in-2 c = grind arith

pub returns-in-3 : goal.returns-in-3
unfolding largest_second
returns-in-3 c = grind arith
