use Rattle.std.proofs.Common.{arith}
use Rattle.numbered_records.specs.{largest_first}
use Rattle.numbered_records.proofs.largest_first.Goals as goal

pub returns-in-10 : goal.returns-in-10
unfolding largest_first
returns-in-10 c = grind arith

pub returns-in-12-to-14 : goal.returns-in-12-to-14
unfolding largest_first
returns-in-12-to-14 c = grind arith

pub returns-in_default : goal.returns-in_default
unfolding largest_first
returns-in_default c = grind arith

pub returns-in_default-2 : goal.returns-in_default-2
unfolding largest_first
returns-in_default-2 c = grind arith

pub returns-in_default-3 : goal.returns-in_default-3
unfolding largest_first
returns-in_default-3 c = grind arith

pub returns-in-0 : goal.returns-in-0
unfolding largest_first
returns-in-0 c = grind arith

pub returns-in-0-2 : goal.returns-in-0-2
unfolding largest_first
returns-in-0-2 c = grind arith
