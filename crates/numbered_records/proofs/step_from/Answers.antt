use Rattle.std.proofs.Common.{arith}
use Rattle.numbered_records.specs.{step_from}
use Rattle.numbered_records.proofs.step_from.Goals as goal

pub returns-in_default : goal.returns-in_default
unfolding step_from
returns-in_default c = grind arith

pub returns-in-0 : goal.returns-in-0
unfolding step_from
returns-in-0 c = grind arith

pub returns-in-1 : goal.returns-in-1
unfolding step_from
returns-in-1 c = grind arith

pub returns-in-2 : goal.returns-in-2
unfolding step_from
returns-in-2 c = grind arith

pub returns-in-3 : goal.returns-in-3
unfolding step_from
returns-in-3 c = grind arith

pub returns-in-4 : goal.returns-in-4
unfolding step_from
returns-in-4 c = grind arith

pub returns-in-5 : goal.returns-in-5
unfolding step_from
returns-in-5 c = grind arith

pub returns-in-6 : goal.returns-in-6
unfolding step_from
returns-in-6 c = grind arith

pub returns-in-7 : goal.returns-in-7
unfolding step_from
returns-in-7 c = grind arith

pub returns-in-8 : goal.returns-in-8
unfolding step_from
returns-in-8 c = grind arith

pub returns-in-9 : goal.returns-in-9
unfolding step_from
returns-in-9 c = grind arith

pub returns-in-10 : goal.returns-in-10
unfolding step_from
returns-in-10 c = grind arith

pub returns-in-12 : goal.returns-in-12
unfolding step_from
returns-in-12 c = grind arith

pub returns-in-13 : goal.returns-in-13
unfolding step_from
returns-in-13 c = grind arith

pub returns-in-14 : goal.returns-in-14
unfolding step_from
returns-in-14 c = grind arith

pub returns-in-15 : goal.returns-in-15
unfolding step_from
returns-in-15 c = grind arith
