use Rattle.std.proofs.Common.{ℕ, ne_eqb}
use Rattle.draws.specs.{step_from}
use Rattle.draws.proofs.step_from.Goals as goal

-- no kind is left
pub returns-in_default : goal.returns-in_default
unfolding step_from
returns-in_default c =
    let k : ℕ = c.args.kind in
    let others = c.in_default.in_default-own.rest in
    simp (
      ne_eqb k 10 others.1,
      ne_eqb k 9 others.0.1,
      ne_eqb k 8 others.0.0.1,
      ne_eqb k 7 others.0.0.0.1,
      ne_eqb k 6 others.0.0.0.0.1,
      ne_eqb k 5 others.0.0.0.0.0.1,
      ne_eqb k 4 others.0.0.0.0.0.0.1,
      ne_eqb k 3 others.0.0.0.0.0.0.0.1,
      ne_eqb k 2 others.0.0.0.0.0.0.0.0.1,
      ne_eqb k 1 others.0.0.0.0.0.0.0.0.0.1,
    )

pub returns-in-1 : goal.returns-in-1
unfolding step_from
returns-in-1 c = simp c.in-1.is

pub returns-in-2 : goal.returns-in-2
unfolding step_from
returns-in-2 c = simp (c.in-2.is, c.from.ensures)

pub returns-in-3 : goal.returns-in-3
unfolding step_from
returns-in-3 c = simp c.in-3.is

pub returns-in-4 : goal.returns-in-4
unfolding step_from
returns-in-4 c = simp c.in-4.is

pub returns-in-5 : goal.returns-in-5
unfolding step_from
returns-in-5 c = simp c.in-5.is

pub returns-in-6 : goal.returns-in-6
unfolding step_from
returns-in-6 c = simp (c.in-6.is, ← c.replica.ensures)

pub returns-in-7 : goal.returns-in-7
unfolding step_from
returns-in-7 c = simp c.in-7.is

pub returns-in-8 : goal.returns-in-8
unfolding step_from
returns-in-8 c = simp (c.in-8.is, ← c.replica-in-8.ensures)

pub returns-in-9 : goal.returns-in-9
unfolding step_from
returns-in-9 c = simp (c.in-9.is, ← c.replica-in-9.ensures)

pub returns-in-10 : goal.returns-in-10
unfolding step_from
returns-in-10 c = simp (c.in-10.is, c.from-in-10.ensures)
