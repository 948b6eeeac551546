-- The loop's invariant: what is counted, and what the steps that are left have, is what all of them have.
use Rattle.std.proofs.Common.{◌≡◌, ℕ, ◌+◌, ◌-◌, ◌≤◌, length}
use Rattle.draws.specs.{steps_drawn, records_of, most_steps}
use Rattle.draws.proofs.size.Given as goal

abbrev pub bytes : ℕ → ℕ → ℕ
bytes k seed = length (records_of (steps_drawn k seed))

abbrev pub invariant-loop-i : goal.invariant-loop-i
invariant-loop-i l = (l.size + bytes (l.steps - l._i) l.at ≡ bytes l.steps l.seed) × (l.steps ≤ most_steps)
