use native.Mathlib.Omega.{arith}
use Rattle.waiting.specs.Waiting.{held_in}
use Rattle.waiting.proofs.held.Goals as goal

pub returns : goal.returns
unfolding held_in
returns c = (omega arith, omega arith)
