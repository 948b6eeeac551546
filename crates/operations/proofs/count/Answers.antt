use native.Mathlib.Omega.{arith}
use Rattle.operations.specs.{open_count}
use Rattle.operations.proofs.count.Goals as goal

pub returns : goal.returns
unfolding open_count
returns c = (omega arith, omega arith)
