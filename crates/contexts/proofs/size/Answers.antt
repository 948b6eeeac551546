use native.Mathlib.Omega.{arith}
use Rattle.contexts.specs.{size_of}
use Rattle.contexts.proofs.size.Goals as goal

pub returns : goal.returns
unfolding size_of
returns c = (omega (arith, c.min.ensures), omega (arith, c.min.ensures))
