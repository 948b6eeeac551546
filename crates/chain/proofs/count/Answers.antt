use native.Mathlib.Omega.{arith}
use Rattle.store.specs.{live_count}
use Rattle.chain.proofs.count.Goals as goal

pub returns : goal.returns
unfolding live_count
returns c = (omega (arith, c.min.ensures), omega (arith, c.min.ensures))
