use Rattle.std.proofs.Common.{arith}
use Rattle.draws.specs.{drawn}
use Rattle.draws.proofs.draw.Goals as goal

pub returns : goal.returns
unfolding drawn
returns c = omega (arith, c.multiply.ensures)
