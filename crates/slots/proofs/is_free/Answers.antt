use Rattle.slots.specs.{is_free, counts_above}
use Rattle.slots.proofs.Tests.{turned}
use Rattle.slots.proofs.is_free.Goals as goal

pub returns : goal.returns
unfolding is_free counts_above
returns c = simp (← c.above.ensures, turned)
