use Rattle.quorum.specs.{majority_holds}
use Rattle.quorum.proofs.majority_holds.Goals as goal

pub returns : goal.returns
unfolding majority_holds
returns c = simp (← c.count.ensures.0, ← c.holders.ensures.0)
