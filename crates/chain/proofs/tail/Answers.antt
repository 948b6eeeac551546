use Rattle.chain.specs.{tail_of}
use Rattle.chain.proofs.tail.Goals as goal

pub returns : goal.returns
unfolding tail_of
returns c = simp (← c.count.ensures.0, ← c.saturating_sub.ensures, c.member.ensures)
