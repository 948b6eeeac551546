use Rattle.chain.specs.{tail_number}
use Rattle.chain.proofs.tail_number.Goals as goal

pub returns : goal.returns
unfolding tail_number
returns c = simp (← c.count.ensures.0, ← c.saturating_sub.ensures, c.number_in.ensures)
