use Rattle.chain.specs.{head_number}
use Rattle.chain.proofs.head_number.Goals as goal

pub returns : goal.returns
unfolding head_number
returns c = simp c.number_in.ensures
