use Rattle.chain.specs.{head_of}
use Rattle.chain.proofs.head.Goals as goal

pub returns : goal.returns
unfolding head_of
returns c = simp c.member.ensures
