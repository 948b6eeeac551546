use Rattle.quorum.specs.{quorum_store}
use Rattle.quorum.proofs.clear.Goals as goal

pub returns : goal.returns
unfolding quorum_store
returns c = simp c.clear.ensures
