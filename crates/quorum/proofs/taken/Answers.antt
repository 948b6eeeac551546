use Rattle.quorum.specs.{items_taken}
use Rattle.quorum.proofs.taken.Goals as goal

pub returns : goal.returns
unfolding items_taken
returns c = simp (← c.logged.ensures, ← c.applied.ensures)
