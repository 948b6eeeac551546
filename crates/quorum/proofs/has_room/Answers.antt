use Rattle.quorum.specs.{has_room}
use Rattle.quorum.proofs.has_room.Goals as goal

pub returns : goal.returns
unfolding has_room
returns c = simp (← c.linked.ensures)
