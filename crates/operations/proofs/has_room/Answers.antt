use Rattle.operations.specs.{room_to_open}
use Rattle.operations.proofs.has_room.Goals as goal

pub returns : goal.returns
unfolding room_to_open
returns c = simp c.count.ensures.0
