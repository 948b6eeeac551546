use Rattle.switch.specs.Numbers.{slot_stamp}
use Rattle.switch.proofs.cells.stamp_at.Goals as goal

pub returns : goal.returns
unfolding slot_stamp
returns c = c.read.ensures
