use mathlib.Core.Path.{refl}
use Rattle.switch.specs.Numbers.{slot_object}
use Rattle.switch.proofs.cells.object_at.Goals as goal

pub returns : goal.returns
unfolding slot_object
returns c = refl
