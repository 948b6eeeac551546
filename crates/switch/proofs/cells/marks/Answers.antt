use mathlib.Core.Path.{refl}
use Rattle.switch.specs.Numbers.{marks_in}
use Rattle.switch.proofs.cells.marks.Goals as goal

pub returns : goal.returns
unfolding marks_in
returns c = refl
