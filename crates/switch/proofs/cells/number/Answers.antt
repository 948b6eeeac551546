use mathlib.Core.Path.{refl}
use Rattle.switch.specs.Numbers.{number_in}
use Rattle.switch.proofs.cells.number.Goals as goal

pub returns : goal.returns
unfolding number_in
returns c = refl
