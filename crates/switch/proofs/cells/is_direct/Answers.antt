use mathlib.Core.Path.{refl}
use Rattle.switch.specs.Numbers.{direct_in}
use Rattle.switch.proofs.cells.is_direct.Goals as goal

pub returns : goal.returns
unfolding direct_in
returns c = refl
