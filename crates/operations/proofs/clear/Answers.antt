use mathlib.Core.Path.{refl}
use Rattle.operations.specs.{none_open}
use Rattle.operations.proofs.clear.Goals as goal

pub returns : goal.returns
unfolding none_open
returns c = refl
