use mathlib.Core.Path.{refl}
use Rattle.operations.specs.{last_given}
use Rattle.operations.proofs.last.Goals as goal

pub returns : goal.returns
unfolding last_given
returns c = refl
