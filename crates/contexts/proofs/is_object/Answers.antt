use mathlib.Core.Path.{refl}
use Rattle.contexts.specs.{is_object}
use Rattle.contexts.proofs.is_object.Goals as goal

pub returns : goal.returns
unfolding is_object
returns c = refl
