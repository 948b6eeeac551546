use mathlib.Core.Path.{refl}
use Rattle.joins.specs.{last_number}
use Rattle.joins.proofs.last_number.Goals as goal

pub returns : goal.returns
unfolding last_number
returns c = refl
