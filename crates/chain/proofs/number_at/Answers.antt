use mathlib.Core.Path.{refl}
use Rattle.store.specs.{number_at}
use Rattle.chain.proofs.number_at.Goals as goal

pub returns : goal.returns
unfolding number_at
returns c = refl
