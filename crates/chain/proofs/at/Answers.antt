use mathlib.Core.Path.{refl}
use Rattle.store.specs.{order_at}
use Rattle.chain.proofs.at.Goals as goal

pub returns : goal.returns
unfolding order_at
returns c = refl
