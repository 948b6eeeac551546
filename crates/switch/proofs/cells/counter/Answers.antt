use mathlib.Core.Path.{refl}
use Rattle.switch.specs.Numbers.{counter_in}
use Rattle.switch.proofs.cells.counter.Goals as goal

pub returns : goal.returns
unfolding counter_in
returns c = refl
