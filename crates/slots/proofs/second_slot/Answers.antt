use mathlib.Core.Path.{refl}
use Rattle.slots.specs.{second_slot}
use borrow.Author.Rules.{rules}
use Rattle.slots.proofs.second_slot.Goals as goal

pub returns : goal.returns
unfolding second_slot
returns c = (refl, search rules)
