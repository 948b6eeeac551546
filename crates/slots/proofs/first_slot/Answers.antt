use mathlib.Core.Path.{refl}
use Rattle.slots.specs.{first_slot}
use borrow.Author.Rules.{rules}
use Rattle.slots.proofs.first_slot.Goals as goal

pub returns : goal.returns
unfolding first_slot
returns c = (refl, search rules)
