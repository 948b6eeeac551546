use mathlib.Core.Path.{refl}
use Rattle.slots.specs.{third_slot}
use borrow.Author.Rules.{rules}
use Rattle.slots.proofs.third_slot.Goals as goal

pub returns : goal.returns
unfolding third_slot
returns c = (refl, search rules)
