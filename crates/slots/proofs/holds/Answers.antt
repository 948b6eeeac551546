use borrow.Author.Tests.{eq-eqb, ne_eqb}
use Rattle.slots.specs.{holds_object}
use Rattle.slots.proofs.holds.Goals as goal

pub returns-then-stamp-ne0 : goal.returns-then-stamp-ne0
unfolding holds_object
returns-then-stamp-ne0 c = simp (ne_eqb _ _ c.if-stamp-ne0.true)

pub returns-else-stamp-ne0 : goal.returns-else-stamp-ne0
unfolding holds_object
returns-else-stamp-ne0 c = simp (eq-eqb _ _ c.if-stamp-ne0.false)
