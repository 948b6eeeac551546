use mathlib.Core.Path.{sym, ap, ◌∙◌}
use mathlib.Core.Bool.{not}
use borrow.Author.Tests.{eq-eqb, ne_eqb}
use Rattle.lists.proofs.Tests.{untrue}
use Rattle.quorum.specs.{executes}
use Rattle.quorum.proofs.executes.Goals as goal
use Rattle.quorum.proofs.executes.Goals.{then-not_executed-ne0, else-not_executed-ne0}

pub returns-then-majority_holds : goal.returns-then-majority_holds
unfolding executes
returns-then-majority_holds c =
    elim c.if-not_executed-ne0.branch [
      | then-not_executed-ne0 w ↦
          simp (← c.not_executed.ensures, ne_eqb _ _ w.if-not_executed-ne0.true, ← c.head.ensures, ← c.applied-next.ensures, ← w.majority_holds.ensures, sym w.value-is ∙ c.if-majority_holds.true, c.links_have_room.ensures)
      | else-not_executed-ne0 w ↦ untrue (sym (ap not (eq-eqb _ _ w.if-not_executed-ne0.false)) ∙ sym w.value-is ∙ c.if-majority_holds.true)
    ]

pub returns-else-majority_holds : goal.returns-else-majority_holds
unfolding executes
returns-else-majority_holds c =
    elim c.if-not_executed-ne0.branch [
      | then-not_executed-ne0 w ↦
          simp (c.if-majority_holds.false, ← c.not_executed.ensures, ne_eqb _ _ w.if-not_executed-ne0.true, ← c.head.ensures, ← c.applied-next.ensures, ← w.majority_holds.ensures, sym w.value-is ∙ c.if-majority_holds.false)
      | else-not_executed-ne0 w ↦ simp (c.if-majority_holds.false, ← c.not_executed.ensures, eq-eqb _ _ w.if-not_executed-ne0.false)
    ]
