use mathlib.Core.Path.{sym, ◌∙◌}
use borrow.Author.Tests.{le-leb, lt-leb, ltb-true, ltb-false}
use Rattle.lists.proofs.Tests.{untrue}
use Rattle.replicas.specs.Replicas.{accepts}
use Rattle.replicas.proofs.accepts.Goals as goal
use Rattle.replicas.proofs.accepts.Goals.{then-above, else-above}

pub returns-then-linked-lt64 : goal.returns-then-linked-lt64
unfolding accepts
returns-then-linked-lt64 c =
    elim c.if-above.branch [
      | then-above w ↦
          simp (← c.highest.ensures, ← c.above.ensures, w.if-above.true, ← w.linked.ensures, lt-leb _ _ (ltb-true _ _ (sym w.value-is ∙ c.if-linked-lt64.true)), ← c.applied.ensures)
      | else-above w ↦ untrue (sym w.if-above.false ∙ sym w.value-is ∙ c.if-linked-lt64.true)
    ]

pub returns-else-linked-lt64 : goal.returns-else-linked-lt64
unfolding accepts
returns-else-linked-lt64 c =
    elim c.if-above.branch [
      | then-above w ↦
          simp (c.if-linked-lt64.false, ← c.highest.ensures, ← c.above.ensures, w.if-above.true, ← w.linked.ensures, le-leb _ _ (ltb-false _ _ (sym w.value-is ∙ c.if-linked-lt64.false)))
      | else-above w ↦ simp (c.if-linked-lt64.false, ← c.highest.ensures, ← c.above.ensures, w.if-above.false)
    ]
