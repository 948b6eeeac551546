use mathlib.Core.Path.{sym, ◌∙◌}
use mathlib.Core.Bool.{false≢true}
use mathlib.Core.Logic.{inl, inr}
use borrow.Author.Tests.{lt-ltb, le-ltb}
use Rattle.turns.specs.Promises.{goes_on}
use Rattle.turns.proofs.goes_on.Goals as goal
use Rattle.turns.proofs.goes_on.Goals.{then-not-over, else-not-over}

pub returns-then-left-gt0 : goal.returns-then-left-gt0
unfolding goes_on
returns-then-left-gt0 c = simp (c.if-left-gt0.true.0, lt-ltb _ _ c.if-left-gt0.true.1)

pub returns-else-left-gt0 : goal.returns-else-left-gt0
unfolding goes_on
returns-else-left-gt0 c = elim c.if-not-over.branch [
  | then-not-over w ↦ elim c.if-left-gt0.either [ inl e ↦ simp (w.t-6-is, e.0, le-ltb _ _ e.1) | inr over ↦ absurd (false≢true (sym w.if-not-over.true ∙ over)) ]
  | else-not-over w ↦ simp (w.t-6-is, w.if-not-over.false)
]
