use mathlib.Core.Path.{sym, ◌∙◌}
use native.Mathlib.Omega.{arith}
use Rattle.waiting.specs.Plans.{plan_of}
use Rattle.waiting.proofs.Plans.{left_taken}
use Rattle.waiting.proofs.plan_of.Goals as goal

pub overflow_sub-left : goal.overflow_sub-left
overflow_sub-left c = omega (arith, c.held-left.ensures.0, (left_taken _ _ (sym c.takes_out.ensures ∙ c.if-takes_out.true)).1)

pub returns-then-takes_out : goal.returns-then-takes_out
unfolding plan_of
returns-then-takes_out c = simp (← c.takes_out.ensures, c.if-takes_out.true, ← c.held-left.ensures.0, ← c.plan_from.ensures)

pub returns-else-takes_out : goal.returns-else-takes_out
unfolding plan_of
returns-else-takes_out c = simp (← c.takes_out.ensures, c.if-takes_out.false, ← c.plan_from-else-takes_out.ensures)
