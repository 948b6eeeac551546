use mathlib.Core.Path.{sym, ◌∙◌}
use native.Mathlib.Omega.{arith}
use Rattle.chain.proofs.Numbers.{number_past, number_order}
use Rattle.chain.proofs.number_in.Goals as goal

pub returns-then-place-count : goal.returns-then-place-count
returns-then-place-count c = c.number_at.ensures ∙ sym (number_order _ _ (omega (arith, c.count.ensures.0)))

pub returns-else-place-count : goal.returns-else-place-count
returns-else-place-count c = sym (number_past _ _ (omega (arith, c.count.ensures.0)))
