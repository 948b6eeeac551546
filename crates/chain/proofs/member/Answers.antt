use mathlib.Core.Path.{sym, ◌∙◌}
use native.Mathlib.Omega.{arith}
use Rattle.chain.proofs.Members.{member_past, member_order}
use Rattle.chain.proofs.member.Goals as goal

pub returns-then-place-count : goal.returns-then-place-count
returns-then-place-count c = c.at.ensures ∙ sym (member_order _ _ (omega (arith, c.count.ensures.0)))

pub returns-else-place-count : goal.returns-else-place-count
returns-else-place-count c = sym (member_past _ _ (omega (arith, c.count.ensures.0)))
