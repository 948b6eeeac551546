use Rattle.std.proofs.Common.{refl, arith}
use Rattle.agreement.specs.{agree_to}
use Rattle.agreement.proofs.Agreement.{agree_more, too_short, differs, stands}
use Rattle.agreement.proofs.stands_at.Goals as goal

pub returns-then-s-at : goal.returns-then-s-at
returns-then-s-at c = too_short _ _ _ (omega arith)

pub returns-then-s-at-2 : goal.returns-then-s-at-2
returns-then-s-at-2 c = too_short _ _ _ (omega arith)

pub loop-i-init : goal.loop-i-init
unfolding agree_to
loop-i-init c = (omega arith, omega arith, refl)

pub returns-then-s-at-3 : goal.returns-then-s-at-3
returns-then-s-at-3 c = differs _ _ _ c.loop-i.invariant.1 c.loop-i.i (omega arith) c.if-s-at-3.true

pub loop-i-preserved : goal.loop-i-preserved
loop-i-preserved c = (omega arith, c.loop-i.invariant.1, agree_more _ _ _ c.loop-i.i c.loop-i.invariant.2 c.if-s-at-3.false)

pub returns : goal.returns
returns c = stands _ _ _ c.loop-i.invariant.1 c.loop-i.i (omega arith) c.loop-i.invariant.2
