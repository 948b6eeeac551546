use mathlib.Core.Path.{sym, ◌∙◌}
use native.Mathlib.Omega.{arith}
use borrow.Author.Tests.{eq-eqb}
use Rattle.chain.proofs.Numbers.{read_place_none, read_place_last, read_place_first}
use Rattle.chain.proofs.is_read_place.Goals as goal

pub returns-then-is_quorum : goal.returns-then-is_quorum
returns-then-is_quorum c = sym (read_place_first _ (sym c.is_quorum.ensures ∙ c.if-is_quorum.true) _)

pub returns-then-n-ne0 : goal.returns-then-n-ne0
returns-then-n-ne0 c = rw c.count-n.ensures.0 (sym (read_place_last _ (sym c.is_quorum.ensures ∙ c.if-is_quorum.false) _ (omega (arith, c.count-n.ensures.0, c.if-n-ne0.true))))

pub returns-else-n-ne0 : goal.returns-else-n-ne0
returns-else-n-ne0 c =
    rw (eq-eqb c.count-n.result 0 c.if-n-ne0.false)
    (sym (read_place_none _ (sym c.is_quorum.ensures ∙ c.if-is_quorum.false) _ (omega (arith, c.count-n.ensures.0, c.if-n-ne0.false))))
