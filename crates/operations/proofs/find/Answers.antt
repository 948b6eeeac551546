use mathlib.Core.Path.{sym, ◌∙◌}
use native.Mathlib.Omega.{arith}
use Rattle.operations.proofs.Search.{place_unheld, weighed_least, place_told, place_unused}
use Rattle.operations.proofs.find.Goals as goal

pub returns-then-sum-eq0 : goal.returns-then-sum-eq0
returns-then-sum-eq0 c = place_unheld _ _ (sym c.weigh-sum.ensures ∙ c.if-sum-eq0.true)

pub overflow_sub-i : goal.overflow_sub-i
overflow_sub-i c =
    let is = c.weigh-sum.ensures in
    let from = c.args in
    omega (arith, is, weighed_least from.cells.now from.o (λ e. c.if-sum-eq0.false (is ∙ e)) (omega (arith, is)))

pub returns-then-i-n : goal.returns-then-i-n
returns-then-i-n c =
    let is = c.weigh-sum.ensures in
    let from = c.args in
    let count = c.count-n.ensures.0 in (
      omega (arith, is, place_told from.cells.now from.o (λ e. c.if-sum-eq0.false (is ∙ e)) (omega (arith, is)) (omega (arith, is, count))),
      omega (arith, count),
    )

pub returns-else-i-n : goal.returns-else-i-n
returns-else-i-n c =
    let is = c.weigh-sum.ensures in
    let from = c.args in
    place_unused from.cells.now from.o (λ e. c.if-sum-eq0.false (is ∙ e)) (omega (arith, is)) (omega (arith, is, c.count-n.ensures.0))
