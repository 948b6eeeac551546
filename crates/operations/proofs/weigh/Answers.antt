use mathlib.Core.Path.{◌≡◌, refl, ap, ◌∙◌}
use Prim.Native.Nat.{◌+◌}
use native.Mathlib.Numerals.{add-one}
use native.Mathlib.Omega.{arith}
use Rattle.operations.specs.Search.{weighed}
use Rattle.operations.proofs.Search.{weighed_most}
use Rattle.operations.proofs.weigh.Goals as goal

-- the sum after one cell more
more : (c : goal.After-weight-sum) → c.loop-i.sum + c.weight-sum.result
    ≡ weighed c.args.cells.now c.args.o (c.loop-i.i + 1)
unfolding weighed
more c = let turn = c.loop-i in rw (add-one turn.i, turn.invariant.1, c.weight-sum.ensures)

pub loop-i-init : goal.loop-i-init
unfolding weighed
loop-i-init c = (omega arith, refl)

pub overflow_add-sum : goal.overflow_add-sum
overflow_add-sum c =
    let from = c.args in
    omega (arith, more c, weighed_most from.cells.now from.o (c.loop-i.i + 1) (omega arith))

pub loop-i-preserved : goal.loop-i-preserved
loop-i-preserved c = (omega arith, more c)

pub returns : goal.returns
returns c =
    let done = c.loop-i in
    done.invariant.1 ∙ ap (weighed _ _) (omega arith)
