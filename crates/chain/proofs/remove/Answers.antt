use mathlib.Core.Path.{◌≡◌, sym, ap, ◌∙◌}
use mathlib.Core.List.{List}
use Prim.Native.Nat.{ℕ, ◌+◌, ◌-◌}
use native.Mathlib.Omega.{arith}
use lib.ListN.{set, get_or}
use borrow.Author.Tests.{lt-ltb, le-ltb}
use Rattle.lists.specs.{moves}
use Rattle.lists.proofs.Closing.{moves_none, moves_turn}
use Rattle.chain.specs.{removed}
use Rattle.chain.proofs.remove.Goals as goal

pub returns-then-n-from : goal.returns-then-n-from
unfolding removed
returns-then-n-from c = simp (← c.count-n.ensures.0, le-ltb _ _ c.if-n-from.true)

pub loop-i-init : goal.loop-i-init
loop-i-init c = sym (moves_none 0 _ _)

pub loop-i-preserved : goal.loop-i-preserved
loop-i-preserved c =
    let turn = c.loop-i in
    ap (λ (l : List ℕ). set l (1 + turn.i) (get_or l (1 + turn.i + 1) 0)) turn.invariant ∙
    moves_turn 0 _ _ (1 + turn.i) (omega arith) ∙ ap (moves 0 _ _) (omega arith)

pub returns : goal.returns
unfolding removed
returns c =
    let n = c.count-n.result in
    let from = c.args.from in
    let table = c.at-table.result in
    let all : 1 + c.loop-i.i - (1 + from) ≡ 7 - from = omega (arith, c.count-n.ensures.1) in
    simp (← c.count-n.ensures.0, lt-ltb _ _ c.if-n-from.false, ← c.at-table.ensures, c.from.ensures)
    (ap (λ (l : List ℕ). set (set l 8 table) 0 (n - 1)) (c.loop-i.invariant ∙ ap (moves 0 _ (1 + from)) all))
