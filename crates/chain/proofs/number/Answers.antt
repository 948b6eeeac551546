use mathlib.Core.Path.{◌≡◌, refl, sym, ap, ◌∙◌}
use mathlib.Core.List.{List}
use Prim.Native.Nat.{ℕ, ◌+◌, ◌*◌}
use native.Mathlib.Numerals.{add-one}
use lib.ListN.{set}
use Rattle.store.specs.{permit_cell}
use Rattle.chain.specs.{numbered}
use Rattle.chain.proofs.number.Goals as goal

-- one more is numbered
numbered_more : (s : List ℕ) (i : ℕ) → numbered s (i + 1) ≡ set (set (numbered s i) (1 + i) (256 * (i + 1) + (i + 1))) (permit_cell i) 1
unfolding numbered
numbered_more s i = ap (numbered s) (add-one i)

pub loop-i-init : goal.loop-i-init
unfolding numbered
loop-i-init c = refl

pub loop-i-preserved : goal.loop-i-preserved
loop-i-preserved c =
    let turn = c.loop-i in
    ap (λ (l : List ℕ). set (set l (1 + turn.i) (256 * (turn.i + 1) + (turn.i + 1))) (permit_cell turn.i) 1) turn.invariant ∙ sym (numbered_more _ turn.i)
