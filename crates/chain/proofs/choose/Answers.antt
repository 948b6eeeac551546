use Prim.Native.Nat.{◌<◌}
use native.Mathlib.Nat.{mod-lt}
use Rattle.chain.proofs.Numbers.{chosen_none, chosen_at}
use mathlib.Core.Path.{sym, ◌∙◌}
use native.Mathlib.Omega.{arith}
use Rattle.chain.proofs.choose.Goals as goal

pub returns-then-n-eq0 : goal.returns-then-n-eq0
returns-then-n-eq0 c = sym (chosen_none _ _ (omega (arith, c.count-n.ensures.0)))

pub number_at-requires : goal.number_at-requires
number_at-requires c =
    let some : 0 < c.count-n.result = omega arith in
    omega (arith, c.chosen_place-place.ensures, mod-lt c.args.choice some, c.count-n.ensures.1)

pub returns : goal.returns
returns c =
    let some : 0 < c.count-n.result = omega arith in
    rw (c.chosen_place-place.ensures, c.count-n.ensures.0) at c.number_at.ensures ∙
    sym (chosen_at _ _ (omega (arith, some, c.count-n.ensures.0)))
