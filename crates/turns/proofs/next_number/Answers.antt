use Rattle.std.proofs.Common.{Bool, true, false}
use mathlib.Core.Path.{◌≡◌, refl, ◌∙◌}
use Prim.Native.Nat.{ℕ, ◌+◌, ◌-◌, ◌^◌, ◌<◌, min}
use native.Mathlib.Omega.{arith}
use lib.Dec.{eqb}
use borrow.Author.Tests.{eqb-true, eqb-false}
use Rattle.turns.specs.Turns.{next_number}
use Rattle.turns.proofs.next_number.Goals as goal

saturated : (k : ℕ) → k < 2 ^ 64 → min (k + 1) (2 ^ 64 - 1) ≡ next_number k
unfolding next_number
saturated k h = go (eqb k 18446744073709551615) refl
  where
    go : (t : Bool) → eqb k 18446744073709551615 ≡ t → min (k + 1) (2 ^ 64 - 1) ≡ next_number k
    go true e = rw e (omega (arith, eqb-true _ _ e))
    go false e = rw e (omega (arith, eqb-false _ _ e))

pub returns : goal.returns
returns c = c.saturating_add.ensures ∙ saturated c.args.k (omega arith)
