use mathlib.Core.Path.{◌≡◌, refl, ◌∙◌}
use mathlib.Core.Bool.{Bool, true, false, cond}
use Prim.Native.Nat.{ℕ, ◌+◌, ◌≤◌, ◌<◌, min}
use native.Mathlib.Omega.{arith}
use lib.Dec.{ltb}
use borrow.Author.Tests.{ltb-true, ltb-false}
use Rattle.replicas.specs.Replicas.{next_position}
use Rattle.replicas.proofs.next_position.Goals as goal

-- the last position stays
next_is : (p : ℕ) → p < 4294967296 → min (p + 1) 4294967295 ≡ next_position p
unfolding next_position
next_is p h = go (ltb p 4294967295) (ltb-true p 4294967295) (ltb-false p 4294967295)
  where
    go : (t : Bool) → (t ≡ true → p < 4294967295) → (t ≡ false → 4294967295 ≤ p) → min (p + 1) 4294967295 ≡ cond t (p + 1) p
    go true below past = omega (arith, below refl)
    go false below past = omega (arith, past refl)

pub returns : goal.returns
returns c = c.saturating_add.ensures ∙ next_is _ c.ranges.p.fits
