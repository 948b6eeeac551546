-- The steps that `_` stands for where code tells a few apart: none of those, so what the step then is.
use mathlib.Core.Path.{◌≡◌, refl}
use Prim.Native.Nat.{ℕ}
use Rattle.protocol.specs.declared.Step.{Step}
use Rattle.protocol.specs.declared.Step.TheVariants.{Start, BeginRead, BeginWrite, Deliver, Lose, Repeat, Advance, Replace, Tell, Remove, GiveUp, BeginContext, Join, Copy, Execute}
use Rattle.protocol.specs.Steps.{position_of}

pub no_position : (x : Step) → ((at choice : ℕ) → x ≡ Deliver at choice → ⊥) → ((at : ℕ) → x ≡ Lose at → ⊥) → ((at : ℕ) → x ≡ Repeat at → ⊥) → ◌≡◌ {A = ℕ} 0 (position_of x)
unfolding position_of
no_position (Start b) i j k = refl
no_position (BeginRead x) i j k = refl
no_position (BeginWrite x v) i j k = refl
no_position (Deliver at choice) i j k = absurd (i at choice refl)
no_position (Lose at) i j k = absurd (j at refl)
no_position (Repeat at) i j k = absurd (k at refl)
no_position (Advance r) i j k = refl
no_position (Replace number) i j k = refl
no_position (Tell r) i j k = refl
no_position (Remove r) i j k = refl
no_position (GiveUp o) i j k = refl
no_position (BeginContext x) i j k = refl
no_position Join i j k = refl
no_position Copy i j k = refl
no_position Execute i j k = refl
