-- The steps that `_` stands for where malformed ones are told apart.
use mathlib.Core.Path.{◌≡◌, refl}
use mathlib.Core.Bool.{false}
use Prim.Native.Nat.{ℕ}
use Rattle.contexts.specs.declared.Objects.{Objects}
use Rattle.protocol.specs.declared.Setup.{Setup}
use Rattle.protocol.specs.declared.Step.{Step}
use Rattle.protocol.specs.declared.Step.TheVariants.{Start, BeginRead, BeginWrite, Deliver, Lose, Repeat, Advance, Replace, Tell, Remove, GiveUp, BeginContext, Join, Copy, Execute}
use Rattle.protocol.specs.Steps.{is_malformed}

pub well_formed : (x : Step) → ((b : Setup) → x ≡ Start b → ⊥) → ((n : ℕ) → x ≡ Replace n → ⊥) → ((o : Objects) → x ≡ BeginContext o → ⊥) → false ≡ is_malformed x
unfolding is_malformed
well_formed (Start b) i j k = absurd (i b refl)
well_formed (BeginRead x) i j k = refl
well_formed (BeginWrite x v) i j k = refl
well_formed (Deliver at choice) i j k = refl
well_formed (Lose at) i j k = refl
well_formed (Repeat at) i j k = refl
well_formed (Advance r) i j k = refl
well_formed (Replace number) i j k = absurd (j number refl)
well_formed (Tell r) i j k = refl
well_formed (Remove r) i j k = refl
well_formed (GiveUp o) i j k = refl
well_formed (BeginContext x) i j k = absurd (k x refl)
well_formed Join i j k = refl
well_formed Copy i j k = refl
well_formed Execute i j k = refl
