-- A test that is turned round, as the definitions write it.
use mathlib.Core.Path.{◌≡◌, refl}
use mathlib.Core.Bool.{Bool, true, false, cond, not}

pub turned : (b : Bool) → not b ≡ cond b false true
turned true = refl
turned false = refl
