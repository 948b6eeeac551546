use mathlib.Core.Path.{refl}
use native.Mathlib.Omega.{arith}
use Rattle.std.proofs.lemmas.Grind.{common_steps}
use Rattle.waiting.specs.Waiting.{look_at}
use Rattle.waiting.proofs.look.Goals as goal

pub returns : goal.returns
unfolding look_at
returns c = (simp (← c.blank.ensures) (grind (arith, common_steps)), refl)
