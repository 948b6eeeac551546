use mathlib.Core.Path.{◌≡◌, refl}
use mathlib.Core.Bool.{Bool, true, false, cond, not, beq}
use Rattle.records.specs.Records.{in_place}
use Rattle.reader.proofs.in_place.Goals as goal

same : (a first : Bool) → beq a first ≡ cond first a (not a)
same true true = refl
same true false = refl
same false true = refl
same false false = refl

pub returns : goal.returns
unfolding in_place
returns c = simp (same, c.is_start.ensures)
