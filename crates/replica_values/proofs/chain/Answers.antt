use mathlib.Core.Path.{refl}
use Rattle.replica_values.proofs.chain.Goals as goal

pub returns : goal.returns
returns c = simp (← c.number_in.ensures, ← c.number_in-2.ensures, ← c.number_in-3.ensures, ← c.number_in-4.ensures, ← c.number_in-5.ensures, ← c.number_in-6.ensures, ← c.number_in-7.ensures, ← c.number_in-8.ensures, ← c.newcomer.ensures, ← c.copies.ensures, ← c.count.ensures.0) (refl, refl)
