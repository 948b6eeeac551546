use Rattle.waiting.specs.Waiting.{none_wait}
use Rattle.turns.specs.Turns.{stopped}
use Rattle.turns.specs.Promises.{place_after, stands_as}
use mathlib.Core.Path.{refl}
use native.Mathlib.Omega.{arith}
use Rattle.turns.proofs.stop.Goals as goal

pub returns : goal.returns
unfolding stands_as stopped none_wait place_after
returns c = λ switch store opens row.
    let number = c.refusal_number.ensures in
    let line = c.put_refusal-n.ensures in record {
      stands = refl;
      left = refl;
      place = omega (arith, rw number at line.0);
      there = rw number at line.1;
    }
