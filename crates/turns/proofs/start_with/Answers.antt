use Rattle.turns.proofs.Standings.{start_stands}
use Rattle.turns.specs.Turns.{started_with}
use Rattle.turns.specs.Promises.{place_after, stands_as}
use mathlib.Core.Path.{refl}
use native.Mathlib.Omega.{arith}
use Rattle.turns.proofs.start_with.Goals as goal

pub returns : goal.returns
unfolding started_with stands_as place_after
returns c = λ row.
    let answer = c.start-answer.ensures in
    let line = c.put_answer-bytes.ensures in record {
      stands = start_stands _ _ _ row _ _ _ _ _ _ c.is_refused-over.ensures answer.1 answer.2 answer.3;
      left = refl;
      place = omega (arith, rw answer.0 at line.0);
      there = rw answer.0 at line.1;
    }
