use native.Mathlib.Omega.{arith}
use Rattle.turns.specs.Promises.{place_after}
use Rattle.turns.proofs.go_on.Goals as goal

pub returns : goal.returns
unfolding place_after
returns c =
    let line = c.put_answer-n.ensures in
    let waits = c.held-waiting.ensures.0 in record {
      run = simp (c.next_number.ensures, c.saturating_sub.ensures);
      place = omega (arith, rw waits at line.0);
      there = rw waits at line.1;
    }
