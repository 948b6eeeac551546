use native.Mathlib.Omega.{arith}
use Rattle.turns.specs.Promises.{place_after}
use Rattle.turns.proofs.put_malformed.Goals as goal

pub returns : goal.returns
unfolding place_after
returns c =
    let number = c.refusal_number.ensures in
    let line = c.put_refusal-n.ensures in
    (omega (arith, rw number at line.0), rw number at line.1)
