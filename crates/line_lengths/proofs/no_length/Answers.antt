use Rattle.line_lengths.proofs.Laws.{no_length}
use native.Mathlib.Omega.{arith}
use Rattle.line_lengths.proofs.no_length.Goals as goal

pub returns : goal.returns
returns c = let a = c.args in omega (arith, no_length a.number a.refusal, c.long_digits_of.ensures.0, c.digits_of.ensures.0)
