use Rattle.line_lengths.proofs.Laws.{ok_length}
use native.Mathlib.Omega.{arith}
use Rattle.line_lengths.proofs.ok_length.Goals as goal

pub returns : goal.returns
returns c = let a = c.args in (omega (arith, ok_length a.number a.waiting a.marks, c.long_digits_of.ensures.0, c.digits_of.ensures.0, c.digits_of-2.ensures.0), omega arith)
