use native.Mathlib.Omega.{arith}
use Rattle.line_lengths.proofs.Laws.{context_length}
use Rattle.line_lengths.proofs.context_length.Goals as goal

pub returns : goal.returns
returns c =
    let a = c.args in
    let digits = c.digits_of.ensures in
    let values = c.joined_length.ensures in
    (omega (arith, context_length a.read a.v, digits.0, values.0), omega (arith, digits.1, values.1))
