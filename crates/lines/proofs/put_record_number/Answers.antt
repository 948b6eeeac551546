use native.Mathlib.Omega.{arith}
use Rattle.line_lengths.specs.Lines.{long_decimal}
use Rattle.line_lengths.proofs.Numbers.{long_decimal_places}
use Rattle.lines.proofs.put_record_number.Goals as goal

pub put_digits-requires : goal.put_digits-requires
put_digits-requires c =
    let k = c.long_digits_of.ensures in
    (omega (arith, k.0, long_decimal_places c.args.n, c.requires), k.1)

pub returns : goal.returns
unfolding long_decimal
returns c = rw c.long_digits_of.ensures.0 at c.put_digits.ensures
