use native.Mathlib.Omega.{arith}
use Rattle.line_lengths.specs.Lines.{decimal}
use Rattle.line_lengths.proofs.Numbers.{decimal_places, decimal_one}
use Rattle.lines.proofs.put_number.Goals as goal

pub put_byte-requires : goal.put_byte-requires
put_byte-requires c =
    let n = c.args.n in
    rw (decimal_one n c.if-n-lt10.true) at c.requires

pub returns-then-n-lt10 : goal.returns-then-n-lt10
returns-then-n-lt10 c = rw (decimal_one c.args.n c.if-n-lt10.true) c.put_byte.ensures

pub put_digits-requires : goal.put_digits-requires
put_digits-requires c =
    let k = c.digits_of.ensures in
    (omega (arith, k.0, decimal_places c.args.n, c.requires), omega (arith, k.1))

pub returns : goal.returns
unfolding decimal
returns c = rw (c.digits_of.ensures.0, c.from.ensures) at c.put_digits.ensures
