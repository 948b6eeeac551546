use native.Mathlib.Omega.{arith}
use Rattle.line_lengths.proofs.Numbers.{long_places_log}
use Rattle.line_lengths.proofs.long_digits_of.Goals as goal

pub returns : goal.returns
returns c =
    let log = c.ilog10.ensures in
    (long_places_log c.args.number c.ilog10.result (omega arith) (rw c.max.ensures at log.power_le) (rw c.max.ensures at log.next_power_gt), omega arith)
