use Rattle.std.proofs.Common.{◌≤◌, sym, ap, ◌∙◌, arith, length, take}
use lib.Seq.{length-take-le}
use Rattle.runs.specs.Runs.{printed}
use Rattle.runs.proofs.Whole.{printed_short, whole_output, whole_length}
use Rattle.agreement.proofs.print.Goals as goal

pub returns : goal.returns
returns c =
    let input = c.args.input.now in
    let out = c.args.out.now in
    let p = c.print.ensures in
    let room : length (printed input) ≤ length out = omega (arith, printed_short input, c.requires) in
    let within : c.print.result ≤ length c.print.new.out = omega (arith, p.0, room, ap length p.1, whole_length out input room) in
    ((within, sym (length-take-le _ _ within)), (λ j. take (p.0 j) (p.1 j)) ∙ whole_output out input room)
