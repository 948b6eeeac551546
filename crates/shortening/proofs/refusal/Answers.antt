use mathlib.Core.Path.{ap, ◌∙◌}
use Prim.Native.Nat.{◌≤◌}
use native.Mathlib.Omega.{arith}
use lib.ListN.{length, take}
use Rattle.runs.specs.Runs.{printed}
use Rattle.shortening.specs.Shortening.{refusal_read}
use Rattle.runs.proofs.Whole.{whole_output, whole_length}
use Rattle.shortening.proofs.Printing.{output_room_lem}
use Rattle.shortening.proofs.refusal.Goals as goal

pub read_refusal-requires : goal.read_refusal-requires
read_refusal-requires c =
    let s = c.args in
    let pre = c.requires in
    let p = c.print-n.ensures in
    let room : length (printed s.input.now) ≤ length s.lines.now = omega (arith, output_room_lem s.input.now pre.0, pre.1) in
    omega (arith, p.0, ap length p.1, whole_length s.lines.now s.input.now room, room)

pub returns : goal.returns
returns c =
    let s = c.args in
    let pre = c.requires in
    let p = c.print-n.ensures in
    let room : length (printed s.input.now) ≤ length s.lines.now = omega (arith, output_room_lem s.input.now pre.0, pre.1) in (
      c.read_refusal.ensures ∙ (λ j. refusal_read (take (p.0 j) (p.1 j))) ∙ ap refusal_read (whole_output s.lines.now s.input.now room),
      ap length p.1 ∙ whole_length s.lines.now s.input.now room,
    )
