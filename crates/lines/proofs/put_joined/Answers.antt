use mathlib.Core.Path.{◌≡◌, ap, ◌∙◌}
use mathlib.Core.List.{◌∷◌, ◌++◌}
use Prim.Native.Nat.{◌-◌}
use native.Mathlib.Omega.{arith}
use lib.ListN.{length}
use Rattle.contexts.specs.{size_of}
use Rattle.line_lengths.specs.Lines.{decimal, later_values, joined}
use Rattle.line_lengths.proofs.Laws.{joined_parts, later_more, later_room}
use Rattle.lines.proofs.Text.{puts_then, puts_none}
use Rattle.lines.proofs.put_joined.Goals as goal

pub put_number-end-requires : goal.put_number-end-requires
put_number-end-requires c =
    omega (arith, c.requires, joined_parts c.args.v)

pub loop-i-init : goal.loop-i-init
unfolding later_values
loop-i-init c =
    let size = c.size-n.ensures in
    let first = c.put_number-end.ensures in
    let count = ap (λ n. length (later_values c.args.v (n - 1))) size.0 in
    let parts = joined_parts c.args.v in
    (puts_none _ _ (omega (arith, c.requires, parts, first.after, first.long)), omega (arith, c.requires, parts, count, first.after, first.long), size.0, size.1, omega arith)

pub put_byte-end-requires : goal.put_byte-end-requires
put_byte-end-requires c =
    let turn = c.loop-i in
    let v = c.args.v in
    let room = later_room v turn.i c.size-n.result (omega arith) c.loop-i-test.true in
    omega (arith, turn.invariant.0.after, turn.invariant.0.long, turn.invariant.1, room)

pub put_number-end-requires-in-loop-i : goal.put_number-end-requires-in-loop-i
put_number-end-requires-in-loop-i c =
    let turn = c.loop-i in
    let v = c.args.v in
    let comma = c.put_byte-end.ensures in
    let room = later_room v turn.i c.size-n.result (omega arith) c.loop-i-test.true in
    let value = ap (λ x. length (decimal x)) c.place.ensures in
    omega (arith, turn.invariant.0.after, turn.invariant.0.long, turn.invariant.1, room, comma.after, comma.long, value)

pub loop-i-preserved : goal.loop-i-preserved
loop-i-preserved c =
    let turn = c.loop-i in
    let v = c.args.v in
    let values = ap (λ x. later_values v (turn.i - 1) ++ 44 ∷ decimal x) c.place.ensures ∙ later_more v turn.i (omega arith) in (
      rw values at (puts_then turn.invariant.0 (puts_then c.put_byte-end.ensures c.put_number-end-in-loop-i.ensures)),
      turn.invariant.1,
      turn.invariant.2,
      turn.invariant.3,
      omega arith,
    )

pub shape_of-out : goal.shape_of-out
shape_of-out c = c.loop-i.invariant.0.long ∙ c.put_number-end.ensures.long

pub returns : goal.returns
unfolding joined
returns c =
    let done = c.loop-i in
    let last : done.i - 1 ≡ size_of c.args.v - 1 = omega (arith, done.invariant.2) in
    puts_then c.put_number-end.ensures (rw last at done.invariant.0)
