use mathlib.Core.Path.{◌≡◌, sym, ap, ◌∙◌}
use Prim.Native.Nat.{◌-◌}
use native.Mathlib.Omega.{arith}
use lib.ListN.{length}
use Rattle.contexts.specs.{place_of, size_of}
use Rattle.line_lengths.specs.Lines.{later_values, joined, places}
use Rattle.line_lengths.proofs.Laws.{later_parts, later_length, joined_parts, joined_length}
use Rattle.line_lengths.proofs.Numbers.{decimal_places, decimal_length}
use Rattle.line_lengths.proofs.joined_length.Goals as goal

pub loop-i-init : goal.loop-i-init
unfolding later_values
loop-i-init c =
    let size = c.size-n.ensures in
    (omega (arith, c.digits_of-digits.ensures.0, decimal_places c.args.v.first), size.0, size.1, omega arith)

pub overflow_add-digits-in-loop-i : goal.overflow_add-digits-in-loop-i
overflow_add-digits-in-loop-i c =
    let turn = c.loop-i in
    let v = c.args.v in
    omega (arith, turn.invariant.0, decimal_length v.first, later_length v (turn.i - 1), c.digits_of.ensures.1)

pub loop-i-preserved : goal.loop-i-preserved
loop-i-preserved c =
    let turn = c.loop-i in
    let v = c.args.v in
    let value = c.digits_of.ensures.0 ∙ ap places c.place.ensures ∙ sym (decimal_places (place_of v turn.i)) in (
      omega (arith, turn.invariant.0, value, later_parts v turn.i (omega arith)),
      turn.invariant.1,
      turn.invariant.2,
      omega arith,
    )

pub returns : goal.returns
returns c =
    let done = c.loop-i in
    let v = c.args.v in
    let last : done.i - 1 ≡ size_of v - 1 = omega (arith, done.invariant.1) in
    let all : done.digits ≡ length (joined v) = rw last at done.invariant.0 ∙ sym (joined_parts v) in
    (all, omega (arith, all, joined_length v))
