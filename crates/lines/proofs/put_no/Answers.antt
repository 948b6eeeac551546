use mathlib.Core.List.{List, [], ◌∷◌}
use Prim.Native.Nat.{ℕ, ◌+◌, ◌≤◌}
use lib.ListN.{length}
use native.Mathlib.Omega.{arith}
use Rattle.line_lengths.specs.Lines.{decimal, long_decimal, no_line}
use Rattle.line_lengths.proofs.Laws.{no_parts}
use Rattle.lines.proofs.Text.{Room, room_first, room_then, puts_then}
use Rattle.lines.proofs.put_no.Goals as goal

parts : (b : List ℕ) (at number refusal : ℕ) → at + length (no_line number refusal) ≤ length b
    → Room b at (long_decimal number ∷ (32 ∷ 110 ∷ 111 ∷ 32 ∷ []) ∷ decimal refusal ∷ (10 ∷ []) ∷ [])
parts b at number refusal h = record { room = omega (arith, no_parts number refusal) }

pub put_record_number-at-requires : goal.put_record_number-at-requires
put_record_number-at-requires c =
    let room = parts c.args.out.now c.args.at c.args.number c.args.refusal c.requires in
    room_first room

pub put_bytes-at-requires : goal.put_bytes-at-requires
put_bytes-at-requires c =
    let room = parts c.args.out.now c.args.at c.args.number c.args.refusal c.requires in
    room_first (room_then c.put_record_number-at.ensures room)

pub put_number-at-requires : goal.put_number-at-requires
put_number-at-requires c =
    let room = parts c.args.out.now c.args.at c.args.number c.args.refusal c.requires in
    rw c.from.ensures (room_first (room_then c.put_bytes-at.ensures (room_then c.put_record_number-at.ensures room)))

pub put_byte-requires : goal.put_byte-requires
put_byte-requires c =
    let room = parts c.args.out.now c.args.at c.args.number c.args.refusal c.requires in
    room_first (room_then (rw c.from.ensures at c.put_number-at.ensures) (room_then c.put_bytes-at.ensures (room_then c.put_record_number-at.ensures room)))

pub returns : goal.returns
unfolding no_line
returns c =
    puts_then (puts_then (puts_then c.put_record_number-at.ensures c.put_bytes-at.ensures) (rw c.from.ensures at c.put_number-at.ensures)) c.put_byte.ensures
