use mathlib.Core.List.{List, [], ◌∷◌}
use Prim.Native.Nat.{ℕ, ◌+◌, ◌≤◌}
use lib.ListN.{length}
use native.Mathlib.Omega.{arith}
use Rattle.line_lengths.specs.Lines.{ok_start, decimal, long_decimal}
use Rattle.line_lengths.proofs.Laws.{ok_parts}
use Rattle.lines.proofs.Text.{Room, room_first, room_then, puts_then}
use Rattle.lines.proofs.put_ok.Goals as goal

parts : (b : List ℕ) (at number waiting marks : ℕ) → at + length (ok_start number waiting marks) ≤ length b
    → Room b at (long_decimal number ∷ (32 ∷ 111 ∷ 107 ∷ 32 ∷ []) ∷ decimal waiting ∷ (32 ∷ []) ∷ decimal marks ∷ (32 ∷ []) ∷ [])
parts b at number waiting marks h = record { room = omega (arith, ok_parts number waiting marks) }

pub put_record_number-at-requires : goal.put_record_number-at-requires
put_record_number-at-requires c =
    let room = parts c.args.out.now c.args.at c.args.number c.args.waiting c.args.marks c.requires in
    room_first room

pub put_bytes-at-requires : goal.put_bytes-at-requires
put_bytes-at-requires c =
    let room = parts c.args.out.now c.args.at c.args.number c.args.waiting c.args.marks c.requires in
    room_first (room_then c.put_record_number-at.ensures room)

pub put_number-at-requires : goal.put_number-at-requires
put_number-at-requires c =
    let room = parts c.args.out.now c.args.at c.args.number c.args.waiting c.args.marks c.requires in
    room_first (room_then c.put_bytes-at.ensures (room_then c.put_record_number-at.ensures room))

pub put_byte-at-requires : goal.put_byte-at-requires
put_byte-at-requires c =
    let room = parts c.args.out.now c.args.at c.args.number c.args.waiting c.args.marks c.requires in
    room_first (room_then c.put_number-at.ensures (room_then c.put_bytes-at.ensures (room_then c.put_record_number-at.ensures room)))

pub put_number-at-requires-2 : goal.put_number-at-requires-2
put_number-at-requires-2 c =
    let room = parts c.args.out.now c.args.at c.args.number c.args.waiting c.args.marks c.requires in
    room_first (room_then c.put_byte-at.ensures (room_then c.put_number-at.ensures (room_then c.put_bytes-at.ensures (room_then c.put_record_number-at.ensures room))))

pub put_byte-requires : goal.put_byte-requires
put_byte-requires c =
    let room = parts c.args.out.now c.args.at c.args.number c.args.waiting c.args.marks c.requires in
    room_first (room_then c.put_number-at-2.ensures (room_then c.put_byte-at.ensures (room_then c.put_number-at.ensures (room_then c.put_bytes-at.ensures (room_then c.put_record_number-at.ensures room)))))

pub returns : goal.returns
returns c =
    puts_then (puts_then (puts_then (puts_then (puts_then c.put_record_number-at.ensures c.put_bytes-at.ensures) c.put_number-at.ensures) c.put_byte-at.ensures) c.put_number-at-2.ensures) c.put_byte.ensures
