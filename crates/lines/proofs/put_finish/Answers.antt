use mathlib.Core.List.{List, [], ◌∷◌}
use Prim.Native.Nat.{ℕ, ◌+◌, ◌≤◌}
use lib.ListN.{length}
use native.Mathlib.Omega.{arith}
use Rattle.line_lengths.specs.Lines.{finish_end, decimal, freshness_end}
use Rattle.line_lengths.proofs.Laws.{finish_parts}
use Rattle.lines.proofs.Text.{Room, room_first, room_then, puts_then}
use Rattle.lines.proofs.put_finish.Goals as goal

parts : (b : List ℕ) (at operation value freshness : ℕ) → at + length (finish_end operation value freshness) ≤ length b
    → Room b at (decimal operation ∷ (32 ∷ []) ∷ decimal value ∷ (32 ∷ []) ∷ freshness_end freshness ∷ [])
parts b at operation value freshness h = record { room = omega (arith, finish_parts operation value freshness) }

pub put_number-at-requires : goal.put_number-at-requires
put_number-at-requires c =
    let room = parts c.args.out.now c.args.at c.args.operation c.args.value c.args.freshness c.requires in
    room_first room

pub put_byte-at-requires : goal.put_byte-at-requires
put_byte-at-requires c =
    let room = parts c.args.out.now c.args.at c.args.operation c.args.value c.args.freshness c.requires in
    room_first (room_then c.put_number-at.ensures room)

pub put_number-at-requires-2 : goal.put_number-at-requires-2
put_number-at-requires-2 c =
    let room = parts c.args.out.now c.args.at c.args.operation c.args.value c.args.freshness c.requires in
    room_first (room_then c.put_byte-at.ensures (room_then c.put_number-at.ensures room))

pub put_byte-at-requires-2 : goal.put_byte-at-requires-2
put_byte-at-requires-2 c =
    let room = parts c.args.out.now c.args.at c.args.operation c.args.value c.args.freshness c.requires in
    room_first (room_then c.put_number-at-2.ensures (room_then c.put_byte-at.ensures (room_then c.put_number-at.ensures room)))

pub put_freshness-requires : goal.put_freshness-requires
put_freshness-requires c =
    let room = parts c.args.out.now c.args.at c.args.operation c.args.value c.args.freshness c.requires in
    room_first (room_then c.put_byte-at-2.ensures (room_then c.put_number-at-2.ensures (room_then c.put_byte-at.ensures (room_then c.put_number-at.ensures room))))

pub returns : goal.returns
returns c =
    puts_then (puts_then (puts_then (puts_then c.put_number-at.ensures c.put_byte-at.ensures) c.put_number-at-2.ensures) c.put_byte-at-2.ensures) c.put_freshness.ensures
