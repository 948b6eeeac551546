use mathlib.Core.List.{List, [], ◌∷◌}
use Prim.Native.Nat.{ℕ, ◌+◌, ◌≤◌}
use lib.ListN.{length}
use native.Mathlib.Omega.{arith}
use Rattle.line_lengths.specs.Lines.{context_end, decimal, joined, freshness_end}
use Rattle.contexts.specs.declared.Context.{Context}
use Rattle.protocol.specs.Answers.{no_freshness}
use Rattle.line_lengths.proofs.Laws.{context_parts}
use Rattle.lines.proofs.Text.{Room, room_first, room_then, puts_then}
use Rattle.lines.proofs.put_context.Goals as goal

parts : (b : List ℕ) (at read : ℕ) (v : Context) → at + length (context_end read v) ≤ length b
    → Room b at (decimal read ∷ (32 ∷ []) ∷ joined v ∷ (32 ∷ []) ∷ freshness_end no_freshness ∷ [])
parts b at read v h = record { room = omega (arith, context_parts read v) }

pub put_number-at-requires : goal.put_number-at-requires
put_number-at-requires c =
    let room = parts c.args.out.now c.args.at c.args.read c.args.v c.requires in
    room_first room

pub put_byte-at-requires : goal.put_byte-at-requires
put_byte-at-requires c =
    let room = parts c.args.out.now c.args.at c.args.read c.args.v c.requires in
    room_first (room_then c.put_number-at.ensures room)

pub put_joined-at-requires : goal.put_joined-at-requires
put_joined-at-requires c =
    let room = parts c.args.out.now c.args.at c.args.read c.args.v c.requires in
    room_first (room_then c.put_byte-at.ensures (room_then c.put_number-at.ensures room))

pub put_byte-at-requires-2 : goal.put_byte-at-requires-2
put_byte-at-requires-2 c =
    let room = parts c.args.out.now c.args.at c.args.read c.args.v c.requires in
    room_first (room_then c.put_joined-at.ensures (room_then c.put_byte-at.ensures (room_then c.put_number-at.ensures room)))

pub put_freshness-requires : goal.put_freshness-requires
put_freshness-requires c =
    let room = parts c.args.out.now c.args.at c.args.read c.args.v c.requires in
    room_first (room_then c.put_byte-at-2.ensures (room_then c.put_joined-at.ensures (room_then c.put_byte-at.ensures (room_then c.put_number-at.ensures room))))

pub returns : goal.returns
returns c =
    puts_then (puts_then (puts_then (puts_then c.put_number-at.ensures c.put_byte-at.ensures) c.put_joined-at.ensures) c.put_byte-at-2.ensures) c.put_freshness.ensures
