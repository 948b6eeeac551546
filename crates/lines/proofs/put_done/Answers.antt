use mathlib.Core.List.{List, [], ◌∷◌}
use Prim.Native.Nat.{ℕ, ◌+◌, ◌≤◌}
use lib.ListN.{length}
use native.Mathlib.Omega.{arith}
use Rattle.line_lengths.specs.Lines.{ok_start, freshness_end, line_of}
use Rattle.protocol.specs.declared.Answer.TheVariants.{Done}
use Rattle.protocol.specs.Answers.{no_freshness}
use Rattle.line_lengths.proofs.Laws.{done_length, none_length}
use Rattle.lines.proofs.Text.{Room, room_first, room_then, puts_then}
use Rattle.lines.proofs.put_done.Goals as goal

parts : (b : List ℕ) (at number waiting marks : ℕ) → at + length (line_of number Done waiting marks) ≤ length b
    → Room b at (ok_start number waiting marks ∷ (45 ∷ 32 ∷ 45 ∷ 32 ∷ []) ∷ freshness_end no_freshness ∷ [])
parts b at number waiting marks h = record { room = omega (arith, done_length number waiting marks, none_length) }

pub put_ok-at-requires : goal.put_ok-at-requires
put_ok-at-requires c =
    let room = parts c.args.out.now c.args.at c.args.number c.args.waiting c.args.marks c.requires in
    room_first room

pub put_bytes-at-requires : goal.put_bytes-at-requires
put_bytes-at-requires c =
    let room = parts c.args.out.now c.args.at c.args.number c.args.waiting c.args.marks c.requires in
    room_first (room_then c.put_ok-at.ensures room)

pub put_freshness-requires : goal.put_freshness-requires
put_freshness-requires c =
    let room = parts c.args.out.now c.args.at c.args.number c.args.waiting c.args.marks c.requires in
    room_first (room_then c.put_bytes-at.ensures (room_then c.put_ok-at.ensures room))

pub returns : goal.returns
unfolding line_of
returns c =
    puts_then (puts_then c.put_ok-at.ensures c.put_bytes-at.ensures) c.put_freshness.ensures
