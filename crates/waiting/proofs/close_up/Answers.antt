use mathlib.Core.Path.{◌≡◌, sym, ap, ◌∙◌}
use mathlib.Core.List.{List}
use Prim.Native.Nat.{ℕ, ◌+◌, ◌-◌, ◌≤◌}
use native.Mathlib.Omega.{arith}
use lib.ListN.{get_or, set}
use Rattle.lists.specs.{moves}
use Rattle.lists.proofs.Closing.{moves_none, moves_turn}
use Rattle.lists.proofs.Places.{moves_last}
use Rattle.waiting.specs.declared.Packet.{Packet}
use Rattle.waiting.specs.Waiting.{blank}
use Rattle.waiting.proofs.close_up.Goals as goal

-- the packet after a place moves down to it; and the next one, too
abbrev moved : List Packet → ℕ → List Packet
moved l i = set l i (get_or l (i + 1) blank)

twice_moved : (l : List Packet) (p i : ℕ) → p ≤ i → set (moved (moves blank l p (i - p)) i) (i + 1) (get_or (moved (moves blank l p (i - p)) i) (i + 2) blank) ≡ moves blank l p (i + 2 - p)
twice_moved l p i h =
    let two : i + 1 + 1 ≡ i + 2 = omega arith in
    ap (λ (r : List Packet). set r (i + 1) (get_or r (i + 2) blank)) (moves_turn blank l p i h) ∙ rw two at (moves_turn blank l p (i + 1) (omega arith))

pub returns-then-last-from : goal.returns-then-last-from
returns-then-last-from c =
    sym (moves_none blank c.args.packets.now c.args.from) ∙ ap (moves blank c.args.packets.now c.args.from) (omega (arith, c.requires.0, c.if-last-from.true))

pub loop-i-init : goal.loop-i-init
loop-i-init c = (omega arith, omega arith, sym (moves_none blank c.args.packets.now c.args.from))

pub loop-i-preserved : goal.loop-i-preserved
loop-i-preserved c = (
  omega arith,
  omega arith,
  ap (λ (l : List Packet). set (moved l c.loop-i.i) (c.loop-i.i + 1) (get_or (moved l c.loop-i.i) (c.loop-i.i + 2) blank)) c.loop-i.invariant.2 ∙
      twice_moved c.args.packets.now c.args.from c.loop-i.i c.loop-i.invariant.0,
)

pub returns : goal.returns
returns c =
    ap (λ (l : List Packet). set l (c.args.last - 1) (get_or l c.args.last blank)) c.loop-i.invariant.2 ∙
    moves_last blank c.args.packets.now c.args.from c.loop-i.i c.args.last (omega arith) c.loop-i.invariant.0 c.loop-i.invariant.1 (omega arith) (omega arith)
