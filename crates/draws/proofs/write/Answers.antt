use Rattle.std.proofs.Common.{◌≡◌, ◌+◌, ◌-◌, ◌<◌, ◌≤◌, length, sym, refl, ap, ◌∙◌, arith, rules}
use Rattle.lines.specs.Text.{pasted}
use Rattle.draws.proofs.Drawn.{steps_none, steps_short, turn_written, turn_size, turn_length, pasted_none}
use Rattle.draws.proofs.write.Invariants.{records}
use Rattle.draws.proofs.write.Goals as goal

pub loop-i-init : goal.loop-i-init
loop-i-init c =
    let s = c.args in
    let all : s.steps - 0 ≡ s.steps = omega arith in
    rw all (refl, refl, refl, c.requires.2, omega (arith, c.requires.0, c.requires.1, steps_short s.steps s.seed))

pub overflow_add-at : goal.overflow_add-at
overflow_add-at c =
    let l = c.loop-i in
    let d = c.next-drawing.ensures in
    let w = c.write_at.ensures in
    let left = c.args.steps - l._i in
    let some : 0 < left = omega arith in
    let all = turn_size l.out l.at left l.next_seed some (omega (arith, l.invariant.1, l.invariant.2, l.invariant.3)) _ _ _ _ d.0 d.1 c.record_length-at.ensures w.1 in
    let small : l.at + c.record_length-at.result ≤ 65536 = omega (arith, all, l.invariant.1, l.invariant.4) in
    search (rules, small)

pub loop-i-preserved : goal.loop-i-preserved
loop-i-preserved c =
    let l = c.loop-i in
    let d = c.next-drawing.ensures in
    let w = c.write_at.ensures in
    let left = c.args.steps - l._i in
    let some : 0 < left = omega arith in
    let room : l.at + length (records left l.next_seed) ≤ length l.out = omega (arith, l.invariant.1, l.invariant.2, l.invariant.3) in
    let sized = c.record_length-at.ensures in
    let less : c.args.steps - (l._i + 1) ≡ c.args.steps - l._i - 1 = omega arith in
    rw less (
      turn_written l.out l.at left l.next_seed some room _ _ _ _ d.0 d.1 sized w.1 ∙ l.invariant.0,
      turn_size l.out l.at left l.next_seed some room _ _ _ _ d.0 d.1 sized w.1 ∙ l.invariant.1,
      turn_length l.out l.at left l.next_seed some room _ _ _ _ d.0 d.1 sized w.1 ∙ l.invariant.2,
      l.invariant.3,
      l.invariant.4,
    )

pub returns : goal.returns
returns c =
    let l = c.loop-i in
    let none = steps_none (c.args.steps - l._i) l.next_seed (omega arith) in
    sym (pasted_none l.out l.at) ∙ ap (pasted l.out l.at) (sym none) ∙ l.invariant.0
