use Rattle.std.proofs.Common.{◌≡◌, ◌+◌, ◌-◌, ◌<◌, ◌≤◌, length, ap, ◌∙◌, arith, rules}
use Rattle.protocol.specs.declared.Step.{Step}
use Rattle.records.specs.Records.{record_of}
use Rattle.draws.proofs.Drawn.{steps_longer, steps_none, steps_short}
use Rattle.draws.proofs.size.Invariants.{bytes}
use Rattle.draws.proofs.size.Goals as goal

pub loop-i-init : goal.loop-i-init
loop-i-init c =
    let all : c.args.steps - 0 ≡ c.args.steps = omega arith in rw all (omega arith, c.requires)

pub overflow_add-size : goal.overflow_add-size
overflow_add-size c =
    let l = c.loop-i in
    let s = c.args in
    let some : 0 < s.steps - l._i = omega arith in
    let longer = steps_longer (s.steps - l._i) l.at some in
    let size = c.record_length-size.ensures ∙ ap (λ (x : Step). length (record_of x)) c.next-drawing.ensures.0 in
    let small : l.size + c.record_length-size.result ≤ 63000 = omega (arith, l.invariant.0, l.invariant.1, longer, size, steps_short s.steps s.seed) in
    search (rules, small)

pub loop-i-preserved : goal.loop-i-preserved
loop-i-preserved c =
    let l = c.loop-i in
    let s = c.args in
    let some : 0 < s.steps - l._i = omega arith in
    let longer = steps_longer (s.steps - l._i) l.at some in
    let size = c.record_length-size.ensures ∙ ap (λ (x : Step). length (record_of x)) c.next-drawing.ensures.0 in
    let rest = ap (bytes (s.steps - l._i - 1)) c.next-drawing.ensures.1 in
    let less : s.steps - (l._i + 1) ≡ s.steps - l._i - 1 = omega arith in
    rw less (omega (arith, l.invariant.0, longer, size, rest), l.invariant.1)

pub returns : goal.returns
returns c =
    let l = c.loop-i in
    let s = c.args in
    let none : bytes (s.steps - l._i) l.at ≡ 0 = ap length (steps_none (s.steps - l._i) l.at (omega arith)) in
    (omega (arith, l.invariant.0, none), omega (arith, l.invariant.0, l.invariant.1, steps_short s.steps s.seed))
