use mathlib.Core.Path.{◌≡◌, refl, sym, ap, ◌∙◌}
use Prim.Native.Nat.{◌+◌, ◌-◌}
use native.Mathlib.Omega.{arith}
use Rattle.shortening.specs.Shortening.{rounds, most_records}
use Rattle.shortening.proofs.Passes.{rounds_stop, rounds_more, rounds_none}
use Rattle.shortening.proofs.Input.go_round.Goals as goal

pub loop-i-init : goal.loop-i-init
loop-i-init c = let all : most_records - 0 ≡ most_records = omega arith in rw all refl

pub returns-then-pass-eq0 : goal.returns-then-pass-eq0
returns-then-pass-eq0 c =
    let s = c.args in
    let k = c.loop-i in
    let p = c.pass.ensures in
    p.1 ∙ sym (rounds_stop (most_records - k._i) s.self.now.bytes.now s.self.now.count s.self.now.number k.flags (omega arith) (sym p.0 ∙ c.if-pass-eq0.true)) ∙ k.invariant

pub loop-i-preserved : goal.loop-i-preserved
loop-i-preserved c =
    let s = c.args in
    let k = c.loop-i in
    let l = s.self.now.bytes.now in
    let p = c.pass.ensures in
    let less : most_records - (k._i + 1) ≡ most_records - k._i - 1 = omega arith in
    rw less (
    ap (rounds (most_records - k._i - 1) l s.self.now.count s.self.now.number) p.1 ∙
    sym (rounds_more (most_records - k._i) l s.self.now.count s.self.now.number k.flags (omega arith) (λ e. c.if-pass-eq0.false (p.0 ∙ e))) ∙ k.invariant
    )

pub returns : goal.returns
returns c =
    let s = c.args in
    let k = c.loop-i in
    let none : most_records - k._i ≡ 0 = omega arith in
    sym (rounds_none (most_records - k._i) s.self.now.bytes.now s.self.now.count s.self.now.number k.flags none) ∙ k.invariant
