use mathlib.Core.Path.{◌≡◌, refl, sym, ap, ◌∙◌}
use Prim.Native.Nat.{ℕ, ◌+◌, ◌-◌, ◌<◌, ◌≤◌}
use native.Mathlib.Omega.{arith}
use lib.ListN.{length}
use Rattle.shortening.specs.Shortening.{tried, passed, dropped}
use Rattle.shortening.proofs.Passes.{passed_next, dropped_next, passed_none, dropped_none}
use Rattle.shortening.proofs.Input.pass.Goals as goal

pub loop-i-init : goal.loop-i-init
loop-i-init c =
    let all : c.saturating_sub-i.result - 1 ≡ c.args.self.now.count - 2 = omega (arith, c.saturating_sub-i.ensures) in
    rw all (refl, omega arith, omega arith)

pub loop-i-preserved-then-try_drop : goal.loop-i-preserved-then-try_drop
loop-i-preserved-then-try_drop c =
    let s = c.args in
    let k = c.loop-i in
    let l = s.self.now.bytes.now in
    let i : ℕ = k.i - 1 in
    let some : 0 < i = omega arith in
    let t = c.try_drop.ensures in
    let next = rw (sym t.0 ∙ c.if-try_drop.true) at (dropped_next l s.self.now.count s.self.now.number i k.flags some) in
    let rest : dropped l s.self.now.count s.self.now.number (i - 1) _ ≡ dropped l s.self.now.count s.self.now.number (i - 1) (tried l s.self.now.count s.self.now.number k.flags i) = ap (dropped l s.self.now.count s.self.now.number (i - 1)) t.1 in (
      ap (passed l s.self.now.count s.self.now.number (i - 1)) t.1 ∙ sym (passed_next l s.self.now.count s.self.now.number i k.flags some) ∙ k.invariant.0,
      omega (arith, k.invariant.1, next, rest),
      omega (arith, k.invariant.2),
    )

pub loop-i-preserved : goal.loop-i-preserved
loop-i-preserved c =
    let s = c.args in
    let k = c.loop-i in
    let l = s.self.now.bytes.now in
    let i : ℕ = k.i - 1 in
    let some : 0 < i = omega arith in
    let t = c.try_drop.ensures in
    let next = rw (sym t.0 ∙ c.if-try_drop.false) at (dropped_next l s.self.now.count s.self.now.number i k.flags some) in
    let rest : dropped l s.self.now.count s.self.now.number (i - 1) _ ≡ dropped l s.self.now.count s.self.now.number (i - 1) (tried l s.self.now.count s.self.now.number k.flags i) = ap (dropped l s.self.now.count s.self.now.number (i - 1)) t.1 in (
      ap (passed l s.self.now.count s.self.now.number (i - 1)) t.1 ∙ sym (passed_next l s.self.now.count s.self.now.number i k.flags some) ∙ k.invariant.0,
      omega (arith, k.invariant.1, next, rest),
      omega (arith, k.invariant.2),
    )

pub returns : goal.returns
returns c =
    let s = c.args in
    let k = c.loop-i in
    let none : k.i - 1 ≡ 0 = omega arith in (
      omega (arith, k.invariant.1, dropped_none s.self.now.bytes.now s.self.now.count s.self.now.number (k.i - 1) k.flags none),
      sym (passed_none s.self.now.bytes.now s.self.now.count s.self.now.number (k.i - 1) k.flags none) ∙ k.invariant.0,
    )
