use Prim.Native.Nat.{ℕ, ◌-◌}
use native.Mathlib.Omega.{arith}
use lib.Seq.{length-take-le, get_or-take}
use borrow.Author.Tests.{lt-ltb, le-ltb}
use Rattle.shortening.specs.Shortening.{refusal_read}
use Rattle.shortening.proofs.read_refusal.Goals as goal

pub returns-then-n-lt3 : goal.returns-then-n-lt3
unfolding refusal_read
returns-then-n-lt3 c =
    let s = c.args in
    simp (length-take-le s.n s.lines.now c.requires, lt-ltb s.n 3 c.if-n-lt3.true)

pub returns : goal.returns
unfolding refusal_read
returns c =
    let s = c.args in
    let n : ℕ = s.n in
    let long = c.if-n-lt3.false in
    simp (
      length-take-le n s.lines.now c.requires,
      le-ltb n 3 long,
      get_or-take n s.lines.now (n - 3) 0 (omega arith),
      get_or-take n s.lines.now (n - 2) 0 (omega arith),
      ← c.read_digits.ensures,
    )
