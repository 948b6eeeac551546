use mathlib.Core.Path.{◌≡◌, refl, sym, ap, ◌∙◌}
use mathlib.Core.List.{◌++◌}
use Prim.Native.Nat.{ℕ, ◌+◌, ◌-◌}
use native.Mathlib.Omega.{arith}
use lib.ListN.{length, take, drop, length-set}
use lib.Seq.{drop-set-lt}
use Rattle.line_lengths.specs.Lines.{digits}
use Rattle.lines.proofs.Digits.{filled, fill_none, fill_more, fill_all}
use Rattle.line_lengths.proofs.Numbers.{digits_length}
use Rattle.lines.proofs.Text.{pasted_by}
use Rattle.lines.proofs.put_digits.Goals as goal

pub loop-place-init : goal.loop-place-init
loop-place-init c =
    let s = c.args in (fill_none s.at s.k s.n s.out.now, omega arith, refl, refl, c.requires.0)

pub loop-place-preserved : goal.loop-place-preserved
loop-place-preserved c =
    let s = c.args in
    let l = c.loop-place in (
      l.invariant.0 ∙ fill_more s.at (s.at + s.k) l.place l.rest l.out (omega arith) (omega arith) (omega arith),
      omega arith,
      simp length-set (omega arith),
      drop-set-lt (s.at + s.k) l.out (s.at + (l.place - 1)) _ (omega arith) ∙ l.invariant.3,
      l.invariant.4,
    )

pub returns : goal.returns
returns c =
    let s = c.args in
    let l = c.loop-place in
    let none : l.place ≡ 0 = omega arith in
    let all : s.k ≡ length (digits s.k s.n) = sym (digits_length s.k s.n) in
    let front : take s.at s.out.now ++ digits s.k s.n ≡ take (s.at + s.k) l.out =
    l.invariant.0 ∙ ap (λ (i : ℕ). filled s.at (s.at + s.k) i l.rest l.out) none ∙ fill_all s.at (s.at + s.k) l.rest l.out (omega arith) in
    record {
      room = omega (arith, all, l.invariant.4);
      after = ap (λ (i : ℕ). s.at + i) all;
      there = pasted_by s.out.now s.at (digits s.k s.n) (omega (arith, all, l.invariant.4)) l.out
          (ap (λ (i : ℕ). take (s.at + i) l.out) (sym all) ∙ sym front)
          (ap (λ (i : ℕ). drop (s.at + i) l.out) (sym all) ∙ l.invariant.3 ∙ ap (λ (i : ℕ). drop (s.at + i) s.out.now) all);
      long = l.invariant.2;
    }
