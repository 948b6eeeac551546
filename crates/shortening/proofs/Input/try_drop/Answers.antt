use mathlib.Core.Path.{sym, ◌∙◌}
use native.Mathlib.Omega.{arith}
use lib.ListN.{length-set}
use lib.Seq.{set-set, set-get_or}
use borrow.Author.Tests.{eq-eqb, ne_eqb}
use Rattle.shortening.specs.Shortening.{is_same, drops, tried}
use Rattle.shortening.proofs.Input.try_drop.Goals as goal

pub returns-then-flag-eq0 : goal.returns-then-flag-eq0
unfolding drops tried
returns-then-flag-eq0 c = let none = eq-eqb _ _ c.if-flag-eq0.true in (simp none, simp none)

pub returns-then-trial-self : goal.returns-then-trial-self
unfolding drops tried is_same
returns-then-trial-self c =
    let kept = ne_eqb _ _ c.if-flag-eq0.false in
    let t = c.trial.ensures in
    let same = eq-eqb _ _ (sym t ∙ c.if-trial-self.true) in
    (simp (kept, same), simp (kept, same))

pub returns : goal.returns
unfolding drops tried is_same
returns c =
    let s = c.args in
    let kept = ne_eqb _ _ c.if-flag-eq0.false in
    let t = c.trial.ensures in
    let other = ne_eqb _ _ (λ e. c.if-trial-self.false (t ∙ e)) in
    (simp (kept, other), simp (kept, other) (set-set s.flags.now s.i 0 _ ∙ set-get_or s.flags.now s.i 0))
