use mathlib.Core.Path.{sym, ap, ◌∙◌, subst}
use Prim.Native.Nat.{◌≤◌}
use native.Mathlib.Omega.{arith}
use lib.Dec.{leb}
use lib.ListN.{length}
use borrow.Author.Tests.{eq-eqb, ne_eqb}
use Rattle.std.specs.Prelude.{IfOk}
use Rattle.shortening.specs.Shortening.{kept_refusal, signed, answer_number, handed}
use Rattle.shortening.proofs.Answers.{shortened_is, kept_answer, kept_buffer, answer_of, answer_short}
use Rattle.shortening.proofs.shorten_records.Goals as goal

pub returns-then-number-eq0 : goal.returns-then-number-eq0
unfolding kept_refusal signed handed
returns-then-number-eq0 c = let none = eq-eqb _ _ (sym c.refusal-number.ensures.0 ∙ c.if-number-eq0.true) in record { answer = simp none; size = tt; buffer = simp none }

pub returns : goal.returns
returns c =
    let s = c.args in
    let l = s.input.now in
    let number = c.refusal-number.ensures.0 in
    let some = ne_eqb _ _ (λ e. c.if-number-eq0.false (number ∙ e)) in
    let b = c.build-size.ensures in
    let kept = shortened_is l _ s.count _ _ c.go_round.ensures c.requires.2 number c.all_kept-flags.ensures.0 in
    let sized = b.1 ∙ ap length kept in
    let out = c.hand_out.ensures in
    let small : c.build-size.result ≤ 9728 = omega (arith, b.2, c.requires.0.short, c.requires.1) in
    let room = leb c.build-size.result (length s.out.now) in
    record {
      answer = ap answer_number out.0 ∙ answer_of room c.build-size.result ∙ kept_answer l s.out.now some _ sized;
      size = subst (λ r. IfOk r (λ bytes. bytes ≤ 9728)) (sym out.0) (answer_short room c.build-size.result small);
      buffer = out.1 ∙ kept_buffer l s.out.now some _ _ sized (b.0 ∙ kept);
    }
