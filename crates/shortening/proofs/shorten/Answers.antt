use mathlib.Core.Path.{◌≡◌, sym}
use mathlib.Core.List.{List}
use Prim.Native.Nat.{ℕ}
use native.Mathlib.Omega.{arith}
use lib.IntN.{pos, neg_ℤ}
use borrow.Author.Tests.{eq-eqb, lt-ltb, le-ltb}
use Rattle.std.proofs.lemmas.Result.{err_from_is_err_and}
use Rattle.shortening.specs.declared.ShortenError.{ShortenError}
use Rattle.shortening.specs.Shortening.{met, records_in, shorten_refusal, signed, error_number, shorten_answer, handed, shorten_buffer}
use Rattle.shortening.proofs.Records.{error_some}
use Rattle.shortening.proofs.shorten.Goals as goal

-- what is met is the answer, and the buffer stays
met_answer : (l : List ℕ) (room : ℕ) (r : ShortenError) → met l ≡ error_number r → shorten_answer room l ≡ neg_ℤ (pos (error_number r))
unfolding shorten_refusal shorten_answer signed
met_answer l room r e = simp (e, error_some r)

met_buffer : (l buf : List ℕ) (r : ShortenError) → met l ≡ error_number r → shorten_buffer buf l ≡ buf
unfolding shorten_refusal shorten_buffer handed
met_buffer l buf r e = simp (e, error_some r)

pub returns-in_err-count-clause-answer : goal.returns-in_err-count-clause-answer
returns-in_err-count-clause-answer c =
    let p = err_from_is_err_and c.from_residual.result c.from_residual.ensures.1 in
    rw (p.1, p.2) (sym (met_answer c.args.input.now _ _ c.in_err-count.ensures))

pub returns-in_err-count-clause-buffer : goal.returns-in_err-count-clause-buffer
returns-in_err-count-clause-buffer c = sym (met_buffer c.args.input.now _ _ c.in_err-count.ensures)

pub returns-then-count-gt-MOST : goal.returns-then-count-gt-MOST
unfolding shorten_refusal shorten_answer shorten_buffer signed handed
returns-then-count-gt-MOST c =
    let found = c.in_ok-count.ensures in
    let none = eq-eqb _ _ found.0 in
    let many = lt-ltb 512 (records_in c.args.input.now) (omega (arith, found.1, c.if-count-gt-MOST.true)) in
    record { answer = simp (none, many); size = tt; buffer = simp (none, many) }

pub returns : goal.returns
unfolding shorten_refusal shorten_answer shorten_buffer
returns c =
    let found = c.in_ok-count.ensures in
    let none = eq-eqb _ _ found.0 in
    let few = le-ltb 512 (records_in c.args.input.now) (omega (arith, found.1, c.if-count-gt-MOST.false)) in
    let r = c.shorten_records.ensures in
    record { answer = simp (none, few) r.answer; size = r.size; buffer = simp (none, few) r.buffer }
