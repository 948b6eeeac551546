use Rattle.std.proofs.Common.{◌≡◌, ℕ, ◌+◌, ◌^◌, ◌<◌, ◌≤◌, length, pos, sym, ap, ◌∙◌, arith, w64, rules, le-ltb, lt-ltb, le-leb}
use borrow.Author.Tests.{lt-leb}
use mir.ValLaws.{to_z_pos}
use Rattle.protocol.proofs.Refusals.{start_accepted}
use Rattle.draws.specs.{bytes_drawn, draw_refusal, draw_answer, draw_buffer}
use Rattle.draws.proofs.Drawn.{bytes_size}
use Rattle.draws.proofs.run.Goals as goal

pub returns-then-is_start_refused : goal.returns-then-is_start_refused
unfolding draw_refusal draw_answer draw_buffer
returns-then-is_start_refused c =
    let refused = sym c.is_start_refused.ensures ∙ c.if-is_start_refused.true in
    record { answer = simp refused; size = tt; buffer = simp refused }

pub returns-then-steps-gt-MOST_STEPS : goal.returns-then-steps-gt-MOST_STEPS
unfolding draw_refusal draw_answer draw_buffer
returns-then-steps-gt-MOST_STEPS c =
    let stands = sym c.is_start_refused.ensures ∙ c.if-is_start_refused.false in
    let many = lt-ltb _ _ c.if-steps-gt-MOST_STEPS.true in
    record { answer = simp (stands, many); size = tt; buffer = simp (stands, many) }

pub returns-then-out-size : goal.returns-then-out-size
unfolding draw_refusal draw_answer draw_buffer
returns-then-out-size c =
    let s = c.args in
    let stands = sym c.is_start_refused.ensures ∙ c.if-is_start_refused.false in
    let few = le-ltb _ _ c.if-steps-gt-MOST_STEPS.false in
    let size : length (bytes_drawn s.seed s.n s.steps) ≡ 4 + c.size-size.result = bytes_size s.seed s.n s.steps ∙ ap (λ (k : ℕ). 4 + k) (sym c.size-size.ensures.0) in
    let short = lt-leb (length (bytes_drawn s.seed s.n s.steps)) (length s.out.now) (omega (arith, size, c.if-out-size.true)) in
    record { answer = simp (stands, few, short); size = tt; buffer = simp (stands, few, short) }

pub overflow_cast-n : goal.overflow_cast-n
overflow_cast-n c =
    let s = c.args in
    let stands = sym c.is_start_refused.ensures ∙ c.if-is_start_refused.false in
    let few : s.n ≤ 8 = ((start_accepted s.n).0 stands).1 in
    search (rules, few)

pub put-requires : goal.put-requires
put-requires c =
    let s = c.args in
    let size : length (bytes_drawn s.seed s.n s.steps) ≡ 4 + c.size-size.result = bytes_size s.seed s.n s.steps ∙ ap (λ (k : ℕ). 4 + k) (sym c.size-size.ensures.0) in
    (c.if-steps-gt-MOST_STEPS.false, omega (arith, size, c.if-out-size.false))

pub returns : goal.returns
unfolding draw_refusal draw_answer draw_buffer
returns c =
    let s = c.args in
    let stands = sym c.is_start_refused.ensures ∙ c.if-is_start_refused.false in
    let few = le-ltb _ _ c.if-steps-gt-MOST_STEPS.false in
    let size : length (bytes_drawn s.seed s.n s.steps) ≡ 4 + c.size-size.result = bytes_size s.seed s.n s.steps ∙ ap (λ (k : ℕ). 4 + k) (sym c.size-size.ensures.0) in
    let room = le-leb (length (bytes_drawn s.seed s.n s.steps)) (length s.out.now) (omega (arith, size, c.if-out-size.false)) in
    record {
      answer = simp (stands, few, room) (ap pos (sym size));
      size = omega (arith, c.size-size.ensures.1);
      buffer = simp (stands, few, room) c.put.ensures;
    }
