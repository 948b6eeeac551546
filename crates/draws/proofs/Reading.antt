-- READING THE DRAWN BYTES BACK GIVES THE DRAWN STEPS, all of them, and then the end.
use Rattle.std.proofs.Common.{◌≡◌, ℕ, zero, suc, ◌+◌, ◌<◌, List, ◌++◌, length, drop, sym, refl, ap, ◌∙◌, arith, length-drop, drop-drop, drop_at, ne_eqb}
use Rattle.protocol.specs.declared.Setup.TheVariants.{Chain}
use Rattle.protocol.specs.declared.Step.{Step}
use Rattle.protocol.specs.declared.Step.TheVariants.{Start}
use Rattle.records.specs.Records.{record_of, is_start}
use Rattle.records.proofs.Round.{read_at, next_found, next_end}
use Rattle.draws.specs.{step_drawn, seed_after, steps_drawn, records_of, run_drawn, bytes_drawn, ReadsAs}
use Rattle.draws.proofs.Drawn.{drawn_writable, drawn_no_start, bytes_are, start_size}

-- what stands behind a record
behind : (l : List ℕ) (at : ℕ) (first rest : List ℕ) → drop at l ≡ first ++ rest → drop (at + length first) l ≡ rest
behind l at first rest e = sym (drop-drop (length first) at l) ∙ ap (drop (length first)) e ∙ drop_at first rest (length first) refl

-- the steps that follow the start
steps_read : (k seed : ℕ) (l : List ℕ) (at : ℕ) → 0 < at → drop at l ≡ records_of (steps_drawn k seed) → ReadsAs l at (steps_drawn k seed)
unfolding steps_drawn records_of
steps_read zero seed l at h e = next_end l at h (omega (arith, length-drop at l, ap length e))
steps_read (suc k) seed l at h e =
    let s : Step = step_drawn seed in
    let rest : List ℕ = records_of (steps_drawn k (seed_after seed)) in (
      next_found l at (at + length (record_of s)) s (read_at s l rest at (drawn_writable seed) e) (drawn_no_start seed ∙ sym (ne_eqb at 0 (λ z. omega (arith, z)))),
      steps_read k (seed_after seed) l (at + length (record_of s)) (omega arith) (behind l at (record_of s) rest e),
    )

pub bytes_read : (seed n steps : ℕ) → ReadsAs (bytes_drawn seed n steps) 0 (run_drawn seed n steps)
unfolding is_start
bytes_read seed n steps =
    let l : List ℕ = bytes_drawn seed n steps in
    let rest : List ℕ = records_of (steps_drawn steps seed) in
    let all : drop 0 l ≡ record_of (Start (Chain n)) ++ rest = bytes_are seed n steps in (
      next_found l 0 (0 + length (record_of (Start (Chain n)))) (Start (Chain n)) (read_at (Start (Chain n)) l rest 0 refl all) refl,
      steps_read steps seed l (0 + length (record_of (Start (Chain n)))) (omega (arith, start_size n)) (behind l 0 (record_of (Start (Chain n))) rest all),
    )
