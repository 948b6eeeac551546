use Rattle.line_lengths.specs.Lines.{no_line, line_of}
use lib.ListN.{length}
use Prim.Native.Nat.{ℕ}
use mathlib.Core.Path.{ap, ◌∙◌}
use Rattle.line_lengths.proofs.Laws.{done_length, finished_length, finished_context_length}
use native.Mathlib.Omega.{arith}
use Rattle.line_lengths.proofs.line_length.Goals as goal

pub returns-in-Done : goal.returns-in-Done
returns-in-Done c = let a = c.args in rw c.in-Done.is (omega (arith, done_length a.number a.waiting a.marks, c.ok_length.ensures.0))

pub returns-in-Finished : goal.returns-in-Finished
returns-in-Finished c = let a = c.args in rw c.in-Finished.is (omega (arith, finished_length a.number c.in-Finished.operation c.in-Finished.value c.in-Finished.freshness a.waiting a.marks, c.ok_length-in-Finished.ensures.0, c.finish_length.ensures.0))

pub returns-in-FinishedContext : goal.returns-in-FinishedContext
returns-in-FinishedContext c = let a = c.args in rw c.in-FinishedContext.is (omega (arith, finished_context_length a.number c.in-FinishedContext.read c.in-FinishedContext.v a.waiting a.marks, c.ok_length-in-FinishedContext.ensures.0, c.context_length.ensures.0))

pub returns-in-Refused : goal.returns-in-Refused
unfolding line_of
returns-in-Refused c = rw c.in-Refused.is (c.no_length.ensures ∙ ap (λ (r : ℕ). length (no_line c.args.number r)) c.refusal_number.ensures)
