-- The line of a session's last start or step, from the session's numbers.
use Rattle.std.specs.Prelude.{cond, List, ℕ, eqb, leb, ltb, length, get_or}
use Rattle.contexts.specs.declared.Context.{Context}
use Rattle.contexts.specs.{context}
use Rattle.waiting.specs.Waiting.{held_in}
use Rattle.protocol.specs.declared.Answer.{Answer}
use Rattle.protocol.specs.declared.Answer.TheVariants.{Done, Finished, FinishedContext}
use Rattle.line_lengths.specs.Lines.{line_of, no_line}

-- so many values of a lent list of eight
unfoldable pub context_from : ℕ → List ℕ → Context
context_from n vs =
    context n (get_or vs 0 0) (get_or vs 1 0) (get_or vs 2 0) (get_or vs 3 0) (get_or vs 4 0) (get_or vs 5 0) (get_or vs 6 0) (get_or vs 7 0)

-- an answer that is no refusal, from its numbers: n values finish a read of a whole context, if there are two or more
unfoldable pub answer_from : ℕ → ℕ → List ℕ → ℕ → Answer
answer_from o n vs f = cond (eqb o 0) Done (cond (ltb n 2) (Finished o (get_or vs 0 0) f) (FinishedContext o (context_from n vs)))

-- the line of a session's last step, as record k
unfoldable pub line_for : ℕ → ℕ → ℕ → ℕ → List ℕ → ℕ → ℕ → ℕ → List ℕ
line_for k refusal o n vs f waiting marks = cond (eqb refusal 0) (line_of k (answer_from o n vs f) (held_in waiting) marks) (no_line k refusal)

-- how many bytes of a line go into a buffer: all, or none where it is too short
unfoldable pub put_bytes : List ℕ → List ℕ → ℕ
put_bytes out line = cond (leb (length line) (length out)) (length line) 0
