-- Document 01, 'What the run program prints': the run of one input, a line for each record.
use Rattle.std.specs.Prelude.{Bool, true, false, cond, List, [], ℕ, ◌+◌, eqb, ltb, length, Option, Some, None, Result, Ok, Err}
use Rattle.limits.specs as limits
use Rattle.switch.specs.Numbers.{marks_in}
use Rattle.waiting.specs.Waiting.{held}
use Rattle.protocol.specs.declared.Refusal.TheVariants.{Format, InputTooLong}
use Rattle.protocol.specs.declared.Setup.{Setup}
use Rattle.protocol.specs.declared.Step.{Step}
use Rattle.protocol.specs.Answers.{refusal_number}
use Rattle.protocol.specs.Starts.{setup_of, start_refused, start_answer}
use Rattle.protocol.specs.Steps.{Machine, answer_to, after, after_start}
use Rattle.records.specs.declared.Malformed.{Malformed}
use Rattle.records.specs.declared.Record.{Record}
use Rattle.records.specs.Records.{next_at, next_refusal}
use Rattle.line_lengths.specs.Lines.{line_of, no_line}

-- how a run stands between two records: the machine, where the next record begins, its number, and whether the run is over
pub record Standing : Type 0 where
  pub model : Machine
  pub at : ℕ
  pub number : ℕ
  pub over : Bool

abbrev pub standing : Machine → ℕ → ℕ → Bool → Standing
standing m at k over = record { model = m; at = at; number = k; over = over }

-- how it stands after a record, and the bytes that are printed for it
pub record Printed : Type 0 where
  pub then : Standing
  pub line : List ℕ

abbrev pub prints : Standing → List ℕ → Printed
prints u l = record { then = u; line = l }

-- ---- the first record. A run is lent a machine whose packets do not wait, whatever else it holds

-- nothing is run: the run is over, and what is lent is as it was
unfoldable pub stopped : Machine → List ℕ → Printed
stopped m line = prints (standing m 0 1 true) line

-- the line of a start; 'After 1 or 2 it ends'
unfoldable pub started_with : Machine → Setup → ℕ → Printed
started_with m b at = prints (standing (after_start b m) at 2 (start_refused b)) (line_of 1 (start_answer b) 0 0)

-- 'Empty input prints only `1 no 1`', and so does any input that begins with no start
abbrev pub first_read : Machine → Result (Option Record) Malformed → Printed
first_read m (Ok (Some r)) = started_with m (setup_of r.step) r.end
first_read m (Ok None) = stopped m (no_line 1 (refusal_number Format))
first_read m (Err e) = stopped m (no_line 1 (next_refusal (Err e)))

-- '14 prints only `0 no 14`'
unfoldable pub first_printed : Machine → List ℕ → Printed
first_printed m input =
    cond (ltb limits.input (length input)) (stopped m (no_line 0 (refusal_number InputTooLong))) (first_read m (next_at input 0))

-- ---- every later record

-- the number of the next record; the last number of its width stays, and no input has that many records
unfoldable pub next_number : ℕ → ℕ
next_number k = cond (eqb k limits.last_record_number) k (k + 1)

-- 'packets waiting, counting marks' are those after the step; Req 03: the line prints the stored number
abbrev pub line_after : ℕ → Machine → Step → List ℕ
line_after k m x = line_of k (answer_to m x) (held (after m x).waiting) (marks_in (after m x).switch)

abbrev pub over_at : Standing → Standing
over_at u = standing u.model u.at u.number true

-- 'One line a record'; at the end of the input nothing more is printed; 'After 1 or 2 it ends'
abbrev pub continued : Standing → Result (Option Record) Malformed → Printed
continued u (Ok (Some r)) = prints (standing (after u.model r.step) r.end (next_number u.number) false) (line_after u.number u.model r.step)
continued u (Ok None) = prints (over_at u) []
continued u (Err e) = prints (over_at u) (no_line u.number (next_refusal (Err e)))

-- what is read next: nothing once the run is over
unfoldable pub read_next : List ℕ → Bool → ℕ → Result (Option Record) Malformed
read_next input over at = cond over (Ok None) (next_at input at)

unfoldable pub next_printed : List ℕ → Standing → Printed
next_printed input u = continued u (read_next input u.over u.at)
