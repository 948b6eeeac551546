-- A session of the exported library: the answer of its last start or step, in numbers, and the step that it is handed.
use Rattle.std.specs.Prelude.{cond, List, ℕ, eqb, length, Result, Ok, Err}
use Rattle.contexts.specs.declared.Context.{Context}
use Rattle.contexts.specs.{context}
use Rattle.protocol.specs.declared.Answer.{Answer}
use Rattle.protocol.specs.declared.Answer.TheVariants.{Done, Finished, FinishedContext, Refused}
use Rattle.protocol.specs.declared.Setup.{Setup}
use Rattle.protocol.specs.declared.Setup.TheVariants.{Missing}
use Rattle.protocol.specs.declared.Step.{Step}
use Rattle.protocol.specs.declared.Step.TheVariants.{Start}
use Rattle.protocol.specs.declared.Stepped.{Stepped}
use Rattle.protocol.specs.Answers.{refusal_number, no_freshness}
use Rattle.protocol.specs.Starts.{setup_of, start_refused, start_answer}
use Rattle.records.specs.declared.Malformed.{Malformed}
use Rattle.records.specs.declared.Record.{Record}
use Rattle.records.specs.Records.{record_at}
use Rattle.sessions.specs.declared.Session.{Session}

-- an answer in numbers: the refusal, or 0; the operation just finished, its values and its freshness, or 0
abbrev pub refusal_in : Answer → ℕ
refusal_in Done = 0
refusal_in (Finished o v f) = 0
refusal_in (FinishedContext o v) = 0
refusal_in (Refused r) = refusal_number r

abbrev pub operation_in : Answer → ℕ
operation_in Done = 0
operation_in (Finished o v f) = o
operation_in (FinishedContext o v) = o
operation_in (Refused r) = 0

-- so many values, and the values
abbrev pub no_values : Context
no_values = context 0 0 0 0 0 0 0 0 0

abbrev pub values_in : Answer → Context
values_in Done = no_values
values_in (Finished o v f) = context 1 v 0 0 0 0 0 0 0
values_in (FinishedContext o v) = v
values_in (Refused r) = no_values

abbrev pub freshness_in : Answer → ℕ
freshness_in Done = no_freshness
freshness_in (Finished o v f) = f
freshness_in (FinishedContext o v) = no_freshness
freshness_in (Refused r) = no_freshness

-- the step of a record that fills the lent bytes; where there is none, a start that sets nothing up, which the machine refuses by 1
abbrev pub whole_step : Result Record Malformed → ℕ → Step
whole_step (Ok r) size = cond (eqb r.end size) r.step (Start Missing)
whole_step (Err e) size = Start Missing

unfoldable pub asked_by : List ℕ → Step
asked_by bytes = whole_step (record_at bytes 0) (length bytes)

-- what the start of such a record sets up
unfoldable pub start_asked : List ℕ → Setup
start_asked bytes = setup_of (asked_by bytes)

-- a session after a start: a refused one leaves the marks and what waits as they were
unfoldable pub session_started : Setup → Session → Session
session_started b before = record {
  refusal = refusal_in (start_answer b);
  operation = 0;
  values = no_values;
  freshness = no_freshness;
  marks = cond (start_refused b) before.marks 0;
  waiting = cond (start_refused b) before.waiting 0;
}

-- the marks after a step: a refused one leaves them as they were
unfoldable pub marks_after : ℕ → ℕ → ℕ → ℕ
marks_after before refusal marks = cond (eqb refusal 0) marks before

-- a session after a step; `before` is how many marks it had
unfoldable pub session_after : ℕ → Stepped → Session
session_after before t = record {
  refusal = refusal_in t.answer;
  operation = operation_in t.answer;
  values = values_in t.answer;
  freshness = freshness_in t.answer;
  marks = marks_after before (refusal_in t.answer) t.marks;
  waiting = t.count;
}
