-- What the contracts of the functions cite, over specs/Turns.antt: turns that go line after line into a lent buffer, and the code's structs.
use Rattle.std.specs.Prelude.{◌≡◌, Bool, true, false, cond, List, [], ℕ, zero, suc, ◌+◌, ◌-◌, min, leb, ltb, length, Option, Some, None, Result, Ok, Err}
use Rattle.waiting.specs.declared.Packet.{Packet}
use Rattle.waiting.specs.Waiting.{waiting_list, held_in}
use Rattle.protocol.specs.declared.Setup.TheVariants.{Missing}
use Rattle.protocol.specs.declared.Step.{Step}
use Rattle.protocol.specs.declared.Step.TheVariants.{Start}
use Rattle.protocol.specs.declared.Stepped.{Stepped}
use Rattle.protocol.specs.Steps.{machine}
use Rattle.records.specs.declared.Malformed.{Malformed}
use Rattle.records.specs.declared.Record.{Record}
use Rattle.records.specs.Records.{next_refusal}
use Rattle.line_lengths.specs.Lines.{line_of, no_line}
use Rattle.lines.specs.Text.{put_in}
use Rattle.turns.specs.declared.Run.{Run}
use Rattle.turns.specs.declared.Ran.{Ran}
use Rattle.turns.specs.declared.Turn.{Turn}
use Rattle.turns.specs.Turns.{Printed, Standing, next_number, next_printed, standing}

-- ---- places of the output

abbrev pub last_place : ℕ
last_place = 18446744073709551615

-- the place after so many bytes; the last place of 64 bits stays
unfoldable pub place_after : ℕ → ℕ → ℕ
place_after used n = min last_place (used + n)

-- ---- turns

-- whether another record is read: the run is not over, turns are left, and the place is not past `stop`
unfoldable pub goes_on : Bool → ℕ → ℕ → ℕ → Bool
goes_on over left used stop = cond over false (cond (ltb 0 left) (leb used stop) false)

-- how a run stands after turns, how many are left then, the buffer, and the place after the lines
pub record Turned : Type 0 where
  pub then : Standing
  pub left : ℕ
  pub out : List ℕ
  pub used : ℕ

abbrev pub turned_to : Standing → ℕ → List ℕ → ℕ → Turned
turned_to u left out used = record { then = u; left = left; out = out; used = used }

-- at most k turns, until the run is over or the place is past `stop`: each line goes to its place if it has room there
unfoldable pub turned : ℕ → ℕ → List ℕ → Standing → List ℕ → ℕ → Turned
turned zero stop input u out used = turned_to u 0 out used
turned (suc k) stop input u out used =
    cond (goes_on u.over (suc k) used stop)
    (turned k stop input (next_printed input u).then (put_in out used (next_printed input u).line) (place_after used (length (next_printed input u).line)))
    (turned_to u (suc k) out used)

-- ---- the code's structs

-- a run as it stands, with what it is lent
unfoldable pub stands_as : Run → List ℕ → List ℕ → List ℕ → List Packet → Standing
stands_as r switch store opens row = standing (machine switch store opens (waiting_list row r.count)) r.at r.number r.over

-- a run after turns, what it is lent then, and a buffer, are these
pub record Stands (r : Ran) (switch store opens : List ℕ) (row : List Packet) (buffer : List ℕ) (t : Turned) : Type 0 where
  pub stands : stands_as r.run switch store opens row ≡ t.then
  pub left : r.run.left ≡ t.left
  pub place : r.used ≡ t.used
  pub there : buffer ≡ t.out

-- one turn, after which k are left
abbrev pub one_turn : ℕ → List ℕ → ℕ → Printed → Turned
one_turn k out used p = turned_to p.then k (put_in out used p.line) (place_after used (length p.line))

-- what is read, and its step; where none is read, one that the machine refuses
abbrev pub step_in : Result (Option Record) Malformed → Step
step_in (Ok (Some r)) = r.step
step_in (Ok None) = Start Missing
step_in (Err e) = Start Missing

abbrev pub turn_of : Result (Option Record) Malformed → Turn
turn_of f = record { found = f; step = step_in f }

-- the run after a step, and its line, from what was read and what the step gave
pub record Concluded : Type 0 where
  pub run : Run
  pub line : List ℕ

pub record Concludes (r : Ran) (buffer : List ℕ) (out : List ℕ) (used : ℕ) (d : Concluded) : Type 0 where
  pub run : r.run ≡ d.run
  pub place : r.used ≡ place_after used (length d.line)
  pub there : buffer ≡ put_in out used d.line

abbrev pub over_run : Run → Run
over_run r = record { count = r.count; at = r.at; number = r.number; over = true; left = r.left - 1 }

abbrev pub going_on : Run → ℕ → Stepped → Concluded
going_on r at t = record {
  run = record { count = t.count; at = at; number = next_number r.number; over = false; left = r.left - 1 };
  line = line_of r.number t.answer (held_in t.count) t.marks;
}

abbrev pub concluded : Run → Result (Option Record) Malformed → Stepped → Concluded
concluded r (Ok (Some d)) t = going_on r d.end t
concluded r (Ok None) t = record { run = over_run r; line = [] }
concluded r (Err e) t = record { run = over_run r; line = no_line r.number (next_refusal (Err e)) }
