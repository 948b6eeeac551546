-- Turns of a run: what was read, the step of the machine and what is concluded from both are the turn that specs/Runs.antt defines; and turns one after the
-- other.
use mathlib.Core.Path.{◌≡◌, refl}
use mathlib.Core.Bool.{Bool}
use mathlib.Core.List.{List}
use Prim.Native.Nat.{ℕ, ◌-◌}
use Rattle.std.specs.Prelude.{Option, Some, None, Result, Ok, Err}
use Rattle.waiting.specs.declared.Packet.{Packet}
use Rattle.lists.proofs.Tests.{both}
use Rattle.waiting.specs.Waiting.{WaitingList, waiting_list, none_wait}
use Rattle.protocol.specs.declared.Setup.{Setup}
use Rattle.protocol.specs.declared.Setup.TheVariants.{Missing}
use Rattle.protocol.specs.Starts.{start_refused}
use Rattle.protocol.specs.Steps.{Machine, machine, after, stepped_by, start_switch, start_store, start_opens, start_waiting}
use Rattle.protocol.proofs.Refusals.{start_keeps}
use Rattle.records.specs.declared.Malformed.{Malformed}
use Rattle.records.specs.declared.Record.{Record}
use Rattle.turns.specs.declared.Run.{Run}
use Rattle.turns.specs.declared.Ran.{Ran}
use Rattle.turns.specs.Turns.{Printed, standing, started_with, continued, read_next, next_printed}
use Rattle.turns.specs.Promises.{Stands, Concludes, concluded, step_in, stands_as, one_turn}

-- the run after a start
module _ (switch store opens : List ℕ) (row : List Packet) (b : Setup) (at : ℕ) where
  none_waits : waiting_list row 0 ≡ start_waiting b (none_wait row)
  unfolding start_waiting none_wait
  none_waits = both (λ (w : WaitingList). waiting_list row 0 ≡ w) (start_refused b) refl refl

  pub start_stands : (over : Bool) (switch' store' opens' : List ℕ) → over ≡ start_refused b → switch' ≡ start_switch b switch → store' ≡ start_store b store →
      opens' ≡ start_opens b opens → standing (machine switch' store' opens' (waiting_list row 0)) at 2 over ≡ (started_with (machine switch store opens (none_wait row)) b at).then
  unfolding started_with none_wait
  start_stands over switch' store' opens' o a d c = λ j. standing (machine (a j) (d j) (c j) (none_waits j)) at 2 (o j)

-- ---- one turn

-- the machine as a run is lent it
abbrev pub model_of : Run → List ℕ → List ℕ → List ℕ → List Packet → Machine
model_of r switch store opens row = machine switch store opens (waiting_list row r.count)

module _ (r : Run) (switch store opens : List ℕ) (row : List Packet) where
  abbrev next : Result (Option Record) Malformed → Machine
  next f = after (model_of r switch store opens row) (step_in f)

  -- what was read is f
  abbrev Gives : Result (Option Record) Malformed → Ran → List ℕ → List ℕ → ℕ → Printed → Type 0
  Gives f ran buffer out used p = Stands ran (next f).switch (next f).store (next f).opens (next f).waiting.packets buffer (one_turn (r.left - 1) out used p)

  turn_gives : (f : Result (Option Record) Malformed) (ran : Ran) (buffer out : List ℕ) (used : ℕ) → Concludes ran buffer out used (concluded r f (stepped_by (model_of r switch store opens row) (step_in f)))
      → Gives f ran buffer out used (continued (stands_as r switch store opens row) f)
  unfolding stands_as
  turn_gives (Ok (Some r)) ran buffer out used d = record { stands = rw d.run refl; left = rw d.run refl; place = d.place; there = d.there }
  turn_gives (Ok None) ran buffer out used d = record {
    stands = rw (d.run, start_keeps (model_of r switch store opens row) Missing) refl;
    left = rw d.run refl;
    place = d.place;
    there = d.there;
  }
  turn_gives (Err e) ran buffer out used d = record {
    stands = rw (d.run, start_keeps (model_of r switch store opens row) Missing) refl;
    left = rw d.run refl;
    place = d.place;
    there = d.there;
  }

  pub next_gives : (input : List ℕ) (ran : Ran) (buffer out : List ℕ) (used : ℕ)
      → Concludes ran buffer out used (concluded r (read_next input r.over r.at) (stepped_by (model_of r switch store opens row) (step_in (read_next input r.over r.at))))
      → Gives (read_next input r.over r.at) ran buffer out used (next_printed input (stands_as r switch store opens row))
  unfolding next_printed stands_as
  next_gives input ran buffer out used d = turn_gives (read_next input r.over r.at) ran buffer out used d
