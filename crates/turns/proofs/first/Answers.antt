use mathlib.Core.Path.{◌≡◌, refl}
use borrow.Author.Rules.{rules}
use borrow.Author.Tests.{lt-ltb, le-ltb}
use Rattle.std.specs.Prelude.{Option, Some, None, Result, Ok, Err}
use Rattle.protocol.specs.Steps.{Machine}
use Rattle.records.specs.declared.Malformed.{Malformed}
use Rattle.records.specs.declared.Record.{Record}
use Rattle.line_lengths.specs.Lines.{no_line}
use Rattle.turns.specs.Turns.{stopped, first_read, first_printed}
use Rattle.turns.proofs.first.Goals as goal
use Rattle.turns.proofs.first.Goals.{in_default-via-in-Ok+in_default, in_default-via-in_default}

-- where no record is read, nothing is run
none_read : (m : Machine) (f : Result (Option Record) Malformed) → ((r : Record) → f ≡ Ok (Some r) → ⊥) → first_read m f ≡ stopped m (no_line 1 1)
none_read m (Ok (Some r)) none = absurd (none r refl)
none_read m (Ok None) none = refl
none_read m (Err e) none = refl

pub returns-then-turns-gt-INPUT : goal.returns-then-turns-gt-INPUT
unfolding first_printed
returns-then-turns-gt-INPUT c = λ row. rw (lt-ltb _ _ c.if-turns-gt-INPUT.true) (c.stop.ensures _ _ _ row)

pub returns-in-Ok-Some : goal.returns-in-Ok-Some
unfolding first_printed
returns-in-Ok-Some c = λ row. rw (le-ltb _ _ c.if-turns-gt-INPUT.false, ← c.read_at.ensures, c.in-Ok-Some.is, c.in-Ok-Some.field-0-is, ← c.setup_of.ensures) (c.start_with.ensures row)

pub returns-in_default : goal.returns-in_default
unfolding first_printed
returns-in_default c = λ row. rw (le-ltb _ _ c.if-turns-gt-INPUT.false, ← c.read_at.ensures, none_read _ _ none) (c.stop-in_default.ensures _ _ _ row)
  where
    none : (r : Record) → c.read_at.result ≡ Ok (Some r) → ⊥
    none r e = elim c.in_default.branch [ in_default-via-in-Ok+in_default w ↦ search rules | in_default-via-in_default w ↦ search rules ]
