use mathlib.Core.Path.{◌≡◌, refl, sym, ap, ◌∙◌}
use mathlib.Core.Bool.{true}
use mathlib.Core.List.{List}
use Prim.Native.Nat.{ℕ}
use native.Mathlib.Omega.{arith}
use borrow.Author.Rules.{rules}
use borrow.Author.Tests.{lt-ltb, le-ltb}
use Rattle.std.specs.Prelude.{Option, Some, None, Result, Ok, Err}
use Rattle.records.specs.declared.Malformed.{Malformed}
use Rattle.records.specs.declared.Record.{Record}
use Rattle.records.specs.Records.{next_at}
use Rattle.shortening.specs.Shortening.{is_record, met_first, met}
use Rattle.shortening.proofs.Records.{record_lies, scanned_all}
use Rattle.shortening.proofs.scan.Goals as goal

-- where no record is read, the input is refused by 1
none_read : (l : List ℕ) (f : Result (Option Record) Malformed) → ((r : Record) → f ≡ Ok (Some r) → ⊥) → met_first l f ≡ 1
none_read l (Ok (Some r)) none = absurd (none r refl)
none_read l (Ok None) none = refl
none_read l (Err e) none = refl

pub returns-then-input-gt-INPUT : goal.returns-then-input-gt-INPUT
unfolding met
returns-then-input-gt-INPUT c = simp (lt-ltb _ _ c.if-input-gt-INPUT.true)

pub returns-then-is_refused : goal.returns-then-is_refused
unfolding met
returns-then-is_refused c = simp (le-ltb _ _ c.if-input-gt-INPUT.false, ← c.next_at.ensures, c.in-Ok-Some.is, c.in-Ok-Some.field-0-is, ← c.setup_of.ensures, ← c.is_refused.ensures, c.if-is_refused.true)

pub size_at-requires : goal.size_at-requires
size_at-requires c =
    let l = c.args.input.now in
    let there : is_record (next_at l 0) ≡ true = rw (← c.next_at.ensures, c.in-Ok-Some.is, c.in-Ok-Some.field-0-is) refl in
    let lies = record_lies l 0 there in
    omega (arith, lies.0, lies.1)

pub scan_from-requires : goal.scan_from-requires
scan_from-requires c =
    let l = c.args.input.now in
    let there : is_record (next_at l 0) ≡ true = rw (← c.next_at.ensures, c.in-Ok-Some.is, c.in-Ok-Some.field-0-is) refl in
    let lies = record_lies l 0 there in
    let size = c.size_at.ensures.0 in
    (size, omega (arith, lies.0, size), omega (arith, lies.2, size))

pub returns : goal.returns
unfolding met
returns c =
    let l = c.args.input.now in
    scanned_all c.scan_from.result l
    (simp (le-ltb _ _ c.if-input-gt-INPUT.false, ← c.next_at.ensures, c.in-Ok-Some.is, c.in-Ok-Some.field-0-is, ← c.setup_of.ensures, ← c.is_refused.ensures, c.if-is_refused.false))
    c.scan_from.ensures

pub returns-in_default : goal.returns-in_default
unfolding met
returns-in_default c = simp (le-ltb _ _ c.if-input-gt-INPUT.false, ← c.next_at.ensures, none_read c.args.input.now c.next_at.result none)
  where
    none : (r : Record) → c.next_at.result ≡ Ok (Some r) → ⊥
    none r e = search rules

pub returns-in_default-2 : goal.returns-in_default-2
unfolding met
returns-in_default-2 c = simp (le-ltb _ _ c.if-input-gt-INPUT.false, ← c.next_at.ensures, c.in_default.is)
