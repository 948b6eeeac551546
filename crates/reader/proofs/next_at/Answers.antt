use mathlib.Core.Path.{◌≡◌, sym, ap, ◌∙◌}
use mathlib.Core.Logic.{◌⊎◌, inl, inr}
use mathlib.Core.List.{List}
use Prim.Native.Nat.{ℕ, ◌<◌}
use lib.Dec.{eqb}
use lib.ListN.{length}
use borrow.Author.Tests.{eq-eqb, ne_eqb, le-leb, lt-leb}
use Rattle.std.proofs.lemmas.Result.{err_from_is_err_and}
use Rattle.records.specs.Records.{record_at, next_of, next_at}
use Rattle.reader.proofs.next_at.Goals as goal

-- where no end is read, the record that is found there counts if it is in place
read_there : (l : List ℕ) (at : ℕ) → ((at ≡ 0 → ⊥) × (at < length l)) ⊎ (at ≡ 0) → next_at l at ≡ next_of (eqb at 0) (record_at l at)
unfolding next_at
read_there l at (inl later) = rw (ne_eqb at 0 later.0, lt-leb (length l) at later.1)
read_there l at (inr first) = rw (eq-eqb at 0 first)

pub returns-then-s-at : goal.returns-then-s-at
unfolding next_at
returns-then-s-at c = simp (ne_eqb _ _ c.if-not-first.true, le-leb _ _ c.if-s-at.true)

pub returns-in_err-record : goal.returns-in_err-record
returns-in_err-record c =
    let p = err_from_is_err_and c.from_residual.result c.from_residual.ensures.1 in
    p.1 ∙ ap (next_of (eqb c.args.at 0)) (sym c.in_err-record.was ∙ c.record_at.ensures) ∙ sym (read_there c.args.s.now c.args.at c.else-not-first.either)

pub returns-then-not-in_place : goal.returns-then-not-in_place
returns-then-not-in_place c =
    sym (read_there c.args.s.now c.args.at c.else-not-first.either ∙ rw (← c.record_at.ensures, c.in_ok-record.was, ← c.in_place.ensures, c.if-not-in_place.true))

pub returns : goal.returns
returns c =
    sym (read_there c.args.s.now c.args.at c.else-not-first.either ∙ rw (← c.record_at.ensures, c.in_ok-record.was, ← c.in_place.ensures, c.if-not-in_place.false))
