use mathlib.Core.Path.{sym, ◌∙◌}
use borrow.Author.Tests.{eq-eqb, ne_eqb, leb-true}
use Rattle.records.specs.Records.{record_at}
use Rattle.reader.proofs.record_at.Goals as goal

pub returns-then-not-within : goal.returns-then-not-within
unfolding record_at
returns-then-not-within c = let w = c.within in simp (← w.ensures, c.if-not-within.true)

pub returns-then-kind-eq-NO_STEP : goal.returns-then-kind-eq-NO_STEP
unfolding record_at
returns-then-kind-eq-NO_STEP c =
    let w = c.within in
    simp (
      ← w.ensures,
      c.if-not-within.false,
      ← c.byte_at.ensures,
      ← c.kind_of_tag-kind.ensures,
      eq-eqb _ _ c.if-kind-eq-NO_STEP.true,
    )

pub record_of_kind-requires : goal.record_of_kind-requires
record_of_kind-requires c =
    let w = c.within in leb-true _ _ (sym w.ensures ∙ c.if-not-within.false)

pub returns : goal.returns
unfolding record_at
returns c =
    let w = c.within in
    simp (
      ← w.ensures,
      c.if-not-within.false,
      ← c.byte_at.ensures,
      ← c.kind_of_tag-kind.ensures,
      ne_eqb _ _ c.if-kind-eq-NO_STEP.false,
      ← c.record_of_kind.ensures,
    )
