use native.Mathlib.Nat.{add-sub_cancel_left}
use Rattle.records.specs.Records.{record_of_kind}
use Rattle.reader.proofs.record_of_kind.Goals as goal
use Rattle.reader.proofs.record_of_kind.Goals.{then-not-is_length-via-then-not-is_length, then-not-is_length-via-else-not-is_length+then-not-within}

pub returns-then-not-is_length : goal.returns-then-not-is_length
unfolding record_of_kind
returns-then-not-is_length c =
    let a = c.is_length in
    elim c.then-not-is_length.branch [
      | then-not-is_length-via-then-not-is_length w ↦ simp (← c.two_at-length.ensures, ← a.ensures, w.if-not-is_length.true)
      | then-not-is_length-via-else-not-is_length+then-not-within w ↦ let room = w.within.ensures in simp (← c.two_at-length.ensures, ← a.ensures, w.if-not-is_length.false, ← room, w.if-not-within.true)
    ]

pub returns : goal.returns
unfolding record_of_kind
returns c =
    let a = c.is_length in
    let w = c.within in
    simp (
      ← c.two_at-length.ensures,
      ← a.ensures,
      c.if-not-is_length.false,
      ← w.ensures,
      c.if-not-within.false,
      c.step_of.ensures,
      add-sub_cancel_left,
    )
