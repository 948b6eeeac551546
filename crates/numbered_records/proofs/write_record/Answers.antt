use Rattle.numbered_records.specs.{record_written, record_buffer}
use Rattle.numbered_records.proofs.write_record.Goals as goal

pub returns-then-not-is_record : goal.returns-then-not-is_record
unfolding record_written record_buffer
returns-then-not-is_record c =
    let none = c.if-not-is_record.true in (simp (← c.is_record.ensures, none), simp (← c.is_record.ensures, none))

pub returns : goal.returns
unfolding record_written record_buffer
returns c =
    let known = c.if-not-is_record.false in
    let step = c.step_from-step.ensures in
    let kind = c.kind_of_tag.ensures in
    let done = c.write_at.ensures in
    (simp (← c.is_record.ensures, known, ← kind, ← step) done.0, simp (← c.is_record.ensures, known, ← kind, ← step) done.1)
