use Rattle.std.proofs.Common.{arith}
use Rattle.numbered_records.specs.{is_record}
use Rattle.numbered_records.proofs.is_record.Goals as goal
use Rattle.numbered_records.proofs.is_record.Goals.{then-has_numbers, else-has_numbers}

pub returns-then-first-largest_first : goal.returns-then-first-largest_first
unfolding is_record
returns-then-first-largest_first c = elim c.if-has_numbers.branch [ then-has_numbers w ↦ grind arith | else-has_numbers w ↦ grind arith ]

pub returns-else-first-largest_first : goal.returns-else-first-largest_first
unfolding is_record
returns-else-first-largest_first c = elim c.if-has_numbers.branch [ then-has_numbers w ↦ grind arith | else-has_numbers w ↦ grind arith ]
