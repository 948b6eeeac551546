use mathlib.Core.Path.{ap, ◌∙◌}
use native.Mathlib.Omega.{arith}
use Rattle.std.proofs.lemmas.List.Edits.{sets}
use Rattle.records.specs.Records.{header_of, two_bytes, four_bytes}
use Rattle.records.proofs.Bytes.{four_given}
use Rattle.records.proofs.writer.two_and_four.Goals as goal

pub returns : goal.returns
unfolding header_of two_bytes four_bytes
returns c = c.with.ensures ∙ ap (sets c.two_bytes.result 5) (c.to_be_bytes.ensures ∙ four_given c.args.b (omega arith)) ∙ simp c.two_bytes.ensures
