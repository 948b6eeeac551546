use mathlib.Core.Path.{ap, ◌∙◌}
use native.Mathlib.Omega.{arith}
use Rattle.std.proofs.lemmas.List.Edits.{sets}
use Rattle.records.proofs.Bytes.{two_given}
use Rattle.records.proofs.writer.with_two.Goals as goal

pub returns : goal.returns
returns c = c.with.ensures ∙ ap (sets c.args.bytes c.args.at) (c.to_be_bytes.ensures ∙ two_given c.args.x (omega arith))
