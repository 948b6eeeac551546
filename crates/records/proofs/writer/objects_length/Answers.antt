use mathlib.Core.Path.{ap, ◌∙◌}
use native.Mathlib.Omega.{arith}
use Rattle.contexts.specs.{size_of}
use Rattle.records.proofs.Contexts.{objects_size}
use Rattle.records.proofs.writer.objects_length.Goals as goal

pub returns : goal.returns
returns c = omega (arith, objects_size c.args.x, c.size-n.ensures.0 ∙ ap size_of c.context_of.ensures)
