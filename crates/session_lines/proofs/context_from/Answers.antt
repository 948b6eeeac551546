use mathlib.Core.Path.{refl}
use Rattle.session_lines.specs.{context_from}
use Rattle.session_lines.proofs.context_from.Goals as goal

pub returns : goal.returns
unfolding context_from
returns c = refl
