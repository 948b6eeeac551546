use mathlib.Core.Path.{sym, ap, ◌∙◌}
use native.Mathlib.Omega.{arith}
use lib.ListN.{length}
use Rattle.shortening.specs.Shortening.{refusal_of}
use Rattle.shortening.proofs.Input.trial.Goals as goal

pub slice_bounds-refusal-end : goal.slice_bounds-refusal-end
slice_bounds-refusal-end c = let b = c.build-size.ensures in b.1 ∙ sym (ap length b.0)

pub refusal-requires : goal.refusal-requires
refusal-requires c =
    let b = c.build-size.ensures in
    (omega (arith, b.1 ∙ sym (ap length b.0), b.2), omega arith)

pub returns : goal.returns
returns c = c.refusal.ensures.0 ∙ ap refusal_of c.build-size.ensures.0
