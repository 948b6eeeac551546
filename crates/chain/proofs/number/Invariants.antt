-- The loop's invariant: the first i replicas are numbered.
use mathlib.Core.Path.{◌≡◌}
use Rattle.chain.specs.{numbered}
use Rattle.chain.proofs.number.Given as goal

abbrev pub invariant-loop-i : goal.invariant-loop-i
invariant-loop-i l = l.cells ≡ numbered l.initial.cells l.i
