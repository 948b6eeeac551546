-- The loop's invariant: the first k of the objects are copied.
use mathlib.Core.Path.{◌≡◌}
use Rattle.joins.specs.{copied}
use Rattle.joins.proofs.copy_objects.Given as goal

abbrev pub invariant-loop-k : goal.invariant-loop-k
invariant-loop-k l = l.cells ≡ copied l.initial.cells l.q l.t l.first l.k
