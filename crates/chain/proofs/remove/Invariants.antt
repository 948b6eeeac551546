-- The loop's invariant: the cells are those at the start, of which the places from `from` to i have moved up.
use mathlib.Core.Path.{◌≡◌}
use Prim.Native.Nat.{◌+◌, ◌-◌}
use Rattle.lists.specs.{moves}
use Rattle.chain.proofs.remove.Given as goal

abbrev pub invariant-loop-i : goal.invariant-loop-i
invariant-loop-i l = l.cells ≡ moves 0 l.initial.cells (1 + l.from) (1 + l.i - (1 + l.from))
