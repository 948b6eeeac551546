-- The loop's invariant: as many bytes as the values before place i have, with their commas.
use mathlib.Core.Path.{◌≡◌}
use Prim.Native.Nat.{◌+◌, ◌-◌, ◌≤◌}
use lib.ListN.{length}
use Rattle.contexts.specs.{size_of}
use Rattle.line_lengths.specs.Lines.{decimal, later_values}
use Rattle.line_lengths.proofs.joined_length.Given as goal

abbrev pub invariant-loop-i : goal.invariant-loop-i
invariant-loop-i l =
    (l.digits ≡ length (decimal l.v.first) + length (later_values l.v (l.i - 1))) × (l.n ≡ size_of l.v) × (l.n ≤ 8) × (l.i - 1 ≤ l.n - 1)
