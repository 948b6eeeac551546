-- The loop's invariant: the values before place i are put, with their commas, and there is room for all.
use mathlib.Core.Path.{◌≡◌}
use Prim.Native.Nat.{◌+◌, ◌-◌, ◌≤◌}
use lib.ListN.{length}
use Rattle.contexts.specs.{size_of}
use Rattle.line_lengths.specs.Lines.{later_values}
use Rattle.lines.specs.Text.{Puts}
use Rattle.lines.proofs.put_joined.Given as goal

abbrev pub invariant-loop-i : goal.invariant-loop-i
invariant-loop-i l =
    Puts l.initial.out l.initial.end (later_values l.v (l.i - 1)) l.end l.out × (l.initial.end + length (later_values l.v (l.n - 1)) ≤ length l.initial.out) × (l.n ≡ size_of l.v) × (l.n ≤ 8) × (l.i - 1 ≤ l.n - 1)
