-- How much room the lines of a trial need.
use mathlib.Core.List.{List}
use Prim.Native.Nat.{ℕ, ◌≤◌}
use native.Mathlib.Omega.{arith}
use lib.ListN.{length}
use Rattle.runs.specs.Runs.{printed}
use Rattle.runs.proofs.Whole.{printed_within}

-- 477,184 bytes are room for the output of 9,728
pub output_room_lem : (input : List ℕ) → length input ≤ 9728 → length (printed input) ≤ 477184
output_room_lem input h = omega (arith, printed_within input (omega arith))
