-- The loop's invariant: the sum has 65,536 for each mark that counts among the first i slots, and less than 65,536 besides.
use Prim.Native.Nat.{ℕ, ◌+◌, ◌*◌, ◌≤◌}
use Rattle.switch.specs.DirtySet.{counted_to}
use Rattle.switch.proofs.cells.count.Given as goal

-- k marks count among the first i slots, and the sum says so
abbrev pub Sums : ℕ → ℕ → ℕ → Type 0
Sums k i sum = (65536 * k ≤ sum) × (sum ≤ 65536 * k + 48 * i) × (k ≤ i)

abbrev pub invariant-loop-i : goal.invariant-loop-i
invariant-loop-i l = (l.i ≤ 48) × Sums (counted_to l.cells l.c l.i) l.i l.sum
