-- The loop's invariant: so many records were read, they lie within the input, and what is met behind them is what is met behind the start.
use mathlib.Core.Path.{◌≡◌}
use Prim.Native.Nat.{◌+◌, ◌-◌, ◌*◌, ◌≤◌}
use lib.ListN.{length}
use Rattle.shortening.specs.Shortening.{size_at, place_of, records_from, met_from, records_in}
use Rattle.shortening.specs.Promises.{Within}
use Rattle.shortening.proofs.scan_from.Given as goal

abbrev pub invariant-loop-at : goal.invariant-loop-at
invariant-loop-at l =
    (met_from (length l.input + 1 - l.count) l.input l.at ≡ met_from (length l.input) l.input (size_at l.input 0)) ×
    (l.count + records_from (length l.input + 1 - l.count) l.input l.at ≡ records_in l.input) ×
    (l.at ≡ place_of l.count l.input) ×
    (3 * l.count ≤ l.at) ×
    (l.at ≤ 19 * l.count) ×
    (l.at ≤ length l.input) ×
    Within l.count l.input ×
    (1 ≤ l.count)

abbrev pub decreases-loop-at : goal.decreases-loop-at
decreases-loop-at l = length l.input - l.at
