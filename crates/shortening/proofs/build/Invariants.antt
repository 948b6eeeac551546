-- The loop's invariant: the buffer begins with the records of those before i that are kept.
use mathlib.Core.Path.{◌≡◌}
use Prim.Native.Nat.{◌-◌, ◌≤◌}
use lib.ListN.{length, take}
use Rattle.shortening.specs.Shortening.{place_of, kept_to}
use Rattle.shortening.specs.Promises.{Within}
use Rattle.shortening.proofs.build.Given as goal

abbrev pub invariant-loop-i : goal.invariant-loop-i
invariant-loop-i l =
    (take l.used l.out ≡ kept_to l.i l.input l.flags) ×
    (l.used ≡ length (kept_to l.i l.input l.flags)) ×
    (l.used ≤ l.at) ×
    (l.at ≡ place_of l.i l.input) ×
    (l.i ≤ l.count) ×
    (length l.out ≡ length l.initial.out) ×
    (l.at ≤ length l.input) ×
    (Within l.count l.input × (l.count ≤ length l.flags) × (length l.input ≤ length l.initial.out))
