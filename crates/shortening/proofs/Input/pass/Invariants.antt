-- The loop's invariant: what the rest of the pass leaves is what the whole pass leaves.
use mathlib.Core.Path.{◌≡◌}
use Prim.Native.Nat.{◌+◌, ◌-◌, ◌≤◌}
use Rattle.shortening.specs.Shortening.{passed, dropped}
use Rattle.shortening.proofs.Input.pass.Given as goal

abbrev pub invariant-loop-i : goal.invariant-loop-i
invariant-loop-i l =
    (passed l.self.bytes.now l.self.count l.self.number (l.i - 1) l.flags ≡ passed l.self.bytes.now l.self.count l.self.number (l.self.count - 2) l.initial.flags) ×
    (l.drops + dropped l.self.bytes.now l.self.count l.self.number (l.i - 1) l.flags ≡ dropped l.self.bytes.now l.self.count l.self.number (l.self.count - 2) l.initial.flags) ×
    (l.drops + (l.i - 1) ≤ l.self.count - 2)
