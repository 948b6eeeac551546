-- The loop's invariant: what the passes that are left leave is what all leave.
use mathlib.Core.Path.{◌≡◌}
use Prim.Native.Nat.{◌-◌}
use Rattle.shortening.specs.Shortening.{rounds, most_records}
use Rattle.shortening.proofs.Input.go_round.Given as goal

abbrev pub invariant-loop-i : goal.invariant-loop-i
invariant-loop-i l =
    rounds (most_records - l._i) l.self.bytes.now l.self.count l.self.number l.flags ≡ rounds most_records l.self.bytes.now l.self.count l.self.number l.initial.flags
