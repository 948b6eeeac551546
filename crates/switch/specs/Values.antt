-- The whole switch as a value, slots included: what mark, complete and replace take and hand back.
use Rattle.std.specs.Prelude.{List, ℕ}
use Rattle.switch.specs.DirtySet.{marked, stamp_for}
use Rattle.switch.specs.declared.Switch.{Switch}
use Rattle.switch.specs.declared.Marked.{Marked}

abbrev pub switch_of : List ℕ → Switch
switch_of w = record { cells = w }

-- the switch after an object was to be marked, and the stamp that the write got
abbrev pub marked_switch : Switch → ℕ → Marked
marked_switch s o = record { stamp = stamp_for s.cells o; state = switch_of (marked s.cells o) }
