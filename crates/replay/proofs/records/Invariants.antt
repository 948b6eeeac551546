-- The turns that are left end as all turns do.
use mathlib.Core.Path.{◌≡◌}
use Rattle.turns.specs.Promises.{turned, stands_as}
use Rattle.replay.proofs.records.Given as goal

abbrev pub invariant-loop-switch : goal.invariant-loop-switch
invariant-loop-switch l =
    turned l.run.left l.stop l.input (stands_as l.run l.switch l.store l.opens l.packets) l.out l.used ≡
    turned l.fn.run.left l.stop l.input (stands_as l.fn.run l.fn.switch l.fn.store l.fn.opens l.fn.packets) l.fn.out l.fn.used

abbrev pub decreases-loop-switch : goal.decreases-loop-switch
decreases-loop-switch l = l.run.left
