-- What has moved so far: the packets after place `from` up to place i.
use Rattle.std.proofs.Common.{◌+◌, ◌-◌, ◌≡◌, ◌≤◌}
use Rattle.lists.specs.{moves}
use Rattle.waiting.specs.Waiting.{blank}
use Rattle.waiting.proofs.close_up.Given as goal

abbrev pub invariant-loop-i : goal.invariant-loop-i
invariant-loop-i l = (l.from ≤ l.i) × (l.i ≤ l.last) × (l.packets ≡ moves blank l.fn.packets l.from (l.i - l.from))

abbrev pub decreases-loop-i : goal.decreases-loop-i
decreases-loop-i l = l.last + 1 - l.i
