-- The first i bytes of the part stand there.
use Rattle.std.proofs.Common.{◌≡◌, true, ◌+◌, ◌-◌, ◌≤◌, length}
use Rattle.agreement.specs.{agree_to}
use Rattle.agreement.proofs.stands_at.Given as goal

abbrev pub invariant-loop-i : goal.invariant-loop-i
invariant-loop-i l = (l.i ≤ length l.part) × (l.at + length l.part ≤ length l.s) × (agree_to l.s l.at l.part l.i ≡ true)
