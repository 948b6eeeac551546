-- The outputs of the cuts so far stand in what is expected, from its front on.
use Rattle.std.proofs.Common.{◌≡◌, true, ◌+◌, ◌-◌, ◌≤◌, length}
use Rattle.agreement.specs.{stands_in, outputs_to}
use Rattle.agreement.proofs.cuts_agree_with_room.Given as goal

abbrev pub invariant-loop-cut : goal.invariant-loop-cut
invariant-loop-cut l = (l.cut ≤ length l.input + 1) × (l.at ≡ length (outputs_to l.cut l.input)) × (stands_in l.expected 0 (outputs_to l.cut l.input) ≡ true)
