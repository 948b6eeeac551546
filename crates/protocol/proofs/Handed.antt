-- Req 03, 'Every step but the delivery of an unstamped write or a completion and the replacing of the switch hands the stored number on, even a wrong one in a state handed
-- in': it hands the whole switch on.
use mathlib.Core.Path.{◌≡◌, refl, ap}
use mathlib.Core.List.{List}
use Prim.Native.Nat.{ℕ}
use Rattle.switch.specs.Numbers.{marks_in}
use Rattle.protocol.specs.declared.Message.{Message}
use Rattle.protocol.specs.declared.Message.TheVariants.{UnstampedWrite, Completion}
use Rattle.protocol.specs.declared.Step.{Step}
use Rattle.protocol.specs.declared.Step.TheVariants.{Deliver, Replace}
use Rattle.protocol.specs.Messages.{message_of}
use Rattle.protocol.specs.Steps.{Machine, after, stepped_by}
use Rattle.protocol.proofs.Effects.{SwitchEffect, switch_kept, marks, completes, replaces, packet_at, effect}

-- the step x, with message q at its position, is one of the three
pub data SetsMarks : Message → Step → Type 0 where
  by_write : (at choice o y v : ℕ) → SetsMarks (UnstampedWrite o y v) (Deliver at choice)
  by_completion : (at choice y t : ℕ) → SetsMarks (Completion y t) (Deliver at choice)
  by_replacing : (q : Message) (number : ℕ) → SetsMarks q (Replace number)

handed_on : {q : Message} {x : Step} {w w' : List ℕ} → SwitchEffect q x w w' → (SetsMarks q x → ⊥) → w' ≡ w
handed_on switch_kept n = refl
handed_on (marks at choice o y v e f) n = absurd (n (rw (e, f) (by_write at choice o y v)))
handed_on (completes at choice y t e f) n = absurd (n (rw (e, f) (by_completion at choice y t)))
handed_on {q} (replaces number e) n = absurd (n (rw e (by_replacing q number)))

-- whatever the state
pub switch_handed_on : (m : Machine) (x : Step) → (SetsMarks (message_of (packet_at m x)) x → ⊥) → (after m x).switch ≡ m.switch
unfolding after
switch_handed_on m x n = handed_on (effect m x).switch n

-- so the number that it hands back is the stored one
pub marks_handed_on : (m : Machine) (x : Step) → (SetsMarks (message_of (packet_at m x)) x → ⊥) → (stepped_by m x).marks ≡ marks_in m.switch
marks_handed_on m x n = ap marks_in (switch_handed_on m x n)
