-- What is decided of a step: its answer, an edit of the waiting list, and what the lent numbers of each layer then are.
use Rattle.std.specs.Prelude.{Bool, true, false, List, ℕ, ◌+◌, ◌-◌, ltb}
use Rattle.limits.specs as limits
use Rattle.waiting.specs.declared.Packet.{Packet}
use Rattle.waiting.specs.declared.Edit.{Edit}
use Rattle.waiting.specs.Waiting.{blank}
use Rattle.protocol.specs.declared.Refusal.{Refusal}
use Rattle.protocol.specs.declared.Answer.TheVariants.{Done, Refused}
use Rattle.protocol.specs.declared.Message.{Message}
use Rattle.protocol.specs.declared.Decision.{Decision}
use Rattle.protocol.specs.Messages.{packet_of}

-- what a step is decided from: the lent numbers of the switch, the replicas and the open operations, and how many packets wait
pub record Given : Type 0 where
  pub switch : List ℕ
  pub store : List ℕ
  pub opens : List ℕ
  pub held : ℕ

abbrev pub given : List ℕ → List ℕ → List ℕ → ℕ → Given
given switch store opens held = record { switch = switch; store = store; opens = opens; held = held }

-- what is decided, and what each layer then has
pub record Outcome : Type 0 where
  pub decision : Decision
  pub switch : List ℕ
  pub store : List ℕ
  pub opens : List ℕ

-- a decision with the one part that it changes
pub record Switched : Type 0 where
  pub decision : Decision
  pub switch : List ℕ

pub record Stored : Type 0 where
  pub decision : Decision
  pub store : List ℕ

pub record Opened : Type 0 where
  pub decision : Decision
  pub opens : List ℕ

abbrev pub switched : Decision → List ℕ → Switched
switched d w = record { decision = d; switch = w }

abbrev pub stored : Decision → List ℕ → Stored
stored d s = record { decision = d; store = s }

abbrev pub opened : Decision → List ℕ → Opened
opened d l = record { decision = d; opens = l }

-- what a decision does not say of a part stays as it was
abbrev pub keeping : Given → Decision → Outcome
keeping g d = record { decision = d; switch = g.switch; store = g.store; opens = g.opens }

abbrev pub changing_switch : Given → Switched → Outcome
changing_switch g u = record { decision = u.decision; switch = u.switch; store = g.store; opens = g.opens }

abbrev pub changing_store : Given → Stored → Outcome
changing_store g u = record { decision = u.decision; switch = g.switch; store = u.store; opens = g.opens }

abbrev pub changing_opens : Given → Opened → Outcome
changing_opens g u = record { decision = u.decision; switch = g.switch; store = g.store; opens = u.opens }

-- ---- edits of the waiting list

abbrev pub edit : Bool → ℕ → ℕ → Packet → Packet → Edit
edit take at add first second = record { take = take; at = at; add = add; first = first; second = second }

abbrev pub no_edit : Edit
no_edit = edit false 0 0 blank blank

abbrev pub take_out : ℕ → Edit
take_out at = edit true at 0 blank blank

abbrev pub take_out_add : ℕ → Packet → Edit
take_out_add at p = edit true at 1 p blank

abbrev pub take_out_add_two : ℕ → Packet → Packet → Edit
take_out_add_two at p q = edit true at 2 p q

abbrev pub add_one : Packet → Edit
add_one p = edit false 0 1 p blank

abbrev pub add_two : Packet → Packet → Edit
add_two p q = edit false 0 2 p q

-- ---- the commonest decisions

abbrev pub deciding : Edit → Decision
deciding e = record { answer = Done; edit = e }

-- a refusal changes nothing
unfoldable pub refusing : Refusal → Decision
refusing r = record { answer = Refused r; edit = no_edit }

-- the packet leaves the list, and nothing else happens
unfoldable pub dropping : ℕ → Decision
dropping at = deciding (take_out at)

-- the packet leaves the list, and another comes of it
unfoldable pub passing : ℕ → Message → Decision
passing at m = deciding (take_out_add at (packet_of m))

-- 'after the step more than 64 packets would wait', where some go out and some come in
unfoldable pub overfull : ℕ → ℕ → ℕ → Bool
overfull held out add = ltb limits.waiting (held - out + add)
