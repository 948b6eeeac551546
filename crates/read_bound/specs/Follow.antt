-- Document 02, Req 06: 'follow one packet of an open read from the switch on, through what it becomes', and what must not come between.
use Rattle.std.specs.Prelude.{Bool, true, false, cond, List, [], ◌∷◌, ◌≡◌, ℕ, ◌+◌, ◌-◌, ◌<◌, eqb, ltb}
use Rattle.limits.specs as limits
use Rattle.operations.specs.{is_open}
use Rattle.joins.specs.{copies_made}
use Rattle.waiting.specs.Waiting.{held, look_at}
use Rattle.protocol.specs.Answers.{is_accepted}
use Rattle.protocol.specs.declared.Message.{Message}
use Rattle.protocol.specs.declared.Message.TheVariants.{UnstampedWrite, SwitchRead, StampedWrite, DirectRead, NormalRead, Completion, Reply, ContextRead, DirectContext, NormalContext, ContextReply, Acknowledgement, Unknown}
use Rattle.protocol.specs.declared.Step.{Step}
use Rattle.protocol.specs.Messages.{message_of}
use Rattle.protocol.specs.Roles.{Role, Reads, Writes, Delivers, Loses, Repeats, GivesUp, Removes, Copies, Other, role_of}
use Rattle.protocol.specs.Steps.{Machine, answer_to, after}

-- ---- where the packet stands

-- at a position of the waiting list, or there no more
pub data Place : Type 0 where
  at : ℕ → Place
  gone : Place

-- the position of a packet when the one at position p has left the list: 'Taking a packet out moves each later one down one place'
abbrev pub moved_up : ℕ → ℕ → ℕ
moved_up p i = cond (ltb p i) (i - 1) i

-- a delivered packet becomes the packet that its delivery adds, which is then the last; where fewer wait after the delivery, none was added
abbrev pub becomes : ℕ → ℕ → Place
becomes before now = cond (ltb now before) gone (at (now - 1))

-- one accepted step later, where so many waited before it and so many do now
abbrev pub place_as : Role → ℕ → ℕ → ℕ → Place
place_as (Reads xs) before now i = at i
place_as (Writes x v) before now i = at i
place_as (Delivers p) before now i = cond (eqb p i) (becomes before now) (at (moved_up p i))
place_as (Loses p) before now i = cond (eqb p i) gone (at (moved_up p i))
place_as (Repeats p) before now i = at i
place_as (GivesUp o) before now i = at i
place_as (Removes r) before now i = at i
place_as Copies before now i = at i
place_as Other before now i = at i

abbrev pub place_next : Step → ℕ → ℕ → ℕ → Place
place_next x before now i = place_as (role_of x) before now i

-- one step later; a refused step moves nothing
abbrev pub followed : Machine → Step → Place → Place
followed m x (at i) = cond (is_accepted (answer_to m x)) (place_next x (held m.waiting) (held (after m x).waiting) i) (at i)
followed m x gone = gone

-- ---- its deliveries

abbrev pub delivers_as : Role → ℕ → Bool
delivers_as (Reads xs) i = false
delivers_as (Writes x v) i = false
delivers_as (Delivers p) i = eqb p i
delivers_as (Loses p) i = false
delivers_as (Repeats p) i = false
delivers_as (GivesUp o) i = false
delivers_as (Removes r) i = false
delivers_as Copies i = false
delivers_as Other i = false

abbrev pub delivers : Step → ℕ → Bool
delivers x i = delivers_as (role_of x) i

-- 1 for an accepted delivery of the packet, 0 for every other step
abbrev pub delivered_by : Machine → Step → Place → ℕ
delivered_by m x (at i) = cond (is_accepted (answer_to m x)) (cond (delivers x i) 1 0) 0
delivered_by m x gone = 0

-- ---- what must not come between

-- 'it is not lost, no replica is removed or joins, and the operation isn't given up': a replica joins by the sixteenth copy. o is the operation, i the packet's position
abbrev pub hinders_as : Machine → ℕ → Role → ℕ → Bool
hinders_as m o (Reads xs) i = false
hinders_as m o (Writes x v) i = false
hinders_as m o (Delivers p) i = false
hinders_as m o (Loses p) i = eqb p i
hinders_as m o (Repeats p) i = false
hinders_as m o (GivesUp p) i = eqb p o
hinders_as m o (Removes r) i = true
hinders_as m o Copies i = eqb (copies_made m.store + 1) limits.copies
hinders_as m o Other i = false

abbrev pub hinders : Machine → ℕ → Step → ℕ → Bool
hinders m o x i = hinders_as m o (role_of x) i

-- a refused step hinders nothing, and nothing hinders a packet that is gone
abbrev pub is_hindered : Machine → ℕ → Step → Place → Bool
is_hindered m o x (at i) = cond (is_accepted (answer_to m x)) (hinders m o x i) false
is_hindered m o x gone = false

-- ---- a run

-- where the packet stands after these steps
abbrev pub place_after : Machine → Place → List Step → Place
place_after m w [] = w
place_after m w (x ∷ xs) = place_after (after m x) (followed m x w) xs

-- how many of these steps deliver it
abbrev pub deliveries : Machine → Place → List Step → ℕ
deliveries m w [] = 0
deliveries m w (x ∷ xs) = delivered_by m x w + deliveries (after m x) (followed m x w) xs

-- none of them hinders it
abbrev pub Unhindered : Machine → ℕ → Place → List Step → Type 0
Unhindered m o w [] = Unit {0}
Unhindered m o w (x ∷ xs) = (is_hindered m o x w ≡ false) × Unhindered (after m x) o (followed m x w) xs

-- 'after at most four of its deliveries'
abbrev pub most_deliveries : ℕ
most_deliveries = 4

-- ---- where it begins

-- what a message is to a read: it asks the switch, a replica, or the one that answers normal reads for an operation, or answers one; or it is of no read
pub data ReadStage : Type 0 where
  AtSwitch : ℕ → ReadStage
  AtReplica : ℕ → ℕ → ReadStage
  AtReadReplica : ℕ → ℕ → ReadStage
  Replied : ℕ → ReadStage
  NoRead : ReadStage

abbrev pub stage_of : Message → ReadStage
stage_of (UnstampedWrite p x v) = NoRead
stage_of (SwitchRead p x) = AtSwitch p
stage_of (StampedWrite r w) = NoRead
stage_of (DirectRead r number t p x) = AtReplica r p
stage_of (NormalRead r p x t) = AtReadReplica r p
stage_of (Completion x t) = NoRead
stage_of (Reply p v t f) = Replied p
stage_of (ContextRead p r) = AtSwitch p
stage_of (DirectContext q number t p r) = AtReplica q p
stage_of (NormalContext q p r) = AtReadReplica q p
stage_of (ContextReply p r) = Replied p
stage_of (Acknowledgement q k) = NoRead
stage_of Unknown = NoRead

-- the message asks the switch for a read of operation o, of one object or several
abbrev pub asks_as : ℕ → ReadStage → Bool
asks_as o (AtSwitch p) = eqb p o
asks_as o (AtReplica r p) = false
asks_as o (AtReadReplica r p) = false
asks_as o (Replied p) = false
asks_as o NoRead = false

abbrev pub asks_for : ℕ → Message → Bool
asks_for o q = asks_as o (stage_of q)

-- such a packet waits at position i, and operation o is open
pub record ReadAtSwitch (m : Machine) (i o : ℕ) : Type 0 where
  pub waits : i < held m.waiting
  pub asks : asks_for o (message_of (look_at m.waiting.packets i)) ≡ true
  pub still_open : is_open m.opens o ≡ true
