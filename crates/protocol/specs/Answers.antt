-- Document 01, 'Turned down', and document 02: the number of each refusal. Document 02, Req 01: the number of each word that a read's line can end with.
use Rattle.std.specs.Prelude.{Bool, true, false, ℕ}
use Rattle.protocol.specs.declared.Answer.{Answer}
use Rattle.protocol.specs.declared.Answer.TheVariants.{Done, Finished, FinishedContext, Refused}
use Rattle.protocol.specs.declared.Refusal.{Refusal}
use Rattle.protocol.specs.declared.Refusal.TheVariants.{Format, Replicas, ObjectNumber, OperationsUsedUp, OpenFull, WaitingFull, NoPacket, UnstampedRepeat, NotLive, NoLinkedWrite, SwitchNumber, LastReplica, NotOpen, InputTooLong, BufferTooShort, SameObject, ChainFull, JoinUnderWay, NoJoin, WrongStore, NothingToExecute}

abbrev pub refusal_number : Refusal → ℕ
refusal_number Format = 1
refusal_number Replicas = 2
refusal_number ObjectNumber = 3
refusal_number OperationsUsedUp = 4
refusal_number OpenFull = 5
refusal_number WaitingFull = 6
refusal_number NoPacket = 7
refusal_number UnstampedRepeat = 8
refusal_number NotLive = 9
refusal_number NoLinkedWrite = 10
refusal_number SwitchNumber = 11
refusal_number LastReplica = 12
refusal_number NotOpen = 13
refusal_number InputTooLong = 14
refusal_number BufferTooShort = 15
refusal_number SameObject = 16
refusal_number ChainFull = 17
refusal_number JoinUnderWay = 18
refusal_number NoJoin = 19
refusal_number WrongStore = 23
refusal_number NothingToExecute = 24

-- Req 01, 'ends with a new field': `-`, `old` and `new`. Freshness is the field's term for how a read's value stands to a pending write
abbrev pub no_freshness : ℕ
no_freshness = 0

abbrev pub old_read : ℕ
old_read = 1

abbrev pub new_read : ℕ
new_read = 2

-- the step was not refused
abbrev pub is_accepted : Answer → Bool
is_accepted Done = true
is_accepted (Finished o v f) = true
is_accepted (FinishedContext o v) = true
is_accepted (Refused r) = false
