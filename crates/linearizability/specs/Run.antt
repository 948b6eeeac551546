-- The run that demand 3 speaks of: what happened in it, 'read from the steps and their answers, never from the model's own record'.
use Rattle.std.specs.Prelude.{List, [], ◌∷◌, ℕ, suc}
use Rattle.lists.specs.{index_of, without}
use Rattle.history.specs.History.{Kind, reads, writes, History, begun, finished}
use Rattle.contexts.specs.{context_of, numbers_of}
use Rattle.waiting.specs.declared.Packet.{Packet}
use Rattle.protocol.specs.declared.Answer.{Answer}
use Rattle.protocol.specs.declared.Answer.TheVariants.{Done, Finished, FinishedContext, Refused}
use Rattle.protocol.specs.declared.Setup.{Setup}
use Rattle.protocol.specs.declared.Step.{Step}
use Rattle.protocol.specs.declared.Step.TheVariants.{Start, BeginRead, BeginWrite, Deliver, Lose, Repeat, Advance, Replace, Tell, Remove, GiveUp, BeginContext, Join, Copy, Execute}
use Rattle.protocol.specs.Steps.{Machine, answer_to, after, started}

-- how many operations have begun
abbrev pub begun_count : History → ℕ
begun_count [] = 0
begun_count (begun o k ∷ h) = suc (begun_count h)
begun_count (finished o vs ∷ h) = begun_count h

-- 'The k-th accepted begin starts operation k, with the kind, the object and a write's value as that step gives them. A refused begin starts nothing.'
abbrev pub beginning : Kind → Answer → History → History
beginning k Done h = begun (suc (begun_count h)) k ∷ h
beginning k (Finished o v f) h = begun (suc (begun_count h)) k ∷ h
beginning k (FinishedContext o v) h = begun (suc (begun_count h)) k ∷ h
beginning k (Refused r) h = h

-- 'An operation finishes at the accepted deliver whose answer names it, with its value, as just finished.' A read of a whole context finishes with its values.
abbrev pub ending : Answer → History → History
ending Done h = h
ending (Finished o v f) h = finished o (v ∷ []) ∷ h
ending (FinishedContext o v) h = finished o (numbers_of v) ∷ h
ending (Refused r) h = h

-- the history, one step later
abbrev pub noted : Step → Answer → History → History
noted (Start b) a h = h
noted (BeginRead x) a h = beginning (reads (x ∷ [])) a h
noted (BeginWrite x v) a h = beginning (writes x v) a h
noted (Deliver at choice) a h = ending a h
noted (Lose at) a h = h
noted (Repeat at) a h = h
noted (Advance r) a h = h
noted (Replace number) a h = h
noted (Tell r) a h = h
noted (Remove r) a h = h
noted (GiveUp o) a h = h
noted (BeginContext x) a h = beginning (reads (numbers_of (context_of x))) a h
noted Join a h = h
noted Copy a h = h
noted Execute a h = h

-- 'Each step gets the state, the waiting packets and the open operations .. as the step before returned or left them'
abbrev pub history_from : Machine → History → List Step → History
history_from m h [] = h
history_from m h (x ∷ xs) = history_from (after m x) (noted x (answer_to m x) h) xs

-- what happened in the run of these steps from the empty store that a start gives, whatever the lent places for packets hold
abbrev pub history_of : Setup → List Packet → List Step → History
history_of b row xs = history_from (started b row) [] xs

-- ---- the open operations, of which there are at most 64 (refusal 5, 'OpenFull'): begun, not finished and not given up, the newest first

-- an accepted begin opens the operation that it starts
abbrev pub open_begun : Answer → History → List ℕ → List ℕ
open_begun Done h l = suc (begun_count h) ∷ l
open_begun (Finished o v f) h l = suc (begun_count h) ∷ l
open_begun (FinishedContext o v) h l = suc (begun_count h) ∷ l
open_begun (Refused r) h l = l

-- the operation is open no more
abbrev pub open_without : ℕ → List ℕ → List ℕ
open_without o l = without l (index_of l o)

-- the operation that an answer names as just finished is open no more
abbrev pub open_ended : Answer → List ℕ → List ℕ
open_ended Done l = l
open_ended (Finished o v f) l = open_without o l
open_ended (FinishedContext o v) l = open_without o l
open_ended (Refused r) l = l

-- nor is one that is given up, unless the step is refused
abbrev pub open_given_up : ℕ → Answer → List ℕ → List ℕ
open_given_up o Done l = open_without o l
open_given_up o (Finished p v f) l = open_without o l
open_given_up o (FinishedContext p v) l = open_without o l
open_given_up o (Refused r) l = l

-- the open operations, one step later; h is the history before the step
abbrev pub open_noted : Step → Answer → History → List ℕ → List ℕ
open_noted (Start b) a h l = l
open_noted (BeginRead x) a h l = open_begun a h l
open_noted (BeginWrite x v) a h l = open_begun a h l
open_noted (Deliver at choice) a h l = open_ended a l
open_noted (Lose at) a h l = l
open_noted (Repeat at) a h l = l
open_noted (Advance r) a h l = l
open_noted (Replace number) a h l = l
open_noted (Tell r) a h l = l
open_noted (Remove r) a h l = l
open_noted (GiveUp o) a h l = open_given_up o a l
open_noted (BeginContext x) a h l = open_begun a h l
open_noted Join a h l = l
open_noted Copy a h l = l
open_noted Execute a h l = l

abbrev pub open_from : Machine → History → List ℕ → List Step → List ℕ
open_from m h l [] = l
open_from m h l (x ∷ xs) = open_from (after m x) (noted x (answer_to m x) h) (open_noted x (answer_to m x) h l) xs

-- the operations that are open after the run of these steps from the empty store that a start gives
abbrev pub open_of : Setup → List Packet → List Step → List ℕ
open_of b row xs = open_from (started b row) [] [] xs
