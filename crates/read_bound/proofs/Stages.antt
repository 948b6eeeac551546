-- What a followed packet is after so many deliveries, and that a step that does not hinder leaves it so.
use mathlib.Core.Path.{◌≡◌, refl, sym, ap, ◌∙◌}
use mathlib.Core.Bool.{Bool, true, false, cond}
use mathlib.Core.List.{List, [], ◌∷◌, ◌++◌}
use mathlib.Core.Logic.{◌⊎◌, inl, inr}
use Prim.Native.Nat.{ℕ, suc, ◌≤◌, ◌<◌}
use native.Mathlib.Decide.{ℕ_discrete}
use native.Mathlib.Omega.{arith}
use lib.Dec.{eqb}
use lib.ListN.{take, drop}
use borrow.Author.Tests.{eqb-true, eqb-false}
use Rattle.history.specs.History.{◌∈◌, Event, History, finished, Finished}
use Rattle.history.proofs.Lists.{here, there, no_member, cases_cons}
use Rattle.lists.specs.{index_of, without}
use Rattle.chain.specs.{is_member, is_read_replica}
use Rattle.waiting.specs.Waiting.{held, look_at}
use Rattle.protocol.specs.declared.Answer.{Answer}
use Rattle.protocol.specs.declared.Answer.TheVariants.{Done, Finished as FinishedWith, FinishedContext, Refused}
use Rattle.protocol.specs.declared.Message.{Message}
use Rattle.protocol.specs.declared.Step.{Step}
use Rattle.protocol.specs.Messages.{message_of}
use Rattle.protocol.specs.Steps.{Machine}
use Rattle.contexts.specs.{numbers_of}
use Rattle.protocol.specs.Roles.{Role, Reads, Writes, Delivers, Loses, Repeats, GivesUp, Removes, Copies, Other, role_of}
use Rattle.linearizability.proofs.Noted.{noted_as, open_noted_as, noted_as_lem}
use Rattle.linearizability.specs.Run.{beginning, ending, noted, open_begun, open_ended, open_given_up, open_without, open_noted}
use Rattle.read_bound.specs.Follow.{ReadStage, AtSwitch, AtReplica, AtReadReplica, Replied, NoRead, stage_of, Place, at, gone, hinders_as, hinders}
use Rattle.read_bound.proofs.Members.{SameChain, chain_self, member_kept, read_kept}

-- what a packet of a read of operation o is after k deliveries, with this store: it asks the switch; or it asks a live replica; or the tail; or it is a reply
abbrev pub StageAs : List ℕ → ℕ → ℕ → ReadStage → Type 0
StageAs s o k (AtSwitch p) = (p ≡ o) × (k ≤ 0)
StageAs s o k (AtReplica r p) = (p ≡ o) × (k ≤ 1) × (is_member s r ≡ true)
StageAs s o k (AtReadReplica r p) = (p ≡ o) × (k ≤ 2) × (is_member s r ≡ true) × (is_read_replica s r ≡ true)
StageAs s o k (Replied p) = (p ≡ o) × (k ≤ 3)
StageAs s o k NoRead = ⊥

abbrev pub Stage : List ℕ → ℕ → ℕ → Message → Type 0
Stage s o k q = StageAs s o k (stage_of q)

-- it has been delivered three times at the most
most_as : (s : List ℕ) (o k : ℕ) (q : ReadStage) → StageAs s o k q → k ≤ 3
most_as s o k (AtSwitch p) g = omega (arith, g.1)
most_as s o k (AtReplica r p) g = omega (arith, g.1)
most_as s o k (AtReadReplica r p) g = omega (arith, g.1)
most_as s o k (Replied p) g = g.1
most_as s o k NoRead g = absurd g

pub stage_most : (s : List ℕ) (o k : ℕ) (msg : Message) → Stage s o k msg → k ≤ 3
stage_most s o k msg = most_as s o k (stage_of msg)

-- so with the same live replicas, and where no more deliveries are counted
kept_as : {s t : List ℕ} → SameChain s t → (o k k' : ℕ) → k' ≤ k → (q : ReadStage) → StageAs s o k q → StageAs t o k' q
kept_as e o k k' l (AtSwitch p) g = (g.0, omega (arith, l, g.1))
kept_as e o k k' l (AtReplica r p) g = (g.0, omega (arith, l, g.1), member_kept e r ∙ g.2)
kept_as e o k k' l (AtReadReplica r p) g = (g.0, omega (arith, l, g.1), member_kept e r ∙ g.2, read_kept e r ∙ g.3)
kept_as e o k k' l (Replied p) g = (g.0, omega (arith, l, g.1))
kept_as e o k k' l NoRead g = g

pub stage_kept : {s t : List ℕ} → SameChain s t → (o k k' : ℕ) → k' ≤ k → (msg : Message) → Stage s o k msg → Stage t o k' msg
stage_kept e o k k' l msg = kept_as e o k k' l (stage_of msg)

-- ---- the operation is open, or has finished

abbrev pub Heeded : History → List ℕ → ℕ → Type 0
Heeded h l o = (o ∈ l) ⊎ Finished h o

-- what happened has happened
later : {e : Event} {h : History} {o : ℕ} → Finished h o → Finished (e ∷ h) o
later f = (f.0, there f.1)

finished_begin : (a : Answer) (h : History) (o : ℕ) (k : _) → Finished h o → Finished (beginning k a h) o
finished_begin Done h o k f = later f
finished_begin (FinishedWith p v s) h o k f = later f
finished_begin (FinishedContext p v) h o k f = later f
finished_begin (Refused r) h o k f = f

finished_ending : (a : Answer) (h : History) (o : ℕ) → Finished h o → Finished (ending a h) o
finished_ending Done h o f = f
finished_ending (FinishedWith p v s) h o f = later f
finished_ending (FinishedContext p v) h o f = later f
finished_ending (Refused r) h o f = f

finished_as : (k : Role) (a : Answer) (h : History) (o : ℕ) → Finished h o → Finished (noted_as k a h) o
finished_as (Reads xs) a h o f = finished_begin a h o _ f
finished_as (Writes x v) a h o f = finished_begin a h o _ f
finished_as (Delivers p) a h o f = finished_ending a h o f
finished_as (Loses p) a h o f = f
finished_as (Repeats p) a h o f = f
finished_as (GivesUp p) a h o f = f
finished_as (Removes r) a h o f = f
finished_as Copies a h o f = f
finished_as Other a h o f = f

pub finished_noted : (x : Step) (a : Answer) (h : History) (o : ℕ) → Finished h o → Finished (noted x a h) o
finished_noted x a h o f = rw (noted_as_lem x a h []).0 (finished_as (role_of x) a h o f)

-- another operation stays in the list
in_open : (o p : ℕ) (l : List ℕ) → o ∈ l → (p ≡ o → ⊥) → o ∈ open_without p l
unfolding without index_of
in_open o p [] i n = absurd (no_member i)
in_open o p (q ∷ l) i n = go (eqb q p) refl (in_open o p l)
  where
    go : (b : Bool) → eqb q p ≡ b → (o ∈ l → (p ≡ o → ⊥) → o ∈ take (index_of l p) l ++ drop (suc (index_of l p)) l)
        → o ∈ take (cond b 0 (suc (index_of l p))) (q ∷ l) ++ drop (suc (cond b 0 (suc (index_of l p)))) (q ∷ l)
    go true e rest = elim (cases_cons i) [ inl d ↦ absurd (n (sym (eqb-true q p e) ∙ sym d)) | inr j ↦ j ]
    go false e rest = elim (cases_cons i) [ inl d ↦ here d | inr j ↦ there (rest j n) ]

begun_open : (a : Answer) (h : History) (l : List ℕ) (o : ℕ) → o ∈ l → o ∈ open_begun a h l
begun_open Done h l o i = there i
begun_open (FinishedWith p v s) h l o i = there i
begun_open (FinishedContext p v) h l o i = there i
begun_open (Refused r) h l o i = i

-- an operation that finishes is taken out of the list
ended_heeded : (a : Answer) (h : History) (l : List ℕ) (o : ℕ) → o ∈ l → Heeded (ending a h) (open_ended a l) o
ended_heeded Done h l o i = inl i
ended_heeded (FinishedWith p v s) h l o i = elim (ℕ_discrete p o) [
  | yes e ↦ inr (v ∷ [], here (ap (λ (q : ℕ). finished q (v ∷ [])) (sym e)))
  | no n ↦ inl (in_open o p l i n)
]
ended_heeded (FinishedContext p v) h l o i = elim (ℕ_discrete p o) [
  | yes e ↦ inr (numbers_of v, here (ap (λ (q : ℕ). finished q (numbers_of v)) (sym e)))
  | no n ↦ inl (in_open o p l i n)
]
ended_heeded (Refused r) h l o i = inl i

given_up : (p : ℕ) (a : Answer) (l : List ℕ) (o : ℕ) → (p ≡ o → ⊥) → o ∈ l → o ∈ open_given_up p a l
given_up p Done l o n i = in_open o p l i n
given_up p (FinishedWith q v s) l o n i = in_open o p l i n
given_up p (FinishedContext q v) l o n i = in_open o p l i n
given_up p (Refused r) l o n i = i

-- a step that does not give the operation up
heeded_as : (m : Machine) (i : ℕ) (k : Role) (a : Answer) (h : History) (l : List ℕ) (o : ℕ) → hinders_as m o k i ≡ false → o ∈ l → Heeded (noted_as k a h) (open_noted_as k a h l) o
heeded_as m i (Reads xs) a h l o d j = inl (begun_open a h l o j)
heeded_as m i (Writes x v) a h l o d j = inl (begun_open a h l o j)
heeded_as m i (Delivers p) a h l o d j = ended_heeded a h l o j
heeded_as m i (Loses p) a h l o d j = inl j
heeded_as m i (Repeats p) a h l o d j = inl j
heeded_as m i (GivesUp p) a h l o d j = inl (given_up p a l o (eqb-false p o d) j)
heeded_as m i (Removes r) a h l o d j = inl j
heeded_as m i Copies a h l o d j = inl j
heeded_as m i Other a h l o d j = inl j

pub heeded_noted : (m : Machine) (i : ℕ) (x : Step) (a : Answer) (h : History) (l : List ℕ) (o : ℕ) → hinders m o x i ≡ false → Heeded h l o → Heeded (noted x a h) (open_noted x a h l) o
heeded_noted m i x a h l o d (inr f) = inr (finished_noted x a h o f)
heeded_noted m i x a h l o d (inl j) = let e = noted_as_lem x a h l in rw (e.0, e.1) (heeded_as m i (role_of x) a h l o d j)

-- ---- the followed packet

-- while it waits it has a stage, and the operation is open or has finished; when it is gone the operation has finished
abbrev pub Heard : Machine → History → List ℕ → ℕ → ℕ → Place → Type 0
Heard m h l o k (at i) = (i < held m.waiting) × Stage m.store o k (message_of (look_at m.waiting.packets i)) × Heeded h l o
Heard m h l o k gone = (k ≤ 4) × Finished h o

-- the same with fewer deliveries counted
pub heard_fewer : (m : Machine) (h : History) (l : List ℕ) (o k k' : ℕ) (w : Place) → k' ≤ k → Heard m h l o k w → Heard m h l o k' w
heard_fewer m h l o k k' (at i) e g = (g.0, stage_kept (chain_self m.store) o k k' e (message_of (look_at m.waiting.packets i)) g.1, g.2)
heard_fewer m h l o k k' gone e g = (omega (arith, e, g.0), g.1)
