-- The invariant of the machine: its history has an order, its store shows the log, its waiting messages are fine, and its books agree with what happened.
use mathlib.Core.Path.{◌≡◌, refl, sym, ap, ◌∙◌, subst}
use mathlib.Core.Bool.{true, false}
use mathlib.Core.List.{List, [], ◌∷◌, ◌++◌}
use mathlib.Core.Logic.{inl, inr}
use Prim.Native.Nat.{ℕ, zero, suc, ◌+◌, ◌≤◌, ◌<◌}
use native.Mathlib.Nat.{sub_self}
use native.Mathlib.Omega.{arith}
use lib.ListN.{take}
use Rattle.limits.specs as limits
use Rattle.history.specs.History.{◌∈◌, Kind, reads, writes, History, begun, finished, Begun}
use Rattle.history.proofs.Lists.{in_insert, cases_append, only-member}
use Rattle.history.proofs.Entries.{Entry, New, Unfinished}
use Rattle.history.proofs.Growth.{finished_begun}
use Rattle.stamp.specs.Stamps.{stamp_of, number_of}
use Rattle.switch.specs.Numbers.{number_in, counter_in, committed_in, direct_in}
use Rattle.switch.proofs.Cover.{Covers}
use Rattle.switch.proofs.Counted.{SwitchInvariant}
use Rattle.operations.specs.{is_open, last_given}
use Rattle.operations.proofs.Counted.{Counted}
use Rattle.contexts.specs.{numbers_of}
use Rattle.store.specs.declared.Write.{Write}
use Rattle.store.specs.{is_quorum}
use Rattle.chain.specs.{is_member, table_of}
use Rattle.quorum.specs.{logged_by}
use Rattle.lists.proofs.Tests.{untrue}
use Rattle.joins.specs.{last_number}
use Rattle.replicas.specs.Links.{entries}
use Rattle.replicas.specs.Visible.{visible_count, made_visible}
use Rattle.waiting.specs.Waiting.{edited}
use Rattle.waiting.proofs.Laws as waiting
use Rattle.protocol.specs.declared.Answer.{Answer}
use Rattle.protocol.specs.declared.Answer.TheVariants.{Done, Finished, FinishedContext, Refused}
use Rattle.protocol.specs.declared.Message.{Message}
use Rattle.protocol.specs.declared.Message.TheVariants.{UnstampedWrite, SwitchRead, StampedWrite, DirectRead, NormalRead, Completion, Reply, ContextRead, DirectContext, NormalContext, ContextReply, Acknowledgement, Unknown}
use Rattle.protocol.specs.declared.Refusal.{Refusal}
use Rattle.protocol.specs.declared.Step.{Step}
use Rattle.protocol.specs.Decisions.{Outcome, keeping, refusing}
use Rattle.protocol.specs.Steps.{Machine, machine, given_by}
use Rattle.write_log.proofs.Shows.{Shows}
use Rattle.write_log.proofs.Places.{AtHead}
use Rattle.write_log.proofs.Joined.{JoinInvariant}
use Rattle.write_log.proofs.QuorumHolds.{QuorumHolds}
use Rattle.protocol.specs.Roles.{Role, Reads, Writes, Delivers, Loses, Repeats, GivesUp, Removes, Copies, Other, role_of}
use Rattle.protocol.proofs.Effects.{Sort, Unstamped, Stamped, OfRow, Acknowledges, Plain, sort_of}
use Rattle.linearizability.specs.Run.{begun_count, noted}
use Rattle.linearizability.proofs.Noted.{noted_as, open_noted_as, noted_as_lem}
use Rattle.linearizability.proofs.Visible.{shows}
use Rattle.linearizability.proofs.Logged.{Logged}
use Rattle.linearizability.proofs.Packets.{Fine, unstamped}
use Rattle.linearizability.proofs.Core.{Core}
use Rattle.linearizability.proofs.Bounds.{UpTo}
use Rattle.linearizability.proofs.Order.{finish_order}
use Rattle.linearizability.proofs.Waits.{messages, edited_nothing}

-- Req 11: what an acknowledgement says is so: a replica of the quorum store has logged that many entries
abbrev pub Acknowledged : List ℕ → ℕ → ℕ → Type 0
Acknowledged s q k = (is_quorum s ≡ true) × (is_member s q ≡ true) × (k ≤ logged_by s (table_of s q))

-- whom a waiting message is for: a stamped write for the present head or for a replica that is gone
abbrev pub SortPlaced : List ℕ → Sort → Type 0
SortPlaced s (Unstamped o) = Unit {0}
SortPlaced s (Stamped r) = AtHead s r
SortPlaced s (OfRow r) = Unit {0}
SortPlaced s (Acknowledges q k) = Acknowledged s q k
SortPlaced s Plain = Unit {0}

-- the replica that a message names, by its number: the one that it is for, or that sent an acknowledgement; 0 where it is for the switch or a client
abbrev pub addressee : Message → ℕ
addressee (UnstampedWrite o x v) = 0
addressee (SwitchRead o x) = 0
addressee (StampedWrite r w) = r
addressee (DirectRead r number c o x) = r
addressee (NormalRead r o x c) = r
addressee (Completion x t) = 0
addressee (Reply o v c f) = 0
addressee (ContextRead o r) = 0
addressee (DirectContext q number c o r) = q
addressee (NormalContext q o r) = q
addressee (ContextReply o r) = 0
addressee (Acknowledgement q k) = q
addressee Unknown = 0

-- and its number was given
abbrev pub Placed : List ℕ → Message → Type 0
Placed s q = SortPlaced s (sort_of q) × (addressee q ≤ last_number s)

-- the operation is on objects that there are
abbrev pub InRange : Kind → Type 0
InRange (reads xs) = (x : ℕ) → x ∈ xs → x < 1024
InRange (writes x v) = x < 1024

-- no operation finishes twice
abbrev pub EndsOnce : History → Type 0
EndsOnce [] = Unit {0}
EndsOnce (begun o k ∷ h) = EndsOnce h
EndsOnce (finished o vs ∷ h) = Unfinished h o × EndsOnce h

-- what the machine keeps of the operations agrees with what happened
pub record Books (opens : List ℕ) (h : History) : Type 0 where
  -- those open are numbered from 1 to the last number given, each once
  pub open_numbers_lem : Counted opens
  -- an open operation was begun, and has not finished
  pub opened : (o : ℕ) → is_open opens o ≡ true → Begun h o × Unfinished h o
  pub numbered : last_given opens ≡ begun_count h
  pub few : last_given opens ≤ limits.last_operation
  pub bounded : (o : ℕ) → Begun h o → UpTo (begun_count h) o
  pub ranged : (o : ℕ) (k : Kind) → begun o k ∈ h → InRange k
  pub ends_once : EndsOnce h

-- what holds of the switch; issued are the writes ever stamped
pub record SwitchHolds (issued : List Write) (w : List ℕ) : Type 0 where
  pub invariant : SwitchInvariant w
  -- a stamp bears the present switch's number or a former one's, which is below it
  pub numbers : (u : Write) → u ∈ issued → number_of u.stamp ≤ number_in w
  -- none is above the last that the switch gave
  pub given : (u : Write) → u ∈ issued → u.stamp ≤ stamp_of (number_in w) (counter_in w)
  -- the writes that the present switch stamped are covered by last-committed or by their objects' marks
  pub covered : (u : Write) → u ∈ issued → number_of u.stamp ≡ number_in w → Covers w u.object u.stamp
  -- Req 10: direct reads are on only with last-committed of the present switch
  pub own : direct_in w ≡ true → number_of (committed_in w) ≡ number_in w

-- every object lives in chain 0, which shows these writes
abbrev pub one_chain : ℕ → ℕ
one_chain x = 0

abbrev pub only : List Write → ℕ → List Write
only ws zero = ws
only ws (suc d) = []

-- the core and what holds of a message, with one chain that shows the first n writes of its log; c is the last-committed stamp
abbrev pub ChainCore : History → List Entry → List Write → List Write → ℕ → List Message → ℕ → List ℕ → Type 0
ChainCore h es issued log n ms c opens = Core one_chain h es issued (only (take n log)) ms (λ d. c) opens

abbrev pub ChainFine : History → List Entry → List Write → List Write → ℕ → List ℕ → Message → Type 0
ChainFine h es issued log n opens m = Fine one_chain h es issued (only (take n log)) opens m

-- what holds of the replicas of a chain: log are the writes that the head has applied, and the tail has applied the first n
pub record ChainHolds (s : List ℕ) (log : List Write) (n : ℕ) : Type 0 where
  pub kind : is_quorum s ≡ false
  pub shown : Shows s log n
  -- the places of the replicas, and what a newcomer has
  pub joined : JoinInvariant s

-- what holds of the replicas, by the kind of store: the first n writes of the log are visible
pub data ReplicasHold (s : List ℕ) (log : List Write) (n : ℕ) : Type 0 where
  in_chain : ChainHolds s log n → ReplicasHold s log n
  in_quorum : QuorumHolds s log n → ReplicasHold s log n

module _ {s : List ℕ} {log : List Write} {n : ℕ} where
  pub chain_held : is_quorum s ≡ false → ReplicasHold s log n → ChainHolds s log n
  chain_held e (in_chain k) = k
  chain_held e (in_quorum k) = untrue (sym e ∙ k.kind)

  pub quorum_held : is_quorum s ≡ true → ReplicasHold s log n → QuorumHolds s log n
  quorum_held e (in_chain k) = untrue (sym k.kind ∙ e)
  quorum_held e (in_quorum k) = k

-- es is the order; issued are the writes ever stamped
pub record Good (m : Machine) (h : History) (es : List Entry) : Type 0 where
  pub issued : List Write
  pub log : List Write
  pub n : ℕ
  pub core : ChainCore h es issued log n (messages m.waiting) (committed_in m.switch) m.opens
  pub logged : Logged one_chain issued log 0 n
  pub replicas : ReplicasHold m.store log n
  pub posted : (p : Message) → p ∈ messages m.waiting → Placed m.store p
  pub books : Books m.opens h
  -- each stamp that the switch gave and each unstamped write that waits has an operation of its own
  pub counted : counter_in m.switch + unstamped (messages m.waiting) ≤ last_given m.opens
  pub switch_holds : SwitchHolds issued m.switch
  pub exact : waiting.Exact m.waiting

-- ---- one step

-- the machine after an outcome
abbrev pub done : Machine → Outcome → Machine
done m u = machine u.switch u.store u.opens (edited m.waiting u.decision.edit)

abbrev pub finishing : Answer → History → List Entry → List Entry
finishing Done h es = es
finishing (Finished o v f) h es = finish_order h o (v ∷ []) es
finishing (FinishedContext o v) h es = finish_order h o (numbers_of v) es
finishing (Refused r) h es = es

-- the order one step later: a write goes to its end when it becomes visible, a read that finishes to the last place at which its object holds its value
abbrev pub order_next : Machine → Machine → Answer → History → List Entry → List Entry
order_next m k a h es = finishing a h (shows es (made_visible m.store k.store))

-- what holds after a step, of its outcome
abbrev pub Then : Step → Machine → History → List Entry → Outcome → Type 0
Then x m h es u = Good (done m u) (noted x u.decision.answer h) (order_next m (done m u) u.decision.answer h es)

-- no write becomes visible while as many are visible as before
pub nothing_visible : (s t : List ℕ) → visible_count t ≡ visible_count s → made_visible s t ≡ []
unfolding made_visible entries
nothing_visible s t e = rw (e, sub_self (visible_count s))

pub order_stays : (s t : List ℕ) (es : List Entry) → visible_count t ≡ visible_count s → shows es (made_visible s t) ≡ es
order_stays s t es e = rw (nothing_visible s t e)

-- a refusal is no event, and opens and closes none
pub refused_same : (k : Role) (r : Refusal) (h : History) (l : List ℕ) → (noted_as k (Refused r) h ≡ h) × (open_noted_as k (Refused r) h l ≡ l)
refused_same (Reads xs) r h l = (refl, refl)
refused_same (Writes x v) r h l = (refl, refl)
refused_same (Delivers at) r h l = (refl, refl)
refused_same (Loses at) r h l = (refl, refl)
refused_same (Repeats at) r h l = (refl, refl)
refused_same (GivesUp o) r h l = (refl, refl)
refused_same (Removes a) r h l = (refl, refl)
refused_same Copies r h l = (refl, refl)
refused_same Other r h l = (refl, refl)

pub noted_refused : (x : Step) (r : Refusal) (h : History) → noted x (Refused r) h ≡ h
noted_refused x r h = (noted_as_lem x (Refused r) h []).0 ∙ (refused_same (role_of x) r h []).0

-- a refused step leaves the machine as it was
pub refused_stays : (m : Machine) (r : Refusal) → done m (keeping (given_by m) (refusing r)) ≡ m
unfolding refusing
refused_stays m r = ap (machine m.switch m.store m.opens) (edited_nothing m.waiting)

pub good_refused : (x : Step) {m : Machine} {h : History} {es : List Entry} (r : Refusal) → Good m h es → Then x m h es (keeping (given_by m) (refusing r))
unfolding refusing
good_refused x {m} {h} {es} r g =
    rw (noted_refused x r h, order_stays m.store m.store es refl)
    (subst (λ (k : Machine). Good k h es) (sym (refused_stays m r)) g)

-- ---- parts of the invariant

-- what a change of the store leaves so that every waiting message stays well placed
pub record Keeps (s t : List ℕ) : Type 0 where
  pub last : last_number s ≤ last_number t
  pub heads : (r : ℕ) → AtHead s r → AtHead t r
  pub acknowledged : (q k : ℕ) → Acknowledged s q k → Acknowledged t q k

pub placed_by : {s t : List ℕ} → Keeps s t → (q : Message) → Placed s q → Placed t q
placed_by {s} {t} f q p = (go (sort_of q) p.0, omega (arith, f.last, p.1))
  where
    go : (k : Sort) → SortPlaced s k → SortPlaced t k
    go (Unstamped o) p = p
    go (Stamped r) p = f.heads r p
    go (OfRow r) p = p
    go (Acknowledges q k) p = f.acknowledged q k p
    go Plain p = p

-- in a chain no acknowledgement waits
pub chain_keeps : {s t : List ℕ} → is_quorum s ≡ false → last_number s ≤ last_number t → ((r : ℕ) → AtHead s r → AtHead t r) → Keeps s t
chain_keeps e last heads = record { last = last; heads = heads; acknowledged = λ q k a. untrue (sym e ∙ a.0) }

-- the messages of a list that lost one, and of one that gained one
pub posted_lost : (s : List ℕ) (a : List Message) (p : Message) (b : List Message) → ((q : Message) → q ∈ a ++ p ∷ b → Placed s q) → (q : Message) → q ∈ a ++ b → Placed s q
posted_lost s a p b f q m = f q (in_insert a p b m)

pub posted_add : (s : List ℕ) (l : List Message) (p : Message) → ((q : Message) → q ∈ l → Placed s q) → Placed s p → (q : Message) → q ∈ l ++ p ∷ [] → Placed s q
posted_add s l p f h q m = elim (cases_append l m) [ inl i ↦ f q i | inr i ↦ subst (Placed s) (sym (only-member i)) h ]

-- the next operation number is new, and not finished
pub new_number : {m : Machine} {h : History} {es : List Entry} → Good m h es → New h (suc (begun_count h))
new_number {m} {h} g b = omega (arith, (g.books.bounded (suc (begun_count h)) b).1)

pub new_unfinished : {m : Machine} {h : History} {es : List Entry} → Good m h es → Unfinished h (suc (begun_count h))
new_unfinished g f = new_number g (finished_begun g.core.visible.linearizes f)
