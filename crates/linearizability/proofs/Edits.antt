-- What each step does to the waiting list: an accepted delivery or loss takes the packet at its position out, and no other step takes one; what is added has room; and every
-- packet that waits has an object that there is.
use mathlib.Core.Path.{◌≡◌, refl, sym, ◌∙◌, subst}
use mathlib.Core.Bool.{Bool, true, false}
use mathlib.Core.List.{List, [], ◌∷◌, ◌++◌}
use mathlib.Core.Logic.{inl, inr}
use Prim.Native.Nat.{ℕ, suc, ◌+◌, ◌-◌, ◌≤◌, ◌<◌}
use native.Mathlib.Decide.{dec_lt}
use native.Mathlib.Omega.{arith}
use lib.Dec.{ltb}
use lib.ListN.{length, get_or, take}
use borrow.Author.Tests.{ltb-false, eqb-false}
use Rattle.lists.proofs.Tests.{untrue, by_test, both}
use Rattle.limits.specs as limits
use Rattle.history.specs.History.{◌∈◌, History}
use Rattle.history.proofs.Lists.{no_member, only-member, cases_cons, cases_append, in_take}
use Rattle.history.proofs.Entries.{Entry}
use Rattle.lists.specs.{without}
use Rattle.lists.proofs.Index.{at_in}
use Rattle.history.proofs.Lists.{in_get_d}
use Rattle.store.specs.declared.Write.{Write}
use Rattle.store.specs.{is_quorum}
use Rattle.chain.specs.{head_of, place_of, table_of}
use Rattle.quorum.specs.{next_entry, executes}
use Rattle.replicas.specs.Replicas.{pending_at, pending}
use Rattle.chain.proofs.Numbers.{table_live}
use Rattle.waiting.specs.declared.Packet.{Packet}
use Rattle.waiting.specs.declared.Edit.{Edit}
use Rattle.waiting.specs.Waiting.{WaitingList, blank, held, look_at, waits, edited, added}
use Rattle.waiting.proofs.Laws as waiting
use Rattle.protocol.specs.declared.Answer.{Answer}
use Rattle.protocol.specs.declared.Decision.{Decision}
use Rattle.protocol.specs.declared.Refusal.{Refusal}
use Rattle.protocol.specs.declared.Refusal.TheVariants.{Format, BufferTooShort}
use Rattle.protocol.specs.declared.Message.TheVariants.{Completion, Reply}
use Rattle.protocol.specs.declared.Step.{Step}
use Rattle.protocol.specs.Messages.{packet_of}
use Rattle.protocol.specs.Decisions.{Outcome, keeping, refusing}
use Rattle.protocol.specs.declared.Setup.{Setup}
use Rattle.protocol.specs.Steps.{Machine, given_by, position_of, is_malformed, decided, decided_in, after, started}
use Rattle.protocol.specs.Roles.{role_of}
use Rattle.protocol.specs.Answers.{no_freshness}
use Rattle.protocol.proofs.Effects.{takes_as, Oldest, EditEffect, edits_nothing, takes_out_lem, turns_into, answers_write, adds_new, adds_copy, sends_executed, sends_write, packet_at, step_effect}
use Rattle.write_log.proofs.Tables.{table_pending}
use Rattle.write_log.proofs.Holds.{no_write}
use Rattle.write_log.proofs.Leader.{next_there, executed_entry}
use Rattle.linearizability.proofs.Order.{in_drop}
use Rattle.linearizability.proofs.Waits.{room}
use Rattle.linearizability.proofs.Invariant.{chain_held, quorum_held, Good, done, refused_stays}
use Rattle.linearizability.proofs.Deliveries.{log_small}
use Rattle.linearizability.proofs.ChainMoves.{oldest_small}
use Rattle.linearizability.proofs.OneOrder.{good_after}
use Rattle.linearizability.proofs.Limits.{reached}

-- ---- the edit of a step

-- the step takes a packet out, if it is accepted
abbrev pub takes_out : Step → Answer → Bool
takes_out x a = takes_as (role_of x) a

pub record Edits (x : Step) (held : ℕ) (d : Decision) : Type 0 where
  pub takes : d.edit.take ≡ takes_out x d.answer
  pub at_is : d.edit.take ≡ true → d.edit.at ≡ position_of x
  pub most : d.edit.add ≤ 2
  pub inside : d.edit.take ≡ true → position_of x < held
  pub fits : d.edit.take ≡ true → held - 1 + d.edit.add ≤ 64
  pub small : (q : Packet) → q ∈ added d.edit → q.object < 1024

-- every packet that waits has an object that there is
abbrev pub Known : Machine → Type 0
Known m = (i : ℕ) → i < held m.waiting → (look_at m.waiting.packets i).object < 1024

-- none is added
none_small : (q : Packet) → q ∈ [] → q.object < 1024
none_small q i = absurd (no_member i)

-- one
one_small : (p q : Packet) → p.object < 1024 → q ∈ p ∷ [] → q.object < 1024
one_small p q s i = subst (λ (k : Packet). k.object < 1024) (sym (only-member i)) s

-- what the tail sends for a write
two_small : (w : Write) (q : Packet) → w.object < 1024 → q ∈ packet_of (Reply w.operation w.value 0 no_freshness) ∷ packet_of (Completion w.object w.stamp) ∷ [] → q.object < 1024
unfolding packet_of
two_small w q s i = elim (cases_cons i) [ inl e ↦ subst (λ (k : Packet). k.object < 1024) (sym e) (omega arith) | inr k ↦ one_small (packet_of (Completion w.object w.stamp)) q s k ]

module _ {m : Machine} {h : History} {es : List Entry} (g : Good m h es) (known : Known m) (x : Step) where
  -- the oldest write of a link is of an object that there is
  small_oldest : (w : Write) → is_quorum m.store ≡ false → Oldest m.store w → w.object < 1024
  small_oldest w chain (r, member, some, is) =
      let table = table_of m.store r in
      let p : 0 < pending m.store table = omega (arith, eqb-false (pending_at m.store (place_of m.store r) table) 0 some, table_pending m.store r (chain_held chain g.replicas).shown.falls member) in
      subst (λ (v : Write). v.object < 1024) (sym is) (oldest_small g (chain_held chain g.replicas) r table (table_live m.store r member) p)

  -- so is the one that the leader executes
  small_executed : (w : Write) → is_quorum m.store ≡ true → executes m.store ≡ true → w ≡ next_entry m.store (head_of m.store) → w.object < 1024
  small_executed w quorum can is =
      let k = quorum_held quorum g.replicas in
      let up = g.logged.rising in
      let from : get_or g.log g.n no_write ∈ g.log = in_get_d g.log g.n no_write (next_there k.shown can up (log_small g)) in
      subst (λ (v : Write). v.object < 1024) (sym (is ∙ executed_entry k.shown can up (log_small g))) (log_small g (get_or g.log g.n no_write) from)

  edits_of : {a : Answer} {e : Edit} → EditEffect (packet_at m x) (role_of x) m.store (held m.waiting) a e → Edits x (held m.waiting) (record { answer = a; edit = e })
  unfolding added position_of
  edits_of (edits_nothing n) =
      record { takes = sym n; at_is = untrue; most = omega arith; inside = untrue; fits = untrue; small = none_small }
  edits_of (takes_out_lem t i) =
      record { takes = sym t; at_is = λ e. refl; most = omega arith; inside = λ e. i; fits = λ e. omega (arith, waiting.held_most m.waiting); small = none_small }
  edits_of (turns_into q s t i) = record {
    takes = sym t;
    at_is = λ e. refl;
    most = omega arith;
    inside = λ e. i;
    fits = λ e. omega (arith, i, waiting.held_most m.waiting);
    small = λ p j. one_small (packet_of q) p s j;
  }
  edits_of (answers_write w s t i roomy) = record {
    takes = sym t;
    at_is = λ e. refl;
    most = omega arith;
    inside = λ e. i;
    fits = λ e. room m.waiting 1 2 roomy;
    small = λ p j. two_small w p s j;
  }
  edits_of (adds_new q s n roomy) =
      record { takes = sym n; at_is = untrue; most = omega arith; inside = untrue; fits = untrue; small = λ p j. one_small (packet_of q) p s j }
  edits_of (adds_copy f s i n roomy) =
      record { takes = sym n; at_is = untrue; most = omega arith; inside = untrue; fits = untrue; small = λ p j. one_small f p (omega (arith, s, known (position_of x) i)) j }
  edits_of (sends_executed w quorum can is n roomy) =
      record { takes = sym n; at_is = untrue; most = omega arith; inside = untrue; fits = untrue; small = λ p j. two_small w p (small_executed w quorum can is) j }
  edits_of (sends_write w chain old n roomy) =
      record { takes = sym n; at_is = untrue; most = omega arith; inside = untrue; fits = untrue; small = λ p j. two_small w p (small_oldest w chain old) j }

  pub edits_decided : Edits x (held m.waiting) (decided (given_by m) (packet_at m x) x).decision
  edits_decided = edits_of (step_effect (given_by m) (packet_at m x) x).edit

-- ---- the packets after a step

-- an element stands at a place
in_place_lem : {A : Type 0} {p : A} (d : A) (l : List A) → p ∈ l → (j : ℕ) × (j < length l) × (get_or l j d ≡ p)
in_place_lem d [] i = absurd (no_member i)
in_place_lem d (x ∷ l) i = elim (cases_cons i) [
  | inl e ↦ (0, omega arith, sym e)
  | inr k ↦ let (j, low, e) = in_place_lem d l k in (suc j, omega (arith, low), e)
]

-- one that is left was there
in_without : {A : Type 0} {p : A} (l : List A) (at : ℕ) → p ∈ without l at → p ∈ l
unfolding without
in_without l at i = elim (cases_append (take at l) i) [ inl j ↦ in_take at l j | inr j ↦ in_drop (suc at) l j ]

-- a list of packets all of whose objects there are
abbrev AllKnown : List Packet → Type 0
AllKnown l = (p : Packet) → p ∈ l → p.object < 1024

known_all : (m : Machine) → waiting.Roomy m.waiting → Known m → AllKnown (waits m.waiting)
known_all m wide k p i =
    let (j, low, e) = in_place_lem blank (waits m.waiting) i in
    subst (λ (q : Packet). q.object < 1024) (waiting.look_is m.waiting j (inside j low) ∙ e) (k j (inside j low))
  where
    inside : (j : ℕ) → j < length (waits m.waiting) → j < held m.waiting
    inside j low = omega (arith, low, waiting.length_waits m.waiting wide)

all_known : (m : Machine) → waiting.Roomy m.waiting → AllKnown (waits m.waiting) → Known m
all_known m wide k i h =
    subst (λ (q : Packet). q.object < 1024) (sym (waiting.look_is m.waiting i h))
    (k (get_or (waits m.waiting) i blank) (at_in (waits m.waiting) i blank (omega (arith, h, waiting.length_waits m.waiting wide))))

-- an edit that does not fit changes nothing; one that does leaves packets that waited, and adds its own
known_edited : (w : WaitingList) → waiting.Roomy w → waiting.Exact w → (x : Step) (d : Decision) → Edits x (held w) d → AllKnown (waits w) → AllKnown (waits (edited w d.edit))
known_edited w wide exact x d f k = go d.edit.take refl
  where
    e : Edit
    e = d.edit

    both_parts : (l : List Packet) → ((p : Packet) → p ∈ l → p ∈ waits w) → AllKnown (l ++ added e)
    both_parts l old p i = elim (cases_append l i) [ inl j ↦ k p (old p j) | inr j ↦ f.small p j ]

    keeps : e.take ≡ false → Dec (64 < held w + e.add) → AllKnown (waits (edited w e))
    keeps t (yes full) = subst (λ (v : WaitingList). AllKnown (waits v)) (sym (waiting.edited_over w e exact t full)) k
    keeps t (no fits) = subst AllKnown (sym (waiting.waits_edited_keeping w e wide exact t f.most (omega (arith, fits)))) (both_parts (waits w) (λ p i. i))

    takes : e.take ≡ true → AllKnown (waits (edited w e))
    takes t =
        subst AllKnown (sym (waiting.waits_edited_taking w e wide t (omega (arith, f.at_is t, f.inside t)) f.most (f.fits t)))
        (both_parts (without (waits w) e.at) (λ p i. in_without (waits w) e.at i))

    go : (b : Bool) → e.take ≡ b → AllKnown (waits (edited w e))
    go true t = takes t
    go false t = keeps t (dec_lt 64 (held w + e.add))

pub known_after : {m : Machine} {h : History} {es : List Entry} → Good m h es → Known m → (x : Step) → Known (after m x)
unfolding after decided_in
known_after {m} g k x =
    let P : Outcome → Type 0 = λ u. Known (done m u) in
    let stays : (r : Refusal) → P (keeping (given_by m) (refusing r)) = λ r. subst Known (sym (refused_stays m r)) k in
    both P (is_malformed x) (stays Format)
    (by_test P (ltb (length m.waiting.packets) limits.waiting) (λ short. stays BufferTooShort)
    (λ wide. moves (ltb-false (length m.waiting.packets) limits.waiting wide)))
  where
    moves : waiting.Roomy m.waiting → Known (done m (decided (given_by m) (look_at m.waiting.packets (position_of x)) x))
    moves wide =
        let u = decided (given_by m) (look_at m.waiting.packets (position_of x)) x in
        all_known (done m u) (rw (waiting.length_edited m.waiting u.decision.edit) wide)
        (known_edited m.waiting wide g.exact x u.decision (edits_decided g k x) (known_all m wide k))

pub known_reached : {m : Machine} {h : History} {es : List Entry} → Good m h es → Known m → (xs : List Step) → Known (reached m xs)
known_reached g k [] = k
known_reached {m} {h} {es} g k (x ∷ xs) = known_reached {m = after m x} (good_after g x) (known_after g k x) xs

-- nothing waits at the start
pub known_start : (b : Setup) (row : List Packet) → Known (started b row)
unfolding started
known_start b row i h = absurd (omega (arith, h, waiting.held_none row))
