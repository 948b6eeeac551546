-- The waiting packets, as messages, and what holds of each: facts that stay true while the history grows.
use mathlib.Core.Path.{◌≡◌, refl, sym, ap, ◌∙◌, subst}
use mathlib.Core.Logic.{◌⊎◌, inl, inr, ◌≢◌}
use mathlib.Core.Bool.{true}
use mathlib.Core.List.{List, [], ◌∷◌, ◌++◌, map}
use Prim.Native.Nat.{ℕ, ◌+◌, ◌≤◌}
use native.Mathlib.Omega.{arith}
use lib.ListN.{length, take}
use Rattle.history.specs.History.{◌∈◌, reads, writes, Event, History, begun, Begun}
use Rattle.history.proofs.Lists.{here, there, no_member, only-member, cases_cons, cases_append, in_left, in_right, in_insert, Pairwise, pairwise_snoc, pairwise_remove, pairwise_at}
use Rattle.history.proofs.Entries.{Entry, InOrder}
use Rattle.history.proofs.Growth.{begun_at}
use Rattle.history.proofs.Readable.{Readable}
use Rattle.write_log.proofs.Log.{values, top}
use Rattle.contexts.specs.declared.Context.{Context}
use Rattle.contexts.specs.{numbers_of, is_count, size_at, context_at}
use Rattle.contexts.proofs.Places.{count_some}
use Rattle.contexts.proofs.Rows.{Apart, size_is}
use Rattle.store.specs.declared.Write.{Write}
use Rattle.protocol.specs.Answers.{new_read}
use Rattle.protocol.proofs.Effects.{Sort, Unstamped, Stamped, OfRow, Acknowledges, Plain, sort_of, Names}
use Rattle.protocol.specs.declared.Message.{Message}
use Rattle.protocol.specs.declared.Message.TheVariants.{UnstampedWrite, SwitchRead, StampedWrite, DirectRead, NormalRead, Completion, Reply, ContextRead, DirectContext, NormalContext, ContextReply, Acknowledgement, Unknown}
use Rattle.linearizability.proofs.Visible.{Wrote}

-- a reply of operation o, with value v, carried stamp c and freshness f: o is in the order with that value, and the reply is not `new`; or it is a read that can be put into
-- the order with that value, and if the reply is `new`, the order had a write from c on when the read was answered
abbrev pub Answered : History → List Entry → ℕ → ℕ → ℕ → ℕ → Type 0
Answered h es o v c f =
    (InOrder es o (v ∷ []) × (f ≢ new_read))
    ⊎ ((x : ℕ) × (begun o (reads (x ∷ [])) ∈ h) × (was : List Entry) × Readable h es o (x ∷ []) (v ∷ []) was × (f ≡ new_read → Wrote x c was))

-- a reply of a read o of a whole context: it can be put into the order with those values
abbrev pub AnsweredContext : History → List Entry → ℕ → List ℕ → Type 0
AnsweredContext h es o vs = (xs : List ℕ) × (begun o (reads xs) ∈ h) × (was : List Entry) × Readable h es o xs vs was

-- the numbers of row r
abbrev pub row_numbers : List ℕ → ℕ → List ℕ
row_numbers opens r = numbers_of (context_at opens r)

-- the objects live in chain d
abbrev pub Together : (ℕ → ℕ) → ℕ → List ℕ → Type 0
Together chain d xs = (x : ℕ) → x ∈ xs → chain x ≡ d

-- a read o of the objects xs that carries the stamp c: after whatever front part of these writes reaches c, the objects' values can be given to the read
abbrev pub Behind : History → List Entry → List Write → ℕ → ℕ → List ℕ → Type 0
Behind h es ws c o xs = (k : ℕ) → k ≤ length ws → c ≤ top 0 (take k ws) → Readable h es o xs (map (values (take k ws)) xs) []

-- what holds of a direct read: its objects live in one chain, the stamp that it carries is not above what that chain shows, and so for every replica that lags behind
abbrev pub Direct : (ℕ → ℕ) → History → List Entry → (ℕ → List Write) → ℕ → ℕ → List ℕ → Type 0
Direct chain h es shown c o xs = (d : ℕ) × Together chain d xs × (c ≤ top 0 (shown d)) × Behind h es (shown d) c o xs

-- what holds of a message; chain tells in which chain an object lives, shown has the visible writes of each chain, and opens has the rows of the contexts
abbrev pub Fine : (ℕ → ℕ) → History → List Entry → List Write → (ℕ → List Write) → List ℕ → Message → Type 0
Fine chain h es issued shown opens (UnstampedWrite o x v) = begun o (writes x v) ∈ h
Fine chain h es issued shown opens (SwitchRead o x) = begun o (reads (x ∷ [])) ∈ h
Fine chain h es issued shown opens (StampedWrite r w) = w ∈ issued
Fine chain h es issued shown opens (DirectRead r number c o x) = (begun o (reads (x ∷ [])) ∈ h) × Direct chain h es shown c o (x ∷ [])
Fine chain h es issued shown opens (NormalRead r o x c) = begun o (reads (x ∷ [])) ∈ h
Fine chain h es issued shown opens (Completion x s) = s ≤ top 0 (shown (chain x))
Fine chain h es issued shown opens (Reply o v c f) = Answered h es o v c f
Fine chain h es issued shown opens (ContextRead o r) = begun o (reads (row_numbers opens r)) ∈ h
Fine chain h es issued shown opens (DirectContext q number c o r) = (begun o (reads (row_numbers opens r)) ∈ h) × Direct chain h es shown c o (row_numbers opens r)
Fine chain h es issued shown opens (NormalContext q o r) = begun o (reads (row_numbers opens r)) ∈ h
Fine chain h es issued shown opens (ContextReply o r) = AnsweredContext h es o (row_numbers opens r)
Fine chain h es issued shown opens (Acknowledgement q k) = Unit {0}
Fine chain h es issued shown opens Unknown = Unit {0}

-- the message is the unstamped write of operation p
abbrev pub SortAsks : Sort → ℕ → Type 0
SortAsks (Unstamped o) p = o ≡ p
SortAsks (Stamped r) p = ⊥
SortAsks (OfRow r) p = ⊥
SortAsks (Acknowledges q k) p = ⊥
SortAsks Plain p = ⊥

abbrev pub Asks : Message → ℕ → Type 0
Asks q p = SortAsks (sort_of q) p

-- two messages are not the unstamped writes of one operation
abbrev pub Differ : Message → Message → Type 0
Differ m q = (o : ℕ) → Asks m o → Asks q o → ⊥

-- two messages name different rows
abbrev pub Others : Message → Message → Type 0
Others m q = (r s : ℕ) → Names m r → Names q s → Apart r s

-- what holds of the waiting messages
pub record Packets (chain : ℕ → ℕ) (h : History) (es : List Entry) (issued : List Write) (shown : ℕ → List Write) (opens : List ℕ) (messages : List Message) : Type 0 where
  pub fine : (m : Message) → m ∈ messages → Fine chain h es issued shown opens m
  -- an operation's unstamped write waits once at the most, and then has no stamp yet
  pub once : Pairwise Differ messages
  pub unstamped : (m : Message) (o : ℕ) → m ∈ messages → Asks m o → (w : Write) → w ∈ issued → w.operation ≢ o
  -- waiting messages name different rows, each of which holds 2 to 8 numbers
  pub apart : Pairwise Others messages
  pub used : (m : Message) (r : ℕ) → m ∈ messages → Names m r → is_count (size_at opens r) ≡ true

-- such a row is not free
pub not_free : (k : ℕ) → is_count k ≡ true → k ≢ 0
not_free k c e = omega (arith, e, count_some k c)

-- no packet waits
pub packets_start : {chain : ℕ → ℕ} {h : History} {es : List Entry} {issued : List Write} {shown : ℕ → List Write} {opens : List ℕ} → Packets chain h es issued shown opens []
packets_start = record {
  fine = λ m i. absurd (no_member i);
  once = tt;
  unstamped = λ m o i. absurd (no_member i);
  apart = tt;
  used = λ m r i. absurd (no_member i);
}

-- ---- the facts stay true

-- a later history, order, list of stamped writes and visible writes
pub record Grows (chain : ℕ → ℕ) (h : History) (es : List Entry) (issued : List Write) (shown : ℕ → List Write)
    (h' : History) (es' : List Entry) (issued' : List Write) (shown' : ℕ → List Write) : Type 0 where
  pub events : (e : Event) → e ∈ h → e ∈ h'
  pub entries : (e : Entry) → e ∈ es → e ∈ es'
  pub issues : (w : Write) → w ∈ issued → w ∈ issued'
  pub tops : (d : ℕ) → top 0 (shown d) ≤ top 0 (shown' d)
  pub reading : (o : ℕ) (xs vs : List ℕ) (was : List Entry) → Begun h o → Readable h es o xs vs was → Readable h' es' o xs vs was
  -- a front part of what a chain shows is one of those before, or its values can be given to every read
  pub fronts : (d k : ℕ) → k ≤ length (shown' d) → ((k ≤ length (shown d)) × (take k (shown' d) ≡ take k (shown d)))
      ⊎ ((o : ℕ) (xs : List ℕ) → Together chain d xs → Readable h' es' o xs (map (values (take k (shown' d))) xs) [])

module _ {chain : ℕ → ℕ} {h : History} {es : List Entry} {issued : List Write} {shown : ℕ → List Write} where
  -- an event
  pub grows_event : {e : Event} {es' : List Entry} → ((f : Entry) → f ∈ es → f ∈ es')
      → ((o : ℕ) (xs vs : List ℕ) (was : List Entry) → Begun h o → Readable h es o xs vs was → Readable (e ∷ h) es' o xs vs was)
      → Grows chain h es issued shown (e ∷ h) es' issued shown
  grows_event old r = record { events = λ f i. there i; entries = old; issues = λ w i. i; tops = λ d. omega arith; reading = r; fronts = λ d k l. inl (l, refl) }

  -- what holds of a direct read stays true
  direct_grows : {h' : History} {es' : List Entry} {issued' : List Write} {shown' : ℕ → List Write} → Grows chain h es issued shown h' es' issued' shown'
      → (c o : ℕ) (xs : List ℕ) → Begun h o → Direct chain h es shown c o xs → Direct chain h' es' shown' c o xs
  direct_grows g c o xs b (d, in_one, low, behind) = (
    d,
    in_one,
    omega (arith, g.tops d, low),
    λ k l reach. elim (g.fronts d k l) [
      | inl e ↦ rw e.1 (g.reading o xs (map (values (take k (shown d))) xs) [] b (behind k e.0 (rw e.1 at reach)))
      | inr now ↦ now o xs in_one
    ],
  )

  -- what holds of a message stays true
  pub fine_grows : {h' : History} {es' : List Entry} {issued' : List Write} {shown' : ℕ → List Write} → Grows chain h es issued shown h' es' issued' shown'
      → (opens : List ℕ) (m : Message) → Fine chain h es issued shown opens m → Fine chain h' es' issued' shown' opens m
  fine_grows g opens (UnstampedWrite o x v) f = g.events _ f
  fine_grows g opens (SwitchRead o x) f = g.events _ f
  fine_grows g opens (StampedWrite r w) f = g.issues w f
  fine_grows g opens (DirectRead r number c o x) f = (g.events _ f.0, direct_grows g c o (x ∷ []) (reads (x ∷ []), f.0) f.1)
  fine_grows g opens (NormalRead r o x c) f = g.events _ f
  fine_grows g opens (Completion x s) f = omega (arith, g.tops (chain x), f)
  fine_grows g opens (Reply o v c s) (inl f) = let i = f.0 in inl ((i.0, g.entries i.0 i.1, i.2, i.3), f.1)
  fine_grows g opens (Reply o v c s) (inr f) = inr (f.0, g.events _ f.1, f.2, g.reading o (f.0 ∷ []) (v ∷ []) f.2 (reads (f.0 ∷ []), f.1) f.3, f.4)
  fine_grows g opens (ContextRead o r) f = g.events _ f
  fine_grows g opens (DirectContext q number c o r) f =
      (g.events _ f.0, direct_grows g c o (row_numbers opens r) (reads (row_numbers opens r), f.0) f.1)
  fine_grows g opens (NormalContext q o r) f = g.events _ f
  fine_grows g opens (ContextReply o r) f =
      (f.0, g.events _ f.1, f.2, g.reading o f.0 (row_numbers opens r) f.2 (reads f.0, f.1) f.3)
  fine_grows g opens (Acknowledgement q k) f = tt
  fine_grows g opens Unknown f = tt

module _ {chain : ℕ → ℕ} {h : History} {es : List Entry} {issued : List Write} {shown : ℕ → List Write} {opens : List ℕ} where
  -- what holds of the waiting messages stays true
  pub packets_grows : {h' : History} {es' : List Entry} {shown' : ℕ → List Write} {messages : List Message} → Grows chain h es issued shown h' es' issued shown'
      → Packets chain h es issued shown opens messages → Packets chain h' es' issued shown' opens messages
  packets_grows g b =
      record { fine = λ m i. fine_grows g opens m (b.fine m i); once = b.once; unstamped = b.unstamped; apart = b.apart; used = b.used }

  -- the operation of an unstamped write that waits was begun
  pub packets_begun : {messages : List Message} → Packets chain h es issued shown opens messages → (m : Message) {o : ℕ} → m ∈ messages → Asks m o → Begun h o
  packets_begun p (UnstampedWrite q x v) i a = (writes x v, begun_at a (p.fine (UnstampedWrite q x v) i))
  packets_begun p (SwitchRead q x) i a = absurd a
  packets_begun p (StampedWrite r w) i a = absurd a
  packets_begun p (DirectRead r number c q x) i a = absurd a
  packets_begun p (NormalRead r q x c) i a = absurd a
  packets_begun p (Completion x s) i a = absurd a
  packets_begun p (Reply q v c f) i a = absurd a
  packets_begun p (ContextRead q r) i a = absurd a
  packets_begun p (DirectContext b number c q r) i a = absurd a
  packets_begun p (NormalContext b q r) i a = absurd a
  packets_begun p (ContextReply q r) i a = absurd a
  packets_begun p (Acknowledgement b k) i a = absurd a
  packets_begun p Unknown i a = absurd a

  -- ---- messages leave the list and join it

  -- one is lost or delivered
  pub packets_lose : (a : List Message) (m : Message) (b : List Message) → Packets chain h es issued shown opens (a ++ m ∷ b) → Packets chain h es issued shown opens (a ++ b)
  packets_lose a m b p = record {
    fine = λ q i. p.fine q (in_insert a m b i);
    once = pairwise_remove Differ a m b p.once;
    unstamped = λ q o i k. p.unstamped q o (in_insert a m b i) k;
    apart = pairwise_remove Others a m b p.apart;
    used = λ q r i n. p.used q r (in_insert a m b i) n;
  }

  -- one joins the list; if it is an unstamped write, none of its operation waits and none is stamped; if it names a row, that is not free, and no other that waits names it
  pub packets_join : (messages : List Message) (m : Message) → Fine chain h es issued shown opens m
      → ((o : ℕ) → Asks m o → ((q : Message) → q ∈ messages → Asks q o → ⊥) × ((w : Write) → w ∈ issued → w.operation ≢ o))
      → ((q : Message) → q ∈ messages → Others q m) → ((r : ℕ) → Names m r → is_count (size_at opens r) ≡ true)
      → Packets chain h es issued shown opens messages → Packets chain h es issued shown opens (messages ++ m ∷ [])
  packets_join messages m f new rows held p = record {
    fine = λ q i. elim (cases_append messages i) [ inl j ↦ p.fine q j | inr j ↦ subst (Fine chain h es issued shown opens) (sym (only-member j)) f ];
    once = pairwise_snoc Differ messages m p.once (λ q i o k l. (new o l).0 q i k);
    unstamped = λ q o i k. elim (cases_append messages i) [
      | inl j ↦ p.unstamped q o j k
      | inr j ↦ (new o (subst (λ (z : Message). Asks z o) (only-member j) k)).1
    ];
    apart = pairwise_snoc Others messages m p.apart rows;
    used = λ q r i n. elim (cases_append messages i) [
      | inl j ↦ p.used q r j n
      | inr j ↦ held r (subst (λ (z : Message). Names z r) (only-member j) n)
    ];
  }

  -- one that is no unstamped write, and names no row
  pub packets_add : (messages : List Message) (m : Message) → Fine chain h es issued shown opens m → ((o : ℕ) → Asks m o → ⊥) → ((r : ℕ) → Names m r → ⊥)
      → Packets chain h es issued shown opens messages → Packets chain h es issued shown opens (messages ++ m ∷ [])
  packets_add messages m f n k = packets_join messages m f (λ o a. absurd (n o a)) (λ q i r s a b. absurd (k s b)) (λ r b. absurd (k r b))

  -- the unstamped write of an operation of which none waits and none is stamped
  pub packets_ask : (messages : List Message) (o x v : ℕ) → begun o (writes x v) ∈ h → ((q : Message) → q ∈ messages → Asks q o → ⊥)
      → ((w : Write) → w ∈ issued → w.operation ≢ o) → Packets chain h es issued shown opens messages → Packets chain h es issued shown opens (messages ++ UnstampedWrite o x v ∷ [])
  packets_ask messages o x v f n u =
      packets_join messages (UnstampedWrite o x v) f (λ p e. (λ q i k. n q i (subst (Asks q) (sym e) k), λ w j z. u w j (z ∙ sym e)))
      (λ q i r s a b. absurd b) (λ r b. absurd b)

-- the switch stamps a write: its unstamped message goes, the stamped one comes
pub packets_stamp : {chain : ℕ → ℕ} {h : History} {es : List Entry} {issued : List Write} {shown : ℕ → List Write} {opens : List ℕ} (a b : List Message) (w : Write) (r : ℕ)
    → Packets chain h es issued shown opens (a ++ UnstampedWrite w.operation w.object w.value ∷ b)
    → Packets chain h es (issued ++ w ∷ []) shown opens (a ++ b ++ StampedWrite r w ∷ [])
packets_stamp {chain} {h} {es} {issued} {shown} {opens} a b w r p = packets_add (a ++ b) (StampedWrite r w) (in_right issued (here refl)) (λ o k. k) (λ o k. k) (record {
  fine = λ q i. fine_grows longer opens q (rest.fine q i);
  once = rest.once;
  unstamped = λ q o i k u j e. elim (cases_append issued j) [
    | inl l ↦ rest.unstamped q o i k u l e
    | inr l ↦
        let z : w.operation ≡ o = sym (ap (λ (v : Write). v.operation) (only-member l)) ∙ e in
        elim (pairwise_at Differ a asked b p.once q i) [ inl d ↦ d o z k | inr d ↦ d o k z ]
  ];
  apart = rest.apart;
  used = rest.used;
})
  where
    asked : Message
    asked = UnstampedWrite w.operation w.object w.value

    rest : Packets chain h es issued shown opens (a ++ b)
    rest = packets_lose a asked b p

    longer : Grows chain h es issued shown h es (issued ++ w ∷ []) shown
    longer = record { events = λ e i. i; entries = λ e i. i; issues = λ u i. in_left (w ∷ []) i; tops = λ d. omega arith; reading = λ o xs vs was n d. d; fronts = λ d k l. inl (l, refl) }

-- ---- the rows

-- the facts of a message stay true where the row that it names holds what it held
module _ (chain : ℕ → ℕ) (h : History) (es : List Entry) (issued : List Write) (shown : ℕ → List Write) (opens opens' : List ℕ) where
  -- the same of two contexts
  moved : (P : List ℕ → Type 0) {v w : Context} → w ≡ v → P (numbers_of v) → P (numbers_of w)
  moved P e p = subst (λ (k : Context). P (numbers_of k)) (sym e) p

  fine_rows : (m : Message) → ((r : ℕ) → Names m r → context_at opens' r ≡ context_at opens r) → Fine chain h es issued shown opens m → Fine chain h es issued shown opens' m
  fine_rows (UnstampedWrite o x v) same f = f
  fine_rows (SwitchRead o x) same f = f
  fine_rows (StampedWrite r w) same f = f
  fine_rows (DirectRead r number c o x) same f = f
  fine_rows (NormalRead r o x c) same f = f
  fine_rows (Completion x t) same f = f
  fine_rows (Reply o v c s) same f = f
  fine_rows (ContextRead o r) same f = moved (λ xs. begun o (reads xs) ∈ h) (same r refl) f
  fine_rows (DirectContext q number c o r) same f = (moved (λ xs. begun o (reads xs) ∈ h) (same r refl) f.0, moved (Direct chain h es shown c o) (same r refl) f.1)
  fine_rows (NormalContext q o r) same f = moved (λ xs. begun o (reads xs) ∈ h) (same r refl) f
  fine_rows (ContextReply o r) same f = moved (AnsweredContext h es o) (same r refl) f
  fine_rows (Acknowledgement q k) same f = f
  fine_rows Unknown same f = f

-- so do those of all that wait
pub packets_rows : {chain : ℕ → ℕ} {h : History} {es : List Entry} {issued : List Write} {shown : ℕ → List Write} {opens opens' : List ℕ} {messages : List Message}
    → ((q : Message) → q ∈ messages → (r : ℕ) → Names q r → context_at opens' r ≡ context_at opens r)
    → Packets chain h es issued shown opens messages → Packets chain h es issued shown opens' messages
packets_rows {chain} {h} {es} {issued} {shown} {opens} {opens'} same p = record {
  fine = λ m i. fine_rows chain h es issued shown opens opens' m (same m i) (p.fine m i);
  once = p.once;
  unstamped = p.unstamped;
  apart = p.apart;
  used = λ m r i n. ap is_count (sym (size_is opens' r) ∙ ap (λ (v : Context). v.count) (same m i r n) ∙ size_is opens r) ∙ p.used m r i n;
}

-- the rows of the others are not that of a message
pub rows_apart : {chain : ℕ → ℕ} {h : History} {es : List Entry} {issued : List Write} {shown : ℕ → List Write} {opens : List ℕ} (a : List Message) (m : Message) (b : List Message)
    → Packets chain h es issued shown opens (a ++ m ∷ b) → (r : ℕ) → Names m r → (q : Message) → q ∈ a ++ b → (s : ℕ) → Names q s → Apart r s
rows_apart a m b p r n q i s k = elim (pairwise_at Others a m b p.apart q i) [ inl d ↦ d r s n k | inr d ↦ λ e. d s r k n (sym e) ]

-- ---- how many unstamped writes wait

-- 1 for an unstamped write, 0 for every other message
abbrev pub sort_one : Sort → ℕ
sort_one (Unstamped o) = 1
sort_one (Stamped r) = 0
sort_one (OfRow r) = 0
sort_one (Acknowledges q k) = 0
sort_one Plain = 0

abbrev pub unstamped_one : Message → ℕ
unstamped_one q = sort_one (sort_of q)

-- how many unstamped writes a list of messages has
abbrev pub unstamped : List Message → ℕ
unstamped [] = 0
unstamped (p ∷ l) = unstamped_one p + unstamped l

-- two lists hold as many as both together
pub unstamped_append : (l r : List Message) → unstamped (l ++ r) ≡ unstamped l + unstamped r
unstamped_append [] r = omega arith
unstamped_append (p ∷ l) r = omega (arith, unstamped_append l r)

-- one message less
pub unstamped_lost : (a : List Message) (p : Message) (b : List Message) → unstamped (a ++ p ∷ b) ≡ unstamped_one p + unstamped (a ++ b)
unstamped_lost a p b = omega (arith, unstamped_append a (p ∷ b), unstamped_append a b)

-- one that waits is counted
pub unstamped_in : (l : List Message) {p : Message} → p ∈ l → unstamped_one p ≤ unstamped l
unstamped_in [] i = absurd (no_member i)
unstamped_in (q ∷ l) i = elim (cases_cons i) [
  | inl e ↦ omega (arith, ap unstamped_one e)
  | inr j ↦ omega (arith, unstamped_in l j)
]

-- a message that asks for no stamp is no unstamped write
pub asks_none : (p : Message) → ((o : ℕ) → Asks p o → ⊥) → unstamped_one p ≡ 0
asks_none p = go (sort_of p)
  where
    go : (k : Sort) → ((o : ℕ) → SortAsks k o → ⊥) → sort_one k ≡ 0
    go (Unstamped o) n = absurd (n o refl)
    go (Stamped r) n = refl
    go (OfRow r) n = refl
    go (Acknowledges q k) n = refl
    go Plain n = refl
