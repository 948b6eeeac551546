-- How a linearization grows with the history: (1) an operation begins, (2) a write becomes visible, (3) an operation of the order finishes,
-- (4) a read finishes and takes its place.
use mathlib.Core.Path.{◌≡◌, refl, sym, subst}
use mathlib.Core.Logic.{◌⊎◌, inl, inr, ◌≢◌}
use mathlib.Core.List.{List, [], ◌∷◌, ◌++◌, map}
use Prim.Native.Nat.{ℕ}
use native.Mathlib.Omega.{arith}
use Rattle.history.specs.History.{◌∈◌, Kind, reads, writes, Event, History, begun, finished, Begun, Finished, Precedes}
use Rattle.history.proofs.Lists.{here, there, only-member, cases_cons, cases_append, in_left, in_right, cases_insert, in_insert, inserted, pairwise_imply, pairwise_insert, pairwise_snoc}
use Rattle.history.proofs.Entries.{Entry, read_entry, write_entry, empty, after, legal_append, legal_read, New, Unfinished, IsWrite, InOrder, Recorded, MayPrecede, Linearizes}

-- ---- histories

-- another event than the newest is older
pub older : {e f : Event} {h : History} → f ∈ e ∷ h → (f ≡ e → ⊥) → f ∈ h
older m n = elim (cases_cons m) [ inl e ↦ absurd (n e) | inr t ↦ t ]

-- a begin is no finish
pub begun_not_finished : {o p : ℕ} {k : Kind} {vs : List ℕ} → begun o k ≡ finished p vs → ⊥
begun_not_finished e = let z : ◌≡◌ {A = ℕ} 0 1 = cc in omega arith

-- an event of an operation, where its number is told in two ways
pub begun_at : {h : History} {o p : ℕ} {k : Kind} → o ≡ p → begun o k ∈ h → begun p k ∈ h
begun_at {h} {k} e m = subst (λ (q : ℕ). begun q k ∈ h) e m

pub finished_at : {h : History} {o p : ℕ} {vs : List ℕ} → o ≡ p → finished o vs ∈ h → finished p vs ∈ h
finished_at {h} {vs} e m = subst (λ (q : ℕ). finished q vs ∈ h) e m

-- what precedes an operation has finished
pub precedes_finished : (a b : ℕ) (h : History) → Precedes a b h → Finished h a
precedes_finished a b [] p = absurd p
precedes_finished a b (begun o k ∷ h) (inl p) = (p.1.0, there p.1.1)
precedes_finished a b (begun o k ∷ h) (inr p) = let f = precedes_finished a b h p in (f.0, there f.1)
precedes_finished a b (finished o vs ∷ h) p = let f = precedes_finished a b h p in (f.0, there f.1)

-- the begin of another operation changes nothing in what precedes an operation
pub precedes_begin : {h : History} {n a b : ℕ} (j : Kind) → New h n → Begun h b → Precedes a b (begun n j ∷ h) → Precedes a b h
precedes_begin j w m (inl p) = absurd (w (m.0, begun_at p.0 m.1))
precedes_begin j w m (inr p) = p

-- an entry stays recorded
recorded_older : {h : History} (e : Entry) (x : Event) → Recorded h e → Recorded (x ∷ h) e
recorded_older e x r = (there r.0, elim r.1 [ inl f ↦ inl (there f) | inr w ↦ inr w ])

module _ {h : History} {es : List Entry} (l : Linearizes h es) where
  -- a finished operation was begun
  pub finished_begun : {o : ℕ} → Finished h o → Begun h o
  finished_begun {o} f = let c = l.complete o f.0 f.1 in (c.0.kind, begun_at c.2 (l.recorded c.0 c.1).0)

  -- an unfinished read is not in the order
  pub unfinished_read_out : {o : ℕ} {xs : List ℕ} → begun o (reads xs) ∈ h → Unfinished h o → (e : Entry) → e ∈ es → e.operation ≢ o
  unfinished_read_out {o} {xs} m w e i q =
      let r = l.recorded e i in
      elim r.1 [ inl f ↦ w (e.values, finished_at q f) | inr u ↦ subst IsWrite (l.one_kind o e.kind (reads xs) (begun_at q r.0) m) u ]

  -- a finish begins nothing
  one_kind_finish : {p : ℕ} {vs : List ℕ} (o : ℕ) (k k' : Kind) → begun o k ∈ finished p vs ∷ h → begun o k' ∈ finished p vs ∷ h → k ≡ k'
  one_kind_finish o k k' m n = l.one_kind o k k' (older m begun_not_finished) (older n begun_not_finished)

  -- (1) a new operation begins: the order stays
  pub linearizes_begin : {o : ℕ} {k : Kind} → New h o → Linearizes (begun o k ∷ h) es
  linearizes_begin {o} {k} w = record {
    one_kind = λ p i j m n. one_kind p i j (cases_cons m) (cases_cons n);
    begun_first = begun_first;
    complete = λ p vs m. l.complete p vs (older m (λ e. begun_not_finished (sym e)));
    recorded = λ e m. recorded_older e (begun o k) (l.recorded e m);
    ordered = pairwise_imply (MayPrecede h) (MayPrecede (begun o k ∷ h)) es
        (λ e f m n p. (p.0, λ q. p.1 (precedes_begin k w (e.kind, (l.recorded e m).0) q)))
        l.ordered;
    legal = l.legal;
  }
    where
      one_kind : (p : ℕ) (i j : Kind) → (begun p i ≡ begun o k) ⊎ (begun p i ∈ h) → (begun p j ≡ begun o k) ⊎ (begun p j ∈ h) → i ≡ j
      one_kind p i j (inl e) (inl f) = cc
      one_kind p i j (inl e) (inr n) = absurd (w (j, begun_at (cc) n))
      one_kind p i j (inr m) (inl f) = absurd (w (i, begun_at (cc) m))
      one_kind p i j (inr m) (inr n) = l.one_kind p i j m n

      begun_first : (p : ℕ) → Precedes p p (begun o k ∷ h) → ⊥
      begun_first p (inl q) = let b = finished_begun q.1 in w (b.0, begun_at q.0 b.1)
      begun_first p (inr q) = l.begun_first p q

  -- (2) an unfinished write that is not in the order becomes visible: it goes to the end
  pub linearizes_visible : {o x v : ℕ} (s : ℕ) → begun o (writes x v) ∈ h → Unfinished h o → ((e : Entry) → e ∈ es → e.operation ≢ o)
      → Linearizes h (es ++ write_entry o x v s ∷ [])
  linearizes_visible {o} {x} {v} s m w out = record {
    one_kind = l.one_kind;
    begun_first = l.begun_first;
    complete = λ p vs f. let c = l.complete p vs f in (c.0, in_left (new ∷ []) c.1, c.2, c.3);
    recorded = λ e i. elim (cases_append es i) [ inl q ↦ l.recorded e q | inr q ↦ subst (Recorded h) (sym (only-member q)) (m, inr tt) ];
    ordered = pairwise_snoc (MayPrecede h) es new l.ordered (λ e i. (out e i, λ p. w (precedes_finished o e.operation h p)));
    legal = legal_append empty es (new ∷ []) l.legal (refl, tt);
  }
    where
      new : Entry
      new = write_entry o x v s

  -- (3) an operation of the order finishes with its values: the order stays
  pub linearizes_finish : {o : ℕ} {vs : List ℕ} → InOrder es o vs → Linearizes (finished o vs ∷ h) es
  linearizes_finish {o} {vs} i = record {
    one_kind = one_kind_finish;
    begun_first = l.begun_first;
    complete = λ p us m. elim (cases_cons m) [ inl z ↦ (i.0, i.1, (let q = i.2 in cc), (let q = i.3 in cc)) | inr t ↦ l.complete p us t ];
    recorded = λ e m. recorded_older e (finished o vs) (l.recorded e m);
    ordered = l.ordered;
    legal = l.legal;
  }

-- (4) a read finishes: it goes to a place where its objects hold its values and behind which nothing finished before it began
pub linearizes_read : {h : History} (a b : List Entry) {o : ℕ} {xs vs : List ℕ} → Linearizes h (a ++ b) → begun o (reads xs) ∈ h → Unfinished h o
    → vs ≡ map (after empty a) xs → ((f : Entry) → f ∈ b → Precedes f.operation o h → ⊥) → Linearizes (finished o vs ∷ h) (a ++ read_entry o xs vs ∷ b)
linearizes_read {h} a b {o} {xs} {vs} l m w g free = record {
  one_kind = one_kind_finish l;
  begun_first = l.begun_first;
  complete = λ p us i. elim (cases_cons i) [
    | inl z ↦ (new, inserted a new b, (cc), (cc))
    | inr t ↦ let c = l.complete p us t in (c.0, in_insert a new b c.1, c.2, c.3)
  ];
  recorded = λ e i. elim (cases_insert a new b i) [
    | inl z ↦ subst (Recorded (finished o vs ∷ h)) (sym z) (there m, inl (here refl))
    | inr t ↦ recorded_older e (finished o vs) (l.recorded e t)
  ];
  ordered = pairwise_insert (MayPrecede h) a new b l.ordered
      (λ e i. (out e (in_left b i), λ p. w (precedes_finished o e.operation h p)))
      (λ f i. (λ q. out f (in_right a i) (sym q), free f i));
  legal = legal_read empty a b o xs vs g l.legal;
}
  where
    new : Entry
    new = read_entry o xs vs

    out : (e : Entry) → e ∈ a ++ b → e.operation ≢ o
    out = unfinished_read_out l m w
