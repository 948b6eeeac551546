-- A linearization by entries gives one order of operation numbers.
use mathlib.Core.Path.{◌≡◌, refl, sym, ap, ap₂, ◌∙◌, subst, subst₂}
use mathlib.Core.Logic.{◌⊎◌, inl, inr, ◌≢◌}
use mathlib.Core.List.Memᴰ
use mathlib.Core.List.{List, [], ◌∷◌, ◌++◌, map}
use Prim.Native.Nat.{ℕ}
use native.Mathlib.Omega.{arith}
use lib.Dec.{eqb}
use Rattle.lists.proofs.Tests.{by_test}
use Rattle.history.specs.History.{◌∈◌, Kind, reads, writes, History, begun, finished, Finished, Precedes}
use Rattle.history.specs.Linearizability.{WritesTo, NoWrite, LastWrote, LastWrites, OneOrder}
use Rattle.history.proofs.Lists.{here, there, no_member, cases_cons, in_left, inserted, Pairwise, pairwise_imply, pairwise_ahead, pairwise_map, ahead_or, same_member, cut_map}
use Rattle.history.proofs.Tests.{eqb-true, eqb-false}
use Rattle.history.proofs.Entries.{Entry, Store, empty, put, after, Right, Legal, legal_at, IsWrite, MayPrecede, Linearizes}
use Rattle.history.proofs.Growth.{begun_at, finished_at, precedes_finished}

-- the operation numbers of the entries
abbrev pub numbers : List Entry → List ℕ
numbers = map (λ (e : Entry). e.operation)

-- the number of an entry, and an entry of a number
pub in_numbers : {e : Entry} {es : List Entry} → e ∈ es → e.operation ∈ numbers es
in_numbers m = Memᴰ.map (λ (e : Entry). e.operation) m

pub of_numbers : {o : ℕ} (es : List Entry) → o ∈ numbers es → (e : Entry) × (e ∈ es) × (e.operation ≡ o)
of_numbers es m = Memᴰ.of_map (λ (e : Entry). e.operation) es m

-- ---- what an object holds is what the last write to it wrote

module _ (h : History) (one_kind : (o : ℕ) (k l : Kind) → begun o k ∈ h → begun o l ∈ h → k ≡ l) where
  -- v is what the last write to x among these operations wrote, or u if none of them is one
  abbrev LastOr : ℕ → ℕ → List ℕ → ℕ → Type 0
  LastOr u x os v = LastWrote h x os v ⊎ (NoWrite h x os × (v ≡ u))

  -- one more operation that is no write to x
  no_write_cons : {x o : ℕ} {os : List ℕ} → (WritesTo h x o → ⊥) → NoWrite h x os → NoWrite h x (o ∷ os)
  no_write_cons {x} n rest p m w = elim (cases_cons m) [ inl q ↦ n (subst (WritesTo h x) q w) | inr t ↦ rest p t w ]

  -- one more operation before the others
  last_cons : {o v : ℕ} (s : Store) (x : ℕ) (k : Kind) {os : List ℕ} → begun o k ∈ h → LastOr (put k s x) x os v → LastOr (s x) x (o ∷ os) v
  last_cons {o} s x k m (inl t) = inl (o ∷ t.0, t.1, t.2, ap (λ (l : List ℕ). o ∷ l) t.3, t.4, t.5)
  last_cons {o} s x (reads ys) m (inr t) = inr (no_write_cons (λ w. apart (one_kind o (reads ys) (writes x w.0) m w.1)) t.0, t.1)
    where
      apart : {z : ℕ} → reads ys ≡ writes x z → ⊥
      apart e = let n : ◌≡◌ {A = ℕ} 0 1 = cc in omega arith
  last_cons {o} {v} s x (writes y u) {os} m (inr t) =
      by_test (λ (c : ℕ). v ≡ c → LastOr (s x) x (o ∷ os) v) (eqb y x)
      (λ q g. inl ([], o, os, refl, subst (λ (k : Kind). begun o k ∈ h) (ap₂ writes (eqb-true y x q) (sym g)) m, t.0))
      (λ q g. inr (no_write_cons (λ w. eqb-false y x q (same (one_kind o (writes y u) (writes x w.0) m w.1))) t.0, g))
      t.1
    where
      same : {z : ℕ} → writes y u ≡ writes x z → y ≡ x
      same e = cc

  -- what x holds after the entries, from the store s on
  last_or : (s : Store) (x : ℕ) (es : List Entry) → ((e : Entry) → e ∈ es → begun e.operation e.kind ∈ h)
      → LastOr (s x) x (numbers es) (after s es x)
  last_or s x [] b = inr (λ o m. absurd (no_member m), refl)
  last_or s x (e ∷ es) b = last_cons s x e.kind (b e (here refl)) (last_or (put e.kind s) x es (λ f m. b f (there m)))

  -- what each object holds after the entries
  last_writes : (xs : List ℕ) (es : List Entry) → ((e : Entry) → e ∈ es → begun e.operation e.kind ∈ h)
      → LastWrites h xs (numbers es) (map (after empty es) xs)
  last_writes [] es b = tt
  last_writes (x ∷ xs) es b = (last_or empty x es b, last_writes xs es b)

-- ---- the claim

-- a write is a write to some object
writes_to : {h : History} {o : ℕ} (k : Kind) → IsWrite k → begun o k ∈ h → (x : ℕ) × WritesTo h x o
writes_to (reads xs) w m = absurd w
writes_to (writes x v) w m = (x, (v, m))

module _ {h : History} {es : List Entry} (l : Linearizes h es) where
  -- a may stand before b
  abbrev Allowed : ℕ → ℕ → Type 0
  Allowed a b = (a ≢ b) × (Precedes b a h → ⊥)

  -- every number of the order may stand before every later one
  allowed : Pairwise Allowed (numbers es)
  allowed = pairwise_map (λ (e : Entry). e.operation) Allowed es l.ordered

  -- every finished operation is in the order
  finished_in : (o : ℕ) → Finished h o → o ∈ numbers es
  finished_in o f = let c = l.complete o f.0 f.1 in subst (λ (p : ℕ). p ∈ numbers es) c.2 (in_numbers c.1)

  -- each finished read gives the last earlier writes to its objects
  reads_right : (before later : List ℕ) (o : ℕ) (xs vs : List ℕ) → numbers es ≡ before ++ o ∷ later
      → begun o (reads xs) ∈ h → finished o vs ∈ h → LastWrites h xs before vs
  reads_right before later o xs vs q m f =
      let c = cut_map (λ (e : Entry). e.operation) es before o later q in
      let e : Entry = c.1 in
      let i : e ∈ es = subst (λ (k : List Entry). e ∈ k) (sym c.3) (inserted c.0 e c.2) in
      let kind : e.kind ≡ reads xs = l.one_kind o e.kind (reads xs) (begun_at c.5 (l.recorded e i).0) m in
      let d = l.complete o vs f in
      let same : d.0 ≡ e = same_member (λ (z : Entry). z.operation) es (pairwise_imply (MayPrecede h) _ es (λ u v a b p. p.0) l.ordered) d.1 i (d.2 ∙ sym c.5) in
      let values : e.values ≡ vs = ap (λ (z : Entry). z.values) (sym same) ∙ d.3 in
      let right : Right e.kind e.values (after empty c.0) = legal_at empty c.0 e c.2 (subst (Legal empty) c.3 l.legal) in
      let gives : vs ≡ map (after empty c.0) xs = subst₂ (λ k us. Right k us (after empty c.0)) kind values right in
      subst₂ (LastWrites h xs) c.4 (sym gives)
      (last_writes h l.one_kind xs c.0 (λ g j. (l.recorded g (subst (λ (k : List Entry). g ∈ k) (sym c.3) (in_left (e ∷ c.2) j))).0))

  -- the order of the entries explains the history
  pub one_order_of : OneOrder h (numbers es)
  one_order_of = record {
    complete = finished_in;
    nothing_else = λ o m.
        let r = of_numbers es m in
        let b = l.recorded r.0 r.1 in
        let g : begun o r.0.kind ∈ h = begun_at r.2 b.0 in
        ((r.0.kind, g), elim b.1 [ inl f ↦ inl (r.0.values, finished_at r.2 f) | inr w ↦ inr (writes_to r.0.kind w g) ]);
    once = λ o a. (pairwise_ahead Allowed (numbers es) allowed a).0 refl;
    right = reads_right;
    timely = λ a b m p. elim (ahead_or (numbers es) (finished_in a (precedes_finished a b h p)) m) [
      | inl e ↦ absurd (l.begun_first b (subst (λ (c : ℕ). Precedes c b h) e p))
      | inr (inl q) ↦ q
      | inr (inr q) ↦ absurd ((pairwise_ahead Allowed (numbers es) allowed q).1 p)
    ];
  }
