-- Where a finished read goes, computed: the last place of the order at which its objects hold its values. If the read may stand anywhere, it may stand
-- there: the later its place, the less stands behind it.
use mathlib.Core.Path.{◌≡◌, refl, sym, ap, ◌∙◌, subst}
use mathlib.Core.Logic.{inl, inr}
use mathlib.Core.Bool.{Bool, true, false, cond}
use mathlib.Core.List.{List, [], ◌∷◌, ◌++◌, map}
use Prim.Native.Nat.{ℕ}
use Rattle.lists.proofs.Tests.{by_test}
use Rattle.history.specs.History.{◌∈◌, History}
use Rattle.history.specs.Linearizability.{Ahead}
use Rattle.history.proofs.Lists.{here, there, no_member, cases_cons, in_right}
use Rattle.history.proofs.Tests.{equal, equal_true, equal_self}
use Rattle.history.proofs.Entries.{Entry, read_entry, Store, empty, put, after}
use Rattle.history.proofs.Readable.{Readable, placed}

-- at some place of the list, from the store s on, the store passes the test
abbrev pub passes : (Store → Bool) → Store → List Entry → Bool
passes test s [] = test s
passes test s (e ∷ es) = cond (passes test (put e.kind s) es) true (test s)

-- the list with r at the last such place
abbrev pub place : (Store → Bool) → Entry → Store → List Entry → List Entry
place test r s [] = r ∷ []
place test r s (e ∷ es) = cond (passes test (put e.kind s) es) (e ∷ place test r (put e.kind s) es) (r ∷ e ∷ es)

module _ (test : Store → Bool) (r : Entry) where
  -- a cut at which the store passes the test, and r goes there
  record Cut (s : Store) (es : List Entry) : Type 0 where
    front : List Entry
    back : List Entry
    whole : es ≡ front ++ back
    made : place test r s es ≡ front ++ r ∷ back
    passed : test (after s front) ≡ true

  -- if the store passes the test after a front part, it does so at some place
  passes_after : (s : Store) (front back : List Entry) → test (after s front) ≡ true → passes test s (front ++ back) ≡ true
  passes_after s [] [] p = p
  passes_after s [] (e ∷ back) p = by_test (λ (b : Bool). b ≡ true) (passes test (put e.kind s) back) (λ q. refl) (λ q. p)
  passes_after s (e ∷ front) back p = rw (passes_after (put e.kind s) front back p)

  -- the same cut, with one operation more before it
  cut_cons : (s : Store) (e : Entry) (es : List Entry) → passes test (put e.kind s) es ≡ true → Cut (put e.kind s) es → Cut s (e ∷ es)
  cut_cons s e es p c = record {
    front = e ∷ c.front;
    back = c.back;
    whole = ap (λ (l : List Entry). e ∷ l) c.whole;
    made = rw p (ap (λ (l : List Entry). e ∷ l) c.made);
    passed = c.passed;
  }

  -- if the store passes the test at some place, r goes to a cut
  last_cut : (s : Store) (es : List Entry) → passes test s es ≡ true → Cut s es
  last_cut s [] p = record { front = []; back = []; whole = refl; made = refl; passed = p }
  last_cut s (e ∷ es) p = go (passes test (put e.kind s) es) refl (last_cut (put e.kind s) es)
    where
      go : (b : Bool) → passes test (put e.kind s) es ≡ b → (passes test (put e.kind s) es ≡ true → Cut (put e.kind s) es) → Cut s (e ∷ es)
      go true q rest = cut_cons s e es q (rest q)
      go false q rest = record { front = []; back = e ∷ es; whole = refl; made = rw q; passed = rw q at p }

  -- that cut is not before any other at which the store passes the test
  later_cut : (s : Store) (front back : List Entry) → test (after s front) ≡ true
      → (c : Cut s (front ++ back)) × ((f : Entry) → f ∈ c.back → f ∈ back) × ((f : Entry) → f ∈ front → f ∈ c.front)
  unfolding cut_cons
  later_cut s [] back p =
      let c = last_cut s back (passes_after s [] back p) in
      (c, λ f m. subst (λ (l : List Entry). f ∈ l) (sym c.whole) (in_right c.front m), λ f m. absurd (no_member m))
  later_cut s (e ∷ front) back p =
      let c = later_cut (put e.kind s) front back p in
      (cut_cons s e (front ++ back) (passes_after (put e.kind s) front back p) c.0, c.1, λ f m. elim (cases_cons m) [ inl q ↦ here q | inr t ↦ there (c.2 f t) ])

  -- what the list has stays, and stays in order
  in_place_lem : {f : Entry} (s : Store) (es : List Entry) → f ∈ es → f ∈ place test r s es
  in_place_lem s [] m = absurd (no_member m)
  in_place_lem {f} s (e ∷ es) m =
      by_test (λ (l : List Entry). f ∈ l) (passes test (put e.kind s) es)
      (λ q. elim (cases_cons m) [ inl z ↦ here z | inr t ↦ there (in_place_lem (put e.kind s) es t) ])
      (λ q. there m)

  pub ahead_place : (f g : Entry) (s : Store) (es : List Entry) → Ahead f g es → Ahead f g (place test r s es)
  ahead_place f g s [] h = absurd h
  ahead_place f g s (e ∷ es) h =
      by_test (Ahead f g) (passes test (put e.kind s) es)
      (λ q. elim h [ inl z ↦ inl (z.0, in_place_lem (put e.kind s) es z.1) | inr t ↦ inr (ahead_place f g (put e.kind s) es t) ])
      (λ q. inr h)

-- the order with a finished read at its place
abbrev pub with_read : ℕ → List ℕ → List ℕ → List Entry → List Entry
with_read o xs vs es = place (λ s. equal vs (map s xs)) (read_entry o xs vs) empty es

-- a read that may stand somewhere may stand there
pub readable_last : {h : History} {es : List Entry} {o : ℕ} {xs vs : List ℕ} {was : List Entry} → Readable h es o xs vs was
    → (r : Readable h es o xs vs was) × (placed r ≡ with_read o xs vs es)
readable_last {h} {es} {o} {xs} {vs} {was} r =
    let holds : equal vs (map (after empty r.front) xs) ≡ true = subst (λ (l : List ℕ). equal vs l ≡ true) r.gives (equal_self vs) in
    let t = later_cut (λ s. equal vs (map s xs)) (read_entry o xs vs) empty r.front r.back holds in
    let c = t.0 in
    let last : Readable h es o xs vs was = record {
      front = c.front;
      back = c.back;
      cut = r.cut ∙ c.whole;
      gives = equal_true vs (map (after empty c.front) xs) c.passed;
      free = λ f m. r.free f (t.1 f m);
      after_was = λ f m. t.2 f (r.after_was f m);
    } in
    (last, sym (ap (with_read o xs vs) r.cut ∙ c.made))
