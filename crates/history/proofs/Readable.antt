-- A read that has been answered and has not finished: where it may stand in the order, and that this lasts while the history grows.
use mathlib.Core.Path.{◌≡◌, sym, ap, ◌∙◌, subst}
use mathlib.Core.Logic.{◌⊎◌, inl, inr}
use mathlib.Core.List.{List, [], ◌∷◌, ◌++◌, map, append_assoc, append-nil}
use Prim.Native.Nat.{ℕ}
use Rattle.history.specs.History.{◌∈◌, Kind, reads, History, begun, finished, Begun, Precedes}
use Rattle.history.proofs.Lists.{no_member, only-member, cases_append, cases_insert, in_insert, two_cuts}
use Rattle.history.proofs.Entries.{Entry, read_entry, Store, empty, after, after_read, New, Unfinished, Linearizes}
use Rattle.history.proofs.Growth.{precedes_finished, precedes_begin, linearizes_read}

-- the order can be cut so that after its front part the objects xs hold the values vs, and nothing in its back part finished before operation o began; `was` is the order
-- when the read was answered, all of which stays before it
pub record Readable (h : History) (es : List Entry) (o : ℕ) (xs vs : List ℕ) (was : List Entry) : Type 0 where
  pub front : List Entry
  pub back : List Entry
  pub cut : es ≡ front ++ back
  pub gives : vs ≡ map (after empty front) xs
  pub free : (f : Entry) → f ∈ back → Precedes f.operation o h → ⊥
  pub after_was : (f : Entry) → f ∈ was → f ∈ front

-- the order with the read at the cut
abbrev pub placed : {h : History} {es : List Entry} {o : ℕ} {xs vs : List ℕ} {was : List Entry} → Readable h es o xs vs was → List Entry
placed {o} {xs} {vs} r = r.front ++ read_entry o xs vs ∷ r.back

-- a read that is answered from what the whole order leaves
pub readable_now : {h : History} {o : ℕ} (es : List Entry) {xs vs : List ℕ} → vs ≡ map (after empty es) xs → Readable h es o xs vs es
readable_now es g = record { front = es; back = []; cut = sym (append-nil es); gives = g; free = λ f m. absurd (no_member m); after_was = λ f m. m }

module _ {h : History} {es : List Entry} {o : ℕ} {xs vs : List ℕ} {was : List Entry} (r : Readable h es o xs vs was) where
  -- the read finishes and takes its place
  pub linearizes_placed : Linearizes h es → begun o (reads xs) ∈ h → Unfinished h o → Linearizes (finished o vs ∷ h) (placed r)
  linearizes_placed l m w = linearizes_read r.front r.back (subst (Linearizes h) r.cut l) m w r.gives r.free

  -- whatever it was answered from
  pub readable_forget : Readable h es o xs vs []
  readable_forget = record { front = r.front; back = r.back; cut = r.cut; gives = r.gives; free = r.free; after_was = λ f m. absurd (no_member m) }

  -- it stays readable: (1) when another operation begins
  pub readable_begin : {n : ℕ} {k : Kind} → New h n → Begun h o → Readable (begun n k ∷ h) es o xs vs was
  readable_begin {k} w b = record { front = r.front; back = r.back; cut = r.cut; gives = r.gives; free = λ f m p. r.free f m (precedes_begin k w b p); after_was = r.after_was }

  -- (2) when an unfinished operation goes to the end
  pub readable_visible : (e : Entry) → Unfinished h e.operation → Readable h (es ++ e ∷ []) o xs vs was
  readable_visible e w = record {
    front = r.front;
    back = r.back ++ e ∷ [];
    cut = ap (λ (l : List Entry). l ++ e ∷ []) r.cut ∙ append_assoc r.front r.back (e ∷ []);
    gives = r.gives;
    free = λ f m p. elim (cases_append r.back m) [
      | inl q ↦ r.free f q p
      | inr q ↦ w (precedes_finished e.operation o h (subst (λ (c : Entry). Precedes c.operation o h) (only-member q) p))
    ];
    after_was = r.after_was;
  }

  -- (3) when an operation finishes
  pub readable_finish : {p : ℕ} {us : List ℕ} → Readable (finished p us ∷ h) es o xs vs was
  readable_finish = record { front = r.front; back = r.back; cut = r.cut; gives = r.gives; free = r.free; after_was = r.after_was }

  -- (4) when another read finishes and takes its place
  pub readable_placed : {p : ℕ} {ys us : List ℕ} {then : List Entry} (q : Readable h es p ys us then) → Unfinished h p
      → Readable (finished p us ∷ h) (placed q) o xs vs was
  readable_placed {p} {ys} {us} q w = go (two_cuts q.front q.back r.front r.back (sym q.cut ∙ r.cut))
    where
      new : Entry
      new = read_entry p ys us

      go : ((m : List Entry) × (r.front ≡ q.front ++ m) × (q.back ≡ m ++ r.back)) ⊎ ((m : List Entry) × (q.front ≡ r.front ++ m) × (r.back ≡ m ++ q.back))
          → Readable (finished p us ∷ h) (placed q) o xs vs was
      go (inl t) = record {
        front = q.front ++ new ∷ t.0;
        back = r.back;
        cut = ap (λ (l : List Entry). q.front ++ new ∷ l) t.2 ∙ sym (append_assoc q.front (new ∷ t.0) r.back);
        gives = r.gives ∙ ap (λ (l : List Entry). map (after empty l) xs) t.1 ∙ sym (ap (λ (s : Store). map s xs) (after_read empty q.front t.0 p ys us));
        free = r.free;
        after_was = λ f m. in_insert q.front new t.0 (subst (λ (l : List Entry). f ∈ l) t.1 (r.after_was f m));
      }
      go (inr t) = record {
        front = r.front;
        back = t.0 ++ new ∷ q.back;
        cut = ap (λ (l : List Entry). l ++ new ∷ q.back) t.1 ∙ append_assoc r.front t.0 (new ∷ q.back);
        gives = r.gives;
        free = λ f m b. elim (cases_insert t.0 new q.back m) [
          | inl z ↦ w (precedes_finished p o h (subst (λ (c : Entry). Precedes c.operation o h) z b))
          | inr n ↦ r.free f (subst (λ (l : List Entry). f ∈ l) (sym t.2) n) b
        ];
        after_was = r.after_was;
      }
