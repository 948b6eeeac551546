-- An order as a list of entries, the store after them, and the invariant by which such an order explains a history.
use mathlib.Core.Path.{◌≡◌, refl}
use mathlib.Core.Logic.{◌⊎◌, ◌≢◌}
use mathlib.Core.Bool.{cond}
use mathlib.Core.List.{List, [], ◌∷◌, ◌++◌, map}
use Prim.Native.Nat.{ℕ}
use lib.Dec.{eqb}
use Rattle.history.specs.History.{◌∈◌, Kind, reads, writes, History, begun, finished, Begun, Finished, Precedes}
use Rattle.history.proofs.Lists.{no_member, Pairwise}

-- one operation of an order: its values are those that a read gives, or the one that a write writes; its stamp is a write's sequence number, which no promise
-- of an order looks at, and 0 for a read
pub record Entry : Type 0 where
  pub operation : ℕ
  pub kind : Kind
  pub values : List ℕ
  pub stamp : ℕ

-- a read, and a write, as an entry
abbrev pub read_entry : ℕ → List ℕ → List ℕ → Entry
read_entry o xs vs = record { operation = o; kind = reads xs; values = vs; stamp = 0 }

abbrev pub write_entry : ℕ → ℕ → ℕ → ℕ → Entry
write_entry o x v s = record { operation = o; kind = writes x v; values = v ∷ []; stamp = s }

-- ---- the store

-- what each object holds
abbrev pub Store : Type 0
Store = ℕ → ℕ

-- 'An object never written holds value 0'
abbrev pub empty : Store
empty x = 0

-- the store after one operation
abbrev pub put : Kind → Store → Store
put (reads xs) s = s
put (writes x v) s = λ y. cond (eqb x y) v (s y)

-- the store s after the operations of a list, the first first
abbrev pub after : Store → List Entry → Store
after s [] = s
after s (e ∷ es) = after (put e.kind s) es

-- the store after two parts
pub after_append : (s : Store) (a b : List Entry) → after s (a ++ b) ≡ after (after s a) b
after_append s [] b = refl
after_append s (e ∷ a) b = after_append (put e.kind s) a b

-- a read changes nothing, wherever it stands
pub after_read : (s : Store) (a b : List Entry) (o : ℕ) (xs vs : List ℕ) → after s (a ++ read_entry o xs vs ∷ b) ≡ after s (a ++ b)
after_read s [] b o xs vs = refl
after_read s (e ∷ a) b o xs vs = after_read (put e.kind s) a b o xs vs

-- ---- operations whose values are right

-- a read gives what its objects hold, a write what it writes
abbrev pub Right : Kind → List ℕ → Store → Type 0
Right (reads xs) vs s = vs ≡ map s xs
Right (writes x v) vs s = vs ≡ v ∷ []

-- from the store s on, the values of every operation are right
abbrev pub Legal : Store → List Entry → Type 0
Legal s [] = Unit {0}
Legal s (e ∷ es) = Right e.kind e.values s × Legal (put e.kind s) es

-- two parts that are right
pub legal_append : (s : Store) (a b : List Entry) → Legal s a → Legal (after s a) b → Legal s (a ++ b)
legal_append s [] b p q = q
legal_append s (e ∷ a) b p q = (p.0, legal_append (put e.kind s) a b p.1 q)

-- a read may be inserted where its objects hold its values
pub legal_read : (s : Store) (a b : List Entry) (o : ℕ) (xs vs : List ℕ)
    → vs ≡ map (after s a) xs → Legal s (a ++ b) → Legal s (a ++ read_entry o xs vs ∷ b)
legal_read s [] b o xs vs g p = (g, p)
legal_read s (e ∷ a) b o xs vs g p = (p.0, legal_read (put e.kind s) a b o xs vs g p.1)

-- each operation is right where it stands
pub legal_at : (s : Store) (a : List Entry) (e : Entry) (b : List Entry) → Legal s (a ++ e ∷ b) → Right e.kind e.values (after s a)
legal_at s [] e b p = p.0
legal_at s (f ∷ a) e b p = legal_at (put f.kind s) a e b p.1

-- ---- the invariant

-- operation o has not begun
abbrev pub New : History → ℕ → Type 0
New h o = Begun h o → ⊥

-- operation o has not finished
abbrev pub Unfinished : History → ℕ → Type 0
Unfinished h o = Finished h o → ⊥

-- it is a write
abbrev pub IsWrite : Kind → Type 0
IsWrite (reads xs) = ⊥
IsWrite (writes x v) = Unit {0}

-- operation o is in the order, with these values
abbrev pub InOrder : List Entry → ℕ → List ℕ → Type 0
InOrder es o vs = (e : Entry) × (e ∈ es) × (e.operation ≡ o) × (e.values ≡ vs)

-- the operation was begun with this kind, and has finished with these values or is a write
abbrev pub Recorded : History → Entry → Type 0
Recorded h e = (begun e.operation e.kind ∈ h) × ((finished e.operation e.values ∈ h) ⊎ IsWrite e.kind)

-- e may stand before f: they are two operations, and f did not finish before e began
abbrev pub MayPrecede : History → Entry → Entry → Type 0
MayPrecede h e f = (e.operation ≢ f.operation) × (Precedes f.operation e.operation h → ⊥)

-- the entries are a linearization of the history
pub record Linearizes (h : History) (es : List Entry) : Type 0 where
  -- an operation was begun with one kind
  pub one_kind : (o : ℕ) (k l : Kind) → begun o k ∈ h → begun o l ∈ h → k ≡ l
  -- no operation finished before it began
  pub begun_first : (o : ℕ) → Precedes o o h → ⊥
  -- every finished operation is in the order, with the values that it finished with
  pub complete : (o : ℕ) (vs : List ℕ) → finished o vs ∈ h → InOrder es o vs
  -- every operation of the order is in the history
  pub recorded : (e : Entry) → e ∈ es → Recorded h e
  -- the order agrees with time, and has no operation twice
  pub ordered : Pairwise (MayPrecede h) es
  -- every read gives what the writes before it leave
  pub legal : Legal empty es

-- nothing happened yet
pub linearizes_nothing : Linearizes [] []
linearizes_nothing = record {
  one_kind = λ o k l m n. absurd (no_member m);
  begun_first = λ o p. p;
  complete = λ o vs m. absurd (no_member m);
  recorded = λ e m. absurd (no_member m);
  ordered = tt;
  legal = tt;
}
