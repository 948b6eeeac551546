-- Demand 3, linearizability: one order of the operations explains the run. 'An order is a list of operation numbers.'
use Rattle.std.specs.Prelude.{◌≡◌, ◌⊎◌, List, [], ◌∷◌, ◌++◌, ℕ}
use Rattle.history.specs.History.{◌∈◌, reads, writes, History, begun, finished, Begun, Finished, Precedes}

-- 'Earlier in it means nearer its front': x stands before y
abbrev pub Ahead : {A : Type 0} → A → A → List A → Type 0
Ahead x y [] = ⊥
Ahead x y (z ∷ l) = ((x ≡ z) × (y ∈ l)) ⊎ Ahead x y l

-- operation o is a write to object x
abbrev pub WritesTo : History → ℕ → ℕ → Type 0
WritesTo h x o = (v : ℕ) × (begun o (writes x v) ∈ h)

-- none of these operations is a write to x
abbrev pub NoWrite : History → ℕ → List ℕ → Type 0
NoWrite h x os = (o : ℕ) → o ∈ os → WritesTo h x o → ⊥

-- the last write to x among these operations wrote v
abbrev pub LastWrote : History → ℕ → List ℕ → ℕ → Type 0
LastWrote h x os v = (early : List ℕ) × (w : ℕ) × (late : List ℕ) × (os ≡ early ++ w ∷ late) × (begun w (writes x v) ∈ h) × NoWrite h x late

-- v is what the last write to x among the operations `before` wrote, or 0 if none of them is a write to x
abbrev pub LastWrite : History → ℕ → List ℕ → ℕ → Type 0
LastWrite h x before v = LastWrote h x before v ⊎ (NoWrite h x before × (v ≡ 0))

-- the same for each object and its value: there are as many values as objects
abbrev pub LastWrites : History → List ℕ → List ℕ → List ℕ → Type 0
LastWrites h [] before [] = Unit {0}
LastWrites h [] before (v ∷ vs) = ⊥
LastWrites h (x ∷ xs) before [] = ⊥
LastWrites h (x ∷ xs) before (v ∷ vs) = LastWrite h x before v × LastWrites h xs before vs

-- the order explains the run: 'all its sentences hold together'
pub record OneOrder (h : History) (order : List ℕ) : Type 0 where
  -- every finished operation is in the order
  pub complete : (o : ℕ) → Finished h o → o ∈ order
  -- nothing else but unfinished writes: each operation in it was begun, and has finished or is a write
  pub nothing_else : (o : ℕ) → o ∈ order → Begun h o × (Finished h o ⊎ ((x : ℕ) × WritesTo h x o))
  -- once each: none stands before itself
  pub once : (o : ℕ) → Ahead o o order → ⊥
  -- each finished read gives for each of its objects what the last earlier write to it wrote, or 0 if none is earlier
  pub right : (before later : List ℕ) (o : ℕ) (xs vs : List ℕ) → order ≡ before ++ o ∷ later
      → begun o (reads xs) ∈ h → finished o vs ∈ h → LastWrites h xs before vs
  -- an operation that finished before another in the order began stands before that one
  pub timely : (a b : ℕ) → b ∈ order → Precedes a b h → Ahead a b order
