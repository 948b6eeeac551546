-- What happened in a run: document 01, 'The run that demand 3 speaks of', whose sentences stand in quotes.
use Rattle.std.specs.Prelude.{◌≡◌, ◌⊎◌, ℕ}
use mathlib.Core.List.{List, [], ◌∷◌, Memᴰ}

infix 4 ◌∈◌
-- x is in the list l
abbrev pub ◌∈◌ : {A : Type 0} → A → List A → Type 0
x ∈ l = Memᴰ x l

-- 'the kind, the object and a write's value': an operation reads each of some objects, or writes a value to one object
pub data Kind : Type 0 where
  reads : (objects : List ℕ) → Kind
  writes : (object value : ℕ) → Kind

-- 'read from the steps and their answers': an operation begins, or finishes
pub data Event : Type 0 where
  -- 'The k-th accepted begin starts operation k'
  begun : (o : ℕ) → Kind → Event
  -- 'An operation finishes .. with its value': a read with the value of each of its objects, a write with the value that it wrote
  finished : (o : ℕ) (values : List ℕ) → Event

-- 'What happened in a run': its events, THE NEWEST FIRST
abbrev pub History : Type 0
History = List Event

-- operation o was begun
abbrev pub Begun : History → ℕ → Type 0
Begun h o = (k : Kind) × (begun o k ∈ h)

-- operation o has finished. 'Begun and not finished, given up or not, it is unfinished.'
abbrev pub Finished : History → ℕ → Type 0
Finished h o = (values : List ℕ) × (finished o values ∈ h)

-- 'It finished before another began': when b began, a had finished
abbrev pub Precedes : ℕ → ℕ → History → Type 0
Precedes a b [] = ⊥
Precedes a b (begun o k ∷ h) = ((b ≡ o) × Finished h a) ⊎ Precedes a b h
Precedes a b (finished o values ∷ h) = Precedes a b h
