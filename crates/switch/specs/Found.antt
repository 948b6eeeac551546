-- What the search of an object's slots finds, by the tests that it makes.
use Rattle.std.specs.Prelude.{Bool, ℕ, ◌≡◌, ◌<◌, Option, Some, None, MatchOption}
use Rattle.switch.specs.DirtySet.{first_of}
use Rattle.switch.specs.Numbers.{slots}

-- any slot may be tested
abbrev pub CanTest : (ℕ → Type 0) → Type 0
CanTest may = (i : ℕ) → i < slots → may i

-- whatever test the calls gave, what was found is the first slot that passes it
abbrev pub IsFirst : (ℕ → Bool → Type 0) → ℕ → Option ℕ → Type 0
IsFirst gave o found = (t : ℕ → Bool) → ((i : ℕ) (b : Bool) → i < slots → gave i b → b ≡ t i) → found ≡ first_of o t Some None

-- the slot that was found is this one, and none where this is past the last
abbrev pub IsSlot : ℕ → Option ℕ → Type 0
IsSlot slot found = MatchOption found (slot ≡ slots) (λ i. (slot ≡ i) × (i < slots))
