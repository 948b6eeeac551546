-- What the contracts of private functions cite.
use Rattle.std.specs.Prelude.{◌≡◌, List, ℕ, suc, ◌*◌, ◌≤◌, ◌<◌, Result, Ok, Err, length}
use Rattle.shortening.specs.declared.ShortenError.{ShortenError}
use Rattle.shortening.specs.Shortening.{size_at, place_of, met_from, met, records_in, error_number}

-- so many records lie within the input
abbrev pub Within : ℕ → List ℕ → Type 0
Within count l = (i : ℕ) → i < count → place_of (suc i) l ≤ length l

-- the records of an input in which nothing is met
pub record Sound (count : ℕ) (l : List ℕ) : Type 0 where
  pub within : Within count l
  pub ends : place_of count l ≡ length l
  pub short : length l ≤ 19 * count
  pub some : 1 ≤ count

-- what is found behind the start
abbrev pub ScannedFrom : Result ℕ ShortenError → List ℕ → Type 0
ScannedFrom (Ok count) l = (met_from (length l) l (size_at l 0) ≡ 0) × (count ≡ records_in l) × Sound count l
ScannedFrom (Err e) l = met_from (length l) l (size_at l 0) ≡ error_number e

-- what is found in an input
abbrev pub Scanned : Result ℕ ShortenError → List ℕ → Type 0
Scanned (Ok count) l = (met l ≡ 0) × (count ≡ records_in l) × Sound count l
Scanned (Err e) l = met l ≡ error_number e
