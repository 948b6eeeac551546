-- The records of the input, where they lie, and the digits of a line's end.
use mathlib.Core.Path.{◌≡◌, refl, ap, ◌∙◌}
use mathlib.Core.Bool.{Bool, true, false, cond, false≢true}
use mathlib.Core.List.{List}
use Prim.Native.Nat.{ℕ, zero, suc, ◌+◌, ◌-◌, ◌≤◌, ◌<◌}
use native.Mathlib.Numerals.{add-one}
use native.Mathlib.Omega.{arith}
use lib.Dec.{eqb, ltb}
use lib.ListN.{length}
use borrow.Author.Tests.{ltb-true, ltb-false, lt-leb, le-leb}
use Rattle.std.specs.Prelude.{Option, Some, None, Result, Ok, Err}
use Rattle.records.specs.declared.Malformed.{Malformed}
use Rattle.records.specs.declared.Record.{Record}
use Rattle.std.specs.Char.{is_ascii_digit}
use Rattle.records.specs.Records.{next_at}
use Rattle.records.proofs.Round.{next_record, next_position_lem, record_most}
use Rattle.shortening.specs.Shortening.{size_at, place_of, is_record, records_from, met_from, met, is_digit, error_number}
use Rattle.shortening.specs.declared.ShortenError.{ShortenError}
use Rattle.shortening.specs.Promises.{Within, ScannedFrom, Scanned}

-- a digit is a byte from 48 to 57
pub digit_bounds : (b : ℕ) → is_digit b ≡ true → (48 ≤ b) × (b < 58)
unfolding is_digit
digit_bounds b e = go (ltb b 48) refl e
  where
    go : (t : Bool) → ltb b 48 ≡ t → cond t false (ltb b 58) ≡ true → (48 ≤ b) × (b < 58)
    go true p q = absurd (false≢true q)
    go false p q = (ltb-false b 48 p, ltb-true b 58 q)

-- and std's test of a digit tells the same
pub ascii_digit : (b : ℕ) → is_ascii_digit b ≡ is_digit b
unfolding is_digit
ascii_digit b = go (ltb b 48) refl (ltb b 58) refl
  where
    go : (t : Bool) → ltb b 48 ≡ t → (u : Bool) → ltb b 58 ≡ u → is_ascii_digit b ≡ cond t false u
    go true e u f = rw (lt-leb 48 b (ltb-true b 48 e)) refl
    go false e true f = rw (le-leb 48 b (ltb-false b 48 e), le-leb b 57 (omega (arith, ltb-true b 58 f))) refl
    go false e false f = rw (le-leb 48 b (ltb-false b 48 e), lt-leb b 57 (omega (arith, ltb-false b 58 f))) refl

-- what a run reads where it reads a record
record_there : (f : Result (Option Record) Malformed) → is_record f ≡ true → (r : Record) × (f ≡ Ok (Some r))
record_there (Ok (Some r)) e = (r, refl)
record_there (Ok None) e = absurd (false≢true e)
record_there (Err x) e = absurd (false≢true e)

-- it lies within the input, and has 3 to 19 bytes
pub record_lies : (l : List ℕ) (at : ℕ) → is_record (next_at l at) ≡ true → (at + size_at l at ≤ length l) × (3 ≤ size_at l at) × (size_at l at ≤ 19)
unfolding size_at
record_lies l at e =
    let there = record_there (next_at l at) e in
    let r = there.0 in
    let found = (next_record l at r.end r.step there.1).0 in
    let p = next_position_lem l at r.end r.step found in
    let m = record_most l at r.end r.step found in
    (omega (arith, p.0, p.2), omega arith, omega (arith, p.0, m))

pub size_least : (l : List ℕ) (at : ℕ) → 3 ≤ size_at l at
unfolding size_at
size_least l at = omega arith

-- ---- one record after the other

module _ (l : List ℕ) (at f : ℕ) (some : 0 < f) (inside : at < length l) where
  -- a record is read, and then those behind it
  pub met_record : is_record (next_at l at) ≡ true → met_from f l at ≡ met_from (f - 1) l (at + size_at l at)
  unfolding met_from
  met_record e = more f some
    where
      more : (k : ℕ) → 0 < k → met_from k l at ≡ met_from (k - 1) l (at + size_at l at)
      more zero h = absurd (omega arith)
      more (suc k) h = let same : k ≡ suc k - 1 = omega arith in rw (lt-leb (length l) at inside, e) (ap (λ (j : ℕ). met_from j l (at + size_at l at)) same)

  pub counted_record : is_record (next_at l at) ≡ true → records_from f l at ≡ 1 + records_from (f - 1) l (at + size_at l at)
  unfolding records_from
  counted_record e = more f some
    where
      more : (k : ℕ) → 0 < k → records_from k l at ≡ 1 + records_from (k - 1) l (at + size_at l at)
      more zero h = absurd (omega arith)
      more (suc k) h = let same : k ≡ suc k - 1 = omega arith in rw (lt-leb (length l) at inside, e) (ap (λ (j : ℕ). 1 + records_from j l (at + size_at l at)) same)

  -- none is
  pub met_fault : is_record (next_at l at) ≡ false → met_from f l at ≡ 1
  unfolding met_from
  met_fault e = more f some
    where
      more : (k : ℕ) → 0 < k → met_from k l at ≡ 1
      more zero h = absurd (omega arith)
      more (suc k) h = rw (lt-leb (length l) at inside, e) refl

-- the end
pub met_end : (l : List ℕ) (at f : ℕ) → length l ≤ at → met_from f l at ≡ 0
unfolding met_from
met_end l at zero h = refl
met_end l at (suc f) h = rw (le-leb (length l) at h) refl

pub counted_end : (l : List ℕ) (at f : ℕ) → length l ≤ at → records_from f l at ≡ 0
unfolding records_from
counted_end l at zero h = refl
counted_end l at (suc f) h = rw (le-leb (length l) at h) refl

-- where the next record begins
pub place_next_lem : (i : ℕ) (l : List ℕ) → place_of (i + 1) l ≡ place_of i l + size_at l (place_of i l)
unfolding place_of
place_next_lem i l = ap (λ (k : ℕ). place_of k l) (add-one i)

pub place_one : (l : List ℕ) → place_of 1 l ≡ size_at l 0
unfolding place_of
place_one l = omega arith

pub within_one : (l : List ℕ) → size_at l 0 ≤ length l → Within 1 l
within_one l h i b =
    let none : i ≡ 0 = omega arith in rw none (omega (arith, place_one l, h))

pub within_more : (count : ℕ) (l : List ℕ) → Within count l → place_of (count + 1) l ≤ length l → Within (count + 1) l
within_more count l w h i b = go (ltb i count) refl
  where
    go : (t : Bool) → ltb i count ≡ t → place_of (suc i) l ≤ length l
    go true e = w i (ltb-true i count e)
    go false e =
        let low = ltb-false i count e in
        let last : suc i ≡ count + 1 = omega arith in rw last h

-- what is found behind the start is what is found in all
pub scanned_all : (r : Result ℕ ShortenError) (l : List ℕ) → met l ≡ met_from (length l) l (size_at l 0) → ScannedFrom r l → Scanned r l
scanned_all (Ok count) l e s = (e ∙ s.0, s.1, s.2)
scanned_all (Err r) l e s = e ∙ s

-- an error has a number above 0
pub error_some : (r : ShortenError) → eqb (error_number r) 0 ≡ false
error_some ShortenError.Malformed = refl
error_some ShortenError.Replicas = refl
error_some ShortenError.InputTooLong = refl
error_some ShortenError.TooManyRecords = refl
error_some ShortenError.NotRefused = refl
error_some ShortenError.BufferTooShort = refl
