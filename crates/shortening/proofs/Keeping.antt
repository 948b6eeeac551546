-- The records that are kept, copied one after the other.
use mathlib.Core.Path.{◌≡◌, refl, ap, ◌∙◌}
use mathlib.Core.Bool.{cond}
use mathlib.Core.List.{List, [], ◌++◌}
use Prim.Native.Nat.{ℕ, zero, suc, ◌+◌, ◌-◌, ◌≤◌, ◌<◌}
use native.Mathlib.Nat.{add-sub_cancel_left}
use native.Mathlib.Numerals.{add-one}
use native.Mathlib.Omega.{arith}
use lib.Dec.{eqb}
use lib.ListN.{length, get_or, take, drop, length-append, length-take}
use Rattle.lists.proofs.Tests.{both}
use Rattle.shortening.specs.Shortening.{size_at, place_of, kept_to}
use Rattle.shortening.specs.Promises.{Within}

-- a record that is kept, or nothing
abbrev pub piece : ℕ → List ℕ → List ℕ
piece flag part = cond (eqb flag 0) [] part

pub piece_short : (flag : ℕ) (part : List ℕ) → length (piece flag part) ≤ length part
piece_short flag part = both (λ (l : List ℕ). length l ≤ length part) (eqb flag 0) (omega arith) (omega arith)

-- one record more
abbrev pub record_bytes : ℕ → List ℕ → List ℕ
record_bytes i l = take (size_at l (place_of i l)) (drop (place_of i l) l)

pub kept_next : (i : ℕ) (l flags : List ℕ) → kept_to (i + 1) l flags ≡ kept_to i l flags ++ piece (get_or flags i 0) (record_bytes i l)
unfolding kept_to
kept_next i l flags = ap (λ (k : ℕ). kept_to k l flags) (add-one i)

-- the part of the input that is copied is the record
pub part_is : (l : List ℕ) (i at size : ℕ) → at ≡ place_of i l → size ≡ size_at l at → take (at + size - at) (drop at l) ≡ record_bytes i l
part_is l i at size p q =
    ap (λ (n : ℕ). take n (drop at l)) (add-sub_cancel_left at size ∙ q) ∙ (λ j. take (size_at l (p j)) (drop (p j) l))

pub part_short : (l : List ℕ) (at size : ℕ) → length (take (at + size - at) (drop at l)) ≤ size
part_short l at size = rw (add-sub_cancel_left at size, length-take) (omega arith)

-- none yet
pub kept_none : (l flags : List ℕ) → kept_to 0 l flags ≡ []
unfolding kept_to
kept_none l flags = refl

-- a record of the first so many lies within the input
pub record_within : (l : List ℕ) (count i at : ℕ) → Within count l → i < count → at ≡ place_of i l → at + size_at l at ≤ length l
unfolding place_of
record_within l count i at w h e = let inside = w i h in omega (arith, inside, e, ap (size_at l) e)

-- what is kept is not longer than what it is kept of
pub kept_below : (i : ℕ) (l flags : List ℕ) → length (kept_to i l flags) ≤ place_of i l
unfolding kept_to place_of
kept_below zero l flags = omega arith
kept_below (suc i) l flags =
    omega (
      arith,
      kept_below i l flags,
      length-append (kept_to i l flags) (piece (get_or flags i 0) (record_bytes i l)),
      piece_short (get_or flags i 0) (record_bytes i l),
      record_short i l,
    )
  where
    record_short : (i : ℕ) (l : List ℕ) → length (record_bytes i l) ≤ size_at l (place_of i l)
    record_short i l = rw length-take (omega arith)

pub kept_short : (count : ℕ) (l flags : List ℕ) → Within count l → length (kept_to count l flags) ≤ length l
unfolding kept_to
kept_short zero l flags w = omega arith
kept_short (suc i) l flags w = omega (arith, kept_below (suc i) l flags, w i (omega arith))
