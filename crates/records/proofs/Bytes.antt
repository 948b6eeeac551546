-- Numbers as bytes, and bytes one by one.
use mathlib.Core.Path.{◌≡◌, refl, ap, ◌∙◌}
use mathlib.Core.Bool.{Bool, true, false, cond, false≢true}
use mathlib.Core.List.{List, [], ◌∷◌, ◌++◌}
use Prim.Native.Nat.{ℕ, zero, suc, ◌+◌, ◌*◌, ◌/◌, ◌%◌, ◌<◌, ◌≤◌}
use native.Mathlib.Omega.{arith}
use lib.ListN.{length, take}
use lib.Seq.{take_all}
use Rattle.std.specs.Int.{to_be_bytes, w16, w32}
use Rattle.records.specs.Records.{byte_at, two_bytes, four_bytes}

-- both tests hold where one is made after the other
pub both : (a b : Bool) → cond a b false ≡ true → (a ≡ true) × (b ≡ true)
both true b e = (refl, e)
both false b e = absurd (false≢true e)

-- ---- writing, then reading

pub two_read : (a : ℕ) → a / 256 * 256 + a % 256 ≡ a
two_read a = omega arith

pub four_read : (a : ℕ) → (a / 65536 / 256 * 256 + a / 65536 % 256) * 65536 + (a % 65536 / 256 * 256 + a % 65536 % 256) ≡ a
four_read a = omega arith

-- the bytes of a number as `to_be_bytes` gives them
pub two_given : (a : ℕ) → a < 65536 → to_be_bytes w16 a ≡ two_bytes a
unfolding two_bytes
two_given a h = let high : a / 256 % 256 ≡ a / 256 = omega arith in rw high refl

pub four_given : (a : ℕ) → a < 4294967296 → to_be_bytes w32 a ≡ four_bytes a
unfolding four_bytes two_bytes
four_given a h =
    let p : a / 16777216 % 256 ≡ a / 65536 / 256 = omega arith in
    let q : a / 65536 % 256 ≡ a / 65536 % 256 = refl in
    let r : a / 256 % 256 ≡ a % 65536 / 256 = omega arith in
    let s : a % 256 ≡ a % 65536 % 256 = omega arith in
    rw (p, r, s) refl

-- ---- reading, then writing

-- a number read from bytes is written as these bytes, and fits
pub two_written : (a b : ℕ) → a < 256 → b < 256 → (two_bytes (a * 256 + b) ≡ a ∷ b ∷ []) × (a * 256 + b < 65536)
unfolding two_bytes
two_written a b h g =
    let x : (a * 256 + b) / 256 ≡ a = omega arith in
    let y : (a * 256 + b) % 256 ≡ b = omega arith in
    (rw (x, y), omega arith)

pub four_written : (a b : ℕ) → a < 65536 → b < 65536 → (four_bytes (a * 65536 + b) ≡ two_bytes a ++ two_bytes b) × (a * 65536 + b < 4294967296)
unfolding four_bytes
four_written a b h g =
    let x : (a * 65536 + b) / 65536 ≡ a = omega arith in
    let y : (a * 65536 + b) % 65536 ≡ b = omega arith in
    (rw (x, y), omega arith)

-- ---- one by one

-- the first n bytes
abbrev pub up_to : ℕ → (ℕ → ℕ) → List ℕ
up_to zero f = []
up_to (suc n) f = f 0 ∷ up_to n (λ i. f (suc i))

pub take_up_to : (n m : ℕ) (f : ℕ → ℕ) → n ≤ m → take n (up_to m f) ≡ up_to n f
take_up_to zero m f h = refl
take_up_to (suc n) zero f h = absurd (omega arith)
take_up_to (suc n) (suc m) f h = ap (λ (l : List ℕ). f 0 ∷ l) (take_up_to n m (λ i. f (suc i)) (omega arith))

pub first_bytes : (l : List ℕ) (n : ℕ) → n ≤ length l → up_to n (byte_at l) ≡ take n l
first_bytes l zero h = refl
first_bytes [] (suc n) h = absurd (omega arith)
first_bytes (x ∷ l) (suc n) h = ap (λ (r : List ℕ). x ∷ r) (first_bytes l n (omega arith))

pub all_bytes : (c : List ℕ) (n : ℕ) → length c ≡ n → up_to n (byte_at c) ≡ c
all_bytes c n h = first_bytes c n (omega arith) ∙ take_all n c (omega arith)
