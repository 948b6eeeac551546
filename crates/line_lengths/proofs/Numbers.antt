-- Laws of `decimal`: the digits spell the number, with no needless 0 before them.
use mathlib.Core.Path.{◌≡◌, refl, sym, ap, ◌∙◌, subst}
use mathlib.Core.Logic.{◌≢◌}
use native.Mathlib.Decide.{ℕ_discrete}
use mathlib.Core.Bool.{Bool, true, false, cond}
use mathlib.Core.List.{List, [], ◌∷◌, ◌++◌}
use Prim.Native.Nat.{ℕ, zero, suc, ◌+◌, ◌-◌, ◌*◌, ◌/◌, ◌%◌, ◌^◌, ◌≤◌, ◌<◌, min, max}
use native.Mathlib.Nat.{pow-suc, pow-le-pow_right}
use native.Mathlib.Omega.{arith}
use lib.Dec.{ltb}
use lib.ListN.{length, get_or, length-append, get_or-append}
use borrow.Author.Tests.{ltb-true, ltb-false, lt-ltb, le-ltb}
use lib.Pow.{pow-add}
use Rattle.line_lengths.specs.Lines.{digits, places, decimal, long_places, long_decimal}

-- the number that digits spell, v standing before them
abbrev pub value_from : ℕ → List ℕ → ℕ
value_from v [] = v
value_from v (d ∷ ds) = value_from (v * 10 + (d - 48)) ds

abbrev pub value_of : List ℕ → ℕ
value_of ds = value_from 0 ds

-- n has k digits; of a number of more than ten digits ten are printed
abbrev Sized : ℕ → ℕ → Type 0
Sized n k = (1 ≤ k) × (k ≤ 10) × (min n 9999999999 < 10 ^ k) × (10 ^ (k - 1) ≤ max n 1)

by_test : (n t a b : ℕ) → (n < t → Sized n a) → (t ≤ n → Sized n b) → Sized n (cond (ltb n t) a b)
by_test n t a b yes-case no-case = go (ltb n t) refl
  where
    go : (x : Bool) → ltb n t ≡ x → Sized n (cond x a b)
    go true e = yes-case (ltb-true n t e)
    go false e = no-case (ltb-false n t e)

places_sized : (n : ℕ) → Sized n (places n)
unfolding places
places_sized n =
    by_test n 10 _ _ (λ p. omega arith)
    (λ q. by_test n 100 _ _ (λ p. omega arith)
    (λ q. by_test n 1000 _ _ (λ p. omega arith)
    (λ q. by_test n 10000 _ _ (λ p. omega arith)
    (λ q. by_test n 100000 _ _ (λ p. omega arith)
    (λ q. by_test n 1000000 _ _ (λ p. omega arith)
    (λ q. by_test n 10000000 _ _ (λ p. omega arith)
    (λ q. by_test n 100000000 _ _ (λ p. omega arith)
    (λ q. by_test n 1000000000 _ _ (λ p. omega arith) (λ q. omega arith)))))))))

-- a number has one count of digits
one_size : (m p k : ℕ) → 1 ≤ p → m < 10 ^ p → 10 ^ (p - 1) ≤ m → 10 ^ k ≤ m → m < 10 * 10 ^ k → k + 1 ≡ p
one_size m p k h below least at_least under =
    elim (ℕ_discrete (k + 1) p) [
      | yes e ↦ e
      | no n ↦ absurd (go (ltb k p) refl n)
    ]
  where
    go : (t : Bool) → ltb k p ≡ t → k + 1 ≢ p → ⊥
    go true e n =
        let further : suc k ≤ p - 1 = omega (arith, ltb-true k p e) in
        omega (arith, pow-le-pow_right {n = 10} (omega arith) further, pow-suc 10 k)
    go false e n = omega (arith, pow-le-pow_right {n = 10} (omega arith) (ltb-false k p e))

-- as the logarithm has it
pub places_log : (n k : ℕ) → n < 10000000000 → 10 ^ k ≤ max n 1 → max n 1 < 10 * 10 ^ k → k + 1 ≡ places n
places_log n k few at_least under =
    let s : Sized n (places n) = places_sized n in
    one_size (max n 1) (places n) k s.0 (omega (arith, pow-le-pow_right {n = 10} (omega arith) s.0)) s.3 at_least under

pub digits_length : (k n : ℕ) → length (digits k n) ≡ k
unfolding digits
digits_length zero n = refl
digits_length (suc k) n = simp (length-append, digits_length k (n / 10)) (omega arith)

pub decimal_places : (n : ℕ) → length (decimal n) ≡ places n
unfolding decimal
decimal_places n = digits_length (places n) n

-- a number of one digit
pub decimal_one : (n : ℕ) → n < 10 → decimal n ≡ (48 + n) ∷ []
unfolding decimal places digits
decimal_one n h =
    let rest : n % 10 ≡ n = omega arith in
    rw (lt-ltb n 10 h, rest)

pub decimal_length : (n : ℕ) → length (decimal n) ≤ 10
unfolding decimal
decimal_length n = omega (arith, digits_length (places n) n, places_sized n)

value_last : (ds : List ℕ) (v d : ℕ) → value_from v (ds ++ d ∷ []) ≡ value_from v ds * 10 + (d - 48)
value_last [] v d = refl
value_last (x ∷ ds) v d = value_last ds (v * 10 + (x - 48)) d

digits_value : (k n : ℕ) → n < 10 ^ k → value_of (digits k n) ≡ n
unfolding digits
digits_value zero n h = omega arith
digits_value (suc k) n h =
    value_last (digits k (n / 10)) 0 (48 + n % 10) ∙ omega (arith, digits_value k (n / 10) (omega (arith, pow-suc 10 k)))

-- the digits of a number of at most ten digits spell it
pub decimal_value : (n : ℕ) → n < 10000000000 → value_of (decimal n) ≡ n
unfolding decimal
decimal_value n h = digits_value (places n) n (omega (arith, places_sized n))

first_digit : (k n : ℕ) → 10 ^ k ≤ n → n < 10 ^ suc k → 48 < get_or (digits (suc k) n) 0 0
unfolding digits
first_digit zero n h p = omega arith
first_digit (suc k) n h p =
    rw (get_or-append (digits (suc k) (n / 10)) ((48 + n % 10) ∷ []) 0 0 (omega (arith, digits_length (suc k) (n / 10))))
    (first_digit k (n / 10) (omega (arith, pow-suc 10 k)) (omega (arith, pow-suc 10 (suc k))))

-- only 0 itself begins with the digit 0
pub decimal_first : (n : ℕ) → n < 10000000000 → 0 < n → 48 < get_or (decimal n) 0 0
unfolding decimal
decimal_first n h p =
    let s : Sized n (places n) = places_sized n in
    let e : places n ≡ suc (places n - 1) = omega arith in
    rw e (first_digit (places n - 1) n (omega arith) (rw⁻¹ e (omega arith)))

-- ---- Req 07: numbers of 64 bits

-- a number below 10,000,000,000 is printed as one of 32 bits is ..
pub long_short : (n : ℕ) → n < 10000000000 → long_places n ≡ places n
unfolding long_places
long_short n h = rw (lt-ltb n 10000000000 h)

-- .. and another one has ten digits more than its upper part
pub long_parts : (n : ℕ) → 10000000000 ≤ n → long_places n ≡ 10 + places (n / 10000000000)
unfolding long_places
long_parts n h = rw (le-ltb n 10000000000 h)

pub long_decimal_places : (n : ℕ) → length (long_decimal n) ≡ long_places n
unfolding long_decimal
long_decimal_places n = digits_length (long_places n) n

pub long_one : (n : ℕ) → n < 10 → long_decimal n ≡ (48 + n) ∷ []
unfolding long_decimal decimal
long_one n h = ap (λ (k : ℕ). digits k n) (long_short n (omega arith)) ∙ decimal_one n h

-- n has k digits, of a number of 64 bits
abbrev LongSized : ℕ → ℕ → Type 0
LongSized n k = (1 ≤ k) × (k ≤ 20) × (n < 10 ^ k) × (10 ^ (k - 1) ≤ max n 1)

long_sized : (n : ℕ) → n < 100000000000000000000 → LongSized n (long_places n)
long_sized n h = go (ltb n 10000000000) refl
  where
    short : n < 10000000000 → LongSized n (places n)
    short below = let s : Sized n (places n) = places_sized n in (s.0, omega arith, omega arith, s.3)

    long : 10000000000 ≤ n → LongSized n (10 + places (n / 10000000000))
    long above =
        let m : ℕ = n / 10000000000 in
        let j : ℕ = places m in
        let s : Sized m j = places_sized m in
        let most : 10 ^ (10 + j) ≡ 10000000000 * 10 ^ j = pow-add 10 10 j in
        let least : 10 ^ (10 + (j - 1)) ≡ 10000000000 * 10 ^ (j - 1) = pow-add 10 10 (j - 1) in
        let less : 10 + j - 1 ≡ 10 + (j - 1) = omega arith in
        (omega arith, omega arith, rw most (omega arith), rw (less, least) (omega arith))

    go : (t : Bool) → ltb n 10000000000 ≡ t → LongSized n (long_places n)
    go true e = let below = ltb-true n 10000000000 e in subst (LongSized n) (sym (long_short n below)) (short below)
    go false e = let above = ltb-false n 10000000000 e in subst (LongSized n) (sym (long_parts n above)) (long above)

pub long_places_log : (n k : ℕ) → n < 100000000000000000000 → 10 ^ k ≤ max n 1 → max n 1 < 10 * 10 ^ k → k + 1 ≡ long_places n
long_places_log n k few at_least under =
    let s : LongSized n (long_places n) = long_sized n few in
    one_size (max n 1) (long_places n) k s.0 (omega (arith, pow-le-pow_right {n = 10} (omega arith) s.0)) s.3 at_least under

pub long_length : (n : ℕ) → length (long_decimal n) ≤ 20
long_length n = go (ltb n 10000000000) refl
  where
    go : (t : Bool) → ltb n 10000000000 ≡ t → length (long_decimal n) ≤ 20
    go true e = omega (arith, long_decimal_places n, long_short n (ltb-true n 10000000000 e), places_sized n)
    go false e = omega (arith, long_decimal_places n, long_parts n (ltb-false n 10000000000 e), places_sized (n / 10000000000))

-- the digits spell the number, and only 0 itself begins with the digit 0
pub long_value : (n : ℕ) → n < 100000000000000000000 → value_of (long_decimal n) ≡ n
unfolding long_decimal
long_value n h = digits_value (long_places n) n (long_sized n h).2

pub long_first : (n : ℕ) → n < 100000000000000000000 → 0 < n → 48 < get_or (long_decimal n) 0 0
unfolding long_decimal
long_first n h p =
    let s : LongSized n (long_places n) = long_sized n h in
    let e : long_places n ≡ suc (long_places n - 1) = omega arith in
    rw e (first_digit (long_places n - 1) n (omega arith) (rw⁻¹ e (omega arith)))
