-- Laws of every line that is printed: it ends in the byte 10 and has no other, and it has at most 147 bytes.
use mathlib.Core.Path.{◌≡◌, refl, ◌∙◌}
use mathlib.Core.Logic.{◌≢◌}
use mathlib.Core.Bool.{Bool, true, false, cond}
use mathlib.Core.List.{List, [], ◌∷◌, ◌++◌, append_assoc}
use Prim.Native.Nat.{ℕ, zero, suc, ◌+◌, ◌-◌, ◌*◌, ◌/◌, ◌%◌, ◌≤◌, ◌<◌}
use native.Mathlib.Decide.{ℕ_discrete}
use native.Mathlib.Omega.{arith}
use lib.Dec.{eqb}
use lib.ListN.{length, length-append}
use borrow.Author.Tests.{eq-eqb, ne_eqb}
use Rattle.contexts.specs.{context, place_of, size_of}
use Rattle.contexts.proofs.Places.{size_most}
use Rattle.contexts.specs.declared.Context.{Context}
use Rattle.protocol.specs.declared.Answer.{Answer}
use Rattle.protocol.specs.declared.Answer.TheVariants.{Done, Finished, FinishedContext, Refused}
use Rattle.protocol.specs.declared.Refusal.TheVariants.{NotOpen}
use Rattle.protocol.specs.Answers.{refusal_number, no_freshness, old_read, new_read}
use Rattle.line_lengths.specs.Lines.{digits, places, decimal, long_places, long_decimal, ok_start, freshness_end, finish_end, later_values, joined, context_end, no_line, line_of}
use Rattle.line_lengths.proofs.Numbers.{decimal_places, decimal_length, long_decimal_places, long_length}

-- no line has more bytes
abbrev pub longest : ℕ
longest = 147

-- there is a byte 10, and the first one is the last byte
abbrev pub is_line : List ℕ → Bool
is_line [] = false
is_line (x ∷ xs) = cond (eqb x 10) (eqb (length xs) 0) (is_line xs)

-- what holds of the three words holds of a line's end
by_word : (f : ℕ) (P : List ℕ → Type 0) → P (111 ∷ 108 ∷ 100 ∷ 10 ∷ []) → P (110 ∷ 101 ∷ 119 ∷ 10 ∷ []) → P (45 ∷ 10 ∷ []) → P (freshness_end f)
unfolding freshness_end
by_word f P old new none = go (eqb f old_read) (eqb f new_read)
  where
    go : (a b : Bool) → P (cond a (111 ∷ 108 ∷ 100 ∷ 10 ∷ []) (cond b (110 ∷ 101 ∷ 119 ∷ 10 ∷ []) (45 ∷ 10 ∷ [])))
    go true b = old
    go false true = new
    go false false = none

pub old_word : (f : ℕ) → f ≡ old_read → freshness_end f ≡ 111 ∷ 108 ∷ 100 ∷ 10 ∷ []
unfolding freshness_end
old_word f e = rw (eq-eqb f old_read e)

pub new_word : (f : ℕ) → f ≡ new_read → freshness_end f ≡ 110 ∷ 101 ∷ 119 ∷ 10 ∷ []
unfolding freshness_end
new_word f e = rw e

pub no_word : (f : ℕ) → f ≢ old_read → f ≢ new_read → freshness_end f ≡ 45 ∷ 10 ∷ []
unfolding freshness_end
no_word f p q = rw (ne_eqb f old_read p, ne_eqb f new_read q)

-- one more value, as a loop over the places has it
pub later_more : (v : Context) (i : ℕ) → 1 ≤ i → later_values v (i - 1) ++ 44 ∷ decimal (place_of v i) ≡ later_values v (i + 1 - 1)
unfolding later_values
later_more v zero h = absurd (omega arith)
later_more v (suc k) h =
    let before : suc k - 1 ≡ k = omega arith in
    let next : suc k + 1 - 1 ≡ suc k = omega arith in
    rw (before, next) refl

digits_line : (k n : ℕ) (l : List ℕ) → is_line (digits k n ++ l) ≡ is_line l
unfolding digits
digits_line zero n l = refl
digits_line (suc k) n l =
    rw append_assoc (digits_line k (n / 10) ((48 + n % 10) ∷ l) ∙ simp (ne_eqb (48 + n % 10) 10 (λ e. omega arith)))

number_line : (n : ℕ) (l : List ℕ) → is_line (decimal n ++ l) ≡ is_line l
unfolding decimal
number_line n l = digits_line (places n) n l

long_line : (n : ℕ) (l : List ℕ) → is_line (long_decimal n ++ l) ≡ is_line l
unfolding long_decimal
long_line n l = digits_line (long_places n) n l

freshness_line : (f : ℕ) → is_line (freshness_end f) ≡ true
freshness_line f = by_word f (λ l. is_line l ≡ true) refl refl refl

later_line : (v : Context) (k : ℕ) (l : List ℕ) → is_line (later_values v k ++ l) ≡ is_line l
unfolding later_values
later_line v zero l = refl
later_line v (suc k) l = rw append_assoc (later_line v k (44 ∷ decimal (place_of v (suc k)) ++ l) ∙ number_line (place_of v (suc k)) l)

joined_line : (v : Context) (l : List ℕ) → is_line (joined v ++ l) ≡ is_line l
unfolding joined
joined_line v l = simp (append_assoc, number_line, later_line)

pub refusal_line : (k refusal : ℕ) → is_line (no_line k refusal) ≡ true
unfolding no_line
refusal_line k r = simp (append_assoc, number_line, long_line)

pub answer_line : (k : ℕ) (a : Answer) (waiting marks : ℕ) → is_line (line_of k a waiting marks) ≡ true
unfolding line_of
answer_line k Done w m = simp (append_assoc, number_line, long_line, freshness_line)
answer_line k (Finished o v f) w m = simp (append_assoc, number_line, long_line, freshness_line)
answer_line k (FinishedContext o v) w m = simp (append_assoc, number_line, long_line, joined_line, freshness_line)
answer_line k (Refused r) w m = refusal_line k (refusal_number r)

-- how long each part is, by its numbers
pub ok_parts : (k w m : ℕ) → length (ok_start k w m) ≡ length (long_decimal k) + 4 + length (decimal w) + 1 + length (decimal m) + 1
ok_parts k w m = simp length-append (omega arith)

pub finish_parts : (o v f : ℕ) → length (finish_end o v f) ≡ length (decimal o) + 1 + length (decimal v) + 1 + length (freshness_end f)
finish_parts o v f = simp length-append (omega arith)

pub later_parts : (v : Context) (i : ℕ) → 1 ≤ i → length (later_values v (i - 1)) + 1 + length (decimal (place_of v i)) ≡ length (later_values v (i + 1 - 1))
later_parts v i h = simp (← later_more v i h, length-append) (omega arith)

pub joined_parts : (v : Context) → length (joined v) ≡ length (decimal v.first) + length (later_values v (size_of v - 1))
unfolding joined
joined_parts v = length-append (decimal v.first) (later_values v (size_of v - 1))

pub context_parts : (o : ℕ) (v : Context) → length (context_end o v) ≡ length (decimal o) + 1 + length (joined v) + 1 + length (freshness_end no_freshness)
context_parts o v = simp length-append (omega arith)

pub no_parts : (k r : ℕ) → length (no_line k r) ≡ length (long_decimal k) + 4 + length (decimal r) + 1
unfolding no_line
no_parts k r = simp length-append (omega arith)

-- and by its digits
pub none_length : length (freshness_end no_freshness) ≡ 2
unfolding freshness_end
none_length = refl

pub ok_length : (k w m : ℕ) → length (ok_start k w m) ≡ long_places k + places w + places m + 6
ok_length k w m = simp length-append (omega (arith, long_decimal_places k, decimal_places w, decimal_places m))

pub finish_length : (o v f : ℕ) → length (finish_end o v f) ≡ places o + places v + 2 + length (freshness_end f)
finish_length o v f = simp length-append (omega (arith, decimal_places o, decimal_places v))

pub context_length : (o : ℕ) (v : Context) → length (context_end o v) ≡ places o + length (joined v) + 4
context_length o v = omega (arith, context_parts o v, decimal_places o, none_length)

pub no_length : (k r : ℕ) → length (no_line k r) ≡ long_places k + places r + 5
unfolding no_line
no_length k r = simp length-append (omega (arith, long_decimal_places k, decimal_places r))

pub done_length : (k w m : ℕ) → length (line_of k Done w m) ≡ length (ok_start k w m) + 6
unfolding line_of freshness_end
done_length k w m = simp length-append (omega arith)

pub finished_length : (k o v f w m : ℕ) → length (line_of k (Finished o v f) w m) ≡ length (ok_start k w m) + length (finish_end o v f)
unfolding line_of
finished_length k o v f w m = length-append (ok_start k w m) (finish_end o v f)

pub finished_context_length : (k o : ℕ) (v : Context) (w m : ℕ) →
    length (line_of k (FinishedContext o v) w m) ≡ length (ok_start k w m) + length (context_end o v)
unfolding line_of
finished_context_length k o v w m = length-append (ok_start k w m) (context_end o v)

pub freshness_length : (f : ℕ) → length (freshness_end f) ≤ 4
freshness_length f = by_word f (λ l. length l ≤ 4) (omega arith) (omega arith) (omega arith)

pub later_length : (v : Context) (k : ℕ) → length (later_values v k) ≤ 11 * k
unfolding later_values
later_length v zero = omega arith
later_length v (suc k) = simp length-append (omega (arith, later_length v k, decimal_length (place_of v (suc k))))

-- eight values at most, of ten digits at most, and the commas
pub joined_length : (v : Context) → length (joined v) ≤ 87
joined_length v = omega (arith, joined_parts v, decimal_length v.first, later_length v (size_of v - 1), size_most v)

-- fewer values are no longer, so one more has room where all have
later_within : (v : Context) (k m : ℕ) → k ≤ m → length (later_values v k) ≤ length (later_values v m)
unfolding later_values
later_within v k zero h = let e : k ≡ 0 = omega arith in rw e (omega arith)
later_within v k (suc m) h =
    elim (ℕ_discrete k (suc m)) [
      | yes e ↦ rw e (omega arith)
      | no n ↦ simp length-append (omega (arith, later_within v k m (omega arith)))
    ]

pub later_room : (v : Context) (i n : ℕ) → 1 ≤ i → i < n → length (later_values v (i - 1)) + 1 + length (decimal (place_of v i)) ≤ length (later_values v (n - 1))
later_room v i n h k = omega (arith, later_parts v i h, later_within v (i + 1 - 1) (n - 1) (omega arith))

pub refusal_length : (k refusal : ℕ) → length (no_line k refusal) ≤ longest
unfolding no_line
refusal_length k r = simp length-append (omega (arith, long_length k, decimal_length r))

pub answer_length : (k : ℕ) (a : Answer) (waiting marks : ℕ) → length (line_of k a waiting marks) ≤ longest
unfolding line_of
answer_length k Done w m =
    simp length-append (omega (arith, long_length k, decimal_length w, decimal_length m, freshness_length no_freshness))
answer_length k (Finished o v f) w m =
    simp length-append (omega (arith, long_length k, decimal_length w, decimal_length m, decimal_length o, decimal_length v, freshness_length f))
answer_length k (FinishedContext o v) w m =
    omega (
      arith,
      finished_context_length k o v w m,
      ok_parts k w m,
      context_length o v,
      decimal_places o,
      long_length k,
      decimal_length w,
      decimal_length m,
      decimal_length o,
      joined_length v,
    )
answer_length k (Refused r) w m = refusal_length k (refusal_number r)

-- lines 1, 11 and 12 of document 01's listing, with Req 01's field; and the end of the line of a read that carried a stamp
pub listing_1 : line_of 1 Done 0 0 ≡ 49 ∷ 32 ∷ 111 ∷ 107 ∷ 32 ∷ 48 ∷ 32 ∷ 48 ∷ 32 ∷ 45 ∷ 32 ∷ 45 ∷ 32 ∷ 45 ∷ 10 ∷ []
unfolding line_of freshness_end long_decimal long_places decimal places digits
listing_1 = refl

pub listing_11 : line_of 11 (Finished 2 9 no_freshness) 0 0 ≡ 49 ∷ 49 ∷ 32 ∷ 111 ∷ 107 ∷ 32 ∷ 48 ∷ 32 ∷ 48 ∷ 32 ∷ 50 ∷ 32 ∷ 57 ∷ 32 ∷ 45 ∷ 10 ∷ []
unfolding line_of freshness_end long_decimal long_places decimal places digits
listing_11 = refl

pub listing_12 : line_of 12 (Refused NotOpen) 0 0 ≡ 49 ∷ 50 ∷ 32 ∷ 110 ∷ 111 ∷ 32 ∷ 49 ∷ 51 ∷ 10 ∷ []
unfolding line_of no_line long_decimal long_places decimal places digits
listing_12 = refl

pub old_end : finish_end 2 9 old_read ≡ 50 ∷ 32 ∷ 57 ∷ 32 ∷ 111 ∷ 108 ∷ 100 ∷ 10 ∷ []
unfolding freshness_end long_decimal long_places decimal places digits
old_end = refl

pub new_end : finish_end 2 9 new_read ≡ 50 ∷ 32 ∷ 57 ∷ 32 ∷ 110 ∷ 101 ∷ 119 ∷ 10 ∷ []
unfolding freshness_end long_decimal long_places decimal places digits
new_end = refl

-- Req 02: the line of a read of three objects
pub context_line : line_of 12 (FinishedContext 2 (context 3 9 0 7 0 0 0 0 0)) 1 0 ≡
    49 ∷ 50 ∷ 32 ∷ 111 ∷ 107 ∷ 32 ∷ 49 ∷ 32 ∷ 48 ∷ 32 ∷ 50 ∷ 32 ∷ 57 ∷ 44 ∷ 48 ∷ 44 ∷ 55 ∷ 32 ∷ 45 ∷ 10 ∷ []
unfolding line_of joined later_values place_of size_of freshness_end long_decimal long_places decimal places digits
context_line = refl
