-- The table of the steps, row by row: a content has a length of its kind, is read back as it was written, and, but for a give-up of two bytes, written back as
-- it was read; and so is a tag.
use mathlib.Core.Path.{◌≡◌, refl, sym, ap, ◌∙◌, subst}
use mathlib.Core.Bool.{Bool, true, false, cond, not, false≢true}
use mathlib.Core.List.{List, [], ◌∷◌, ◌++◌}
use Prim.Native.Nat.{ℕ, zero, suc, ◌+◌, ◌<◌, ◌≤◌}
use native.Mathlib.Omega.{arith}
use lib.Dec.{leb, eqb, lit<}
use lib.ListN.{length}
use borrow.Author.Tests.{leb-true, eqb-true, eqb-false, ne_eqb}
use Rattle.protocol.specs.declared.Setup.TheVariants.{Missing, Chain, Quorum}
use Rattle.contexts.specs.declared.Objects.{Objects}
use Rattle.protocol.specs.declared.Step.{Step}
use Rattle.protocol.specs.declared.Step.TheVariants.{Start, BeginRead, BeginWrite, Deliver, Lose, Repeat, Advance, Replace, Tell, Remove, GiveUp, BeginContext, Join, Copy, Execute}
use Rattle.records.specs.Records.{byte_at, two_at, four_at, two_bytes, four_bytes, no_step, kind_of_tag, tag_of, content_length, is_short_give_up, is_length, kind_of, content_of, header_of, record_of, operation_in, step_of, is_writable, AllBytes, InRange}
use Rattle.records.proofs.Bytes.{both, two_read, four_read, two_written, four_written, all_bytes}
use Rattle.records.proofs.Contexts.{length_within, objects_length, objects_read, objects_written, objects_naming}

-- ---- a claim of every kind

-- P of each number below n, as one tuple
abbrev Each : ℕ → (ℕ → Type 0) → Type 0
Each zero P = Unit
Each (suc n) P = P 0 × Each n (λ k. P (suc k))

each : (n : ℕ) (P : ℕ → Type 0) → Each n P → (k : ℕ) → k < n → P k
each zero P e k h = absurd (omega arith)
each (suc n) P e zero h = e.0
each (suc n) P e (suc k) h = each n (λ i. P (suc i)) e.1 k (omega arith)

-- a test of each number below n, computed
abbrev all : ℕ → (ℕ → Bool) → Bool
all zero f = true
all (suc n) f = cond (f 0) (all n (λ k. f (suc k))) false

tested : (n : ℕ) (f : ℕ → Bool) → all n f ≡ true → (k : ℕ) → k < n → f k ≡ true
tested zero f e k h = absurd (omega arith)
tested (suc n) f e zero h = (both (f 0) (all n (λ k. f (suc k))) e).0
tested (suc n) f e (suc k) h = tested n (λ i. f (suc i)) (both (f 0) (all n (λ k. f (suc k))) e).1 k (omega arith)

-- a kind in the table of lengths: every one but a read of a whole context
abbrev InTable : ℕ → Type 0
InTable k = (k < 16) × (k ≡ 11 → ⊥)

-- a claim of the kinds in the table of lengths, and of the one beside it
by_kind : (P : ℕ → Type 0) → ((k : ℕ) → InTable k → P k) → P 11 → (k : ℕ) → k < 16 → P k
by_kind P table context k h = go (eqb k 11) refl
  where
    go : (t : Bool) → eqb k 11 ≡ t → P k
    go true e = subst P (sym (eqb-true k 11 e)) context
    go false e = table k (h, eqb-false k 11 e)

-- ---- lengths

-- Req 07: the one length beside the table
pub short_give_up : (k n : ℕ) → is_short_give_up k n ≡ true → (k ≡ 10) × (n ≡ 2)
unfolding is_short_give_up
short_give_up k n e = let t = both (eqb k 10) (eqb n 2) e in (eqb-true k 10 t.0, eqb-true n 2 t.1)

-- a kind in the table has the length that stands there, but for that
table_length : (k : ℕ) → InTable k → (n : ℕ) → is_length k n ≡ true → is_short_give_up k n ≡ false → n ≡ content_length k
unfolding is_length
table_length k h n e short = eqb-true n (content_length k) (rw (ne_eqb k 11 h.1, short) at e)

table_short : (k : ℕ) → InTable k → content_length k ≤ 16
unfolding content_length
table_short k h = leb-true _ _ (tested 16 (λ k. leb (content_length k) 16) refl k h.0)

-- no content is longer than eight objects
pub length_bounds : (k : ℕ) → k < 16 → (n : ℕ) → is_length k n ≡ true → n ≤ 16
unfolding is_length
length_bounds =
    by_kind (λ k. (n : ℕ) → is_length k n ≡ true → n ≤ 16)
    (λ k h n e. bounded k h n e (is_short_give_up k n) refl)
    (λ n e. (length_within n e).1)
  where
    bounded : (k : ℕ) → InTable k → (n : ℕ) → is_length k n ≡ true → (t : Bool) → is_short_give_up k n ≡ t → n ≤ 16
    bounded k h n e true short = omega (arith, (short_give_up k n short).1)
    bounded k h n e false short = let q = table_length k h n e short in let s = table_short k h in omega arith

-- ---- writing, then reading

-- the row of the table that a step has: the content has a length of its kind, and is read as the step
abbrev Row : Step → Type 0
Row s = (kind_of s < 16) × (is_length (kind_of s) (length (content_of s)) ≡ true) × (step_of (kind_of s) (content_of s) ≡ s)

pub row : (s : Step) → is_writable s ≡ true → Row s
unfolding two_bytes four_bytes two_at four_at content_length is_short_give_up is_length operation_in step_of
row (Start Missing) w = absurd (false≢true w)
row (Start (Chain n)) w = (lit< tt, refl, refl)
row (Start (Quorum n)) w = (lit< tt, refl, refl)
row (BeginRead object) w = (lit< tt, refl, ap BeginRead (two_read object))
row (BeginWrite object value) w = (lit< tt, refl, λ j. BeginWrite (two_read object j) (four_read value j))
row (Deliver position choice) w = (lit< tt, refl, ap (λ (a : ℕ). Deliver a choice) (two_read position))
row (Lose position) w = (lit< tt, refl, ap Lose (two_read position))
row (Repeat position) w = (lit< tt, refl, ap Repeat (two_read position))
row (Advance replica) w = (lit< tt, refl, refl)
row (Replace number) w = (lit< tt, refl, ap Replace (two_read number))
row (Tell replica) w = (lit< tt, refl, refl)
row (Remove replica) w = (lit< tt, refl, refl)
row (GiveUp operation) w = (lit< tt, refl, ap GiveUp (four_read operation))
row (BeginContext x) w = (lit< tt, objects_length x w, ap BeginContext (objects_read x w))
row Join w = (lit< tt, refl, refl)
row Copy w = (lit< tt, refl, refl)
row Execute w = (lit< tt, refl, refl)

-- ---- reading, then writing

-- a content of each shape, read as numbers, is written as it was: one byte, two bytes, four, two and one, two and four
one_byte : (c : List ℕ) → length c ≡ 1 → AllBytes c → (byte_at c 0 ∷ [] ≡ c) × (byte_at c 0 < 256)
one_byte c h b = (all_bytes c 1 h, b 0)

two_bytes_lem : (c : List ℕ) → length c ≡ 2 → AllBytes c → (two_bytes (two_at c 0) ≡ c) × (two_at c 0 < 65536)
unfolding two_at
two_bytes_lem c h b = let t = two_written (byte_at c 0) (byte_at c 1) (b 0) (b 1) in (t.0 ∙ all_bytes c 2 h, t.1)

four_bytes_lem : (c : List ℕ) → length c ≡ 4 → AllBytes c → (four_bytes (operation_in c) ≡ c) × (operation_in c < 4294967296)
unfolding two_at four_at operation_in is_short_give_up
four_bytes_lem c h b =
    let p = two_written (byte_at c 0) (byte_at c 1) (b 0) (b 1) in
    let q = two_written (byte_at c 2) (byte_at c 3) (b 2) (b 3) in
    let f = four_written (two_at c 0) (two_at c 2) p.1 q.1 in
    rw h (rw (f.0, p.0, q.0) (all_bytes c 4 h), f.1)

two_and_one : (c : List ℕ) → length c ≡ 3 → AllBytes c → (two_bytes (two_at c 0) ++ byte_at c 2 ∷ [] ≡ c) × ((two_at c 0 < 65536) × (byte_at c 2 < 256))
unfolding two_at
two_and_one c h b = let t = two_written (byte_at c 0) (byte_at c 1) (b 0) (b 1) in (rw t.0 (all_bytes c 3 h), (t.1, b 2))

two_and_four : (c : List ℕ) → length c ≡ 6 → AllBytes c
    → (two_bytes (two_at c 0) ++ four_bytes (four_at c 2) ≡ c) × ((two_at c 0 < 65536) × (four_at c 2 < 4294967296))
unfolding two_at four_at
two_and_four c h b =
    let t = two_written (byte_at c 0) (byte_at c 1) (b 0) (b 1) in
    let p = two_written (byte_at c 2) (byte_at c 3) (b 2) (b 3) in
    let q = two_written (byte_at c 4) (byte_at c 5) (b 4) (b 5) in
    let f = four_written (two_at c 2) (two_at c 4) p.1 q.1 in
    (rw (t.0, f.0, p.0, q.0) (all_bytes c 6 h), (t.1, f.1))

-- a content of the table's length, read as a step: the step has that content, and its numbers fit
abbrev TableRead : ℕ → Type 0
TableRead k = (c : List ℕ) → length c ≡ content_length k → AllBytes c → (content_of (step_of k c) ≡ c) × InRange (step_of k c)

no_bytes : (c : List ℕ) → length c ≡ 0 → AllBytes c → ([] ≡ c) × Unit {0}
no_bytes c h b = (all_bytes c 0 h, tt)

table_read : (k : ℕ) → InTable k → TableRead k
unfolding content_length step_of
table_read k h =
    each 16 (λ k. (k ≡ 11 → ⊥) → TableRead k)
    ((λ d. one_byte), ((λ d. two_bytes_lem), ((λ d. two_and_four), ((λ d. two_and_one), ((λ d. two_bytes_lem), ((λ d. two_bytes_lem), ((λ d. one_byte), ((λ d. two_bytes_lem), ((λ d. one_byte), ((λ d. one_byte), ((λ d. four_bytes_lem), ((λ d. absurd (d refl)), ((λ d. no_bytes), ((λ d. no_bytes), ((λ d. no_bytes), ((λ d. one_byte), tt))))))))))))))))
    k h.0 h.1

-- the same for every kind, but for a give-up of two bytes, whose number fits too
abbrev ReadAs : ℕ → Type 0
ReadAs k =
    (c : List ℕ) → is_length k (length c) ≡ true → AllBytes c → (is_short_give_up k (length c) ≡ false → content_of (step_of k c) ≡ c) × InRange (step_of k c)

-- Req 07: two bytes 'mean the same number'
pub short_read : (c : List ℕ) → length c ≡ 2 → step_of 10 c ≡ GiveUp (two_at c 0)
unfolding step_of operation_in is_short_give_up
short_read c h = rw h refl

short_fits : (c : List ℕ) → length c ≡ 2 → AllBytes c → InRange (step_of 10 c)
short_fits c h b = rw (short_read c h) (omega (arith, (two_bytes_lem c h b).1))

table_read_as : (k : ℕ) → InTable k → ReadAs k
table_read_as k h c e b = go (is_short_give_up k (length c)) refl
  where
    go : (t : Bool) → is_short_give_up k (length c) ≡ t → (t ≡ false → content_of (step_of k c) ≡ c) × InRange (step_of k c)
    go true short = let s = short_give_up k (length c) short in (λ no. absurd (false≢true (sym no)), subst (λ (i : ℕ). InRange (step_of i c)) (sym s.0) (short_fits c s.1 b))
    go false short = let t = table_read k h c (table_length k h (length c) e short) b in (λ _. t.0, t.1)

pub read_as : (k : ℕ) → k < 16 → ReadAs k
unfolding is_length step_of
read_as = by_kind ReadAs (λ k h c e b. let t = table_read_as k h c e b in (λ no. t.0 no, t.1)) (λ c e b. let t = objects_written c e b in (λ _. t.0, t.1))

pub kind_read : (k : ℕ) → k < 16 → (c : List ℕ) → kind_of (step_of k c) ≡ k
unfolding step_of
kind_read k h c = eqb-true _ _ (tested 16 (λ k. eqb (kind_of (step_of k c)) k) refl k h)

-- a test beside which another stands, which fails
beside : (a b : Bool) → a ≡ false → cond a true b ≡ true → b ≡ true
beside true b fails e = absurd (false≢true (sym fails))
beside false b fails e = e

-- whatever the bytes are, the step can be written
pub writable_read : (k : ℕ) → k < 16 → (c : List ℕ) → is_length k (length c) ≡ true → is_writable (step_of k c) ≡ true
unfolding is_length step_of
writable_read =
    by_kind (λ k. (c : List ℕ) → is_length k (length c) ≡ true → is_writable (step_of k c) ≡ true)
    (λ k h c e. beside (eqb k 11) _ (ne_eqb k 11 h.1) (tested 16 (λ k. cond (eqb k 11) true (is_writable (step_of k c))) refl k h.0))
    objects_naming

-- ---- tags

-- the tag of a kind names it
pub tag_known : (k : ℕ) → k < 16 → kind_of_tag (tag_of k) ≡ k
unfolding kind_of_tag tag_of
tag_known k h = eqb-true _ _ (tested 16 (λ k. eqb (kind_of_tag (tag_of k)) k) refl k h)

-- a tag that names a step is the tag of that step's kind
pub tag_back : (t : ℕ) → (kind_of_tag t ≡ no_step → ⊥) → (kind_of_tag t < 16) × (tag_of (kind_of_tag t) ≡ t)
unfolding kind_of_tag tag_of
tag_back t known = go (eqb t 32) (eqb t 33) (leb 1 t) (leb t 14) refl refl refl refl
  where
    go : (a e b c : Bool) → eqb t 32 ≡ a → eqb t 33 ≡ e → leb 1 t ≡ b → leb t 14 ≡ c → (kind_of_tag t < 16) × (tag_of (kind_of_tag t) ≡ t)
    go true e b c p s q r = (rw p (lit< tt), rw p (sym (eqb-true t 32 p)))
    go false true b c p s q r = (rw (p, s) (lit< tt), rw (p, s) (sym (eqb-true t 33 s)))
    go false false true true p s q r =
        let small : t ≤ 14 = leb-true t 14 r in
        (rw (p, s, q, r) (omega (arith, small)), simp (p, s, q, r, ne_eqb t 15 (λ d. omega (arith, small))))
    go false false true false p s q r = absurd (known (simp (p, s, q, r)))
    go false false false c p s q r = absurd (known (simp (p, s, q)))

-- ---- how long a record is

pub record_size_lem : (s : Step) → length (record_of s) ≡ 3 + length (content_of s)
unfolding record_of header_of two_bytes
record_size_lem s = omega arith

content_bounds : (s : Step) → is_writable s ≡ true → length (content_of s) ≤ 16
content_bounds s w = let t = row s w in length_bounds (kind_of s) t.0 (length (content_of s)) t.1

pub record_short : (s : Step) → is_writable s ≡ true → length (record_of s) ≤ 19
record_short s w = let b = content_bounds s w in omega (arith, record_size_lem s)

pub record_long : (s : Step) → 3 ≤ length (record_of s)
record_long s = omega (arith, record_size_lem s)

-- ---- the variants in the table of lengths: every step but a read of a whole context

pub in_table : (s : Step) → ((x : Objects) → s ≡ BeginContext x → ⊥) → (is_writable s ≡ not (eqb (kind_of s) no_step)) × (length (content_of s) ≡ content_length (kind_of s))
unfolding two_bytes four_bytes content_length
in_table (Start Missing) i = (refl, refl)
in_table (Start (Chain n)) i = (refl, refl)
in_table (Start (Quorum n)) i = (refl, refl)
in_table (BeginRead object) i = (refl, refl)
in_table (BeginWrite object value) i = (refl, refl)
in_table (Deliver position choice) i = (refl, refl)
in_table (Lose position) i = (refl, refl)
in_table (Repeat position) i = (refl, refl)
in_table (Advance replica) i = (refl, refl)
in_table (Replace number) i = (refl, refl)
in_table (Tell replica) i = (refl, refl)
in_table (Remove replica) i = (refl, refl)
in_table (GiveUp operation) i = (refl, refl)
in_table (BeginContext x) i = absurd (i x refl)
in_table Join i = (refl, refl)
in_table Copy i = (refl, refl)
in_table Execute i = (refl, refl)
