-- Reading gives the step that was written, and writing the step read gives the record's bytes.
use mathlib.Core.Path.{◌≡◌, refl, sym, ap, ◌∙◌}
use mathlib.Core.Bool.{Bool, true, false, cond, not}
use mathlib.Core.List.{List, [], ◌∷◌, ◌++◌, append_assoc}
use Prim.Native.Nat.{ℕ, ◌+◌, ◌*◌, ◌/◌, ◌%◌, ◌≤◌, ◌<◌}
use native.Mathlib.Nat.{add-zero}
use native.Mathlib.Omega.{arith}
use lib.Dec.{leb, eqb}
use lib.ListN.{length, take, drop, length-append, length-drop, take-append-drop}
use lib.Seq.{slice, take-add, take_at, drop_at, get_or-drop, length-take-le}
use borrow.Author.Tests.{le-leb, lt-leb, ne_eqb, leb-true, not-true}
use Rattle.std.specs.Prelude.{Option, Some, None, Result, Ok, Err}
use Rattle.protocol.specs.declared.Step.{Step}
use Rattle.protocol.specs.declared.Step.TheVariants.{GiveUp}
use Rattle.records.specs.declared.Malformed.{Malformed}
use Rattle.records.specs.declared.Record.{Record}
use Rattle.records.specs.Records.{byte_at, two_at, two_bytes, four_bytes, kind_of_tag, tag_of, is_short_give_up, is_length, kind_of, content_of, header_of, record_of, step_of, read_to, malformed, record_at, is_short_at, is_start, in_place, next_of, next_at, is_writable, has_room, written_at, buffer_after, next_refusal, written_refusal, AllBytes, InRange}
use Rattle.records.proofs.Bytes.{two_read, two_written, first_bytes}
use Rattle.records.proofs.Parts.{byte_from, two_from, content_from, bytes_drop, bytes_take, found, Parts, parts}
use Rattle.records.proofs.Table.{length_bounds, row, read_as, short_give_up, short_read, kind_read, writable_read, tag_known, record_size_lem}

-- ---- written, then read

-- a record is read wherever it stands
pub read_at : (s : Step) (l r : List ℕ) (at : ℕ) → is_writable s ≡ true → drop at l ≡ record_of s ++ r
    → record_at l at ≡ Ok (read_to s (at + length (record_of s)))
unfolding record_of header_of two_bytes two_at
read_at s l r at writable e =
    let t = row s writable in
    let k : ℕ = kind_of s in
    let w : ℕ = length (content_of s) in
    let tag : kind_of_tag (byte_at l at) ≡ k = ap kind_of_tag (byte_from l at ∙ ap (λ (m : List ℕ). byte_at m 0) e) ∙ tag_known k t.0 in
    let size : two_at l (at + 1) ≡ w = two_from l at ∙ ap (λ (m : List ℕ). two_at m 1) e ∙ two_read w in
    let content : take w (drop (at + 3) l) ≡ content_of s = ap (take w) (content_from l at ∙ ap (drop 3) e) ∙ take_at (content_of s) r w refl in
    let room : at + 3 + w ≤ length l = omega (arith, length-drop at l, ap length e, length-append (record_of s) r, record_size_lem s) in
    let next : at + 3 + w ≡ at + length (record_of s) = omega (arith, record_size_lem s) in
    found l at k w tag t.0 size t.1 room ∙ rw (content, t.2, next)

-- 'Reading a written record gives the step that was written', whatever stands before and after it; no range is asked of the step's numbers
pub read_written : (s : Step) (buf : List ℕ) (at : ℕ) → is_writable s ≡ true → has_room buf at s ≡ true
    → record_at (buffer_after buf at s) at ≡ Ok (read_to s (at + length (record_of s)))
unfolding buffer_after has_room
read_written s buf at writable room =
    let fits : at + length (record_of s) ≤ length buf = leb-true _ _ room in
    let rest : List ℕ = drop (at + length (record_of s)) buf in
    rw (writable, room)
    (read_at s (take at buf ++ record_of s ++ rest) rest at writable
    (ap (drop at) (append_assoc (take at buf) (record_of s) rest) ∙ drop_at (take at buf) (record_of s ++ rest) at (length-take-le at buf (omega arith))))

-- ---- read, then written

slice_take : (l : List ℕ) (at n : ℕ) → at ≤ length l → slice at (at + n) l ≡ take n (drop at l)
slice_take l at n h = ap (drop at) (take-add at n l) ∙ drop_at (take at l) (take n (drop at l)) at (length-take-le at l h)

-- the first three bytes are the header of the kind and the length that were read
header_read : (l : List ℕ) (at k n : ℕ) (s : Step) → AllBytes l → Parts l at k (two_at l (at + 1)) n s → header_of k (two_at l (at + 1)) ≡ take 3 (drop at l)
unfolding header_of two_at
header_read l at k n s b p =
    let m : List ℕ = drop at l in
    let room : at + 3 + two_at l (at + 1) ≤ length l = p.room in
    let tag : tag_of k ≡ byte_at m 0 = sym p.tag ∙ byte_from l at in
    let two = two_written (byte_at m 1) (byte_at m 2) (bytes_drop l at b 1) (bytes_drop l at b 2) in
    rw (tag, two_from l at, two.0) (first_bytes m 3 (omega (arith, length-drop at l)))

-- the content that stands there has a length of its kind
content_size : (l : List ℕ) (at k w n : ℕ) (s : Step) → Parts l at k w n s
    → (length (take w (drop (at + 3) l)) ≡ w) × (is_length k (length (take w (drop (at + 3) l))) ≡ true)
content_size l at k w n s p =
    let room : at + 3 + w ≤ length l = p.room in
    let sized : length (take w (drop (at + 3) l)) ≡ w = length-take-le w (drop (at + 3) l) (omega (arith, length-drop (at + 3) l)) in
    (sized, ap (is_length k) sized ∙ p.size)

-- the step that was read has the kind and, but for a give-up of two bytes, the content that stand there, and its numbers fit
step_read : (l : List ℕ) (at k w n : ℕ) (s : Step) → AllBytes l → Parts l at k w n s
    → (kind_of s ≡ k) × (is_short_give_up k w ≡ false → content_of s ≡ take w (drop (at + 3) l)) × InRange s
step_read l at k w n s b p =
    let c : List ℕ = take w (drop (at + 3) l) in
    let q = content_size l at k w n s p in
    let r = read_as k p.below c q.1 (bytes_take (drop (at + 3) l) w (bytes_drop l (at + 3) b)) in
    rw (← p.step) (kind_read k p.below c, λ long. r.0 (ap (is_short_give_up k) q.0 ∙ long), r.1)

-- 'writing the step read gives the record's bytes'; Req 07: for every record but a give-up of length 2
pub written_read : (l : List ℕ) (at n : ℕ) (s : Step) → AllBytes l → record_at l at ≡ Ok (read_to s n) → is_short_at l at ≡ false → record_of s ≡ slice at n l
unfolding record_of is_short_at
written_read l at n s b e long =
    let k : ℕ = kind_of_tag (byte_at l at) in
    let w : ℕ = two_at l (at + 1) in
    let p = parts l at n s e in
    let r = step_read l at k w n s b p in
    let content = r.1 long in
    let room : at + 3 + w ≤ length l = p.room in
    let end : n ≡ at + (3 + w) = omega (arith, p.next) in
    let sized : length (content_of s) ≡ w = ap length content ∙ (content_size l at k w n s p).0 in
    rw (sized, r.0, content, header_read l at k n s b p, content_from l at, ← take-add 3 w (drop at l), end, slice_take l at (3 + w) (omega arith))

-- the record of a number that two bytes hold
short_record : (x y : ℕ) → x < 256 → y < 256 → record_of (GiveUp (x * 256 + y)) ≡ 10 ∷ 0 ∷ 4 ∷ 0 ∷ 0 ∷ x ∷ y ∷ []
unfolding record_of header_of tag_of four_bytes two_bytes
short_record x y h g =
    let none : (x * 256 + y) / 65536 ≡ 0 = omega arith in
    let all : (x * 256 + y) % 65536 ≡ x * 256 + y = omega arith in
    let high : (x * 256 + y) / 256 ≡ x = omega arith in
    let low : (x * 256 + y) % 256 ≡ y = omega arith in
    rw (none, all, high, low)

-- Req 07: a give-up of length 2 means the number of its two bytes, and 'writing the step read from a length-2 record gives the length-4 one'
pub short_written : (l : List ℕ) (at n : ℕ) (s : Step) → AllBytes l → record_at l at ≡ Ok (read_to s n) → is_short_at l at ≡ true
    → (s ≡ GiveUp (two_at l (at + 3))) × (n ≡ at + 5) × (record_of s ≡ 10 ∷ 0 ∷ 4 ∷ 0 ∷ 0 ∷ slice (at + 3) n l)
unfolding is_short_at two_at
short_written l at n s b e short =
    let w : ℕ = two_at l (at + 1) in
    let d : List ℕ = drop (at + 3) l in
    let p = parts l at n s e in
    let q = short_give_up (kind_of_tag (byte_at l at)) w short in
    let room : at + 3 + w ≤ length l = p.room in
    let two : w ≡ 2 = q.1 in
    let content : take 2 d ≡ byte_at l (at + 3) ∷ byte_at l (at + 3 + 1) ∷ [] =
    sym (first_bytes d 2 (omega (arith, length-drop (at + 3) l))) ∙
    (λ j. (get_or-drop (at + 3) l 0 0 ∙ ap (byte_at l) (add-zero (at + 3))) j ∷ get_or-drop (at + 3) l 1 0 j ∷ []) in
    let step : s ≡ GiveUp (two_at l (at + 3)) =
    sym p.step ∙ (λ j. step_of (q.0 j) (take (two j) d)) ∙ short_read (take 2 d) (ap length content) ∙ ap (λ (c : List ℕ). GiveUp (two_at c 0)) content in
    let end : n ≡ at + 5 = omega (arith, p.next) in
    let behind : n ≡ at + 3 + 2 = omega arith in
    let bytes : slice (at + 3) n l ≡ byte_at l (at + 3) ∷ byte_at l (at + 3 + 1) ∷ [] =
    ap (λ (i : ℕ). slice (at + 3) i l) behind ∙ slice_take l (at + 3) 2 (omega arith) ∙ content in
    (step, end, rw (step, bytes) (short_record (byte_at l (at + 3)) (byte_at l (at + 3 + 1)) (b (at + 3)) (b (at + 3 + 1))))

-- a step that is read has numbers that fit
pub in_range : (l : List ℕ) (at n : ℕ) (s : Step) → AllBytes l → record_at l at ≡ Ok (read_to s n) → InRange s
in_range l at n s b e = (step_read l at _ _ n s b (parts l at n s e)).2

-- a step that is read can be written
pub read_writable : (l : List ℕ) (at n : ℕ) (s : Step) → record_at l at ≡ Ok (read_to s n) → is_writable s ≡ true
read_writable l at n s e =
    let p = parts l at n s e in
    rw (← p.step) (writable_read _ p.below _ (content_size l at _ _ n s p).1)

-- the next position is past the record, by its own length, and within the input
pub next_position_lem : (l : List ℕ) (at n : ℕ) (s : Step) → record_at l at ≡ Ok (read_to s n) → (n ≡ at + 3 + two_at l (at + 1)) × (at < n) × (n ≤ length l)
next_position_lem l at n s e =
    let p = parts l at n s e in
    let next : at + 3 + two_at l (at + 1) ≡ n = p.next in
    let room : at + 3 + two_at l (at + 1) ≤ length l = p.room in
    (sym next, omega arith, omega arith)

-- and it has at most 19 bytes
pub record_most : (l : List ℕ) (at n : ℕ) (s : Step) → record_at l at ≡ Ok (read_to s n) → n ≤ at + 19
record_most l at n s e =
    let p = parts l at n s e in
    let next : at + 3 + two_at l (at + 1) ≡ n = p.next in
    omega (arith, length_bounds (kind_of_tag (byte_at l at)) p.below (two_at l (at + 1)) p.size)

-- so the step read, written where it was read, leaves the input as it was, but for a give-up of length 2
pub rewritten : (l : List ℕ) (at n : ℕ) (s : Step) → AllBytes l → record_at l at ≡ Ok (read_to s n) → is_short_at l at ≡ false → buffer_after l at s ≡ l
unfolding buffer_after has_room
rewritten l at n s b e long =
    let w : ℕ = two_at l (at + 1) in
    let p = next_position_lem l at n s e in
    let end : n ≡ at + (3 + w) = omega (arith, p.0) in
    let bytes : record_of s ≡ take (3 + w) (drop at l) =
    written_read l at n s b e long ∙ ap (λ (i : ℕ). slice at i l) end ∙ slice_take l at (3 + w) (omega arith) in
    let size : length (record_of s) ≡ 3 + w = ap length bytes ∙ length-take-le (3 + w) (drop at l) (omega (arith, length-drop at l, p.2)) in
    rw (read_writable l at n s e, le-leb (at + length (record_of s)) (length l) (omega arith))
    (ap (λ (r : List ℕ). take at l ++ r ++ drop (at + length (record_of s)) l) (bytes ∙ ap (λ (i : ℕ). take i (drop at l)) (sym size)) ∙
    rw (← take-add at (length (record_of s)) l) (take-append-drop (at + length (record_of s)) l))

-- ---- what a run reads

-- inside the input, a run reads the record that is found, if it is in place
next_inside : (l : List ℕ) (at : ℕ) → at < length l → next_at l at ≡ next_of (eqb at 0) (record_at l at)
unfolding next_at
next_inside l at h = go (eqb at 0) refl
  where
    go : (t : Bool) → eqb at 0 ≡ t → next_at l at ≡ next_of (eqb at 0) (record_at l at)
    go true e = simp e
    go false e = simp (e, lt-leb (length l) at h)

in_place_lem : (first : Bool) (s : Step) → is_start s ≡ first → in_place first s ≡ true
unfolding in_place
in_place_lem true s e = e
in_place_lem false s e = rw e

out_of_place : (first : Bool) (s : Step) → is_start s ≡ not first → in_place first s ≡ false
unfolding in_place
out_of_place true s e = e
out_of_place false s e = rw e

-- 'The first is a start; no other is': a record is read where it is a start in first place or another step in a later one ..
pub next_found : (l : List ℕ) (at n : ℕ) (s : Step) → record_at l at ≡ Ok (read_to s n) → is_start s ≡ eqb at 0 → next_at l at ≡ Ok (Some (read_to s n))
next_found l at n s e h =
    let p = next_position_lem l at n s e in
    next_inside l at (omega arith) ∙ rw (e, in_place_lem (eqb at 0) s h)

-- .. and nowhere else: a missing or second start is malformed, whatever its n
pub next_misplaced : (l : List ℕ) (at n : ℕ) (s : Step) → record_at l at ≡ Ok (read_to s n) → is_start s ≡ not (eqb at 0) → next_at l at ≡ Err malformed
next_misplaced l at n s e h =
    let p = next_position_lem l at n s e in
    next_inside l at (omega arith) ∙ rw (e, out_of_place (eqb at 0) s h)

place_of : (first : Bool) (s : Step) → in_place first s ≡ true → is_start s ≡ first
unfolding in_place
place_of true s e = e
place_of false s e = not-true (is_start s) e

read_in_place : (first : Bool) (f : Result Record Malformed) (s : Step) (n : ℕ) → next_of first f ≡ Ok (Some (read_to s n))
    → (f ≡ Ok (read_to s n)) × (is_start s ≡ first)
read_in_place first (Err x) s n e = let z : ◌≡◌ {A = ℕ} 0 1 = cc in absurd (omega arith)
read_in_place first (Ok r) s n e = let p = go (in_place first r.step) refl e in (ap Ok p.0, p.1)
  where
    go : (b : Bool) → in_place first r.step ≡ b → cond b (Ok (Some r)) (Err malformed) ≡ Ok (Some (read_to s n))
        → (r ≡ read_to s n) × (is_start s ≡ first)
    go true p q = let same : r ≡ read_to s n = cc q in (same, ap (λ (x : Record). is_start x.step) (sym same) ∙ place_of first r.step p)
    go false p q = let z : ◌≡◌ {A = ℕ} 0 1 = cc in absurd (omega arith)

-- so whatever a run reads is the record found there, and in place
pub next_record : (l : List ℕ) (at n : ℕ) (s : Step) → next_at l at ≡ Ok (Some (read_to s n)) → (record_at l at ≡ Ok (read_to s n)) × (is_start s ≡ eqb at 0)
unfolding next_at
next_record l at n s e = go (eqb at 0) (leb (length l) at) refl e
  where
    f : Result Record Malformed
    f = record_at l at

    go : (a b : Bool) → eqb at 0 ≡ a → cond a (next_of true f) (cond b (Ok None) (next_of false f)) ≡ Ok (Some (read_to s n))
        → (f ≡ Ok (read_to s n)) × (is_start s ≡ eqb at 0)
    go true b p q = rw p (read_in_place true f s n q)
    go false true p q = let z : ◌≡◌ {A = ℕ} 0 1 = cc in absurd (omega arith)
    go false false p q = rw p (read_in_place false f s n q)

-- the end is read at the end of the input and past it, but not in first place
pub next_end : (l : List ℕ) (at : ℕ) → 0 < at → length l ≤ at → next_at l at ≡ Ok None
unfolding next_at
next_end l at h g = simp (ne_eqb at 0 (λ e. omega arith), le-leb (length l) at g)

-- a malformed record is read as one, and the start of an empty input is missing
pub next_malformed : (l : List ℕ) (at : ℕ) → at < length l → record_at l at ≡ Err malformed → next_at l at ≡ Err malformed
next_malformed l at h e = next_inside l at h ∙ rw e

pub next_empty : next_at [] 0 ≡ Err malformed
unfolding next_at record_at
next_empty = refl

-- ---- 'Turned down'

pub malformed_is_1 : (l : List ℕ) (at : ℕ) → next_at l at ≡ Err malformed → next_refusal (next_at l at) ≡ 1
malformed_is_1 l at e = rw e

-- Req 02: a step with another number of objects is refused with 1, whatever the buffer's length; another step, with 15 where there is no room
pub unwritable_is_1 : (buf : List ℕ) (at : ℕ) (s : Step) → is_writable s ≡ false → (written_refusal (written_at buf at s) ≡ 1) × (buffer_after buf at s ≡ buf)
unfolding written_at buffer_after
unwritable_is_1 buf at s e = (rw e, rw e)

pub too_short_is_15 : (buf : List ℕ) (at : ℕ) (s : Step) → is_writable s ≡ true → length buf < at + length (record_of s)
    → (written_refusal (written_at buf at s) ≡ 15) × (buffer_after buf at s ≡ buf)
unfolding written_at buffer_after has_room
too_short_is_15 buf at s writable h =
    let none = lt-leb (at + length (record_of s)) (length buf) h in (rw (writable, none), rw (writable, none))
