-- Req 02: the content of a read of a whole context is read back as it was written, and written back as it was read.
use mathlib.Core.Path.{◌≡◌, refl, sym, ap, ◌∙◌}
use mathlib.Core.Bool.{Bool, true, false, cond}
use mathlib.Core.List.{List, [], ◌∷◌, ◌++◌}
use Prim.Native.Nat.{ℕ, zero, suc, ◌+◌, ◌*◌, ◌/◌, ◌%◌, ◌<◌, ◌≤◌}
use native.Mathlib.Omega.{arith}
use lib.Dec.{leb, eqb, ltb}
use lib.ListN.{length, take, length-take, get_or-eq_default}
use lib.Seq.{get_or-take}
use borrow.Author.Tests.{leb-true, eqb-true, eq-eqb, ltb-true, ltb-false, lt-ltb}
use Rattle.contexts.specs.declared.Objects.{Objects}
use Rattle.contexts.specs.{context_of, size_of, is_count, empty_at, is_naming}
use Rattle.contexts.proofs.Places.{naming_last}
use Rattle.protocol.specs.declared.Step.TheVariants.{BeginContext}
use Rattle.records.specs.Records.{byte_at, two_at, two_bytes, context_kind, is_context_length, place_bytes, object_bytes, header_of, record_of, objects_in, AllBytes, InRange}
use Rattle.records.proofs.Bytes.{both, two_read, two_written, up_to, take_up_to, all_bytes}

-- ---- how long it is

pub objects_size : (x : Objects) → length (object_bytes x) ≡ 2 * size_of (context_of x)
unfolding object_bytes two_bytes size_of
objects_size x = simp length-take (omega arith)

count_within : (n : ℕ) → is_count n ≡ true → (2 ≤ n) × (n ≤ 8)
unfolding is_count
count_within n e = let b = both (leb 2 n) (leb n 8) e in (leb-true 2 n b.0, leb-true n 8 b.1)

-- a length that is allowed: an even number of bytes, for 2 to 8 objects
length_allowed : (n : ℕ) → is_context_length n ≡ true → (n % 2 ≡ 0) × (is_count (n / 2) ≡ true)
unfolding is_context_length
length_allowed n e = let b = both (eqb (n % 2) 0) (is_count (n / 2)) e in (eqb-true (n % 2) 0 b.0, b.1)

pub length_within : (n : ℕ) → is_context_length n ≡ true → (4 ≤ n) × (n ≤ 16)
length_within n e = let a = length_allowed n e in let w = count_within (n / 2) a.1 in (omega arith, omega arith)

-- the record is what its header and the eight places begin with
take_part : (n : ℕ) (l : List ℕ) → take (length (take n l)) l ≡ take n l
take_part zero l = refl
take_part (suc n) [] = refl
take_part (suc n) (a ∷ l) = ap (λ (r : List ℕ). a ∷ r) (take_part n l)

pub objects_record : (x : Objects) → take (length (record_of (BeginContext x))) (header_of context_kind (length (object_bytes x)) ++ place_bytes x) ≡ record_of (BeginContext x)
unfolding record_of header_of object_bytes two_bytes
objects_record x = ap (λ (r : List ℕ). header_of context_kind (length (object_bytes x)) ++ r) (take_part (2 * x.count) (place_bytes x))

-- ---- written, then read

-- what is known of objects that can be written
record Named (x : Objects) : Type 0 where
  count : is_count x.count ≡ true
  third : empty_at x.count 2 x.third ≡ true
  fourth : empty_at x.count 3 x.fourth ≡ true
  fifth : empty_at x.count 4 x.fifth ≡ true
  sixth : empty_at x.count 5 x.sixth ≡ true
  seventh : empty_at x.count 6 x.seventh ≡ true
  eighth : empty_at x.count 7 x.eighth ≡ true

named : (x : Objects) → is_naming x ≡ true → Named x
unfolding is_naming
named x e =
    let a = both (is_count x.count) _ e in
    let b = both (empty_at x.count 2 x.third) _ a.1 in
    let c = both (empty_at x.count 3 x.fourth) _ b.1 in
    let d = both (empty_at x.count 4 x.fifth) _ c.1 in
    let f = both (empty_at x.count 5 x.sixth) _ d.1 in
    let g = both (empty_at x.count 6 x.seventh) _ f.1 in
    record { count = a.0; third = b.0; fourth = c.0; fifth = d.0; sixth = f.0; seventh = g.0; eighth = g.1 }

objects_count : (x : Objects) → is_naming x ≡ true → length (object_bytes x) ≡ 2 * x.count
unfolding size_of
objects_count x e = let w = count_within x.count (named x e).count in omega (arith, objects_size x)

pub objects_length : (x : Objects) → is_naming x ≡ true → is_context_length (length (object_bytes x)) ≡ true
unfolding is_context_length
objects_length x e =
    let n : ℕ = length (object_bytes x) in
    let even : n % 2 ≡ 0 = omega (arith, objects_count x e) in
    let half : n / 2 ≡ x.count = omega (arith, objects_count x e) in
    simp (eq-eqb _ _ even, half, (named x e).count)

-- place i of n objects: what stands there, or nothing behind the last
place_read : (l : List ℕ) (n i v : ℕ) → two_at l (2 * i) ≡ v → empty_at n i v ≡ true → two_at (take (2 * n) l) (2 * i) ≡ v
unfolding two_at empty_at
place_read l n i v e h = go (ltb i n) refl h
  where
    go : (t : Bool) → ltb i n ≡ t → cond t true (eqb v 0) ≡ true → two_at (take (2 * n) l) (2 * i) ≡ v
    go true p q =
        let inside : i < n = ltb-true i n p in
        rw (get_or-take (2 * n) l (2 * i) 0 (omega arith), get_or-take (2 * n) l (2 * i + 1) 0 (omega arith)) e
    go false p q =
        let behind : n ≤ i = ltb-false i n p in
        rw (
          get_or-eq_default (take (2 * n) l) 0 {n = 2 * i} (omega (arith, length-take (2 * n) l)),
          get_or-eq_default (take (2 * n) l) 0 {n = 2 * i + 1} (omega (arith, length-take (2 * n) l)),
        )
        (sym (eqb-true v 0 q))

empty_inside : (n i v : ℕ) → i < n → empty_at n i v ≡ true
unfolding empty_at
empty_inside n i v h = rw (lt-ltb i n h)

pub objects_read : (x : Objects) → is_naming x ≡ true → objects_in (object_bytes x) ≡ x
unfolding objects_in object_bytes two_at two_bytes
objects_read x e =
    let known = named x e in
    let n : ℕ = x.count in
    let l : List ℕ = place_bytes x in
    let w = count_within n known.count in
    let counted : length (object_bytes x) / 2 ≡ n = omega (arith, objects_count x e) in
    let a : two_at (object_bytes x) 0 ≡ x.first = place_read l n 0 _ (two_read _) (empty_inside n 0 _ (omega arith)) in
    let b : two_at (object_bytes x) 2 ≡ x.second = place_read l n 1 _ (two_read _) (empty_inside n 1 _ (omega arith)) in
    let c : two_at (object_bytes x) 4 ≡ x.third = place_read l n 2 _ (two_read _) known.third in
    let d : two_at (object_bytes x) 6 ≡ x.fourth = place_read l n 3 _ (two_read _) known.fourth in
    let f : two_at (object_bytes x) 8 ≡ x.fifth = place_read l n 4 _ (two_read _) known.fifth in
    let g : two_at (object_bytes x) 10 ≡ x.sixth = place_read l n 5 _ (two_read _) known.sixth in
    let h : two_at (object_bytes x) 12 ≡ x.seventh = place_read l n 6 _ (two_read _) known.seventh in
    let k : two_at (object_bytes x) 14 ≡ x.eighth = place_read l n 7 _ (two_read _) known.eighth in
    λ j. record { count = counted j; first = a j; second = b j; third = c j; fourth = d j; fifth = f j; sixth = g j; seventh = h j; eighth = k j }

-- ---- read, then written

-- the number at a place is written as the two bytes there, and fits
place_written : (c : List ℕ) (i : ℕ) → AllBytes c → (two_bytes (two_at c i) ≡ byte_at c i ∷ byte_at c (i + 1) ∷ []) × (two_at c i < 65536)
unfolding two_at
place_written c i b = two_written (byte_at c i) (byte_at c (i + 1)) (b i) (b (i + 1))

places_written : (c : List ℕ) → AllBytes c → place_bytes (objects_in c) ≡ up_to 16 (byte_at c)
unfolding objects_in
places_written c b =
    rw (
      (place_written c 0 b).0,
      (place_written c 2 b).0,
      (place_written c 4 b).0,
      (place_written c 6 b).0,
      (place_written c 8 b).0,
      (place_written c 10 b).0,
      (place_written c 12 b).0,
      (place_written c 14 b).0,
    )

bytes_written : (c : List ℕ) → is_context_length (length c) ≡ true → AllBytes c → object_bytes (objects_in c) ≡ c
unfolding objects_in object_bytes
bytes_written c e b =
    let a = length_allowed (length c) e in
    let w = length_within (length c) e in
    let whole : 2 * (length c / 2) ≡ length c = omega arith in
    rw (whole, places_written c b, take_up_to (length c) 16 (byte_at c) w.1) (all_bytes c (length c) refl)

objects_fit : (c : List ℕ) → AllBytes c → InRange (BeginContext (objects_in c))
unfolding objects_in
objects_fit c b = (
  (place_written c 0 b).1,
  (place_written c 2 b).1,
  (place_written c 4 b).1,
  (place_written c 6 b).1,
  (place_written c 8 b).1,
  (place_written c 10 b).1,
  (place_written c 12 b).1,
  (place_written c 14 b).1,
)

-- a content of an allowed length is that of the objects which are read from it, and they fit
pub objects_written : (c : List ℕ) → is_context_length (length c) ≡ true → AllBytes c → (object_bytes (objects_in c) ≡ c) × InRange (BeginContext (objects_in c))
objects_written c e b = (bytes_written c e b, objects_fit c b)

-- nothing stands behind the last object, so the objects can be written
empty_behind : (c : List ℕ) (i : ℕ) → length c % 2 ≡ 0 → empty_at (length c / 2) i (two_at c (2 * i)) ≡ true
unfolding two_at empty_at
empty_behind c i even = go (ltb i (length c / 2)) refl
  where
    go : (t : Bool) → ltb i (length c / 2) ≡ t → cond t true (eqb (byte_at c (2 * i) * 256 + byte_at c (2 * i + 1)) 0) ≡ true
    go true p = refl
    go false p =
        let behind : length c / 2 ≤ i = ltb-false i (length c / 2) p in
        rw (get_or-eq_default c 0 {n = 2 * i} (omega arith), get_or-eq_default c 0 {n = 2 * i + 1} (omega arith))

pub objects_naming : (c : List ℕ) → is_context_length (length c) ≡ true → is_naming (objects_in c) ≡ true
unfolding objects_in
objects_naming c e =
    let a = length_allowed (length c) e in
    let empty : (i : ℕ) → empty_at (length c / 2) i (two_at c (2 * i)) ≡ true = λ i. empty_behind c i a.0 in
    naming_last (objects_in c) a.1 (empty 2) (empty 3) (empty 4) (empty 5) (empty 6) ∙ empty 7
