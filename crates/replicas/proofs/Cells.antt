-- The laws of the lent store for the crates above: what is read after each change, with no cell number in sight.
use mathlib.Core.Path.{◌≡◌, refl, ap, ◌∙◌}
use mathlib.Core.List.{List}
use Prim.Native.Nat.{ℕ, ◌+◌, ◌-◌, ◌*◌, ◌%◌, ◌≤◌, ◌<◌, min}
use native.Mathlib.Omega.{arith}
use lib.Dec.{lit<, ltb}
use lib.ListN.{length, get_or, set, length-set}
use lib.Seq.{get_or-set_same, get_or-set_other}
use borrow.Author.Tests.{lt-ltb}
use Rattle.limits.specs as limits
use Rattle.lists.specs.{moves, list_of}
use Rattle.lists.proofs.Closing.{length_moves}
use Rattle.lists.proofs.Places.{list_of_same, get_d_moves_other}
use Rattle.stamp.specs.Stamps.{larger_of, stamp_in, set_stamp}
use Rattle.stamp.proofs.Cells.{length_stamp, stamp_reads, stamp_same, cell_beside, stamp_kept}
use Rattle.store.specs.declared.Write.{Write}
use Rattle.store.specs.{highest_cell, permit_cell, applied_cell, last_number_cell, join_cell, entry_cell, entry_stamp_cell, value_cell, stamp_cell, store_cells, live_count, order_at, members, row_of, highest_of}
use Rattle.store.specs.{permitted_by, applied_by, entry_at, value_at, stamp_at, logged, tabled, raised}
use Rattle.chain.specs.{chain_place, permitting, removed}
use Rattle.replicas.specs.Replicas.{next_position, applying}
use Rattle.chain.proofs.Members.{count_most}
use Rattle.lists.proofs.Tests.{by_test}

-- as many cells as the code's type gives
abbrev pub SizedStore : List ℕ → Type 0
SizedStore s = length s ≡ store_cells

-- a replica's number
abbrev pub Named : ℕ → Type 0
Named r = (1 ≤ r) × (r ≤ limits.replicas)

-- ---- where things lie: the chain's order, what each replica keeps, the writes of the links one field after another, the values, the stamps

pub row_below : (r : ℕ) → row_of r < limits.replicas
unfolding row_of
row_below r = omega arith

-- two numbers have two rows
row_same : (q r : ℕ) → Named q → Named r → row_of q ≡ row_of r → q ≡ r
unfolding row_of
row_same q r m n e = omega arith

pub row_apart : (q r : ℕ) → Named q → Named r → (q ≡ r → ⊥) → row_of q ≡ row_of r → ⊥
row_apart q r m n d e = d (row_same q r m n e)

pub entry_from : (f p : ℕ) → 41 ≤ entry_cell f p
unfolding entry_cell
entry_from f p = omega arith

pub entry_below : (f p : ℕ) → f < 3 → entry_cell f p < 425
unfolding entry_cell
entry_below f p h = omega arith

pub entry_stamp_from : (p : ℕ) → 425 ≤ entry_stamp_cell p
unfolding entry_stamp_cell
entry_stamp_from p = omega arith

pub entry_stamp_below : (p : ℕ) → entry_stamp_cell p < 680
unfolding entry_stamp_cell
entry_stamp_below p = omega arith

pub value_from_lem : (r o : ℕ) → 681 ≤ value_cell (row_of r) o
unfolding value_cell
value_from_lem r o = omega arith

pub value_below : (r o : ℕ) → value_cell (row_of r) o < 8873
unfolding value_cell
value_below r o = omega (arith, row_below r)

pub stamp_is : (r o : ℕ) → stamp_cell (row_of r) o ≡ 2 * value_cell (row_of r) o + 7511
unfolding stamp_cell value_cell
stamp_is r o = omega arith

pub within : (s : List ℕ) (i : ℕ) → SizedStore s → i ≤ join_cell → i < length s
unfolding store_cells
within s i h b = omega arith

-- two replicas or two objects have two cells
cell_same : (q r o p : ℕ) → Named q → Named r → o < limits.objects → p < limits.objects → value_cell (row_of q) o ≡ value_cell (row_of r) p →
    (q ≡ r) × (o ≡ p)
unfolding value_cell
cell_same q r o p m n a b e = (row_same q r m n (omega arith), omega arith)

-- ---- what is read in two stores that have the same cells

-- the order lies in the first nine cells
pub members_same : (s t : List ℕ) → ((i : ℕ) → i < 9 → get_or s i 0 ≡ get_or t i 0) → members s ≡ members t
unfolding members live_count order_at
members_same s t e =
    ap (list_of (order_at s)) count ∙
    list_of_same (order_at s) (order_at t) (live_count t) (λ i h. place i (omega (arith, h, count_most t)))
  where
    count : live_count s ≡ live_count t
    count = ap (min 8) (e 0 (lit< tt))

    place : (i : ℕ) → i < 8 → order_at s i ≡ order_at t i
    place i h = ap (λ (n : ℕ). n % 256) (e (1 + i) (omega arith))

-- a stamp is read by its two cells
pub stamp_over : (s t : List ℕ) (i : ℕ) → ((j : ℕ) → i ≤ j → j ≤ i + 1 → get_or s j 0 ≡ get_or t j 0) → stamp_in s i ≡ stamp_in t i
stamp_over s t i f = stamp_reads s t i (f i (omega arith) (omega arith)) (f (i + 1) (omega arith) (omega arith))

-- an entry is read by its three fields and its stamp's two cells
pub entry_same : (s t : List ℕ) (p : ℕ) → ((f : ℕ) → f < 3 → get_or s (entry_cell f p) 0 ≡ get_or t (entry_cell f p) 0)
    → ((j : ℕ) → entry_stamp_cell p ≤ j → j ≤ entry_stamp_cell p + 1 → get_or s j 0 ≡ get_or t j 0) → entry_at s p ≡ entry_at t p
unfolding entry_at
entry_same s t p e g =
    let stamps = stamp_over s t (entry_stamp_cell p) g in
    λ j. record {
      operation = e 0 (lit< tt) j;
      object = e 1 (lit< tt) j;
      value = e 2 (lit< tt) j;
      stamp = stamps j;
    }

-- where all cells from the first entry to the last entry's stamp are the same
pub entries_kept : (s t : List ℕ) (p : ℕ) → ((j : ℕ) → 41 ≤ j → j < 681 → get_or s j 0 ≡ get_or t j 0) → entry_at s p ≡ entry_at t p
entries_kept s t p f =
    entry_same s t p (λ k h. f (entry_cell k p) (entry_from k p) (omega (arith, entry_below k p h)))
    (λ j a b. f j (omega (arith, a, entry_stamp_from p)) (omega (arith, b, entry_stamp_below p)))

-- ---- a replica applies a write

next_below : (p : ℕ) → p < limits.last_position → next_position p ≡ p + 1
unfolding next_position
next_below p h = rw (lt-ltb p limits.last_position h)

-- a cell that the tables, or the row's own numbers, leave as it is
kept_tabled : (s : List ℕ) (r : ℕ) (w : Write) (i : ℕ) → (i ≡ value_cell (row_of r) w.object → ⊥) → (i ≡ stamp_cell (row_of r) w.object → ⊥) → (i ≡ stamp_cell (row_of r) w.object + 1 → ⊥) →
    get_or (tabled s r w) i 0 ≡ get_or s i 0
unfolding tabled
kept_tabled s r w i a b c =
    let value = value_cell (row_of r) w.object in
    cell_beside (set s value w.value) (stamp_cell (row_of r) w.object) w.stamp i b c ∙ get_or-set_other s value i w.value 0 a

kept_raised : (s : List ℕ) (r h n i : ℕ) → (i ≡ highest_cell (row_of r) → ⊥) → (i ≡ highest_cell (row_of r) + 1 → ⊥) → (i ≡ applied_cell (row_of r) → ⊥) → get_or (raised s r h n) i 0 ≡ get_or s i 0
unfolding raised
kept_raised s r h n i b c d = get_or-set_other (set_stamp s (highest_cell (row_of r)) h) (applied_cell (row_of r)) i n 0 d ∙ cell_beside s (highest_cell (row_of r)) h i b c

-- a table that takes a write changes nothing below the tables and nothing behind them
pub low_tabled : (s : List ℕ) (r : ℕ) (w : Write) (i : ℕ) → i < 681 → get_or (tabled s r w) i 0 ≡ get_or s i 0
low_tabled s r w i h =
    kept_tabled s r w i (λ e. omega (arith, e, h, value_from_lem r w.object)) (λ e. omega (arith, e, h, stamp_is r w.object)) (λ e. omega (arith, e, h, stamp_is r w.object))

pub behind_tabled : (s : List ℕ) (r : ℕ) (w : Write) (i : ℕ) → last_number_cell ≤ i → get_or (tabled s r w) i 0 ≡ get_or s i 0
behind_tabled s r w i h =
    kept_tabled s r w i (λ e. omega (arith, e, h, value_below r w.object)) (λ e. omega (arith, e, h, stamp_is r w.object, value_below r w.object))
    (λ e. omega (arith, e, h, stamp_is r w.object, value_below r w.object))

pub sized_tabled : (s : List ℕ) (r : ℕ) (w : Write) → SizedStore s → SizedStore (tabled s r w)
unfolding tabled
sized_tabled s r w h =
    let value = value_cell (row_of r) w.object in
    length_stamp (set s value w.value) (stamp_cell (row_of r) w.object) w.stamp ∙ length-set s value w.value ∙ h

-- the cells of an object after its write
pub value_tabled_same : (s : List ℕ) (r : ℕ) (w : Write) → SizedStore s → value_at (tabled s r w) r w.object ≡ w.value
unfolding value_at tabled
value_tabled_same s r w z =
    let cell : ℕ = value_cell (row_of r) w.object in
    cell_beside (set s cell w.value) (stamp_cell (row_of r) w.object) w.stamp cell (λ e. omega (arith, e, stamp_is r w.object)) (λ e. omega (arith, e, stamp_is r w.object)) ∙
    get_or-set_same s cell w.value 0 (within s cell z (omega (arith, value_below r w.object)))

pub stamp_tabled_same : (s : List ℕ) (r : ℕ) (w : Write) → SizedStore s → stamp_at (tabled s r w) r w.object ≡ w.stamp
unfolding stamp_at tabled
stamp_tabled_same s r w z =
    let value : ℕ = value_cell (row_of r) w.object in
    let cell : ℕ = stamp_cell (row_of r) w.object in
    stamp_same (set s value w.value) cell w.stamp
    (within (set s value w.value) (cell + 1) (length-set s value w.value ∙ z) (omega (arith, stamp_is r w.object, value_below r w.object)))

-- at another table or another object
module _ (s : List ℕ) (r : ℕ) (w : Write) (q o : ℕ) (m : Named q) (n : Named r) (a : o < limits.objects) (b : w.object < limits.objects) (apart : q ≡ r → o ≡ w.object → ⊥) where
  tabled_cell : value_cell (row_of q) o ≡ value_cell (row_of r) w.object → ⊥
  tabled_cell e = let same = cell_same q r o w.object m n a b e in apart same.0 same.1

  pub value_tabled_other : value_at (tabled s r w) q o ≡ value_at s q o
  unfolding value_at
  value_tabled_other =
      kept_tabled s r w (value_cell (row_of q) o) tabled_cell (λ e. omega (arith, e, value_below q o, stamp_is r w.object, value_from_lem r w.object)) (λ e. omega (arith, e, value_below q o, stamp_is r w.object, value_from_lem r w.object))

  pub stamp_tabled_other : stamp_at (tabled s r w) q o ≡ stamp_at s q o
  unfolding stamp_at
  stamp_tabled_other =
      stamp_reads (tabled s r w) s (stamp_cell (row_of q) o)
      (kept_tabled s r w (stamp_cell (row_of q) o) (λ e. omega (arith, e, value_below r w.object, stamp_is q o, value_from_lem q o)) (λ e. tabled_cell (omega (arith, e, stamp_is q o, stamp_is r w.object))) (λ e. omega (arith, e, stamp_is q o, stamp_is r w.object)))
      (kept_tabled s r w (stamp_cell (row_of q) o + 1) (λ e. omega (arith, e, value_below r w.object, stamp_is q o, value_from_lem q o)) (λ e. omega (arith, e, stamp_is q o, stamp_is r w.object)) (λ e. tabled_cell (omega (arith, e, stamp_is q o, stamp_is r w.object))))

pub highest_tabled : (s : List ℕ) (r : ℕ) (w : Write) (q : ℕ) → highest_of (tabled s r w) q ≡ highest_of s q
unfolding highest_of
highest_tabled s r w q = stamp_over (tabled s r w) s (highest_cell (row_of q)) (λ j a b. low_tabled s r w j (omega (arith, b, row_below q)))

pub permitted_tabled : (s : List ℕ) (r : ℕ) (w : Write) (q : ℕ) → permitted_by (tabled s r w) q ≡ permitted_by s q
unfolding permitted_by
permitted_tabled s r w q = low_tabled s r w (permit_cell (row_of q)) (omega (arith, row_below q))

pub applied_tabled : (s : List ℕ) (r : ℕ) (w : Write) (q : ℕ) → applied_by (tabled s r w) q ≡ applied_by s q
unfolding applied_by
applied_tabled s r w q = low_tabled s r w (applied_cell (row_of q)) (omega (arith, row_below q))

pub entry_tabled : (s : List ℕ) (r : ℕ) (w : Write) (p : ℕ) → entry_at (tabled s r w) p ≡ entry_at s p
entry_tabled s r w p = entries_kept (tabled s r w) s p (λ j a b. low_tabled s r w j b)

sized_raised : (s : List ℕ) (r h n : ℕ) → SizedStore s → SizedStore (raised s r h n)
unfolding raised
sized_raised s r h n z = length-set (set_stamp s (highest_cell (row_of r)) h) (applied_cell (row_of r)) n ∙ length_stamp s (highest_cell (row_of r)) h ∙ z

pub sized_applying : (s : List ℕ) (r : ℕ) (w : Write) → SizedStore s → SizedStore (applying s r w)
unfolding applying
sized_applying s r w h = sized_raised (tabled s r w) r (larger_of (highest_of s r) w.stamp) (next_position (applied_by s r)) (sized_tabled s r w h)

module _ (s : List ℕ) (r : ℕ) (w : Write) where
  abbrev tables : List ℕ
  tables = tabled s r w

  abbrev most : ℕ
  most = larger_of (highest_of s r) w.stamp

  -- what is no number of the row's own is as the tables leave it
  beside_applying : (i : ℕ) → (i ≡ highest_cell (row_of r) → ⊥) → (i ≡ highest_cell (row_of r) + 1 → ⊥) → (i ≡ applied_cell (row_of r) → ⊥) → get_or (applying s r w) i 0 ≡ get_or tables i 0
  unfolding applying
  beside_applying i b c d = kept_raised tables r most (next_position (applied_by s r)) i b c d

  -- so it is from the permits' end on, and the order
  above_applying : (i : ℕ) → 41 ≤ i → get_or (applying s r w) i 0 ≡ get_or tables i 0
  above_applying i h = beside_applying i (λ e. omega (arith, e, h, row_below r)) (λ e. omega (arith, e, h, row_below r)) (λ e. omega (arith, e, h, row_below r))

  -- the order, and what stands behind the tables, stay
  pub order_applying : (i : ℕ) → i < 9 → get_or (applying s r w) i 0 ≡ get_or s i 0
  order_applying i h = beside_applying i (λ e. omega (arith, e, h)) (λ e. omega (arith, e, h)) (λ e. omega (arith, e, h)) ∙ low_tabled s r w i (omega (arith, h))

  pub behind_applying : (i : ℕ) → last_number_cell ≤ i → get_or (applying s r w) i 0 ≡ get_or s i 0
  behind_applying i h = above_applying i (omega (arith, h)) ∙ behind_tabled s r w i h

  pub members_applying : members (applying s r w) ≡ members s
  members_applying = members_same (applying s r w) s order_applying

  pub permitted_applying : (q : ℕ) → permitted_by (applying s r w) q ≡ permitted_by s q
  unfolding permitted_by
  permitted_applying q =
      beside_applying (permit_cell (row_of q)) (λ e. omega (arith, e, row_below r)) (λ e. omega (arith, e, row_below r)) (λ e. omega (arith, e, row_below q)) ∙
      low_tabled s r w (permit_cell (row_of q)) (omega (arith, row_below q))

  pub entry_applying : (p : ℕ) → entry_at (applying s r w) p ≡ entry_at s p
  entry_applying p = entries_kept (applying s r w) s p (λ j a b. above_applying j a ∙ low_tabled s r w j b)

  pub highest_applying_other : (q : ℕ) → (row_of q ≡ row_of r → ⊥) → highest_of (applying s r w) q ≡ highest_of s q
  unfolding highest_of
  highest_applying_other q d =
      stamp_reads (applying s r w) tables (highest_cell (row_of q))
      (beside_applying (highest_cell (row_of q)) (λ e. d (omega (arith, e))) (λ e. omega (arith, e)) (λ e. omega (arith, e, row_below q)))
      (beside_applying (highest_cell (row_of q) + 1) (λ e. omega (arith, e)) (λ e. d (omega (arith, e))) (λ e. omega (arith, e, row_below q))) ∙
      stamp_over tables s (highest_cell (row_of q)) (λ j a b. low_tabled s r w j (omega (arith, b, row_below q)))

  pub applied_applying_other : (q : ℕ) → (row_of q ≡ row_of r → ⊥) → applied_by (applying s r w) q ≡ applied_by s q
  unfolding applied_by
  applied_applying_other q d =
      beside_applying (applied_cell (row_of q)) (λ e. omega (arith, e, row_below r)) (λ e. omega (arith, e, row_below r)) (λ e. d (omega (arith, e))) ∙
      low_tabled s r w (applied_cell (row_of q)) (omega (arith, row_below q))

  -- the tables after it
  value_applying : (q o : ℕ) → value_at (applying s r w) q o ≡ value_at tables q o
  unfolding value_at
  value_applying q o = above_applying (value_cell (row_of q) o) (omega (arith, value_from_lem q o))

  stamp_applying : (q o : ℕ) → stamp_at (applying s r w) q o ≡ stamp_at tables q o
  unfolding stamp_at
  stamp_applying q o = stamp_over (applying s r w) tables (stamp_cell (row_of q) o) (λ j a b. above_applying j (omega (arith, a, stamp_is q o)))

  module _ (z : SizedStore s) where
    pub highest_applying_same : highest_of (applying s r w) r ≡ larger_of (highest_of s r) w.stamp
    unfolding highest_of applying raised
    highest_applying_same =
        stamp_kept (set_stamp tables (highest_cell (row_of r)) most) (applied_cell (row_of r)) (next_position (applied_by s r)) (highest_cell (row_of r)) (λ e. omega (arith, e, row_below r)) (λ e. omega (arith, e, row_below r)) ∙
        stamp_same tables (highest_cell (row_of r)) most (within tables (highest_cell (row_of r) + 1) (sized_tabled s r w z) (omega (arith, row_below r)))

    applied_moves : applied_by (applying s r w) r ≡ next_position (applied_by s r)
    unfolding applied_by applying raised
    applied_moves =
        let before = set_stamp tables (highest_cell (row_of r)) most in
        get_or-set_same before (applied_cell (row_of r)) (next_position (applied_by s r)) 0
        (within before (applied_cell (row_of r)) (length_stamp tables (highest_cell (row_of r)) most ∙ sized_tabled s r w z) (omega (arith, row_below r)))

    pub applied_applying_same : applied_by s r < limits.last_position → applied_by (applying s r w) r ≡ applied_by s r + 1
    applied_applying_same h = applied_moves ∙ next_below (applied_by s r) h

    pub value_applying_same : value_at (applying s r w) r w.object ≡ w.value
    value_applying_same = value_applying r w.object ∙ value_tabled_same s r w z

    pub stamp_applying_same : stamp_at (applying s r w) r w.object ≡ w.stamp
    stamp_applying_same = stamp_applying r w.object ∙ stamp_tabled_same s r w z

  -- at another replica or another object
  module _ (q o : ℕ) (m : Named q) (n : Named r) (a : o < limits.objects) (b : w.object < limits.objects) (apart : q ≡ r → o ≡ w.object → ⊥) where
    pub value_applying_other : value_at (applying s r w) q o ≡ value_at s q o
    value_applying_other = value_applying q o ∙ value_tabled_other s r w q o m n a b apart

    pub stamp_applying_other : stamp_at (applying s r w) q o ≡ stamp_at s q o
    stamp_applying_other = stamp_applying q o ∙ stamp_tabled_other s r w q o m n a b apart

-- ---- a write in the log

module _ (s : List ℕ) (p : ℕ) (w : Write) where
  abbrev one : List ℕ
  one = set s (entry_cell 0 p) w.operation

  abbrev two : List ℕ
  two = set one (entry_cell 1 p) w.object

  abbrev three : List ℕ
  three = set two (entry_cell 2 p) w.value

  long : SizedStore s → SizedStore three
  long h = length-set two (entry_cell 2 p) w.value ∙ length-set one (entry_cell 1 p) w.object ∙ length-set s (entry_cell 0 p) w.operation ∙ h

  kept_logged : (i : ℕ) → ((f : ℕ) → f < 3 → i ≡ entry_cell f p → ⊥) → (i ≡ entry_stamp_cell p → ⊥) → (i ≡ entry_stamp_cell p + 1 → ⊥) → get_or (logged s p w) i 0 ≡ get_or s i 0
  unfolding logged
  kept_logged i d a b =
      cell_beside three (entry_stamp_cell p) w.stamp i a b ∙
      get_or-set_other two (entry_cell 2 p) i w.value 0 (d 2 (lit< tt)) ∙
      get_or-set_other one (entry_cell 1 p) i w.object 0 (d 1 (lit< tt)) ∙
      get_or-set_other s (entry_cell 0 p) i w.operation 0 (d 0 (lit< tt))

  low_logged : (i : ℕ) → i < 41 → get_or (logged s p w) i 0 ≡ get_or s i 0
  low_logged i h = kept_logged i (λ f b e. omega (arith, e, h, entry_from f p)) (λ e. omega (arith, e, h, entry_stamp_from p)) (λ e. omega (arith, e, h, entry_stamp_from p))

  -- from the tables on
  high_logged : (i : ℕ) → 681 ≤ i → get_or (logged s p w) i 0 ≡ get_or s i 0
  high_logged i h = kept_logged i (λ f b e. omega (arith, e, h, entry_below f p b)) (λ e. omega (arith, e, h, entry_stamp_below p)) (λ e. omega (arith, e, h, entry_stamp_below p))

  pub order_logged : (i : ℕ) → i < 9 → get_or (logged s p w) i 0 ≡ get_or s i 0
  order_logged i h = low_logged i (omega (arith, h))

  pub behind_logged : (i : ℕ) → last_number_cell ≤ i → get_or (logged s p w) i 0 ≡ get_or s i 0
  behind_logged i h = high_logged i (omega (arith, h))

  pub members_logged : members (logged s p w) ≡ members s
  members_logged = members_same (logged s p w) s order_logged

  pub highest_logged : (r : ℕ) → highest_of (logged s p w) r ≡ highest_of s r
  unfolding highest_of
  highest_logged r = stamp_over (logged s p w) s (highest_cell (row_of r)) (λ j a b. low_logged j (omega (arith, b, row_below r)))

  pub permitted_logged : (r : ℕ) → permitted_by (logged s p w) r ≡ permitted_by s r
  unfolding permitted_by
  permitted_logged r = low_logged (permit_cell (row_of r)) (omega (arith, row_below r))

  pub applied_logged : (r : ℕ) → applied_by (logged s p w) r ≡ applied_by s r
  unfolding applied_by
  applied_logged r = low_logged (applied_cell (row_of r)) (omega (arith, row_below r))

  pub value_logged : (r o : ℕ) → value_at (logged s p w) r o ≡ value_at s r o
  unfolding value_at
  value_logged r o = high_logged (value_cell (row_of r) o) (value_from_lem r o)

  pub stamp_logged : (r o : ℕ) → stamp_at (logged s p w) r o ≡ stamp_at s r o
  unfolding stamp_at
  stamp_logged r o = stamp_over (logged s p w) s (stamp_cell (row_of r) o) (λ j a b. high_logged j (omega (arith, a, stamp_is r o)))

  field_same : (f g q : ℕ) → entry_cell f q ≡ entry_cell g p → (f ≡ g) × (p % limits.kept ≡ q % limits.kept)
  unfolding entry_cell
  field_same f g q e = (omega arith, omega arith)

  stamp_field_same : (q : ℕ) → (entry_stamp_cell q ≡ entry_stamp_cell p → ⊥) → p % limits.kept ≡ q % limits.kept → ⊥
  unfolding entry_stamp_cell
  stamp_field_same q d e = d (omega (arith, e))

  -- two positions that differ have different cells for their stamps, and none of one is the other's second
  stamps_apart : (q : ℕ) → (p % limits.kept ≡ q % limits.kept → ⊥) → (entry_stamp_cell q ≡ entry_stamp_cell p → ⊥) × (entry_stamp_cell q ≡ entry_stamp_cell p + 1 → ⊥) × (entry_stamp_cell q + 1 ≡ entry_stamp_cell p → ⊥)
  unfolding entry_stamp_cell
  stamps_apart q d = (λ e. d (omega (arith, e)), λ e. omega (arith, e), λ e. omega (arith, e))

  pub entry_logged_other : (q : ℕ) → (p % limits.kept ≡ q % limits.kept → ⊥) → entry_at (logged s p w) q ≡ entry_at s q
  unfolding entry_at
  entry_logged_other q d =
      let a = stamps_apart q d in
      let plain : (f : ℕ) → f < 3 → get_or (logged s p w) (entry_cell f q) 0 ≡ get_or s (entry_cell f q) 0 =
      λ f b. kept_logged (entry_cell f q) (λ g c e. d (field_same f g q e).1) (λ e. omega (arith, e, entry_below f q b, entry_stamp_from p)) (λ e. omega (arith, e, entry_below f q b, entry_stamp_from p)) in
      let stamps : stamp_in (logged s p w) (entry_stamp_cell q) ≡ stamp_in s (entry_stamp_cell q) =
      stamp_reads (logged s p w) s (entry_stamp_cell q)
      (kept_logged (entry_stamp_cell q) (λ g c e. omega (arith, e, entry_below g p c, entry_stamp_from q)) a.0 a.1)
      (kept_logged (entry_stamp_cell q + 1) (λ g c e. omega (arith, e, entry_below g p c, entry_stamp_from q)) a.2 (λ e. a.0 (omega (arith, e)))) in
      λ j. record {
        operation = plain 0 (lit< tt) j;
        object = plain 1 (lit< tt) j;
        value = plain 2 (lit< tt) j;
        stamp = stamps j;
      }

  over : (l : List ℕ) (f g v : ℕ) → (f ≡ g → ⊥) → get_or (set l (entry_cell g p) v) (entry_cell f p) 0 ≡ get_or l (entry_cell f p) 0
  over l f g v d = get_or-set_other l (entry_cell g p) (entry_cell f p) v 0 (λ e. d (field_same f g p e).0)

  put : (l : List ℕ) (f v : ℕ) → f < 3 → SizedStore l → get_or (set l (entry_cell f p) v) (entry_cell f p) 0 ≡ v
  put l f v b k = get_or-set_same l (entry_cell f p) v 0 (within l (entry_cell f p) k (omega (arith, entry_below f p b)))

  -- a field beside the stamp
  beside : (f : ℕ) → f < 3 → get_or (logged s p w) (entry_cell f p) 0 ≡ get_or three (entry_cell f p) 0
  unfolding logged
  beside f b = cell_beside three (entry_stamp_cell p) w.stamp (entry_cell f p) (λ e. omega (arith, e, entry_below f p b, entry_stamp_from p)) (λ e. omega (arith, e, entry_below f p b, entry_stamp_from p))

  stamp_logged_same : SizedStore s → stamp_in (logged s p w) (entry_stamp_cell p) ≡ w.stamp
  unfolding logged
  stamp_logged_same h = stamp_same three (entry_stamp_cell p) w.stamp (within three (entry_stamp_cell p + 1) (long h) (omega (arith, entry_stamp_below p)))

  pub entry_logged_same : SizedStore s → entry_at (logged s p w) p ≡ w
  unfolding entry_at
  entry_logged_same h =
      let operation : get_or (logged s p w) (entry_cell 0 p) 0 ≡ w.operation =
      beside 0 (lit< tt) ∙ over two 0 2 w.value (λ e. omega arith) ∙ over one 0 1 w.object (λ e. omega arith) ∙ put s 0 w.operation (lit< tt) h in
      let object : get_or (logged s p w) (entry_cell 1 p) 0 ≡ w.object =
      beside 1 (lit< tt) ∙ over two 1 2 w.value (λ e. omega arith) ∙ put one 1 w.object (lit< tt) (length-set s (entry_cell 0 p) w.operation ∙ h) in
      let value : get_or (logged s p w) (entry_cell 2 p) 0 ≡ w.value =
      beside 2 (lit< tt) ∙ put two 2 w.value (lit< tt) (length-set one (entry_cell 1 p) w.object ∙ length-set s (entry_cell 0 p) w.operation ∙ h) in
      let stamp = stamp_logged_same h in
      λ j. record {
        operation = operation j;
        object = object j;
        value = value j;
        stamp = stamp j;
      }

pub sized_logged : (s : List ℕ) (p : ℕ) (w : Write) → SizedStore s → SizedStore (logged s p w)
unfolding logged
sized_logged s p w h = length_stamp (three s p w) (entry_stamp_cell p) w.stamp ∙ long s p w h

-- positions that the links hold at once do not meet in a cell
pub positions_apart : (p q : ℕ) → p < q → q < p + limits.kept → p % limits.kept ≡ q % limits.kept → ⊥
positions_apart p q a b e = omega arith

-- ---- a permit

pub sized_permitting : (s : List ℕ) (r number : ℕ) → SizedStore s → SizedStore (permitting s r number)
unfolding permitting
sized_permitting s r number h = simp length-set h

module _ (s : List ℕ) (r number : ℕ) where
  kept_permitting : (i : ℕ) → (i ≡ permit_cell (row_of r) → ⊥) → get_or (permitting s r number) i 0 ≡ get_or s i 0
  unfolding permitting
  kept_permitting i d = get_or-set_other s (permit_cell (row_of r)) i number 0 d

  pub order_permitting : (i : ℕ) → i < 9 → get_or (permitting s r number) i 0 ≡ get_or s i 0
  order_permitting i h = kept_permitting i (λ e. omega arith)

  pub behind_permitting : (i : ℕ) → last_number_cell ≤ i → get_or (permitting s r number) i 0 ≡ get_or s i 0
  behind_permitting i h = kept_permitting i (λ e. omega (arith, row_below r))

  pub members_permitting : members (permitting s r number) ≡ members s
  members_permitting = members_same (permitting s r number) s (λ i h. kept_permitting i (λ e. omega arith))

  pub permitted_permitting_same : SizedStore s → permitted_by (permitting s r number) r ≡ number
  unfolding permitted_by permitting
  permitted_permitting_same z = get_or-set_same s (permit_cell (row_of r)) number 0 (within s (permit_cell (row_of r)) z (omega (arith, row_below r)))

  pub permitted_permitting_other : (q : ℕ) → (row_of q ≡ row_of r → ⊥) → permitted_by (permitting s r number) q ≡ permitted_by s q
  unfolding permitted_by
  permitted_permitting_other q d = kept_permitting (permit_cell (row_of q)) (λ e. d (omega arith))

  pub highest_permitting : (q : ℕ) → highest_of (permitting s r number) q ≡ highest_of s q
  unfolding highest_of
  highest_permitting q = stamp_over (permitting s r number) s (highest_cell (row_of q)) (λ j a b. kept_permitting j (λ e. omega (arith, e, b, row_below q)))

  pub applied_permitting : (q : ℕ) → applied_by (permitting s r number) q ≡ applied_by s q
  unfolding applied_by
  applied_permitting q = kept_permitting (applied_cell (row_of q)) (λ e. omega (arith, row_below r))

  pub entry_permitting : (p : ℕ) → entry_at (permitting s r number) p ≡ entry_at s p
  entry_permitting p = entries_kept (permitting s r number) s p (λ j a b. kept_permitting j (λ e. omega (arith, e, a, row_below r)))

  pub value_permitting : (q o : ℕ) → value_at (permitting s r number) q o ≡ value_at s q o
  unfolding value_at
  value_permitting q o = kept_permitting (value_cell (row_of q) o) (λ e. omega (arith, value_from_lem q o, row_below r))

  pub stamp_permitting : (q o : ℕ) → stamp_at (permitting s r number) q o ≡ stamp_at s q o
  unfolding stamp_at
  stamp_permitting q o = stamp_over (permitting s r number) s (stamp_cell (row_of q) o) (λ j a b. kept_permitting j (λ e. omega (arith, e, a, stamp_is q o, row_below r)))

-- ---- a removal

pub sized_removed : (s : List ℕ) (r : ℕ) → SizedStore s → SizedStore (removed s (chain_place s r))
unfolding removed
sized_removed s r h =
    by_test SizedStore (ltb (chain_place s r) (live_count s))
    (λ e. simp (length-set, length_moves) h) (λ e. h)

module _ (s : List ℕ) (r : ℕ) where
  -- only the order changes
  pub kept_removed : (i : ℕ) → 9 ≤ i → get_or (removed s (chain_place s r)) i 0 ≡ get_or s i 0
  unfolding removed
  kept_removed i h =
      by_test (λ t. get_or t i 0 ≡ get_or s i 0) (ltb (chain_place s r) (live_count s))
      (λ e.
      get_or-set_other (set closed 8 (order_at s (chain_place s r))) 0 i (live_count s - 1) 0 (λ q. omega arith) ∙
      get_or-set_other closed 8 i (order_at s (chain_place s r)) 0 (λ q. omega arith) ∙
      get_d_moves_other 0 s (1 + chain_place s r) (7 - chain_place s r) i (λ b. omega (arith, b)))
      (λ e. refl)
    where
      closed : List ℕ
      closed = moves 0 s (1 + chain_place s r) (7 - chain_place s r)

  pub highest_removed : (q : ℕ) → highest_of (removed s (chain_place s r)) q ≡ highest_of s q
  unfolding highest_of
  highest_removed q = stamp_over (removed s (chain_place s r)) s (highest_cell (row_of q)) (λ j a b. kept_removed j (omega (arith, a)))

  pub permitted_removed : (q : ℕ) → permitted_by (removed s (chain_place s r)) q ≡ permitted_by s q
  unfolding permitted_by
  permitted_removed q = kept_removed (permit_cell (row_of q)) (omega arith)

  pub applied_removed : (q : ℕ) → applied_by (removed s (chain_place s r)) q ≡ applied_by s q
  unfolding applied_by
  applied_removed q = kept_removed (applied_cell (row_of q)) (omega arith)

  pub entry_removed : (p : ℕ) → entry_at (removed s (chain_place s r)) p ≡ entry_at s p
  entry_removed p = entries_kept (removed s (chain_place s r)) s p (λ j a b. kept_removed j (omega (arith, a)))

  pub value_removed : (q o : ℕ) → value_at (removed s (chain_place s r)) q o ≡ value_at s q o
  unfolding value_at
  value_removed q o = kept_removed (value_cell (row_of q) o) (omega (arith, value_from_lem q o))

  pub stamp_removed : (q o : ℕ) → stamp_at (removed s (chain_place s r)) q o ≡ stamp_at s q o
  unfolding stamp_at
  stamp_removed q o = stamp_over (removed s (chain_place s r)) s (stamp_cell (row_of q) o) (λ j a b. kept_removed j (omega (arith, a, stamp_is q o)))
