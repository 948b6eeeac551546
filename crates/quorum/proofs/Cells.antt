-- What is read of the quorum store after each change, with no cell number in sight.
use mathlib.Core.Path.{◌≡◌, ap, ◌∙◌}
use mathlib.Core.Bool.{true}
use mathlib.Core.List.{List}
use Prim.Native.Nat.{ℕ, ◌+◌, ◌%◌, ◌≤◌, ◌<◌, max}
use native.Mathlib.Omega.{arith}
use lib.Dec.{eqb}
use lib.ListN.{length, get_or, set, length-set}
use lib.Seq.{get_or-set_same, get_or-set_other}
use borrow.Author.Tests.{lt-ltb}
use Rattle.limits.specs as limits
use Rattle.store.specs.declared.Write.{Write}
use Rattle.store.specs.{highest_cell, permit_cell, applied_cell, value_cell, stamp_cell, kind_cell, logged_cell, acknowledged_cell, item_cell, store_cells, members, row_of, highest_of, permitted_by, applied_by, entry_at, value_at, stamp_at, logged, is_quorum}
use Rattle.chain.specs.{head_of, permitting, empty_store}
use Rattle.replicas.specs.Replicas.{next_position, applying}
use Rattle.replicas.proofs.Cells.{SizedStore, row_below, members_same, stamp_over, entries_kept, value_below, stamp_is, behind_applying, behind_logged, behind_permitting}
use Rattle.replicas.proofs.Shape.{sized_empty, blank_cell}
use Rattle.quorum.specs.{logged_by, acknowledged_by, is_entry, items_taken, sending_item, count_logged, acknowledging, quorum_store}

within : (s : List ℕ) (i : ℕ) → SizedStore s → i < 25340 → i < length s
unfolding store_cells
within s i z h = omega (arith, z, h)

pub item_from : (p : ℕ) → 25276 ≤ item_cell p
unfolding item_cell
item_from p = omega arith

pub item_below : (p : ℕ) → item_cell p < 25340
unfolding item_cell
item_below p = omega arith

-- ---- one cell behind the chain's is set

-- the order, the tables and the log of t are those of s
pub record SameTables (s t : List ℕ) : Type 0 where
  pub sized : SizedStore s → SizedStore t
  pub members_are : members t ≡ members s
  pub highest_is : (r : ℕ) → highest_of t r ≡ highest_of s r
  pub permitted_is : (r : ℕ) → permitted_by t r ≡ permitted_by s r
  pub applied_is : (r : ℕ) → applied_by t r ≡ applied_by s r
  pub entry_is : (p : ℕ) → entry_at t p ≡ entry_at s p
  pub value_is : (r o : ℕ) → value_at t r o ≡ value_at s r o
  pub stamp_is_same : (r o : ℕ) → stamp_at t r o ≡ stamp_at s r o

same_set : (s : List ℕ) (i v : ℕ) → kind_cell ≤ i → SameTables s (set s i v)
unfolding highest_of permitted_by applied_by value_at stamp_at
same_set s i v far = record {
  sized = λ z. length-set s i v ∙ z;
  members_are = members_same (set s i v) s (λ j h. low j (omega (arith, h)));
  highest_is = λ r. stamp_over (set s i v) s (highest_cell (row_of r)) (λ j a b. low j (omega (arith, b, row_below r)));
  permitted_is = λ r. low (permit_cell (row_of r)) (omega (arith, row_below r));
  applied_is = λ r. low (applied_cell (row_of r)) (omega (arith, row_below r));
  entry_is = λ p. entries_kept (set s i v) s p (λ j a b. low j (omega (arith, b)));
  value_is = λ r o. low (value_cell (row_of r) o) (omega (arith, value_below r o));
  stamp_is_same = λ r o. stamp_over (set s i v) s (stamp_cell (row_of r) o) (λ j a b. low j (omega (arith, b, stamp_is r o, value_below r o)));
}
  where
    low : (j : ℕ) → j < kind_cell → get_or (set s i v) j 0 ≡ get_or s j 0
    low j h = get_or-set_other s i j v 0 (λ e. omega (arith, e, h, far))

pub same_counted : (s : List ℕ) (r : ℕ) → SameTables s (count_logged s r)
unfolding count_logged
same_counted s r = same_set s (logged_cell (row_of r)) (next_position (logged_by s r)) (omega arith)

pub same_sending : (s : List ℕ) (item : ℕ) → SameTables s (sending_item s item)
unfolding sending_item
same_sending s item = same_set s (item_cell (items_taken s (head_of s))) item (omega (arith, item_from (items_taken s (head_of s))))

pub same_acknowledging : (s : List ℕ) (r k : ℕ) → SameTables s (acknowledging s r k)
unfolding acknowledging
same_acknowledging s r k = same_set s (acknowledged_cell (row_of r)) (max (acknowledged_by s r) k) (omega arith)

-- ---- an entry is counted

module _ (s : List ℕ) (r : ℕ) where
  pub logged_counted : SizedStore s → logged_by s r < limits.last_position → logged_by (count_logged s r) r ≡ logged_by s r + 1
  unfolding logged_by count_logged next_position
  logged_counted z h =
      get_or-set_same s (logged_cell (row_of r)) _ 0 (within s (logged_cell (row_of r)) z (omega (arith, row_below r))) ∙ rw (lt-ltb (logged_by s r) limits.last_position h)

  pub logged_counted_other : (q : ℕ) → (row_of q ≡ row_of r → ⊥) → logged_by (count_logged s r) q ≡ logged_by s q
  unfolding logged_by count_logged
  logged_counted_other q d = get_or-set_other s (logged_cell (row_of r)) (logged_cell (row_of q)) _ 0 (λ e. d (omega (arith, e)))

  pub acknowledged_counted : (q : ℕ) → acknowledged_by (count_logged s r) q ≡ acknowledged_by s q
  unfolding acknowledged_by count_logged
  acknowledged_counted q = get_or-set_other s (logged_cell (row_of r)) (acknowledged_cell (row_of q)) _ 0 (λ e. omega (arith, e, row_below r, row_below q))

  pub item_counted : (p : ℕ) → is_entry (count_logged s r) p ≡ is_entry s p
  unfolding is_entry count_logged
  item_counted p = ap (λ (k : ℕ). eqb k 1) (get_or-set_other s (logged_cell (row_of r)) (item_cell p) _ 0 (λ e. omega (arith, e, item_from p, row_below r)))

-- ---- an item is sent

module _ (s : List ℕ) (item : ℕ) where
  pub logged_sending : (q : ℕ) → logged_by (sending_item s item) q ≡ logged_by s q
  unfolding logged_by sending_item
  logged_sending q = get_or-set_other s (item_cell (items_taken s (head_of s))) (logged_cell (row_of q)) item 0 (λ e. omega (arith, e, item_from (items_taken s (head_of s)), row_below q))

  pub acknowledged_sending : (q : ℕ) → acknowledged_by (sending_item s item) q ≡ acknowledged_by s q
  unfolding acknowledged_by sending_item
  acknowledged_sending q = get_or-set_other s (item_cell (items_taken s (head_of s))) (acknowledged_cell (row_of q)) item 0 (λ e. omega (arith, e, item_from (items_taken s (head_of s)), row_below q))

  pub item_sent : SizedStore s → is_entry (sending_item s item) (items_taken s (head_of s)) ≡ eqb item 1
  unfolding is_entry sending_item
  item_sent z = ap (λ (k : ℕ). eqb k 1) (get_or-set_same s (item_cell (items_taken s (head_of s))) item 0 (within s (item_cell (items_taken s (head_of s))) z (item_below (items_taken s (head_of s)))))

  -- one of the 64 items before it
  pub item_sent_other : (p : ℕ) → p < items_taken s (head_of s) → items_taken s (head_of s) < p + limits.linked → is_entry (sending_item s item) p ≡ is_entry s p
  unfolding is_entry sending_item item_cell
  item_sent_other p a b = ap (λ (k : ℕ). eqb k 1) (get_or-set_other s (25276 + items_taken s (head_of s) % limits.linked) (25276 + p % limits.linked) item 0 (λ e. omega (arith, e, a, b)))

-- ---- an acknowledgement

module _ (s : List ℕ) (r k : ℕ) where
  pub acknowledged_same : SizedStore s → acknowledged_by (acknowledging s r k) r ≡ max (acknowledged_by s r) k
  unfolding acknowledged_by acknowledging
  acknowledged_same z = get_or-set_same s (acknowledged_cell (row_of r)) _ 0 (within s (acknowledged_cell (row_of r)) z (omega (arith, row_below r)))

  pub acknowledged_other : (q : ℕ) → (row_of q ≡ row_of r → ⊥) → acknowledged_by (acknowledging s r k) q ≡ acknowledged_by s q
  unfolding acknowledged_by acknowledging
  acknowledged_other q d = get_or-set_other s (acknowledged_cell (row_of r)) (acknowledged_cell (row_of q)) _ 0 (λ e. d (omega (arith, e)))

  pub logged_acknowledging : (q : ℕ) → logged_by (acknowledging s r k) q ≡ logged_by s q
  unfolding logged_by acknowledging
  logged_acknowledging q = get_or-set_other s (acknowledged_cell (row_of r)) (logged_cell (row_of q)) _ 0 (λ e. omega (arith, e, row_below r, row_below q))

  pub item_acknowledging : (p : ℕ) → is_entry (acknowledging s r k) p ≡ is_entry s p
  unfolding is_entry acknowledging
  item_acknowledging p = ap (λ (j : ℕ). eqb j 1) (get_or-set_other s (acknowledged_cell (row_of r)) (item_cell p) _ 0 (λ e. omega (arith, e, item_from p, row_below r)))

-- ---- what leaves the cells behind the chain's as they were

module _ (s t : List ℕ) (same : (i : ℕ) → kind_cell ≤ i → get_or t i 0 ≡ get_or s i 0) where
  pub logged_behind : (q : ℕ) → logged_by t q ≡ logged_by s q
  unfolding logged_by
  logged_behind q = same (logged_cell (row_of q)) (omega arith)

  pub acknowledged_behind : (q : ℕ) → acknowledged_by t q ≡ acknowledged_by s q
  unfolding acknowledged_by
  acknowledged_behind q = same (acknowledged_cell (row_of q)) (omega arith)

  pub item_behind : (p : ℕ) → is_entry t p ≡ is_entry s p
  unfolding is_entry
  item_behind p = ap (λ (k : ℕ). eqb k 1) (same (item_cell p) (omega (arith, item_from p)))

-- a replica applies a write, an entry is put into the log, a replica is told to permit a switch
pub applying_behind : (s : List ℕ) (r : ℕ) (w : Write) (i : ℕ) → kind_cell ≤ i → get_or (applying s r w) i 0 ≡ get_or s i 0
applying_behind s r w i h = behind_applying s r w i (omega (arith, h))

pub logging_behind : (s : List ℕ) (p : ℕ) (w : Write) (i : ℕ) → kind_cell ≤ i → get_or (logged s p w) i 0 ≡ get_or s i 0
logging_behind s p w i h = behind_logged s p w i (omega (arith, h))

pub permitting_behind : (s : List ℕ) (r number i : ℕ) → kind_cell ≤ i → get_or (permitting s r number) i 0 ≡ get_or s i 0
permitting_behind s r number i h = behind_permitting s r number i (omega (arith, h))

-- ---- the start

module _ (n : ℕ) where
  pub same_start : SameTables (empty_store n) (quorum_store n)
  unfolding quorum_store
  same_start = same_set (empty_store n) kind_cell 1 (omega arith)

  start_cell : (i : ℕ) → kind_cell < i → get_or (quorum_store n) i 0 ≡ 0
  unfolding quorum_store
  start_cell i h =
      get_or-set_other (empty_store n) kind_cell i 1 0 (λ e. omega (arith, e, h)) ∙ blank_cell n i (omega (arith, h)) (λ e. omega (arith, e, h)) (λ j b e. omega (arith, e, h, b))

  pub logged_start : (r : ℕ) → logged_by (quorum_store n) r ≡ 0
  unfolding logged_by
  logged_start r = start_cell (logged_cell (row_of r)) (omega arith)

  pub acknowledged_start : (r : ℕ) → acknowledged_by (quorum_store n) r ≡ 0
  unfolding acknowledged_by
  acknowledged_start r = start_cell (acknowledged_cell (row_of r)) (omega arith)

  pub quorum_start : is_quorum (quorum_store n) ≡ true
  unfolding is_quorum quorum_store
  quorum_start = ap (λ (k : ℕ). eqb k 1) (get_or-set_same (empty_store n) kind_cell 1 0 (within (empty_store n) kind_cell (sized_empty n) (omega arith)))
