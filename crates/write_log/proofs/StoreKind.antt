-- Req 11: a start says which kind of store it is, and nothing that replicas do changes it.
use mathlib.Core.Path.{◌≡◌, refl, ap, ◌∙◌}
use mathlib.Core.Bool.{true, false}
use mathlib.Core.List.{List}
use Prim.Native.Nat.{ℕ, zero, suc, ◌+◌, ◌*◌, max}
use native.Mathlib.Omega.{arith}
use lib.Dec.{eqb}
use lib.ListN.{get_or, set}
use lib.Seq.{get_or-set_other}
use Rattle.lists.proofs.Tests.{both}
use Rattle.stamp.specs.Stamps.{set_stamp}
use Rattle.stamp.proofs.Cells.{cell_beside}
use Rattle.store.specs.declared.Write.{Write}
use Rattle.store.specs.{highest_cell, applied_cell, order_cell, live_cell, last_number_cell, join_cell, kind_cell, logged_cell, acknowledged_cell, item_cell, named, live_count, row_of, highest_of, permitted_by, applied_by, logged, tabled, raised, is_quorum}
use Rattle.chain.specs.{head_of, tail_of, is_member, is_tail, chain_place, permitting, removed, empty_store}
use Rattle.replicas.specs.Replicas.{next_position, applying, taking}
use Rattle.joins.specs.{copies_made, newcomer, last_number, is_copied, holding_of, copied_object, copied, one_copy, promoted, copying, beginning, handing_on, join_ended, without}
use Rattle.quorum.specs.{logged_by, acknowledged_by, items_taken, sending_item, count_logged, logging, next_entry, acknowledging, executing}
use Rattle.chain.proofs.Members.{count_most}
use Rattle.replicas.proofs.Cells.{row_below, behind_tabled, behind_applying, behind_logged, behind_permitting, kept_removed}
use Rattle.replicas.proofs.Moves.{taking_is}
use Rattle.replicas.proofs.Shape.{blank_cell}
use Rattle.quorum.proofs.Cells.{item_from}
use Rattle.write_log.proofs.Shows.{Shows}
use Rattle.write_log.proofs.Joined.{JoinInvariant}
use Rattle.write_log.proofs.Without.{table, without_is}

-- t is of the kind of s
abbrev pub SameKind : List ℕ → List ℕ → Type 0
SameKind s t = is_quorum t ≡ is_quorum s

-- one cell tells
kind_of_lem : (s t : List ℕ) → get_or t kind_cell 0 ≡ get_or s kind_cell 0 → SameKind s t
unfolding is_quorum
kind_of_lem s t e = ap (λ (k : ℕ). eqb k 1) e

kind_set : (s : List ℕ) (i v : ℕ) → (kind_cell ≡ i → ⊥) → SameKind s (set s i v)
kind_set s i v d = kind_of_lem s (set s i v) (get_or-set_other s i kind_cell v 0 d)

-- ---- a write is applied, put into the log or taken, and a switch permitted

pub kind_applying : (s : List ℕ) (r : ℕ) (w : Write) → SameKind s (applying s r w)
kind_applying s r w = kind_of_lem s (applying s r w) (behind_applying s r w kind_cell (omega arith))

pub kind_logged : (s : List ℕ) (p : ℕ) (w : Write) → SameKind s (logged s p w)
kind_logged s p w = kind_of_lem s (logged s p w) (behind_logged s p w kind_cell (omega arith))

pub kind_taking : (s : List ℕ) (r : ℕ) (w : Write) → SameKind s (taking s r w)
kind_taking s r w = rw (taking_is s r w) (kind_applying (logged s (applied_by s r) w) r w ∙ kind_logged s (applied_by s r) w)

pub kind_permitting : (s : List ℕ) (r number : ℕ) → SameKind s (permitting s r number)
kind_permitting s r number = kind_of_lem s (permitting s r number) (behind_permitting s r number kind_cell (omega arith))

-- ---- a replica joins, and one is removed

kind_tabled : (s : List ℕ) (r : ℕ) (w : Write) → SameKind s (tabled s r w)
kind_tabled s r w = kind_of_lem s (tabled s r w) (behind_tabled s r w kind_cell (omega arith))

pub kind_handing : (s : List ℕ) (w : Write) → SameKind s (handing_on s w)
unfolding handing_on
kind_handing s w = both (SameKind s) (is_copied s w.object) (kind_tabled s (newcomer s) w) refl

pub kind_beginning : (s : List ℕ) → SameKind s (beginning s)
unfolding beginning
kind_beginning s =
    let a = set s (order_cell (live_count s)) (named (last_number s + 1) (newcomer s)) in
    let b = set a last_number_cell (last_number s + 1) in
    kind_set b join_cell 1 (λ e. omega (arith, e)) ∙
    kind_set a last_number_cell (last_number s + 1) (λ e. omega (arith, e)) ∙
    kind_set s (order_cell (live_count s)) (named (last_number s + 1) (newcomer s)) (λ e. omega (arith, e, count_most s))

kind_copied : (s : List ℕ) (q t first k : ℕ) → SameKind s (copied s q t first k)
unfolding copied copied_object
kind_copied s q t first zero = refl
kind_copied s q t first (suc k) =
    let u = copied s q t first k in
    kind_tabled u q (holding_of u t (first + k)) ∙ kind_copied s q t first k

kind_raised : (s : List ℕ) (r h n : ℕ) → SameKind s (raised s r h n)
unfolding raised
kind_raised s r h n =
    kind_set (set_stamp s (highest_cell (row_of r)) h) (applied_cell (row_of r)) n (λ e. omega (arith, e, row_below r)) ∙
    kind_of_lem s (set_stamp s (highest_cell (row_of r)) h) (cell_beside s (highest_cell (row_of r)) h kind_cell (λ e. omega (arith, e, row_below r)) (λ e. omega (arith, e, row_below r)))

kind_promoted : (s : List ℕ) → SameKind s (promoted s)
unfolding promoted
kind_promoted s =
    let a = raised s (newcomer s) (highest_of s (tail_of s)) (applied_by s (tail_of s)) in
    let b = permitting a (newcomer s) (permitted_by s (tail_of s)) in
    let c = set b live_cell (live_count s + 1) in
    kind_set c join_cell 0 (λ e. omega (arith, e)) ∙
    kind_set b live_cell (live_count s + 1) (λ e. omega (arith, e)) ∙
    kind_permitting a (newcomer s) (permitted_by s (tail_of s)) ∙
    kind_raised s (newcomer s) (highest_of s (tail_of s)) (applied_by s (tail_of s))

pub kind_copying : (s : List ℕ) → SameKind s (copying s)
unfolding copying one_copy
kind_copying s =
    let one = copied s (newcomer s) (tail_of s) (64 * copies_made s) 64 in
    let same : SameKind s one = kind_copied s (newcomer s) (tail_of s) (64 * copies_made s) 64 in
    both (SameKind s) (eqb (copies_made s + 1) 16) (kind_promoted one ∙ same) (kind_set one join_cell (copies_made s + 2) (λ e. omega (arith, e)) ∙ same)

pub kind_without : {s : List ℕ} {log : List Write} {n : ℕ} → Shows s log n → JoinInvariant s → (r : ℕ) → is_member s r ≡ true → SameKind s (without s r)
unfolding join_ended
kind_without {s} k g r member =
    rw (without_is k g r member)
    (kind_of_lem (join_ended s r) (removed (join_ended s r) (chain_place (join_ended s r) (table k g r member))) (kept_removed (join_ended s r) (table k g r member) kind_cell (omega arith)) ∙ both (SameKind s) (is_tail s r) (kind_set s join_cell 0 (λ e. omega (arith, e))) refl)

-- ---- a quorum store

pub kind_counted : (s : List ℕ) (r : ℕ) → SameKind s (count_logged s r)
unfolding count_logged
kind_counted s r = kind_set s (logged_cell (row_of r)) (next_position (logged_by s r)) (λ e. omega (arith, e))

pub kind_sending : (s : List ℕ) (item : ℕ) → SameKind s (sending_item s item)
unfolding sending_item
kind_sending s item = kind_set s (item_cell (items_taken s (head_of s))) item (λ e. omega (arith, e, item_from (items_taken s (head_of s))))

pub kind_acknowledging : (s : List ℕ) (r k : ℕ) → SameKind s (acknowledging s r k)
unfolding acknowledging
kind_acknowledging s r k = kind_set s (acknowledged_cell (row_of r)) (max (acknowledged_by s r) k) (λ e. omega (arith, e))

pub kind_logging : (s : List ℕ) (w : Write) → SameKind s (logging s w)
unfolding logging
kind_logging s w =
    let a = logged s (logged_by s (head_of s)) w in
    kind_counted (sending_item a 1) (head_of s) ∙ kind_sending a 1 ∙ kind_logged s (logged_by s (head_of s)) w

pub kind_executing : (s : List ℕ) → SameKind s (executing s)
unfolding executing
kind_executing s = kind_applying (sending_item s 0) (head_of s) (next_entry s (head_of s)) ∙ kind_sending s 0

-- ---- a chain's start

pub kind_start : (n : ℕ) → is_quorum (empty_store n) ≡ false
unfolding is_quorum
kind_start n = ap (λ (k : ℕ). eqb k 1) (blank_cell n kind_cell (omega arith) (λ e. omega (arith, e)) (λ j b e. omega (arith, e, b)))
