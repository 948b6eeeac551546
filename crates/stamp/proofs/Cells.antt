-- Stamps in two neighbouring cells: what is read after a stamp, or another number, was written.
use mathlib.Core.Path.{◌≡◌, ap, ◌∙◌}
use mathlib.Core.List.{List}
use Prim.Native.Nat.{ℕ, ◌+◌, ◌<◌}
use native.Mathlib.Omega.{arith}
use lib.ListN.{length, get_or, set, length-set}
use lib.Seq.{get_or-set_same, get_or-set_other}
use Rattle.stamp.specs.Stamps.{stamp_of, number_of, counter_of, stamp_in, set_stamp}
use Rattle.stamp.proofs.Laws.{stamp_of_parts}

pub length_stamp : (l : List ℕ) (i t : ℕ) → length (set_stamp l i t) ≡ length l
unfolding set_stamp
length_stamp l i t = length-set (set l i (number_of t)) (i + 1) (counter_of t) ∙ length-set l i (number_of t)

-- two lists with the same two cells
pub stamp_reads : (l k : List ℕ) (i : ℕ) → get_or l i 0 ≡ get_or k i 0 → get_or l (i + 1) 0 ≡ get_or k (i + 1) 0 → stamp_in l i ≡ stamp_in k i
unfolding stamp_in
stamp_reads l k i a b = ap (λ (u : ℕ). stamp_of u (get_or l (i + 1) 0)) a ∙ ap (stamp_of (get_or k i 0)) b

-- the stamp that was written
pub stamp_same : (l : List ℕ) (i t : ℕ) → i + 1 < length l → stamp_in (set_stamp l i t) i ≡ t
unfolding stamp_in set_stamp
stamp_same l i t h =
    let first = set l i (number_of t) in
    ap (λ (u : ℕ). stamp_of u (get_or (set_stamp l i t) (i + 1) 0))
    (get_or-set_other first (i + 1) i (counter_of t) 0 (λ e. omega (arith, e)) ∙ get_or-set_same l i (number_of t) 0 (omega (arith, h))) ∙
    ap (stamp_of (number_of t)) (get_or-set_same first (i + 1) (counter_of t) 0 (omega (arith, h, length-set l i (number_of t)))) ∙
    stamp_of_parts t

-- another cell
pub cell_beside : (l : List ℕ) (i t j : ℕ) → (j ≡ i → ⊥) → (j ≡ i + 1 → ⊥) → get_or (set_stamp l i t) j 0 ≡ get_or l j 0
unfolding set_stamp
cell_beside l i t j a b = get_or-set_other (set l i (number_of t)) (i + 1) j (counter_of t) 0 b ∙ get_or-set_other l i j (number_of t) 0 a

-- a stamp beside it, and one beside a cell that was written
pub stamp_beside : (l : List ℕ) (i t j : ℕ) → (j ≡ i → ⊥) → (j ≡ i + 1 → ⊥) → (j + 1 ≡ i → ⊥) → stamp_in (set_stamp l i t) j ≡ stamp_in l j
stamp_beside l i t j a b c =
    stamp_reads (set_stamp l i t) l j (cell_beside l i t j a b) (cell_beside l i t (j + 1) c (λ e. a (omega (arith, e))))

pub stamp_kept : (l : List ℕ) (k v j : ℕ) → (j ≡ k → ⊥) → (j + 1 ≡ k → ⊥) → stamp_in (set l k v) j ≡ stamp_in l j
stamp_kept l k v j a b = stamp_reads (set l k v) l j (get_or-set_other l k j v 0 a) (get_or-set_other l k (j + 1) v 0 b)
