-- The chain's shape after a removal, and at the start.
use mathlib.Core.Path.{◌≡◌, refl, sym, ap, ◌∙◌}
use mathlib.Core.Bool.{true, false}
use mathlib.Core.List.{List}
use Prim.Native.Nat.{ℕ, zero, suc, ◌+◌, ◌-◌, ◌*◌, ◌%◌, ◌≤◌, ◌<◌}
use native.Mathlib.Decide.{dec_lt, ℕ_discrete}
use native.Mathlib.Omega.{arith}
use lib.ListN.{get_or, set, replicate, length-set, length-replicate}
use lib.Seq.{get_or-set_same, get_or-set_other}
use Rattle.limits.specs as limits
use Rattle.lists.specs.{moves}
use Rattle.lists.proofs.Closing.{length_moves}
use Rattle.lists.proofs.Places.{get_d_moves, get_d_moves_other}
use Rattle.stamp.specs.Stamps.{stamp_of, stamp_in}
use Rattle.store.specs.{highest_cell, permit_cell, applied_cell, last_number_cell, join_cell, store_cells, value_cell, stamp_cell, live_count, order_at, row_of, highest_of, permitted_by, applied_by, value_at, stamp_at}
use Rattle.chain.specs.{chain_place, is_live, member_at, removed, empty_cells, numbered, empty_store}
use Rattle.chain.proofs.Members.{count_most, member_order, member_past, live_place, place_below}
use Rattle.replicas.proofs.Cells.{SizedStore, row_below, within, value_from_lem, value_below, stamp_is}

-- ---- a removal

-- to remove one that is gone changes nothing
pub removed_gone : (s : List ℕ) (r : ℕ) → is_live s r ≡ false → removed s (chain_place s r) ≡ s
unfolding removed
removed_gone s r e = rw (sym (live_place s r) ∙ e)

-- to remove a live one closes the order up: those before it stay, those behind it move up one place, and its table comes to the last place
module _ (s : List ℕ) (r : ℕ) (z : SizedStore s) (live : is_live s r ≡ true) where
  abbrev closed : List ℕ
  closed = moves 0 s (1 + chain_place s r) (7 - chain_place s r)

  abbrev ended : List ℕ
  ended = set closed 8 (order_at s (chain_place s r))

  removed_is : removed s (chain_place s r) ≡ set ended 0 (live_count s - 1)
  unfolding removed
  removed_is = rw (sym (live_place s r) ∙ live)

  sized_ended : SizedStore ended
  sized_ended = simp length-set (length_moves 0 s (1 + chain_place s r) (7 - chain_place s r) ∙ z)

  pub count_removed : live_count (removed s (chain_place s r)) ≡ live_count s - 1
  unfolding live_count
  count_removed =
      let cell : get_or (removed s (chain_place s r)) 0 0 ≡ live_count s - 1 =
      ap (λ (t : List ℕ). get_or t 0 0) removed_is ∙ get_or-set_same ended 0 (live_count s - 1) 0 (within ended 0 sized_ended (omega arith)) in
      omega (arith, cell, count_most s)

  -- the cells of the order
  cell_of : (p : ℕ) → get_or (removed s (chain_place s r)) (1 + p) 0 ≡ get_or ended (1 + p) 0
  cell_of p = ap (λ (t : List ℕ). get_or t (1 + p) 0) removed_is ∙ get_or-set_other ended 0 (1 + p) (live_count s - 1) 0 (λ e. omega arith)

  cell_closed : (p : ℕ) → p < 7 → get_or (removed s (chain_place s r)) (1 + p) 0 ≡ get_or closed (1 + p) 0
  cell_closed p h = cell_of p ∙ get_or-set_other closed 8 (1 + p) (order_at s (chain_place s r)) 0 (λ e. omega arith)

  pub cell_before : (p : ℕ) → p < chain_place s r → get_or (removed s (chain_place s r)) (1 + p) 0 ≡ get_or s (1 + p) 0
  cell_before p h =
      cell_closed p (omega (arith, place_below s r live, count_most s)) ∙
      get_d_moves_other 0 s (1 + chain_place s r) (7 - chain_place s r) (1 + p) (λ b. omega (arith, b))

  pub cell_behind : (p : ℕ) → chain_place s r ≤ p → p < 7 → get_or (removed s (chain_place s r)) (1 + p) 0 ≡ get_or s (1 + (p + 1)) 0
  cell_behind p h b =
      cell_closed p b ∙
      get_d_moves 0 s (1 + chain_place s r) (7 - chain_place s r) (1 + p) (omega arith) (omega arith) (within s (1 + p) z (omega arith)) ∙
      ap (λ (i : ℕ). get_or s i 0) (omega arith)

  pub cell_last : get_or (removed s (chain_place s r)) 8 0 ≡ order_at s (chain_place s r)
  cell_last =
      cell_of 7 ∙
      get_or-set_same closed 8 (order_at s (chain_place s r)) 0
      (within closed 8 (length_moves 0 s (1 + chain_place s r) (7 - chain_place s r) ∙ z) (omega arith))

  order_before : (p : ℕ) → p < chain_place s r → order_at (removed s (chain_place s r)) p ≡ order_at s p
  unfolding order_at
  order_before p h = ap (λ (n : ℕ). n % 256) (cell_before p h)

  order_behind : (p : ℕ) → chain_place s r ≤ p → p < 7 → order_at (removed s (chain_place s r)) p ≡ order_at s (p + 1)
  unfolding order_at
  order_behind p h b = ap (λ (n : ℕ). n % 256) (cell_behind p h b)

  pub member_removed_before : (p : ℕ) → p < chain_place s r → member_at (removed s (chain_place s r)) p ≡ member_at s p
  member_removed_before p h =
      let below = place_below s r live in
      member_order (removed s (chain_place s r)) p (omega (arith, count_removed, below)) ∙ order_before p h ∙ sym (member_order s p (omega (arith, below)))

  pub member_removed_behind : (p : ℕ) → chain_place s r ≤ p → member_at (removed s (chain_place s r)) p ≡ member_at s (p + 1)
  member_removed_behind p h =
      elim (dec_lt p (live_count s - 1)) [
        | yes b ↦ member_order (removed s (chain_place s r)) p (omega (arith, count_removed)) ∙ order_behind p h (omega (arith, count_most s)) ∙ sym (member_order s (p + 1) (omega arith))
        | no b ↦ member_past (removed s (chain_place s r)) p (omega (arith, count_removed, b)) ∙ sym (member_past s (p + 1) (omega (arith, b)))
      ]

-- ---- at the start

zeros : (n i : ℕ) → get_or {A = ℕ} (replicate n 0) i 0 ≡ 0
zeros zero i = refl
zeros (suc n) zero = refl
zeros (suc n) (suc i) = zeros n i

empty_cell : (i : ℕ) → get_or empty_cells i 0 ≡ 0
unfolding empty_cells
empty_cell i = zeros store_cells i

sized_cells : SizedStore empty_cells
unfolding empty_cells
sized_cells = length-replicate {A = ℕ} store_cells 0

sized_numbered : (s : List ℕ) (k : ℕ) → SizedStore s → SizedStore (numbered s k)
unfolding numbered
sized_numbered s zero h = h
sized_numbered s (suc k) h = simp length-set (sized_numbered s k h)

-- the cells of the order and of the permits
module _ (s : List ℕ) (z : SizedStore s) where
  numbered_other : (k i : ℕ) → ((j : ℕ) → j < k → i ≡ 1 + j → ⊥) → ((j : ℕ) → j < k → i ≡ permit_cell j → ⊥) → get_or (numbered s k) i 0 ≡ get_or s i 0
  unfolding numbered
  numbered_other zero i a b = refl
  numbered_other (suc k) i a b =
      get_or-set_other (set (numbered s k) (1 + k) (256 * (k + 1) + (k + 1))) (permit_cell k) i 1 0 (b k (omega arith)) ∙
      get_or-set_other (numbered s k) (1 + k) i (256 * (k + 1) + (k + 1)) 0 (a k (omega arith)) ∙
      numbered_other k i (λ j h. a j (omega arith)) (λ j h. b j (omega arith))

  numbered_order : (k j : ℕ) → k ≤ 8 → j < k → get_or (numbered s k) (1 + j) 0 ≡ 256 * (j + 1) + (j + 1)
  unfolding numbered
  numbered_order zero j m h = absurd (omega arith)
  numbered_order (suc k) j m h =
      get_or-set_other (set (numbered s k) (1 + k) (256 * (k + 1) + (k + 1))) (permit_cell k) (1 + j) 1 0 (λ e. omega arith) ∙ at (ℕ_discrete j k) (numbered_order k j (omega arith))
    where
      at : Dec (j ≡ k) → (j < k → get_or (numbered s k) (1 + j) 0 ≡ 256 * (j + 1) + (j + 1)) → get_or (set (numbered s k) (1 + k) (256 * (k + 1) + (k + 1))) (1 + j) 0 ≡ 256 * (j + 1) + (j + 1)
      at (yes e) rest =
          ap (λ (i : ℕ). get_or (set (numbered s k) (1 + k) (256 * (k + 1) + (k + 1))) (1 + i) 0) e ∙
          get_or-set_same (numbered s k) (1 + k) (256 * (k + 1) + (k + 1)) 0 (within (numbered s k) (1 + k) (sized_numbered s k z) (omega arith)) ∙
          ap (λ (i : ℕ). 256 * (i + 1) + (i + 1)) (sym e)
      at (no n) rest = get_or-set_other (numbered s k) (1 + k) (1 + j) (256 * (k + 1) + (k + 1)) 0 (λ e. n (omega arith)) ∙ rest (omega (arith, n))

  numbered_permit : (k j : ℕ) → k ≤ 8 → j < k → get_or (numbered s k) (permit_cell j) 0 ≡ 1
  unfolding numbered
  numbered_permit zero j m h = absurd (omega arith)
  numbered_permit (suc k) j m h = at (ℕ_discrete j k) (numbered_permit k j (omega arith))
    where
      at : Dec (j ≡ k) → (j < k → get_or (numbered s k) (permit_cell j) 0 ≡ 1) → get_or (set (set (numbered s k) (1 + k) (256 * (k + 1) + (k + 1))) (permit_cell k) 1) (permit_cell j) 0 ≡ 1
      at (yes e) rest =
          ap (λ (i : ℕ). get_or (set (set (numbered s k) (1 + k) (256 * (k + 1) + (k + 1))) (permit_cell k) 1) (permit_cell i) 0) e ∙
          get_or-set_same (set (numbered s k) (1 + k) (256 * (k + 1) + (k + 1))) (permit_cell k) 1 0
          (within (set (numbered s k) (1 + k) (256 * (k + 1) + (k + 1))) (permit_cell k) (simp length-set (sized_numbered s k z)) (omega arith))
      at (no n) rest =
          get_or-set_other (set (numbered s k) (1 + k) (256 * (k + 1) + (k + 1))) (permit_cell k) (permit_cell j) 1 0 (λ e. n (omega arith)) ∙
          get_or-set_other (numbered s k) (1 + k) (permit_cell j) (256 * (k + 1) + (k + 1)) 0 (λ e. omega arith) ∙
          rest (omega (arith, n))

pub sized_empty : (n : ℕ) → SizedStore (empty_store n)
unfolding empty_store
sized_empty n = simp length-set (sized_numbered empty_cells 8 sized_cells)

module _ (n : ℕ) where
  abbrev counted : List ℕ
  counted = set (numbered empty_cells 8) 0 n

  behind_live : (i : ℕ) → 0 < i → (i ≡ last_number_cell → ⊥) → get_or (empty_store n) i 0 ≡ get_or (numbered empty_cells 8) i 0
  unfolding empty_store
  behind_live i h d = get_or-set_other counted last_number_cell i n 0 d ∙ get_or-set_other (numbered empty_cells 8) 0 i n 0 (λ e. omega arith)

  -- a cell that is in neither the order nor the permits
  pub blank_cell : (i : ℕ) → 9 ≤ i → (i ≡ last_number_cell → ⊥) → ((j : ℕ) → j < 8 → i ≡ permit_cell j → ⊥) → get_or (empty_store n) i 0 ≡ 0
  blank_cell i h d b =
      behind_live i (omega arith) d ∙ numbered_other empty_cells sized_cells 8 i (λ j c e. omega arith) b ∙ empty_cell i

  -- two such cells are the stamp (0,0)
  blank_stamp : (i : ℕ) → 9 ≤ i → ((k : ℕ) → i ≤ k → k ≤ i + 1 → k ≡ last_number_cell → ⊥) → ((k : ℕ) → i ≤ k → k ≤ i + 1 → (j : ℕ) → j < 8 → k ≡ permit_cell j → ⊥) → stamp_in (empty_store n) i ≡ 0
  unfolding stamp_in stamp_of
  blank_stamp i h d b =
      rw (
        blank_cell i h (d i (omega arith) (omega arith)) (b i (omega arith) (omega arith)),
        blank_cell (i + 1) (omega (arith, h)) (d (i + 1) (omega arith) (omega arith)) (b (i + 1) (omega arith) (omega arith)),
      )

  pub count_empty : n ≤ limits.replicas → live_count (empty_store n) ≡ n
  unfolding live_count empty_store
  count_empty h =
      let cell : get_or (set counted last_number_cell n) 0 0 ≡ n =
      get_or-set_other counted last_number_cell 0 n 0 (λ e. omega arith) ∙
      get_or-set_same (numbered empty_cells 8) 0 n 0 (within (numbered empty_cells 8) 0 (sized_numbered empty_cells 8 sized_cells) (omega arith)) in
      omega (arith, cell)

  -- 'Replicas are numbered 1 to n at the start', each with the table of its number; so is every place behind them
  pub cell_empty : (p : ℕ) → p < 8 → get_or (empty_store n) (1 + p) 0 ≡ 256 * (p + 1) + (p + 1)
  cell_empty p h = behind_live (1 + p) (omega arith) (λ e. omega arith) ∙ numbered_order empty_cells sized_cells 8 p (omega arith) h

  pub member_empty : (p : ℕ) → n ≤ limits.replicas → p < n → member_at (empty_store n) p ≡ p + 1
  unfolding order_at
  member_empty p h b =
      member_order (empty_store n) p (omega (arith, count_empty h)) ∙ ap (λ (i : ℕ). i % 256) (cell_empty p (omega arith)) ∙ omega arith

  -- the last number given is n, and none joins
  pub last_empty : get_or (empty_store n) last_number_cell 0 ≡ n
  unfolding empty_store
  last_empty = get_or-set_same counted last_number_cell n 0 (within counted last_number_cell (simp length-set (sized_numbered empty_cells 8 sized_cells)) (omega arith))

  pub join_empty : get_or (empty_store n) join_cell 0 ≡ 0
  join_empty = blank_cell join_cell (omega arith) (λ e. omega arith) (λ j h e. omega arith)

  pub highest_empty : (r : ℕ) → highest_of (empty_store n) r ≡ 0
  unfolding highest_of
  highest_empty r = blank_stamp (highest_cell (row_of r)) (omega arith) (λ i a b e. omega (arith, e, b, row_below r)) (λ i a b j h e. omega (arith, e, b, row_below r))

  pub permitted_empty : (r : ℕ) → permitted_by (empty_store n) r ≡ 1
  unfolding permitted_by
  permitted_empty r = behind_live (permit_cell (row_of r)) (omega arith) (λ e. omega (arith, row_below r)) ∙ numbered_permit empty_cells sized_cells 8 (row_of r) (omega arith) (row_below r)

  pub applied_empty : (r : ℕ) → applied_by (empty_store n) r ≡ 0
  unfolding applied_by
  applied_empty r = blank_cell (applied_cell (row_of r)) (omega arith) (λ e. omega (arith, row_below r)) (λ j h e. omega arith)

  pub value_empty : (r o : ℕ) → value_at (empty_store n) r o ≡ 0
  unfolding value_at
  value_empty r o = blank_cell (value_cell (row_of r) o) (omega (arith, value_from_lem r o)) (λ e. omega (arith, value_below r o)) (λ j h e. omega (arith, value_from_lem r o))

  pub stamp_empty : (r o : ℕ) → stamp_at (empty_store n) r o ≡ 0
  unfolding stamp_at
  stamp_empty r o =
      blank_stamp (stamp_cell (row_of r) o) (omega (arith, stamp_is r o)) (λ i a b e. omega (arith, e, b, stamp_is r o, value_below r o)) (λ i a b j h e. omega (arith, e, a, h, stamp_is r o))
