-- What stands in each row after a context is held in one, after one is freed, and after a change elsewhere.
use mathlib.Core.Path.{◌≡◌, refl, sym, ap, ◌∙◌, subst}
use mathlib.Core.List.{List, [], ◌∷◌, map, Memᴰ}
use Prim.Native.Nat.{ℕ, zero, suc, ◌+◌, ◌*◌, ◌%◌, ◌≤◌, ◌<◌}
use native.Mathlib.Omega.{arith}
use lib.ListN.{length, get_or, set, length-set}
use lib.Seq.{get_or-set_same, get_or-set_other}
use Rattle.limits.specs as limits
use Rattle.lists.specs.{index_of, list_of}
use Rattle.lists.proofs.Index.{index_first, index_none, index_at, in_index, at_in}
use Rattle.lists.proofs.Places.{length_list_of, get_d_list_of}
use Rattle.operations.specs.{open_cells, none_open, opening, closing}
use Rattle.operations.proofs.Laws.{SizedOpens, zeros}
use Rattle.operations.proofs.Behind.{SameOpens, opening_behind, closing_behind}
use Rattle.contexts.specs.declared.Context.{Context}
use Rattle.contexts.specs.{context, places_of, place_of, numbers_of, kept_at, mapped, row_cell, size_at, number_at, context_at, free_row, puts, holding, freeing}
use Rattle.contexts.proofs.Places.{numbers_mapped}

-- ---- numbers put from a place on

length_puts : (l : List ℕ) (i : ℕ) (xs : List ℕ) → length (puts l i xs) ≡ length l
unfolding puts
length_puts l i [] = refl
length_puts l i (x ∷ xs) = length_puts (set l i x) (i + 1) xs ∙ length-set l i x

get_d_puts_other : (l : List ℕ) (i : ℕ) (xs : List ℕ) (j : ℕ) → ((i ≤ j) × (j < i + length xs) → ⊥) → get_or (puts l i xs) j 0 ≡ get_or l j 0
unfolding puts
get_d_puts_other l i [] j n = refl
get_d_puts_other l i (x ∷ xs) j n =
    get_d_puts_other (set l i x) (i + 1) xs j (λ h. n (omega (arith, h), omega (arith, h))) ∙ get_or-set_other l i j x 0 (λ e. n (omega (arith, e), omega (arith, e)))

get_d_puts : (l : List ℕ) (i : ℕ) (xs : List ℕ) (k : ℕ) → k < length xs → i + length xs ≤ length l → get_or (puts l i xs) (i + k) 0 ≡ get_or xs k 0
unfolding puts
get_d_puts l i [] k h fits = absurd (omega (arith, h))
get_d_puts l i (x ∷ xs) zero h fits =
    get_d_puts_other (set l i x) (i + 1) xs (i + 0) (λ b. omega (arith, b)) ∙ ap (λ (j : ℕ). get_or (set l i x) j 0) (omega arith) ∙
    get_or-set_same l i x 0 (omega (arith, fits))
get_d_puts l i (x ∷ xs) (suc k) h fits =
    ap (λ (j : ℕ). get_or (puts (set l i x) (i + 1) xs) j 0) (omega arith) ∙
    get_d_puts (set l i x) (i + 1) xs k (omega (arith, h)) (omega (arith, fits, length-set l i x))

-- ---- where the rows lie

row_behind : (r : ℕ) → 66 ≤ row_cell r
unfolding row_cell
row_behind r = omega arith

row_fits : (r : ℕ) → row_cell r + 9 ≤ open_cells
unfolding row_cell
row_fits r = omega arith

-- two numbers that name different rows
abbrev pub Apart : ℕ → ℕ → Type 0
Apart r q = r % limits.contexts ≡ q % limits.contexts → ⊥

rows_apart : (r q j : ℕ) → Apart r q → row_cell q ≤ j → j < row_cell q + 9 → (row_cell r ≤ j) × (j < row_cell r + 9) → ⊥
unfolding row_cell
rows_apart r q j n a b h = n (omega (arith, a, b, h))

-- ---- a change elsewhere

-- two contexts with the same count and places are one
context_is : {n m a a' b b' c c' d d' e e' f f' g g' h h' : ℕ} → n ≡ m → a ≡ a' → b ≡ b' → c ≡ c' → d ≡ d' → e ≡ e' → f ≡ f' → g ≡ g' → h ≡ h'
    → context n a b c d e f g h ≡ context m a' b' c' d' e' f' g' h'
context_is n a b c d e f g h = λ j. context (n j) (a j) (b j) (c j) (d j) (e j) (f j) (g j) (h j)

module _ (l l' : List ℕ) (r : ℕ) (same : (j : ℕ) → row_cell r ≤ j → j < row_cell r + 9 → get_or l' j 0 ≡ get_or l j 0) where
  pub size_same : size_at l' r ≡ size_at l r
  unfolding size_at
  size_same = same (row_cell r) (omega arith) (omega arith)

  number_same : (i : ℕ) → i < 8 → number_at l' r i ≡ number_at l r i
  unfolding number_at
  number_same i h =
      ap (λ (n : ℕ). kept_at n i (get_or l' (row_cell r + 1 + i) 0)) size_same ∙ ap (kept_at (size_at l r) i) (same (row_cell r + 1 + i) (omega arith) (omega (arith, h)))

  pub context_same : context_at l' r ≡ context_at l r
  unfolding context_at
  context_same =
      context_is size_same (number_same 0 (omega arith)) (number_same 1 (omega arith)) (number_same 2 (omega arith)) (number_same 3 (omega arith))
      (number_same 4 (omega arith)) (number_same 5 (omega arith)) (number_same 6 (omega arith)) (number_same 7 (omega arith))

pub context_opening : (l : List ℕ) (o r : ℕ) → context_at (opening l o) r ≡ context_at l r
context_opening l o r = context_same l (opening l o) r (λ j a b. opening_behind l o j (omega (arith, a, row_behind r)))

pub context_closing : (l : List ℕ) (o r : ℕ) → context_at (closing l o) r ≡ context_at l r
context_closing l o r = context_same l (closing l o) r (λ j a b. closing_behind l o j (omega (arith, a, row_behind r)))

pub size_is : (l : List ℕ) (r : ℕ) → (context_at l r).count ≡ size_at l r
unfolding context_at
size_is l r = refl

-- ---- a row holds a context

module _ (l : List ℕ) (r : ℕ) (v : Context) where
  held_other : (j : ℕ) → ((row_cell r ≤ j) × (j < row_cell r + 9) → ⊥) → get_or (holding l r v) j 0 ≡ get_or l j 0
  unfolding holding
  held_other j n = get_d_puts_other l (row_cell r) (v.count ∷ places_of v) j n

  pub context_apart : (q : ℕ) → Apart r q → context_at (holding l r v) q ≡ context_at l q
  context_apart q n = context_same l (holding l r v) q (λ j a b. held_other j (rows_apart r q j n a b))

  pub opens_holding : SameOpens l (holding l r v)
  opens_holding = record { cells = λ j h. held_other j (λ b. omega (arith, b, h, row_behind r)) }

  pub sized_holding : SizedOpens l → SizedOpens (holding l r v)
  unfolding holding
  sized_holding z = length_puts l (row_cell r) (v.count ∷ places_of v) ∙ z

  module _ (z : SizedOpens l) where
    put_at : (k : ℕ) → k < 9 → get_or (holding l r v) (row_cell r + k) 0 ≡ get_or (v.count ∷ places_of v) k 0
    unfolding holding
    put_at k h = get_d_puts l (row_cell r) (v.count ∷ places_of v) k h (omega (arith, z, row_fits r))

    pub size_held : size_at (holding l r v) r ≡ v.count
    unfolding size_at
    size_held = ap (λ (j : ℕ). get_or (holding l r v) j 0) (omega arith) ∙ put_at 0 (omega arith)

    number_held : (i : ℕ) → i < 8 → number_at (holding l r v) r i ≡ kept_at v.count i (place_of v i)
    unfolding number_at place_of
    number_held i h =
        ap (λ (n : ℕ). kept_at n i (get_or (holding l r v) (row_cell r + 1 + i) 0)) size_held ∙
        ap (kept_at v.count i) (ap (λ (j : ℕ). get_or (holding l r v) j 0) (omega arith) ∙ put_at (suc i) (omega (arith, h)))

    context_held : context_at (holding l r v) r ≡ mapped (λ x. x) v
    unfolding context_at mapped place_of
    context_held =
        context_is size_held (number_held 0 (omega arith)) (number_held 1 (omega arith)) (number_held 2 (omega arith)) (number_held 3 (omega arith))
        (number_held 4 (omega arith)) (number_held 5 (omega arith)) (number_held 6 (omega arith)) (number_held 7 (omega arith))

    pub numbers_held : numbers_of (context_at (holding l r v) r) ≡ numbers_of v
    numbers_held = ap numbers_of context_held ∙ numbers_mapped (λ x. x) v ∙ map_same (numbers_of v)
      where
        map_same : (xs : List ℕ) → map (λ x. x) xs ≡ xs
        map_same [] = refl
        map_same (x ∷ xs) = ap (λ (t : List ℕ). x ∷ t) (map_same xs)

-- ---- a row is freed

module _ (l : List ℕ) (r : ℕ) where
  freed_other : (j : ℕ) → (j ≡ row_cell r → ⊥) → get_or (freeing l r) j 0 ≡ get_or l j 0
  unfolding freeing
  freed_other j n = get_or-set_other l (row_cell r) j 0 0 n

  pub freed_apart : (q : ℕ) → Apart r q → context_at (freeing l r) q ≡ context_at l q
  freed_apart q n =
      context_same l (freeing l r) q (λ j a b. freed_other j (λ e. rows_apart r q j n a b (omega (arith, e), omega (arith, e))))

  -- it has no numbers, under whatever number it is named
  pub freed_size : SizedOpens l → (q : ℕ) → r % limits.contexts ≡ q % limits.contexts → size_at (freeing l r) q ≡ 0
  unfolding freeing size_at row_cell
  freed_size z q e = ap (λ (k : ℕ). get_or (set l (66 + r % 64 * 9) 0) (66 + k * 9) 0) (sym e) ∙ get_or-set_same l (66 + r % 64 * 9) 0 0 (omega (arith, z))

  pub opens_freeing : SameOpens l (freeing l r)
  opens_freeing = record { cells = λ j h. freed_other j (λ e. omega (arith, e, h, row_behind r)) }

  pub sized_freeing : SizedOpens l → SizedOpens (freeing l r)
  unfolding freeing
  sized_freeing z = length-set l (row_cell r) 0 ∙ z

-- ---- the first free row

pub free_first : (l : List ℕ) (r : ℕ) → r < 64 → ((k : ℕ) → k < r → size_at l k ≡ 0 → ⊥) → size_at l r ≡ 0 → free_row l ≡ r
unfolding free_row
free_first l r h before e =
    index_first (list_of (size_at l) 64) r 0 (omega (arith, h, length_list_of (size_at l) 64))
    (λ k b q. before k b (sym (get_d_list_of (size_at l) 64 k (omega (arith, b, h))) ∙ q)) (get_d_list_of (size_at l) 64 r h ∙ e)

pub free_none : (l : List ℕ) → ((k : ℕ) → k < 64 → size_at l k ≡ 0 → ⊥) → free_row l ≡ 64
unfolding free_row
free_none l never =
    index_none (list_of (size_at l) 64) 0 (λ k b q.
    let h : k < 64 = omega (arith, b, length_list_of (size_at l) 64) in never k h (sym (get_d_list_of (size_at l) 64 k h) ∙ q)) ∙
    length_list_of (size_at l) 64

pub free_is_free : (l : List ℕ) → free_row l < 64 → size_at l (free_row l) ≡ 0
unfolding free_row
free_is_free l h =
    sym (get_d_list_of (size_at l) 64 (index_of (list_of (size_at l) 64) 0) h) ∙ index_at (list_of (size_at l) 64) 0 (omega (arith, h, length_list_of (size_at l) 64))

same_row : (l : List ℕ) (r q : ℕ) → r % limits.contexts ≡ q % limits.contexts → size_at l q ≡ size_at l r
unfolding size_at row_cell
same_row l r q e = ap (λ (k : ℕ). get_or l (66 + k * 9) 0) (sym e)

-- a row that is not free is not the first free one
pub free_apart : (l : List ℕ) (q : ℕ) → free_row l < 64 → (size_at l q ≡ 0 → ⊥) → Apart (free_row l) q
free_apart l q h n e = n (same_row l (free_row l) q e ∙ free_is_free l h)

-- before the first step every row is free
pub size_none : (r : ℕ) → size_at none_open r ≡ 0
unfolding size_at none_open
size_none r = zeros open_cells (row_cell r)

-- where there is no free row, every row is in use
pub free_none_left : (l : List ℕ) → 64 ≤ free_row l → (r : ℕ) → r < 64 → size_at l r ≡ 0 → ⊥
unfolding free_row
free_none_left l none r h e =
    omega (
      arith,
      none,
      length_list_of (size_at l) 64,
      in_index (list_of (size_at l) 64) 0
          (subst (λ (x : ℕ). Memᴰ x (list_of (size_at l) 64)) (get_d_list_of (size_at l) 64 r h ∙ e) (at_in (list_of (size_at l) 64) r 0 (omega (arith, h, length_list_of (size_at l) 64)))),
    )
