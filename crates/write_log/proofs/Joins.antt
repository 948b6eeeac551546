-- Req 04: what a join does to the places of the order, and to what the replicas have applied.
use mathlib.Core.Path.{◌≡◌, refl, sym, ap, ◌∙◌}
use mathlib.Core.Bool.{Bool, true, false, cond, not}
use mathlib.Core.List.{List}
use mathlib.Core.Logic.{◌⊎◌, inl, inr}
use Prim.Native.Nat.{ℕ, ◌+◌, ◌-◌, ◌*◌, ◌/◌, ◌%◌, ◌≤◌, ◌<◌, min}
use native.Mathlib.Decide.{dec_lt, ℕ_discrete}
use native.Mathlib.Omega.{arith}
use lib.Dec.{eqb, leb}
use lib.ListN.{get_or, set, length-set}
use lib.Seq.{get_or-set_same, get_or-set_other}
use borrow.Author.Tests.{leb-false}
use Rattle.limits.specs as limits
use Rattle.store.specs.{last_number_cell, join_cell, live_count, order_at, number_at}
use Rattle.joins.specs.{is_join_set, copies_made, newcomer, newcomer_number, last_number, is_full, beginning}
use Rattle.chain.specs.{chain_place, is_live, removed}
use Rattle.chain.proofs.Members.{count_most, place_below}
use Rattle.replicas.proofs.Shape.{count_removed, cell_before, cell_behind, cell_last}
use Rattle.replicas.proofs.Cells.{SizedStore, within, kept_removed}
use Rattle.write_log.proofs.Kept.{SameReplicas}
use Rattle.write_log.proofs.Places.{Places, AtHead}

-- a join can begin: there is a place, and a number
pub not_full : (s : List ℕ) → is_full s ≡ false → (live_count s < 8) × (last_number s < 255)
unfolding is_full
not_full s = go (leb limits.replicas (live_count s)) refl
  where
    go : (t : Bool) → leb limits.replicas (live_count s) ≡ t → cond t true (leb limits.last_replica (last_number s)) ≡ false → (live_count s < 8) × (last_number s < 255)
    go true p e = absurd (let z : ◌≡◌ {A = ℕ} 0 1 = cc in omega arith)
    go false p e = (leb-false limits.replicas (live_count s) p, leb-false limits.last_replica (last_number s) e)

-- ---- a join begins

module _ (s : List ℕ) (z : SizedStore s) (free : live_count s < 8) (few : last_number s < 255) where
  abbrev number : ℕ
  number = last_number s + 1

  abbrev placed : List ℕ
  placed = set s (1 + live_count s) (256 * number + newcomer s)

  abbrev given : List ℕ
  given = set placed last_number_cell number

  -- a cell that it leaves as it is
  kept_beginning : (i : ℕ) → (i ≡ 1 + live_count s → ⊥) → (i ≡ last_number_cell → ⊥) → (i ≡ join_cell → ⊥) → get_or (beginning s) i 0 ≡ get_or s i 0
  unfolding beginning
  kept_beginning i a b c =
      get_or-set_other given join_cell i 1 0 c ∙ get_or-set_other placed last_number_cell i number 0 b ∙ get_or-set_other s (1 + live_count s) i (256 * number + newcomer s) 0 a

  pub sized_beginning : SizedStore (beginning s)
  unfolding beginning
  sized_beginning = simp length-set z

  pub count_beginning : live_count (beginning s) ≡ live_count s
  unfolding live_count
  count_beginning = ap (min 8) (kept_beginning 0 (λ e. omega arith) (λ e. omega arith) (λ e. omega arith))

  cell_here : get_or (beginning s) (1 + live_count s) 0 ≡ 256 * number + newcomer s
  unfolding beginning
  cell_here =
      get_or-set_other given join_cell (1 + live_count s) 1 0 (λ e. omega arith) ∙
      get_or-set_other placed last_number_cell (1 + live_count s) number 0 (λ e. omega arith) ∙
      get_or-set_same s (1 + live_count s) (256 * number + newcomer s) 0 (within s (1 + live_count s) z (omega arith))

  -- every place keeps its table
  pub order_beginning : (p : ℕ) → p < 8 → order_at (beginning s) p ≡ order_at s p
  unfolding order_at newcomer
  order_beginning p h =
      elim (ℕ_discrete p (live_count s)) [
        | yes e ↦ ap (λ (k : ℕ). get_or (beginning s) (1 + k) 0 % 256) e ∙ ap (λ (n : ℕ). n % 256) cell_here ∙ omega arith ∙ ap (λ (k : ℕ). get_or s (1 + k) 0 % 256) (sym e)
        | no d ↦ ap (λ (n : ℕ). n % 256) (kept_beginning (1 + p) (λ e. d (omega arith)) (λ e. omega arith) (λ e. omega arith))
      ]

  -- the live ones keep their numbers, and the newcomer has the next
  pub number_beginning : (p : ℕ) → p < live_count s → number_at (beginning s) p ≡ number_at s p
  unfolding number_at
  number_beginning p h = ap (λ (n : ℕ). n / 256 % 256) (kept_beginning (1 + p) (λ e. omega arith) (λ e. omega arith) (λ e. omega arith))

  pub newcomer_beginning : newcomer_number (beginning s) ≡ number
  unfolding newcomer_number number_at newcomer order_at
  newcomer_beginning = ap (λ (k : ℕ). get_or (beginning s) (1 + k) 0 / 256 % 256) count_beginning ∙ ap (λ (n : ℕ). n / 256 % 256) cell_here ∙ omega (arith, few)

  pub last_beginning : last_number (beginning s) ≡ number
  unfolding last_number beginning
  last_beginning =
      ap (λ (n : ℕ). n % 256)
      (get_or-set_other given join_cell last_number_cell 1 0 (λ e. omega arith) ∙
      get_or-set_same placed last_number_cell number 0 (within placed last_number_cell (simp length-set z) (omega arith))) ∙ omega (arith, few)

  pub copies_beginning : copies_made (beginning s) ≡ 0
  unfolding copies_made beginning
  copies_beginning = ap (λ (n : ℕ). (n - 1) % 16) (get_or-set_same given join_cell 1 0 (within given join_cell (simp length-set z) (omega arith)))

  -- the live replicas keep what they kept
  pub replicas_beginning : SameReplicas s (beginning s)
  replicas_beginning = record {
    sized = sized_beginning;
    order = λ i h. kept_beginning i (λ e. omega (arith, e, h)) (λ e. omega (arith, e, h, free)) (λ e. omega (arith, e, h, free));
    cells = λ i a b. kept_beginning i (λ e. omega (arith, e, a, free)) (λ e. omega (arith, e, b)) (λ e. omega (arith, e, b));
  }

  pub at_head_beginning : (r : ℕ) → AtHead s r → AtHead (beginning s) r
  at_head_beginning r a = (
    λ p h d. let l : p < live_count s = omega (arith, h, count_beginning) in a.0 p l (sym (number_beginning p l) ∙ d),
    omega (arith, a.1, last_beginning),
    λ j. omega (arith, a.1, newcomer_beginning),
  )

  pub places_beginning : Places s → Places (beginning s)
  places_beginning g = record {
    named = λ p h. rw (order_beginning p h) (g.named p h);
    apart = λ p q a b d. g.apart p q a b (sym (order_beginning p a) ∙ d ∙ order_beginning q b);
    given = λ p h. rw (number_beginning p (live p h), last_beginning) (omega (arith, g.given p (live p h)));
    numbers_apart = λ p q a b d. g.numbers_apart p q (live p a) (live q b) (sym (number_beginning p (live p a)) ∙ d ∙ number_beginning q (live q b));
    joining = λ j. (
      omega (arith, count_beginning, free),
      newcomer_beginning ∙ sym last_beginning,
      λ p h. rw (number_beginning p (live p h), newcomer_beginning) (omega (arith, g.given p (live p h))),
    );
  }
    where
      live : (p : ℕ) → p < live_count (beginning s) → p < live_count s
      live p h = omega (arith, count_beginning)

-- ---- a removal

-- the place at which what stands at place p stood before the replica at place k was removed
abbrev Stood : ℕ → ℕ → ℕ → Type 0
Stood k p was = ((p < k) × (was ≡ p)) ⊎ ((k ≤ p) × (p < 7) × (was ≡ p + 1)) ⊎ ((p ≡ 7) × (was ≡ k))

stood_same : (k p q a b : ℕ) → k < 8 → Stood k p a → Stood k q b → a ≡ b → p ≡ q
stood_same k p q a b h (inl x) (inl y) e = omega (arith, x, y, e)
stood_same k p q a b h (inl x) (inr (inl y)) e = omega (arith, x, y, e)
stood_same k p q a b h (inl x) (inr (inr y)) e = omega (arith, x, y, e)
stood_same k p q a b h (inr (inl x)) (inl y) e = omega (arith, x, y, e)
stood_same k p q a b h (inr (inl x)) (inr (inl y)) e = omega (arith, x, y, e)
stood_same k p q a b h (inr (inl x)) (inr (inr y)) e = omega (arith, x, y, e)
stood_same k p q a b h (inr (inr x)) (inl y) e = omega (arith, x, y, e)
stood_same k p q a b h (inr (inr x)) (inr (inl y)) e = omega (arith, x, y, e)
stood_same k p q a b h (inr (inr x)) (inr (inr y)) e = omega (arith, x, y, e)

module _ (s : List ℕ) (t : ℕ) (z : SizedStore s) (live : is_live s t ≡ true) where
  abbrev place : ℕ
  place = chain_place s t

  abbrev left : List ℕ
  left = removed s place

  place_few : place < 8
  place_few = omega (arith, place_below s t live, count_most s)

  -- every table is still at one of the eight places
  stood : (p : ℕ) → p < 8 → (was : ℕ) × (was < 8) × (order_at left p ≡ order_at s was) × Stood place p was
  unfolding order_at
  stood p h =
      elim (dec_lt p place) [
        | yes l ↦ (p, h, ap (λ (n : ℕ). n % 256) (cell_before s t z live p l), inl (l, refl))
        | no l ↦ elim (dec_lt p 7) [
          | yes b ↦ (p + 1, omega arith, ap (λ (n : ℕ). n % 256) (cell_behind s t z live p (omega arith) b), inr (inl (omega arith, b, refl)))
          | no b ↦ (place, place_few, last p (omega (arith, b)), inr (inr (omega (arith, b), refl)))
        ]
      ]
    where
      last : (p : ℕ) → p ≡ 7 → get_or left (1 + p) 0 % 256 ≡ get_or s (1 + place) 0 % 256
      last p e = ap (λ (k : ℕ). get_or left (1 + k) 0 % 256) e ∙ ap (λ (n : ℕ). n % 256) (cell_last s t z live) ∙ twice (get_or s (1 + place) 0)
        where
          twice : (n : ℕ) → n % 256 % 256 ≡ n % 256
          twice n = omega arith

  -- a live replica keeps its number
  number_stood : (p : ℕ) → p < live_count s - 1 → (was : ℕ) × (was < live_count s) × (number_at left p ≡ number_at s was) × Stood place p was
  unfolding number_at
  number_stood p h =
      elim (dec_lt p place) [
        | yes l ↦ (p, omega arith, ap (λ (n : ℕ). n / 256 % 256) (cell_before s t z live p l), inl (l, refl))
        | no l ↦ (
          p + 1,
          omega arith,
          ap (λ (n : ℕ). n / 256 % 256) (cell_behind s t z live p (omega arith) (omega (arith, count_most s))),
          inr (inl (omega arith, omega (arith, count_most s), refl)),
        )
      ]

  pub last_left : last_number left ≡ last_number s
  unfolding last_number
  last_left = ap (λ (n : ℕ). n % 256) (kept_removed s t last_number_cell (omega arith))

  pub joining_left : is_join_set left ≡ is_join_set s
  unfolding is_join_set
  joining_left = ap (λ (n : ℕ). not (eqb n 0)) (kept_removed s t join_cell (omega arith))

  pub copies_left : copies_made left ≡ copies_made s
  unfolding copies_made
  copies_left = ap (λ (n : ℕ). (n - 1) % 16) (kept_removed s t join_cell (omega arith))

  -- the newcomer moves up with the others
  newcomer_cell : live_count s < 8 → get_or left (1 + live_count left) 0 ≡ get_or s (1 + live_count s) 0
  newcomer_cell h =
      ap (λ (k : ℕ). get_or left (1 + k) 0) (count_removed s t z live) ∙
      cell_behind s t z live (live_count s - 1) (omega (arith, place_below s t live)) (omega (arith, place_below s t live)) ∙
      ap (λ (k : ℕ). get_or s (1 + k) 0) (omega (arith, place_below s t live))

  pub newcomer_left : live_count s < 8 → newcomer left ≡ newcomer s
  unfolding newcomer order_at
  newcomer_left h = ap (λ (n : ℕ). n % 256) (newcomer_cell h)

  newcomer_number_left : live_count s < 8 → newcomer_number left ≡ newcomer_number s
  unfolding newcomer_number number_at
  newcomer_number_left h = ap (λ (n : ℕ). n / 256 % 256) (newcomer_cell h)

  -- a write that waits for the head still does, or waits for a replica that is gone
  pub at_head_removed : Places s → (r : ℕ) → AtHead s r → AtHead left r
  at_head_removed g r a = (
    λ p h d.
        let l : p < live_count s - 1 = omega (arith, h, count_removed s t z live) in
        let was = number_stood p l in
        first p was.0 (omega (arith, l, count_most s)) was.3 (a.0 was.0 was.1 (sym was.2 ∙ d)),
    rw last_left a.1,
    λ j.
        let before = sym joining_left ∙ j in
        rw (newcomer_number_left (g.joining before).0) (a.2 before),
  )
    where
      first : (p was : ℕ) → p < 7 → Stood place p was → was ≡ 0 → p ≡ 0
      first p was l (inl x) e = omega (arith, x, e)
      first p was l (inr (inl x)) e = omega (arith, x, e)
      first p was l (inr (inr x)) e = omega (arith, x, e, l)

  pub places_removed : Places s → Places left
  places_removed g = record {
    named = λ p h. let a = stood p h in rw a.2 (g.named a.0 a.1);
    apart = λ p q h k d.
        let a = stood p h in
        let b = stood q k in
        stood_same place p q a.0 b.0 place_few a.3 b.3 (g.apart a.0 b.0 a.1 b.1 (sym a.2 ∙ d ∙ b.2));
    given = λ p h. let a = number_stood p (fewer p h) in rw (a.2, last_left) (g.given a.0 a.1);
    numbers_apart = λ p q h k d.
        let a = number_stood p (fewer p h) in
        let b = number_stood q (fewer q k) in
        stood_same place p q a.0 b.0 place_few a.3 b.3 (g.numbers_apart a.0 b.0 a.1 b.1 (sym a.2 ∙ d ∙ b.2));
    joining = λ j.
        let was = g.joining (sym joining_left ∙ j) in (
          omega (arith, count_removed s t z live, was.0),
          newcomer_number_left was.0 ∙ was.1 ∙ sym last_left,
          λ p h. let a = number_stood p (fewer p h) in rw (a.2, newcomer_number_left was.0) (was.2 a.0 a.1),
        );
  }
    where
      fewer : (p : ℕ) → p < live_count left → p < live_count s - 1
      fewer p h = omega (arith, count_removed s t z live)
