-- Req 04: 'The sixteenth copy makes it the tail': what the store then is.
use mathlib.Core.Path.{◌≡◌, refl, sym, ap, ◌∙◌}
use mathlib.Core.Bool.{Bool, true, false, not}
use mathlib.Core.List.{List}
use mathlib.Core.Logic.{◌⊎◌, inl, inr}
use Prim.Native.Nat.{ℕ, ◌+◌, ◌/◌, ◌%◌, ◌≤◌, ◌<◌}
use native.Mathlib.Decide.{dec_lt}
use native.Mathlib.Omega.{arith}
use lib.Dec.{eqb}
use lib.ListN.{get_or, set, length-set}
use lib.Seq.{get_or-set_same, get_or-set_other}
use Rattle.store.specs.{applied_cell, permit_cell, highest_cell, live_cell, last_number_cell, join_cell, value_cell, stamp_cell, live_count, order_at, number_at, row_of, highest_of, permitted_by, applied_by, entry_at, value_at, stamp_at, raised}
use Rattle.stamp.specs.Stamps.{stamp_in, set_stamp}
use Rattle.stamp.proofs.Cells.{length_stamp, stamp_reads, stamp_same, cell_beside, stamp_kept}
use Rattle.chain.specs.{member_at, tail_of, permitting}
use Rattle.joins.specs.{is_join_set, newcomer, newcomer_number, last_number, promoted}
use Rattle.chain.proofs.Members.{count_most, member_order}
use Rattle.replicas.proofs.Cells.{SizedStore, row_below, within, value_from_lem, value_below, stamp_is, stamp_over, entries_kept}
use Rattle.write_log.proofs.Places.{Places, AtHead}

module _ (s : List ℕ) (z : SizedStore s) (free : live_count s < 8) where
  abbrev q : ℕ
  q = newcomer s

  abbrev high : List ℕ
  high = set_stamp s (highest_cell (row_of q)) (highest_of s (tail_of s))

  abbrev grown : List ℕ
  grown = set high (applied_cell (row_of q)) (applied_by s (tail_of s))

  abbrev told : List ℕ
  told = set grown (permit_cell (row_of q)) (permitted_by s (tail_of s))

  abbrev longer : List ℕ
  longer = set told live_cell (live_count s + 1)

  promoted_is : promoted s ≡ set longer join_cell 0
  unfolding promoted raised permitting
  promoted_is = refl

  -- as many cells at every stage
  long_high : SizedStore high
  long_high = length_stamp s (highest_cell (row_of q)) (highest_of s (tail_of s)) ∙ z

  long_grown : SizedStore grown
  long_grown = length-set high (applied_cell (row_of q)) (applied_by s (tail_of s)) ∙ long_high

  long_told : SizedStore told
  long_told = length-set grown (permit_cell (row_of q)) (permitted_by s (tail_of s)) ∙ long_grown

  pub long_longer : SizedStore longer
  long_longer = length-set told live_cell (live_count s + 1) ∙ long_told

  pub sized_promoted : SizedStore (promoted s)
  sized_promoted = rw promoted_is (length-set longer join_cell 0 ∙ long_longer)

  -- a cell that is none of the six
  kept_promoted : (i : ℕ) → (i ≡ highest_cell (row_of q) → ⊥) → (i ≡ highest_cell (row_of q) + 1 → ⊥) → (i ≡ applied_cell (row_of q) → ⊥) → (i ≡ permit_cell (row_of q) → ⊥) → (i ≡ live_cell → ⊥) → (i ≡ join_cell → ⊥) → get_or (promoted s) i 0 ≡ get_or s i 0
  kept_promoted i a f b c d e =
      ap (λ (l : List ℕ). get_or l i 0) promoted_is ∙
      get_or-set_other longer join_cell i 0 0 e ∙
      get_or-set_other told live_cell i (live_count s + 1) 0 d ∙
      get_or-set_other grown (permit_cell (row_of q)) i (permitted_by s (tail_of s)) 0 c ∙
      get_or-set_other high (applied_cell (row_of q)) i (applied_by s (tail_of s)) 0 b ∙
      cell_beside s (highest_cell (row_of q)) (highest_of s (tail_of s)) i a f

  -- so are the places of the order, and all from the entries to the last number
  pub order_kept_promoted : (i : ℕ) → 1 ≤ i → i < 9 → get_or (promoted s) i 0 ≡ get_or s i 0
  order_kept_promoted i a b =
      kept_promoted i (λ e. omega (arith, e, b)) (λ e. omega (arith, e, b)) (λ e. omega (arith, e, b)) (λ e. omega (arith, e, b)) (λ e. omega (arith, e, a)) (λ e. omega (arith, e, b))

  pub tables_kept_promoted : (i : ℕ) → 41 ≤ i → i ≤ last_number_cell → get_or (promoted s) i 0 ≡ get_or s i 0
  tables_kept_promoted i a b =
      kept_promoted i (λ e. omega (arith, e, a, row_below q)) (λ e. omega (arith, e, a, row_below q)) (λ e. omega (arith, e, a, row_below q)) (λ e. omega (arith, e, a, row_below q)) (λ e. omega (arith, e, a)) (λ e. omega (arith, e, b))

  pub count_promoted : live_count (promoted s) ≡ live_count s + 1
  unfolding live_count
  count_promoted =
      let cell : get_or (promoted s) live_cell 0 ≡ live_count s + 1 =
      ap (λ (l : List ℕ). get_or l live_cell 0) promoted_is ∙ get_or-set_other longer join_cell live_cell 0 0 (λ e. omega (arith, e)) ∙
      get_or-set_same told live_cell (live_count s + 1) 0 (within told live_cell long_told (omega arith)) in
      omega (arith, cell, free)

  pub order_promoted : (p : ℕ) → p < 8 → order_at (promoted s) p ≡ order_at s p
  unfolding order_at
  order_promoted p h = ap (λ (n : ℕ). n % 256) (order_kept_promoted (1 + p) (omega arith) (omega (arith, h)))

  -- the members stay, and the newcomer is the last
  pub member_promoted : (p : ℕ) → p < live_count s → member_at (promoted s) p ≡ member_at s p
  member_promoted p h = member_order (promoted s) p (omega (arith, count_promoted)) ∙ order_promoted p (omega arith) ∙ sym (member_order s p h)

  pub member_promoted_last : member_at (promoted s) (live_count s) ≡ newcomer s
  unfolding newcomer
  member_promoted_last = member_order (promoted s) (live_count s) (omega (arith, count_promoted)) ∙ order_promoted (live_count s) free

  -- the tables stay
  pub value_promoted : (r o : ℕ) → value_at (promoted s) r o ≡ value_at s r o
  unfolding value_at
  value_promoted r o = tables_kept_promoted (value_cell (row_of r) o) (omega (arith, value_from_lem r o)) (omega (arith, value_below r o))

  pub stamp_promoted : (r o : ℕ) → stamp_at (promoted s) r o ≡ stamp_at s r o
  unfolding stamp_at
  stamp_promoted r o =
      stamp_over (promoted s) s (stamp_cell (row_of r) o) (λ j a b. tables_kept_promoted j (omega (arith, a, stamp_is r o)) (omega (arith, b, stamp_is r o, value_below r o)))

  pub entry_promoted : (p : ℕ) → entry_at (promoted s) p ≡ entry_at s p
  entry_promoted p = entries_kept (promoted s) s p (λ j a b. tables_kept_promoted j a (omega (arith, b)))

  -- the newcomer has the old tail's highest stamp and permitted switch, and has applied as much
  pub highest_promoted_own : highest_of (promoted s) q ≡ highest_of s (tail_of s)
  unfolding highest_of
  highest_promoted_own =
      let at = highest_cell (row_of q) in
      ap (λ (l : List ℕ). stamp_in l at) promoted_is ∙
      stamp_kept longer join_cell 0 at (λ e. omega (arith, e, row_below q)) (λ e. omega (arith, e, row_below q)) ∙
      stamp_kept told live_cell (live_count s + 1) at (λ e. omega (arith, e)) (λ e. omega (arith, e)) ∙
      stamp_kept grown (permit_cell (row_of q)) (permitted_by s (tail_of s)) at (λ e. omega (arith, e, row_below q)) (λ e. omega (arith, e, row_below q)) ∙
      stamp_kept high (applied_cell (row_of q)) (applied_by s (tail_of s)) at (λ e. omega (arith, e, row_below q)) (λ e. omega (arith, e, row_below q)) ∙
      stamp_same s at (highest_of s (tail_of s)) (within s (at + 1) z (omega (arith, row_below q)))

  pub applied_promoted_own : applied_by (promoted s) q ≡ applied_by s (tail_of s)
  unfolding applied_by
  applied_promoted_own =
      let at = applied_cell (row_of q) in
      ap (λ (l : List ℕ). get_or l at 0) promoted_is ∙
      get_or-set_other longer join_cell at 0 0 (λ e. omega (arith, e, row_below q)) ∙
      get_or-set_other told live_cell at (live_count s + 1) 0 (λ e. omega (arith, e)) ∙
      get_or-set_other grown (permit_cell (row_of q)) at (permitted_by s (tail_of s)) 0 (λ e. omega (arith, e, row_below q)) ∙
      get_or-set_same high at (applied_by s (tail_of s)) 0 (within high at long_high (omega (arith, row_below q)))

  pub permitted_promoted_own : permitted_by (promoted s) q ≡ permitted_by s (tail_of s)
  unfolding permitted_by
  permitted_promoted_own =
      let at = permit_cell (row_of q) in
      ap (λ (l : List ℕ). get_or l at 0) promoted_is ∙
      get_or-set_other longer join_cell at 0 0 (λ e. omega (arith, e, row_below q)) ∙
      get_or-set_other told live_cell at (live_count s + 1) 0 (λ e. omega (arith, e)) ∙
      get_or-set_same grown at (permitted_by s (tail_of s)) 0 (within grown at long_grown (omega (arith, row_below q)))

  -- every other replica keeps its own
  module _ (r : ℕ) (d : row_of r ≡ row_of q → ⊥) where
    pub highest_promoted : highest_of (promoted s) r ≡ highest_of s r
    unfolding highest_of
    highest_promoted =
        let at = highest_cell (row_of r) in
        stamp_reads (promoted s) s at
        (kept_promoted at (λ e. d (omega (arith, e))) (λ e. omega (arith, e)) (λ e. omega (arith, e, row_below r)) (λ e. omega (arith, e, row_below r)) (λ e. omega (arith, e)) (λ e. omega (arith, e, row_below r)))
        (kept_promoted (at + 1) (λ e. omega (arith, e)) (λ e. d (omega (arith, e))) (λ e. omega (arith, e, row_below r)) (λ e. omega (arith, e, row_below r)) (λ e. omega (arith, e)) (λ e. omega (arith, e, row_below r)))

    pub applied_promoted : applied_by (promoted s) r ≡ applied_by s r
    unfolding applied_by
    applied_promoted =
        kept_promoted (applied_cell (row_of r)) (λ e. omega (arith, e, row_below q)) (λ e. omega (arith, e, row_below q)) (λ e. d (omega (arith, e))) (λ e. omega (arith, e, row_below q)) (λ e. omega (arith, e)) (λ e. omega (arith, e, row_below r))

    pub permitted_promoted : permitted_by (promoted s) r ≡ permitted_by s r
    unfolding permitted_by
    permitted_promoted =
        kept_promoted (permit_cell (row_of r)) (λ e. omega (arith, e, row_below q)) (λ e. omega (arith, e, row_below q)) (λ e. omega (arith, e, row_below r)) (λ e. d (omega (arith, e))) (λ e. omega (arith, e)) (λ e. omega (arith, e, row_below r))

-- ---- the places

module _ (s : List ℕ) (z : SizedStore s) (free : live_count s < 8) (joins : is_join_set s ≡ true) (g : Places s) where
  pub last_promoted : last_number (promoted s) ≡ last_number s
  unfolding last_number
  last_promoted = ap (λ (n : ℕ). n % 256) (tables_kept_promoted s z free last_number_cell (omega arith) (omega arith))

  pub number_promoted : (p : ℕ) → p < 8 → number_at (promoted s) p ≡ number_at s p
  unfolding number_at
  number_promoted p h = ap (λ (n : ℕ). n / 256 % 256) (order_kept_promoted s z free (1 + p) (omega arith) (omega (arith, h)))

  -- no join is under way any more
  pub joining_promoted : is_join_set (promoted s) ≡ false
  unfolding is_join_set
  joining_promoted =
      ap (λ (n : ℕ). not (eqb n 0))
      (ap (λ (l : List ℕ). get_or l join_cell 0) (promoted_is s z free) ∙
      get_or-set_same (longer s z free) join_cell 0 0 (within (longer s z free) join_cell (long_longer s z free) (omega arith)))

  -- the number at a place, and that of the newcomer
  number_live : (p : ℕ) → p < live_count (promoted s) → (p < live_count s) ⊎ (p ≡ live_count s)
  number_live p h = elim (dec_lt p (live_count s)) [ yes l ↦ inl l | no l ↦ inr (omega (arith, l, h, count_promoted s z free)) ]

  number_last : number_at s (live_count s) ≡ last_number s
  unfolding newcomer_number
  number_last = (g.joining joins).1

  number_below : (p : ℕ) → p < live_count s → number_at s p < number_at s (live_count s)
  unfolding newcomer_number
  number_below p h = (g.joining joins).2 p h

  within_eight : (p : ℕ) → p < live_count (promoted s) → p < 8
  within_eight p h = omega (arith, h, count_most (promoted s))

  given_before : (p : ℕ) → (p < live_count s) ⊎ (p ≡ live_count s) → number_at s p ≤ last_number s
  given_before p (inl l) = g.given p l
  given_before p (inr e) = omega (arith, ap (number_at s) e, number_last)

  apart_before : (p q : ℕ) → (p < live_count s) ⊎ (p ≡ live_count s) → (q < live_count s) ⊎ (q ≡ live_count s) → number_at s p ≡ number_at s q → p ≡ q
  apart_before p q (inl a) (inl b) d = g.numbers_apart p q a b d
  apart_before p q (inl a) (inr b) d = absurd (omega (arith, d, number_below p a, ap (number_at s) b))
  apart_before p q (inr a) (inl b) d = absurd (omega (arith, d, number_below q b, ap (number_at s) a))
  apart_before p q (inr a) (inr b) d = a ∙ sym b

  no_join : is_join_set (promoted s) ≡ true → ⊥
  no_join j = let z : ◌≡◌ {A = Bool} false true = sym joining_promoted ∙ j in let n : ◌≡◌ {A = ℕ} 0 1 = cc in omega (arith, n)

  pub places_promoted : Places (promoted s)
  places_promoted = record {
    named = λ p h. rw (order_promoted s z free p h) (g.named p h);
    apart = λ p q a b d. g.apart p q a b (sym (order_promoted s z free p a) ∙ d ∙ order_promoted s z free q b);
    given = λ p h. rw (number_promoted p (within_eight p h), last_promoted) (given_before p (number_live p h));
    numbers_apart = λ p q a b d.
        apart_before p q (number_live p a) (number_live q b) (sym (number_promoted p (within_eight p a)) ∙ d ∙ number_promoted q (within_eight q b));
    joining = λ j. absurd (no_join j);
  }

  -- no write waits for the newcomer
  pub at_head_promoted : (r : ℕ) → AtHead s r → AtHead (promoted s) r
  unfolding newcomer_number
  at_head_promoted r a = (
    λ p h d.
        let e = sym (number_promoted p (within_eight p h)) ∙ d in
        elim (number_live p h) [
          | inl l ↦ a.0 p l e
          | inr q ↦ absurd (omega (arith, e, a.2 joins, ap (number_at s) q))
        ],
    rw last_promoted a.1,
    λ j. absurd (no_join j),
  )
