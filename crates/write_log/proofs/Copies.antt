-- Req 04: what a copy leaves in the tables: the copied objects are at the newcomer as they are at the tail, and nothing else changes.
use mathlib.Core.Path.{◌≡◌, refl, sym, ◌∙◌}
use mathlib.Core.Bool.{true}
use mathlib.Core.List.{List}
use Prim.Native.Nat.{ℕ, zero, suc, ◌+◌, ◌*◌, ◌≤◌, ◌<◌}
use native.Mathlib.Decide.{dec_lt, ℕ_discrete}
use native.Mathlib.Omega.{arith}
use Rattle.limits.specs as limits
use Rattle.store.specs.{highest_of, permitted_by, applied_by, entry_at, value_at, stamp_at, tabled}
use Rattle.chain.specs.{tail_of}
use Rattle.joins.specs.{is_join_set, copies_made, newcomer, holding_of, copied_object, copied, one_copy}
use Rattle.replicas.proofs.Cells.{SizedStore, Named, sized_tabled, value_tabled_same, value_tabled_other, stamp_tabled_same, stamp_tabled_other, highest_tabled, permitted_tabled, applied_tabled, entry_tabled}
use Rattle.write_log.proofs.Places.{SamePlaces, places_self, places_trans, places_tabled}

-- two stores agree on an object of a table
abbrev pub SameAt : List ℕ → List ℕ → ℕ → ℕ → Type 0
SameAt s t q o = (value_at t q o ≡ value_at s q o) × (stamp_at t q o ≡ stamp_at s q o)

-- the object is at table q as it is at table t
abbrev pub Alike : List ℕ → ℕ → ℕ → ℕ → Type 0
Alike s q t o = (value_at s q o ≡ value_at s t o) × (stamp_at s q o ≡ stamp_at s t o)

-- ---- one object

module _ (s : List ℕ) (q t o : ℕ) (z : SizedStore s) (m : Named q) (n : Named t) (d : t ≡ q → ⊥) (b : o < limits.objects) where
  pub object_other : (r x : ℕ) → Named r → x < limits.objects → (r ≡ q → x ≡ o → ⊥) → SameAt s (copied_object s q t o) r x
  unfolding copied_object
  object_other r x k l apart = (
    value_tabled_other s q (holding_of s t o) r x k m l b apart,
    stamp_tabled_other s q (holding_of s t o) r x k m l b apart,
  )

  pub object_copied : Alike (copied_object s q t o) q t o
  unfolding copied_object
  object_copied =
      let at = tabled_at in (
        value_tabled_same s q (holding_of s t o) z ∙ sym at.0,
        stamp_tabled_same s q (holding_of s t o) z ∙ sym at.1,
      )
    where
      tabled_at : SameAt s (tabled s q (holding_of s t o)) t o
      tabled_at = (
        value_tabled_other s q (holding_of s t o) t o n m b b (λ e x. d e),
        stamp_tabled_other s q (holding_of s t o) t o n m b b (λ e x. d e),
      )

  pub sized_object : SizedStore (copied_object s q t o)
  unfolding copied_object
  sized_object = sized_tabled s q (holding_of s t o) z

-- ---- several objects

module _ (s : List ℕ) (q t first : ℕ) (z : SizedStore s) (m : Named q) (n : Named t) (d : t ≡ q → ⊥) where
  pub sized_copied : (k : ℕ) → first + k ≤ limits.objects → SizedStore (copied s q t first k)
  unfolding copied
  sized_copied zero h = z
  sized_copied (suc k) h = sized_object (copied s q t first k) q t (first + k) (sized_copied k (omega arith)) m n d (omega arith)

  -- every other table, and every other object, stays
  pub copied_other : (k : ℕ) → first + k ≤ limits.objects → (r x : ℕ) → Named r → x < limits.objects → (r ≡ q → first ≤ x → x < first + k → ⊥)
      → SameAt s (copied s q t first k) r x
  unfolding copied
  copied_other zero h r x e l apart = (refl, refl)
  copied_other (suc k) h r x e l apart =
      let before = copied_other k (omega arith) r x e l (λ p a b. apart p a (omega arith)) in
      let now = object_other (copied s q t first k) q t (first + k) (sized_copied k (omega arith)) m n d (omega arith) r x e l (λ p y. apart p (omega arith) (omega arith)) in
      (now.0 ∙ before.0, now.1 ∙ before.1)

  -- the copied ones are alike
  pub copied_alike : (k : ℕ) → first + k ≤ limits.objects → (x : ℕ) → first ≤ x → x < first + k → Alike (copied s q t first k) q t x
  unfolding copied
  copied_alike zero h x a b = absurd (omega arith)
  copied_alike (suc k) h x a b = go (ℕ_discrete x (first + k)) (λ l. copied_alike k (omega arith) x a l)
    where
      go : Dec (x ≡ first + k) → (x < first + k → Alike (copied s q t first k) q t x) → Alike (copied_object (copied s q t first k) q t (first + k)) q t x
      go (yes e) rest = rw e (object_copied (copied s q t first k) q t (first + k) (sized_copied k (omega arith)) m n d (omega arith))
      go (no e) rest =
          let was = rest (omega (arith, e)) in
          let own = object_other (copied s q t first k) q t (first + k) (sized_copied k (omega arith)) m n d (omega arith) q x m (omega arith) (λ p y. e y) in
          let tails = object_other (copied s q t first k) q t (first + k) (sized_copied k (omega arith)) m n d (omega arith) t x n (omega arith) (λ p y. e y) in
          (own.0 ∙ was.0 ∙ sym tails.0, own.1 ∙ was.1 ∙ sym tails.1)

-- ---- what is not in the tables

module _ (s : List ℕ) (q t first : ℕ) where
  pub places_copied : (k : ℕ) → SamePlaces s (copied s q t first k)
  unfolding copied copied_object
  places_copied zero = places_self
  places_copied (suc k) = places_trans (places_copied k) (places_tabled (copied s q t first k) q (holding_of (copied s q t first k) t (first + k)))

  pub highest_copied : (k r : ℕ) → highest_of (copied s q t first k) r ≡ highest_of s r
  unfolding copied copied_object
  highest_copied zero r = refl
  highest_copied (suc k) r = highest_tabled (copied s q t first k) q (holding_of (copied s q t first k) t (first + k)) r ∙ highest_copied k r

  pub permitted_copied : (k r : ℕ) → permitted_by (copied s q t first k) r ≡ permitted_by s r
  unfolding copied copied_object
  permitted_copied zero r = refl
  permitted_copied (suc k) r = permitted_tabled (copied s q t first k) q (holding_of (copied s q t first k) t (first + k)) r ∙ permitted_copied k r

  pub applied_copied : (k r : ℕ) → applied_by (copied s q t first k) r ≡ applied_by s r
  unfolding copied copied_object
  applied_copied zero r = refl
  applied_copied (suc k) r = applied_tabled (copied s q t first k) q (holding_of (copied s q t first k) t (first + k)) r ∙ applied_copied k r

  pub entry_copied : (k p : ℕ) → entry_at (copied s q t first k) p ≡ entry_at s p
  unfolding copied copied_object
  entry_copied zero p = refl
  entry_copied (suc k) p = entry_tabled (copied s q t first k) q (holding_of (copied s q t first k) t (first + k)) p ∙ entry_copied k p

-- ---- the objects copied so far

abbrev pub CopiedSoFar : List ℕ → Type 0
CopiedSoFar s = is_join_set s ≡ true → (o : ℕ) → o < 64 * copies_made s → Alike s (newcomer s) (tail_of s) o

-- after one copy more, 64 objects more are alike
pub copied_further : (s : List ℕ) → SizedStore s → Named (newcomer s) → Named (tail_of s) → (tail_of s ≡ newcomer s → ⊥) → copies_made s < 16
    → ((o : ℕ) → o < 64 * copies_made s → Alike s (newcomer s) (tail_of s) o)
    → (o : ℕ) → o < 64 * copies_made s + 64 → Alike (one_copy s) (newcomer s) (tail_of s) o
unfolding one_copy
copied_further s z m n d few before o h =
    let q = newcomer s in
    let t = tail_of s in
    let first = 64 * copies_made s in
    let room : first + 64 ≤ 1024 = omega arith in
    elim (dec_lt o first) [
      | yes l ↦
          let was = before o l in
          let own = copied_other s q t first z m n d 64 room q o m (omega arith) (λ e a b. omega arith) in
          let tails = copied_other s q t first z m n d 64 room t o n (omega arith) (λ e a b. omega arith) in
          (own.0 ∙ was.0 ∙ sym tails.0, own.1 ∙ was.1 ∙ sym tails.1)
      | no l ↦ copied_alike s q t first z m n d 64 room o (omega arith) h
    ]

pub copies_few : (s : List ℕ) → copies_made s < 16
unfolding copies_made
copies_few s = omega arith
