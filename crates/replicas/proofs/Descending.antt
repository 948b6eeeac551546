-- The chain as runs have it: distinct members, each of which has applied a front part of what the one before it has applied.
use mathlib.Core.Path.{◌≡◌, refl, sym, ap, ◌∙◌}
use mathlib.Core.Bool.{Bool, true, false}
use mathlib.Core.List.{List}
use mathlib.Core.Logic.{◌⊎◌, inl, inr}
use Prim.Native.Nat.{ℕ, zero, suc, ◌+◌, ◌-◌, ◌≤◌, ◌<◌}
use native.Mathlib.Nat.{add-zero, le_trans}
use native.Mathlib.Decide.{dec_lt, ℕ_discrete}
use native.Mathlib.Omega.{arith}
use Rattle.limits.specs as limits
use Rattle.store.specs.declared.Write.{Write}
use Rattle.store.specs.{live_count, members, row_of, applied_by, logged}
use Rattle.chain.specs.{chain_place, is_live, member_at, permitting, removed, empty_store}
use Rattle.replicas.specs.Replicas.{accepts, applying, taking, pending, oldest}
use Rattle.chain.proofs.Members.{place_at, place_below, place_found, count_same, member_same, place_same, live_same}
use Rattle.replicas.proofs.Cells.{SizedStore, Named, row_apart, sized_logged, members_applying, applied_applying_same, applied_applying_other}
use Rattle.replicas.proofs.Cells.{members_permitting, applied_permitting, members_logged, applied_logged, applied_removed}
use Rattle.replicas.proofs.Shape.{removed_gone, count_removed, member_removed_before, member_removed_behind, count_empty, member_empty, applied_empty}
use Rattle.replicas.proofs.Moves.{accepts_position, pending_is}

-- distinct members, each with a number of its own, and none has applied more than the one before it
pub record Descending (s : List ℕ) : Type 0 where
  pub named : (p : ℕ) → p < live_count s → Named (member_at s p)
  pub distinct : (p q : ℕ) → p < live_count s → q < live_count s → member_at s p ≡ member_at s q → p ≡ q
  pub falls : (p : ℕ) → p + 1 < live_count s → applied_by s (member_at s (p + 1)) ≤ applied_by s (member_at s p)
  pub counted : (p : ℕ) → p < live_count s → applied_by s (member_at s p) ≤ limits.last_position

-- each member is at its own place
pub place_is : (s : List ℕ) (p : ℕ) → Descending s → p < live_count s → chain_place s (member_at s p) ≡ p
place_is s p g h =
    place_found s p (member_at s p) h (λ k b e. let same : k ≡ p = g.distinct k p (omega arith) h e in omega arith) refl

-- two members have two rows
pub rows_apart : (s : List ℕ) (p q : ℕ) → Descending s → p < live_count s → q < live_count s → (p ≡ q → ⊥) →
    row_of (member_at s p) ≡ row_of (member_at s q) → ⊥
rows_apart s p q g a b d =
    row_apart (member_at s p) (member_at s q) (g.named p a) (g.named q b) (λ e. d (g.distinct p q a b e))

-- two live replicas at two places have two rows
pub places_apart : (s : List ℕ) (q r : ℕ) → Descending s → is_live s q ≡ true → is_live s r ≡ true → (chain_place s q ≡ chain_place s r → ⊥) →
    row_of q ≡ row_of r → ⊥
places_apart s q r g f e d m =
    rows_apart s (chain_place s q) (chain_place s r) g (place_below s q f) (place_below s r e) d (rw (place_at s q f, place_at s r e) m)

-- the rest of the chain lags behind
falls_on : (s : List ℕ) (p k : ℕ) → Descending s → p + k < live_count s → applied_by s (member_at s (p + k)) ≤ applied_by s (member_at s p)
falls_on s p zero g h = rw add-zero (omega arith)
falls_on s p (suc k) g h =
    let last : p + suc k ≡ p + k + 1 = omega arith in
    rw last (le_trans (g.falls (p + k) (omega arith)) (falls_on s p k g (omega arith)))

pub falls_to : (s : List ℕ) (p q : ℕ) → Descending s → p ≤ q → q < live_count s → applied_by s (member_at s q) ≤ applied_by s (member_at s p)
falls_to s p q g b h =
    let up : p + (q - p) ≡ q = omega arith in
    rw up at (falls_on s p (q - p) g (omega arith))

-- ---- a replica and the one before it

module _ (s : List ℕ) (r : ℕ) (g : Descending s) (e : is_live s r ≡ true) (b : 0 < chain_place s r) where
  pub before_apart : row_of (member_at s (chain_place s r - 1)) ≡ row_of r → ⊥
  before_apart q =
      rows_apart s (chain_place s r - 1) (chain_place s r) g (omega (arith, place_below s r e)) (place_below s r e) (λ z. omega arith)
      (rw (place_at s r e) q)

  pub own_lags : applied_by s r ≤ applied_by s (member_at s (chain_place s r - 1))
  own_lags =
      let up : chain_place s r - 1 + 1 ≡ chain_place s r = omega arith in
      rw (up, place_at s r e) at (g.falls (chain_place s r - 1) (omega (arith, place_below s r e)))

-- ---- at the start

pub descending_empty : (n : ℕ) → n ≤ limits.replicas → Descending (empty_store n)
descending_empty n h = record {
  named = λ p b. let e = member_empty n p h (omega (arith, count_empty n h)) in (omega arith, omega (arith, count_empty n h));
  distinct = λ p q a b e. omega (arith, e, member_empty n p h (omega (arith, count_empty n h)), member_empty n q h (omega (arith, count_empty n h)));
  falls = λ p b. omega (arith, applied_empty n (member_at (empty_store n) p), applied_empty n (member_at (empty_store n) (p + 1)));
  counted = λ p b. omega (arith, applied_empty n (member_at (empty_store n) p));
}

-- ---- kept by every step

-- a store with the same members, which have applied as much
pub descending_same : (s t : List ℕ) → members t ≡ members s → ((r : ℕ) → applied_by t r ≡ applied_by s r) → Descending s → Descending t
descending_same s t e f g = record {
  named = λ p h. rw (member_same t s e p) (g.named p (within p h));
  distinct = λ p q a b d. g.distinct p q (within p a) (within q b) (sym (member_same t s e p) ∙ d ∙ member_same t s e q);
  falls = λ p h. rw (f (member_at t p), f (member_at t (p + 1)), member_same t s e p, member_same t s e (p + 1)) (g.falls p (within (p + 1) h));
  counted = λ p h. rw (f (member_at t p), member_same t s e p) (g.counted p (within p h));
}
  where
    within : (p : ℕ) → p < live_count t → p < live_count s
    within p h = omega (arith, count_same t s e)

pub descending_permitting : (s : List ℕ) (r number : ℕ) → Descending s → Descending (permitting s r number)
descending_permitting s r number g =
    descending_same s (permitting s r number) (members_permitting s r number) (λ q. applied_permitting s r number q) g

pub descending_logged : (s : List ℕ) (p : ℕ) (w : Write) → Descending s → Descending (logged s p w)
descending_logged s p w g = descending_same s (logged s p w) (members_logged s p w) (λ q. applied_logged s p w q) g

-- the place that a member had before a removal
abbrev Stood : List ℕ → ℕ → ℕ → ℕ → Type 0
Stood s r p k = ((k ≡ p) × (p < chain_place s r)) ⊎ ((k ≡ p + 1) × (chain_place s r ≤ p))

stood : (s : List ℕ) (r p : ℕ) → SizedStore s → is_live s r ≡ true → p < live_count (removed s (chain_place s r)) →
    (k : ℕ) × (k < live_count s) × (member_at (removed s (chain_place s r)) p ≡ member_at s k) × Stood s r p k
stood s r p z e h =
    elim (dec_lt p (chain_place s r)) [
      | yes b ↦ (p, omega (arith, count_removed s r z e), member_removed_before s r z e p b, inl (refl, b))
      | no b ↦ (p + 1, omega (arith, count_removed s r z e), member_removed_behind s r z e p (omega arith), inr (refl, omega arith))
    ]

-- two that stand in one place stood in one place, and the order stays
stood_same : (s : List ℕ) (r p q k l : ℕ) → Stood s r p k → Stood s r q l → k ≡ l → p ≡ q
stood_same s r p q k l (inl a) (inl b) e = omega arith
stood_same s r p q k l (inl a) (inr b) e = omega arith
stood_same s r p q k l (inr a) (inl b) e = omega arith
stood_same s r p q k l (inr a) (inr b) e = omega arith

stood_order : (s : List ℕ) (r p k l : ℕ) → Stood s r p k → Stood s r (p + 1) l → k ≤ l
stood_order s r p k l (inl a) (inl b) = omega arith
stood_order s r p k l (inl a) (inr b) = omega arith
stood_order s r p k l (inr a) (inl b) = omega arith
stood_order s r p k l (inr a) (inr b) = omega arith

removed_live : (s : List ℕ) (r : ℕ) → SizedStore s → is_live s r ≡ true → Descending s → Descending (removed s (chain_place s r))
removed_live s r z e g = record {
  named = λ p h. let at = stood s r p z e h in rw at.2 (g.named at.0 at.1);
  distinct = λ p q h m d.
      let a = stood s r p z e h in
      let b = stood s r q z e m in
      stood_same s r p q a.0 b.0 a.3 b.3 (g.distinct a.0 b.0 a.1 b.1 (sym a.2 ∙ d ∙ b.2));
  falls = λ p h.
      let a = stood s r p z e (omega arith) in
      let b = stood s r (p + 1) z e h in
      rw (applied_removed s r (member_at (removed s (chain_place s r)) p), applied_removed s r (member_at (removed s (chain_place s r)) (p + 1)), a.2, b.2)
      (falls_to s a.0 b.0 g (stood_order s r p a.0 b.0 a.3 b.3) b.1);
  counted = λ p h.
      let a = stood s r p z e h in
      rw (applied_removed s r (member_at (removed s (chain_place s r)) p), a.2) (g.counted a.0 a.1);
}

pub descending_removed : (s : List ℕ) (r : ℕ) → SizedStore s → Descending s → Descending (removed s (chain_place s r))
descending_removed s r z g = go (is_live s r) refl
  where
    go : (t : Bool) → is_live s r ≡ t → Descending (removed s (chain_place s r))
    go true e = removed_live s r z e g
    go false e = rw (removed_gone s r e) g

-- a write that a replica applies, where the one before it has applied more
module _ (s : List ℕ) (r : ℕ) (w : Write) (g : Descending s) (z : SizedStore s) (e : is_live s r ≡ true) (short : applied_by s r < limits.last_position)
    (room : 0 < chain_place s r → applied_by s r < applied_by s (member_at s (chain_place s r - 1))) where
  -- the others stay as they are
  others : (p : ℕ) → p < live_count s → (p ≡ chain_place s r → ⊥) → applied_by (applying s r w) (member_at s p) ≡ applied_by s (member_at s p)
  others p h d =
      applied_applying_other s r w (member_at s p)
      (λ q. rows_apart s p (chain_place s r) g h (place_below s r e) d (q ∙ ap row_of (sym (place_at s r e))))

  itself : (p : ℕ) → p ≡ chain_place s r → applied_by (applying s r w) (member_at s p) ≡ applied_by s (member_at s p) + 1
  itself p q =
      let here : member_at s p ≡ r = ap (member_at s) q ∙ place_at s r e in
      rw here (applied_applying_same s r w z short)

  before : (p : ℕ) → p + 1 ≡ chain_place s r → applied_by s (member_at s (p + 1)) < applied_by s (member_at s p)
  before p n =
      let back : chain_place s r - 1 ≡ p = omega arith in
      let here : member_at s (p + 1) ≡ r = ap (member_at s) n ∙ place_at s r e in
      rw here (rw back at (room (omega arith)))

  falls_still : (p : ℕ) → p + 1 < live_count s → applied_by (applying s r w) (member_at s (p + 1)) ≤ applied_by (applying s r w) (member_at s p)
  falls_still p h =
      elim (ℕ_discrete p (chain_place s r)) [
        | yes q ↦ omega (arith, itself p q, others (p + 1) h (λ n. omega arith), g.falls p h)
        | no q ↦ elim (ℕ_discrete (p + 1) (chain_place s r)) [
          | yes n ↦ omega (arith, before p n, itself (p + 1) n, others p (omega arith) q)
          | no n ↦ omega (arith, others p (omega arith) q, others (p + 1) h n, g.falls p h)
        ]
      ]

  counted_still : (p : ℕ) → p < live_count s → applied_by (applying s r w) (member_at s p) ≤ limits.last_position
  counted_still p h =
      elim (ℕ_discrete p (chain_place s r)) [
        | yes q ↦ omega (arith, itself p q, ap (λ (i : ℕ). applied_by s (member_at s i)) q, ap (applied_by s) (place_at s r e), short)
        | no q ↦ omega (arith, others p h q, g.counted p h)
      ]

  within : (p : ℕ) → p < live_count (applying s r w) → p < live_count s
  within p h = omega (arith, count_same (applying s r w) s (members_applying s r w))

  pub descending_applying : Descending (applying s r w)
  descending_applying = record {
    named = λ p h. rw (same p) (g.named p (within p h));
    distinct = λ p q a b d. g.distinct p q (within p a) (within q b) (sym (same p) ∙ d ∙ same q);
    falls = λ p h. rw (same p, same (p + 1)) (falls_still p (within (p + 1) h));
    counted = λ p h. rw (same p) (counted_still p (within p h));
  }
    where
      same : (p : ℕ) → member_at (applying s r w) p ≡ member_at s p
      same p = member_same (applying s r w) s (members_applying s r w) p

-- a replica that applies the oldest write of its incoming link
pub pending_short : (s : List ℕ) (r : ℕ) → Descending s → is_live s r ≡ true → 0 < pending s r → applied_by s r < limits.last_position
pending_short s r g e h =
    omega (arith, pending_is s r h, g.counted (chain_place s r - 1) (omega (arith, place_below s r e)))

pub descending_advancing : (s : List ℕ) (r : ℕ) → SizedStore s → Descending s → is_live s r ≡ true → 0 < pending s r →
    Descending (applying s r (oldest s r))
descending_advancing s r z g e h =
    descending_applying s r (oldest s r) g z e (pending_short s r g e h) (λ b. omega (arith, h, pending_is s r h))

-- a stamped write that comes to the head
pub descending_taking : (s : List ℕ) (r : ℕ) (w : Write) → SizedStore s → Descending s → is_live s r ≡ true → chain_place s r ≡ 0 → accepts s r w.stamp ≡ true →
    Descending (taking s r w)
unfolding taking
descending_taking s r w z g e h a =
    let log = logged s (applied_by s r) w in
    let same = members_logged s (applied_by s r) w in
    descending_applying log r w (descending_logged s (applied_by s r) w g) (sized_logged s (applied_by s r) w z)
    (live_same log s same r ∙ e)
    (rw (applied_logged s (applied_by s r) w r) (accepts_position s r w.stamp a))
    (λ b. absurd (omega (arith, place_same log s same r)))
