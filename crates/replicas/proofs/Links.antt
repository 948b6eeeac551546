-- Document 01 on links, proved of the log: removing a replica joins its two links, advancing takes the oldest write of one link and puts it
-- last in the next, and an accepted write goes last in the head's outgoing link. A write that is applied leaves every other link as it is.
use mathlib.Core.Path.{◌≡◌, refl, sym, ap, ◌∙◌}
use mathlib.Core.Bool.{Bool, true, false}
use mathlib.Core.List.{List, [], ◌∷◌, ◌++◌}
use Prim.Native.Nat.{ℕ, zero, suc, ◌+◌, ◌-◌, ◌≤◌, ◌<◌}
use native.Mathlib.Nat.{zero-add, suc-add, le_refl}
use native.Mathlib.Decide.{ℕ_discrete, dec_lt}
use native.Mathlib.Omega.{arith}
use lib.ListN.{length, drop}
use Rattle.limits.specs as limits
use Rattle.store.specs.declared.Write.{Write}
use Rattle.store.specs.{live_count, row_of, applied_by, entry_at, logged}
use Rattle.chain.specs.{chain_place, is_live, member_at, head_of, tail_of, removed}
use Rattle.replicas.specs.Replicas.{linked_writes, accepts, applying, taking, pending, oldest}
use Rattle.replicas.specs.Links.{entries, link_into, successor_of, links_to, all_links}
use Rattle.chain.proofs.Members.{head_is, tail_is, member_in, in_live, place_below, below_live, place_at, place_found, count_same, member_same, place_same, live_same}
use Rattle.replicas.proofs.Cells.{SizedStore, members_applying, entry_applying, applied_applying_same, applied_applying_other}
use Rattle.replicas.proofs.Cells.{members_logged, applied_logged, sized_logged, entry_logged_same, entry_logged_other, positions_apart, applied_removed, entry_removed}
use Rattle.replicas.proofs.Shape.{count_removed, member_removed_before, member_removed_behind}
use Rattle.replicas.proofs.Moves.{accepts_room, accepts_position, pending_after, pending_behind, pending_head}
use Rattle.replicas.proofs.Descending.{Descending, place_is, rows_apart, places_apart, falls_to, before_apart, own_lags, pending_short, descending_removed, descending_logged}

-- ---- stretches of the log

-- one in two parts
entries_append : (s : List ℕ) (p m n : ℕ) → entries s p (m + n) ≡ entries s p m ++ entries s (p + m) n
unfolding entries
entries_append s p zero n = rw zero-add (ap (λ (q : ℕ). entries s q n) (omega arith))
entries_append s p (suc m) n =
    rw suc-add
    (ap (λ (l : List Write). entry_at s p ∷ l)
    (entries_append s (p + 1) m n ∙ ap (λ (q : ℕ). entries s (p + 1) m ++ entries s q n) (omega arith)))

-- one write more, at the end
entries_more : (s : List ℕ) (p k : ℕ) → entries s p (k + 1) ≡ entries s p k ++ entry_at s (p + k) ∷ []
unfolding entries
entries_more s p k = entries_append s p k 1

-- two logs that agree at the positions
entries_same : (s t : List ℕ) (p k : ℕ) → ((q : ℕ) → p ≤ q → q < p + k → entry_at s q ≡ entry_at t q) → entries s p k ≡ entries t p k
unfolding entries
entries_same s t p zero e = refl
entries_same s t p (suc k) e =
    λ j. e p (omega arith) (omega arith) j ∷ entries_same s t (p + 1) k (λ q a b. e q (omega arith) (omega arith)) j

-- without its oldest write
entries_rest : (s : List ℕ) (p k : ℕ) → 0 < k → drop 1 (entries s p k) ≡ entries s (p + 1) (k - 1)
unfolding entries
entries_rest s p zero h = absurd (omega arith)
entries_rest s p (suc k) h =
    let same : k ≡ suc k - 1 = omega arith in
    ap (entries s (p + 1)) same

entries_length : (s : List ℕ) (p k : ℕ) → length (entries s p k) ≡ k
unfolding entries
entries_length s p zero = refl
entries_length s p (suc k) = ap suc (entries_length s (p + 1) k)

-- ---- links

pub link_live : (s : List ℕ) (r : ℕ) → is_live s r ≡ true → link_into s r ≡ entries s (applied_by s r) (pending s r)
unfolding link_into
link_live s r e = rw e

pub link_gone : (s : List ℕ) (r : ℕ) → is_live s r ≡ false → link_into s r ≡ []
unfolding link_into
link_gone s r e = rw e

-- a live replica's link is told by where it begins, how much it holds and the entries there
pub link_is : (s t : List ℕ) (r : ℕ) → is_live s r ≡ true → is_live t r ≡ true → applied_by t r ≡ applied_by s r → pending t r ≡ pending s r →
    ((q : ℕ) → applied_by s r ≤ q → q < applied_by s r + pending s r → entry_at t q ≡ entry_at s q) → link_into t r ≡ link_into s r
link_is s t r e f a p same =
    link_live t r f ∙ rw (a, p) (entries_same t s (applied_by s r) (pending s r) same) ∙ sym (link_live s r e)

-- a replica that is live and is not the tail
abbrev pub HasNext : List ℕ → ℕ → Type 0
HasNext s r = chain_place s r + 1 < live_count s

-- a write applied changes nothing of the chain's shape
pending_applying : (s : List ℕ) (q r : ℕ) (w : Write) → 0 < chain_place s q →
    pending (applying s r w) q ≡ applied_by (applying s r w) (member_at s (chain_place s q - 1)) - applied_by (applying s r w) q
pending_applying s q r w h =
    let same = members_applying s r w in
    rw (place_same (applying s r w) s same q, member_same (applying s r w) s same (chain_place s q - 1)) at
    (pending_behind (applying s r w) q (rw (place_same (applying s r w) s same q) h))

-- ---- a replica and the next one

module _ (s : List ℕ) (r : ℕ) (g : Descending s) (h : HasNext s r) where
  is_live_lem : is_live s r ≡ true
  is_live_lem = below_live s r (omega arith)

  next_live : is_live s (successor_of s r) ≡ true
  unfolding successor_of
  next_live = in_live s (member_at s (chain_place s r + 1)) (member_in s (chain_place s r + 1) h)

  next_place : chain_place s (successor_of s r) ≡ chain_place s r + 1
  unfolding successor_of
  next_place = place_is s (chain_place s r + 1) g h

  -- the one before the next is this one
  before_next : member_at s (chain_place s (successor_of s r) - 1) ≡ r
  before_next =
      let back : chain_place s (successor_of s r) - 1 ≡ chain_place s r = omega (arith, next_place) in
      ap (member_at s) back ∙ place_at s r is_live_lem

  next_apart : row_of (successor_of s r) ≡ row_of r → ⊥
  unfolding successor_of
  next_apart e =
      rows_apart s (chain_place s r + 1) (chain_place s r) g h (omega arith) (λ z. omega arith) (rw (place_at s r is_live_lem) e)

  next_lags : applied_by s (successor_of s r) ≤ applied_by s r
  unfolding successor_of
  next_lags = rw (place_at s r is_live_lem) at (g.falls (chain_place s r) h)

  next_pending : pending s (successor_of s r) ≡ applied_by s r - applied_by s (successor_of s r)
  next_pending = rw before_next at (pending_behind s (successor_of s r) (omega (arith, next_place)))

  -- where the next one's link ends
  seam : applied_by s (successor_of s r) + pending s (successor_of s r) ≡ applied_by s r
  seam = omega (arith, next_pending, next_lags)

  -- this one applies a write: the next one has one more to come
  module _ (w : Write) (z : SizedStore s) (short : applied_by s r < limits.last_position) where
    next_kept : applied_by (applying s r w) (successor_of s r) ≡ applied_by s (successor_of s r)
    next_kept = applied_applying_other s r w (successor_of s r) next_apart

    next_grows : pending (applying s r w) (successor_of s r) ≡ pending s (successor_of s r) + 1
    next_grows =
        let now : pending (applying s r w) (successor_of s r) ≡ applied_by (applying s r w) r - applied_by (applying s r w) (successor_of s r) =
        rw before_next at (pending_applying s (successor_of s r) r w (omega (arith, next_place))) in
        omega (arith, now, next_kept, next_pending, next_lags, applied_applying_same s r w z short)

    -- its link has that write last, if the log has it there
    next_link : entry_at s (applied_by s r) ≡ w → link_into (applying s r w) (successor_of s r) ≡ link_into s (successor_of s r) ++ w ∷ []
    next_link e =
        let next = successor_of s r in
        link_live (applying s r w) next (live_same (applying s r w) s (members_applying s r w) next ∙ next_live) ∙
        rw (next_kept, next_grows)
        (entries_same (applying s r w) s (applied_by s next) (pending s next + 1) (λ q a b. entry_applying s r w q) ∙
        entries_more s (applied_by s next) (pending s next) ∙
        ap (λ (x : Write). entries s (applied_by s next) (pending s next) ++ x ∷ []) (ap (entry_at s) seam ∙ e)) ∙
        ap (λ (l : List Write). l ++ w ∷ []) (sym (link_live s next next_live))

-- ---- a removal

module _ (s : List ℕ) (r : ℕ) (g : Descending s) (z : SizedStore s) (h : HasNext s r) where
  -- the next one moves up one place
  moved_place : chain_place (removed s (chain_place s r)) (successor_of s r) ≡ chain_place s r
  unfolding successor_of
  moved_place =
      let live = is_live_lem s r g h in
      place_found (removed s (chain_place s r)) (chain_place s r) (successor_of s r) (omega (arith, count_removed s r z live))
      (λ k b e.
      let same : k ≡ chain_place s r + 1 =
      g.distinct k (chain_place s r + 1) (omega arith) h (sym (member_removed_before s r z live k b) ∙ e) in
      omega arith)
      (member_removed_behind s r z live (chain_place s r) (le_refl (chain_place s r)))

  moved_live : is_live (removed s (chain_place s r)) (successor_of s r) ≡ true
  moved_live = below_live (removed s (chain_place s r)) (successor_of s r) (omega (arith, moved_place, count_removed s r z (is_live_lem s r g h)))

  -- 'Removing the head loses its outgoing link': the next one, now the head, has nothing to come
  pub removed_head : chain_place s r ≡ 0 → link_into (removed s (chain_place s r)) (successor_of s r) ≡ []
  unfolding entries
  removed_head e =
      link_live (removed s (chain_place s r)) (successor_of s r) moved_live ∙
      ap (entries (removed s (chain_place s r)) (applied_by (removed s (chain_place s r)) (successor_of s r))) (pending_head (removed s (chain_place s r)) (successor_of s r) (moved_place ∙ e))

  -- removing one between: what the two links held
  moved_pending : 0 < chain_place s r → pending (removed s (chain_place s r)) (successor_of s r) ≡ pending s (successor_of s r) + pending s r
  moved_pending b =
      let live = is_live_lem s r g h in
      let before : member_at (removed s (chain_place s r)) (chain_place (removed s (chain_place s r)) (successor_of s r) - 1) ≡ member_at s (chain_place s r - 1) =
      ap (λ (p : ℕ). member_at (removed s (chain_place s r)) (p - 1)) moved_place ∙ member_removed_before s r z live (chain_place s r - 1) (omega arith) in
      let now : pending (removed s (chain_place s r)) (successor_of s r) ≡ applied_by s (member_at s (chain_place s r - 1)) - applied_by s (successor_of s r) =
      simp (before, applied_removed) at (pending_behind (removed s (chain_place s r)) (successor_of s r) (omega (arith, moved_place))) in
      omega (arith, now, next_pending s r g h, next_lags s r g h, pending_behind s r b, own_lags s r g live b)

  -- 'Removing one between joins its two links, the outgoing link's writes first.'
  pub removed_joins : 0 < chain_place s r → link_into (removed s (chain_place s r)) (successor_of s r) ≡ link_into s (successor_of s r) ++ link_into s r
  removed_joins b =
      let next = successor_of s r in
      link_live (removed s (chain_place s r)) next moved_live ∙
      rw (applied_removed s r next, moved_pending b)
      (entries_same (removed s (chain_place s r)) s (applied_by s next) (pending s next + pending s r) (λ q c d. entry_removed s r q) ∙
      entries_append s (applied_by s next) (pending s next) (pending s r) ∙
      ap (λ (p : ℕ). entries s (applied_by s next) (pending s next) ++ entries s p (pending s r)) (seam s r g h)) ∙
      λ j. sym (link_live s next (next_live s r g h)) j ++ sym (link_live s r (is_live_lem s r g h)) j

-- the removed replica itself is gone, and its incoming link with it: 'removing the tail empties its incoming link'
pub removed_itself : (s : List ℕ) (r : ℕ) → Descending s → SizedStore s → is_live s r ≡ true → link_into (removed s (chain_place s r)) r ≡ []
removed_itself s r g z e = link_gone (removed s (chain_place s r)) r (go (is_live (removed s (chain_place s r)) r) refl)
  where
    at_own : (k : ℕ) → k < live_count s → member_at s k ≡ r → k ≡ chain_place s r
    at_own k h q = g.distinct k (chain_place s r) h (place_below s r e) (q ∙ sym (place_at s r e))

    absent : (p : ℕ) → p < live_count (removed s (chain_place s r)) → member_at (removed s (chain_place s r)) p ≡ r → ⊥
    absent p h q =
        elim (dec_lt p (chain_place s r)) [
          | yes b ↦ omega (
            arith,
            at_own p (omega (arith, place_below s r e)) (sym (member_removed_before s r z e p b) ∙ q),
          )
          | no b ↦ omega (
            arith,
            b,
            at_own (p + 1) (omega (arith, count_removed s r z e)) (sym (member_removed_behind s r z e p (omega arith)) ∙ q),
          )
        ]

    go : (t : Bool) → is_live (removed s (chain_place s r)) r ≡ t → is_live (removed s (chain_place s r)) r ≡ false
    go true f = absurd (absent (chain_place (removed s (chain_place s r)) r) (place_below (removed s (chain_place s r)) r f) (place_at (removed s (chain_place s r)) r f))
    go false f = f

-- ---- a replica that applies the oldest write of its incoming link

module _ (s : List ℕ) (r : ℕ) (g : Descending s) (z : SizedStore s) (e : is_live s r ≡ true) (w : 0 < pending s r) where
  abbrev next_state : List ℕ
  next_state = applying s r (oldest s r)

  own_shrinks : pending (applying s r (oldest s r)) r ≡ pending s r - 1
  own_shrinks =
      let after = pending_after s r w in
      let kept : applied_by (applying s r (oldest s r)) (member_at s (chain_place s r - 1)) ≡ applied_by s (member_at s (chain_place s r - 1)) =
      applied_applying_other s r (oldest s r) (member_at s (chain_place s r - 1)) (before_apart s r g e after) in
      omega (
        arith,
        kept,
        pending_applying s r r (oldest s r) after,
        applied_applying_same s r (oldest s r) z (pending_short s r g e w),
        pending_behind s r after,
      )

  -- 'this replica applies the oldest write of its incoming link'
  pub advanced_link : link_into (applying s r (oldest s r)) r ≡ drop 1 (link_into s r)
  advanced_link =
      link_live (applying s r (oldest s r)) r (live_same (applying s r (oldest s r)) s (members_applying s r (oldest s r)) r ∙ e) ∙
      rw (applied_applying_same s r (oldest s r) z (pending_short s r g e w), own_shrinks)
      (entries_same (applying s r (oldest s r)) s (applied_by s r + 1) (pending s r - 1) (λ q a b. entry_applying s r (oldest s r) q) ∙
      sym (entries_rest s (applied_by s r) (pending s r) w)) ∙
      ap (λ (l : List Write). drop 1 l) (sym (link_live s r e))

  -- 'and passes it on unless it is the tail'
  pub advanced_next : HasNext s r → link_into (applying s r (oldest s r)) (successor_of s r) ≡ link_into s (successor_of s r) ++ oldest s r ∷ []
  unfolding oldest
  advanced_next h = next_link s r g h (oldest s r) z (pending_short s r g e w) refl

-- ---- an accepted write

-- every live replica has applied all but fewer than 64 of the head's writes
recent : (s : List ℕ) (q r : ℕ) → Descending s → is_live s q ≡ true → is_live s r ≡ true → chain_place s r ≡ 0 → linked_writes s < limits.linked →
    applied_by s r < applied_by s q + limits.linked
unfolding linked_writes
recent s q r g f e z b =
    let first : head_of s ≡ r = head_is s ∙ ap (member_at s) (sym z) ∙ place_at s r e in
    let last : applied_by s (member_at s (live_count s - 1)) ≤ applied_by s (member_at s (chain_place s q)) =
    falls_to s (chain_place s q) (live_count s - 1) g (omega (arith, place_below s q f)) (omega (arith, place_below s q f)) in
    let room : applied_by s r - applied_by s (member_at s (live_count s - 1)) < limits.linked = rw (first, tail_is s) at b in
    omega (arith, room, rw (place_at s q f) at last)

-- what a link holds ends where the head's applied writes end
within_head : (s : List ℕ) (q r : ℕ) → Descending s → is_live s q ≡ true → is_live s r ≡ true → chain_place s r ≡ 0 →
    applied_by s q + pending s q ≤ applied_by s r
within_head s q r g f e z =
    elim (ℕ_discrete (chain_place s q) 0) [
      | yes y ↦
          let same : q ≡ r = sym (place_at s q f) ∙ ap (member_at s) (y ∙ sym z) ∙ place_at s r e in
          omega (arith, pending_head s q y, ap (applied_by s) same)
      | no y ↦ behind (omega (arith, y))
    ]
  where
    behind : 0 < chain_place s q → applied_by s q + pending s q ≤ applied_by s r
    behind b =
        let front : applied_by s (member_at s (chain_place s q - 1)) ≤ applied_by s (member_at s (chain_place s r)) =
        falls_to s (chain_place s r) (chain_place s q - 1) g (omega arith) (omega (arith, place_below s q f)) in
        omega (arith, rw (place_at s r e) at front, pending_behind s q b, own_lags s q g f b)

-- so a write that comes into the log takes the cell of none that a link holds
logged_link : (s : List ℕ) (q r : ℕ) (w : Write) → Descending s → is_live s q ≡ true → is_live s r ≡ true → chain_place s r ≡ 0 → accepts s r w.stamp ≡ true →
    link_into (logged s (applied_by s r) w) q ≡ link_into s q
logged_link s q r w g f e z a =
    let log = logged s (applied_by s r) w in
    let same = members_logged s (applied_by s r) w in
    link_is s log q f (live_same log s same q ∙ f) (applied_logged s (applied_by s r) w q) (pending_logged (ℕ_discrete (chain_place s q) 0))
    (λ p low high.
    entry_logged_other s (applied_by s r) w p
    (λ m. positions_apart p (applied_by s r) (omega (arith, within_head s q r g f e z))
    (omega (arith, recent s q r g f e z (accepts_room s r w.stamp a))) (sym m)))
  where
    pending_logged : Dec (chain_place s q ≡ 0) → pending (logged s (applied_by s r) w) q ≡ pending s q
    pending_logged (yes y) =
        let log = logged s (applied_by s r) w in
        pending_head log q (place_same log s (members_logged s (applied_by s r) w) q ∙ y) ∙ sym (pending_head s q y)
    pending_logged (no y) =
        let log = logged s (applied_by s r) w in
        let same = members_logged s (applied_by s r) w in
        pending_behind log q (omega (arith, place_same log s same q, y)) ∙
        rw (place_same log s same q, member_same log s same (chain_place s q - 1)) (λ j. applied_logged s (applied_by s r) w (member_at s (chain_place s q - 1)) j - applied_logged s (applied_by s r) w q j) ∙
        sym (pending_behind s q (omega (arith, y)))

-- ---- the other links stay as they are

module _ (s : List ℕ) (q r : ℕ) (w : Write) (g : Descending s) (f : is_live s q ≡ true) (e : is_live s r ≡ true)
    (d : chain_place s q ≡ chain_place s r → ⊥) (n : chain_place s q ≡ chain_place s r + 1 → ⊥) where
  other_kept : applied_by (applying s r w) q ≡ applied_by s q
  other_kept = applied_applying_other s r w q (places_apart s q r g f e d)

  other_pending : pending (applying s r w) q ≡ pending s q
  other_pending =
      elim (ℕ_discrete (chain_place s q) 0) [
        | yes z ↦ pending_head (applying s r w) q (place_same (applying s r w) s (members_applying s r w) q ∙ z) ∙
            sym (pending_head s q z)
        | no z ↦ behind (omega arith)
      ]
    where
      behind : 0 < chain_place s q → pending (applying s r w) q ≡ pending s q
      behind b =
          let kept : applied_by (applying s r w) (member_at s (chain_place s q - 1)) ≡ applied_by s (member_at s (chain_place s q - 1)) =
          applied_applying_other s r w (member_at s (chain_place s q - 1))
          (λ m. rows_apart s (chain_place s q - 1) (chain_place s r) g (omega (arith, place_below s q f)) (place_below s r e)
          (λ y. n (omega arith)) (rw (place_at s r e) m)) in
          omega (arith, kept, other_kept, pending_applying s q r w b, pending_behind s q b)

  pub applying_others : link_into (applying s r w) q ≡ link_into s q
  applying_others =
      link_is s (applying s r w) q f (live_same (applying s r w) s (members_applying s r w) q ∙ f) other_kept other_pending
      (λ p a b. entry_applying s r w p)

-- 'applied and put in the link to the next replica': at the head, last in its outgoing link
module _ (s : List ℕ) (r : ℕ) (w : Write) (g : Descending s) (z : SizedStore s) (e : is_live s r ≡ true) (y : chain_place s r ≡ 0) (a : accepts s r w.stamp ≡ true) where
  abbrev log : List ℕ
  log = logged s (applied_by s r) w

  log_same : (q : ℕ) → chain_place (logged s (applied_by s r) w) q ≡ chain_place s q
  log_same q = place_same (logged s (applied_by s r) w) s (members_logged s (applied_by s r) w) q

  log_live : (q : ℕ) → is_live (logged s (applied_by s r) w) q ≡ is_live s q
  log_live q = live_same (logged s (applied_by s r) w) s (members_logged s (applied_by s r) w) q

  pub taken_next : HasNext s r → link_into (taking s r w) (successor_of s r) ≡ link_into s (successor_of s r) ++ w ∷ []
  unfolding taking successor_of
  taken_next h =
      let same = members_logged s (applied_by s r) w in
      let has : HasNext log r = omega (arith, log_same r, count_same log s same) in
      let next : member_at log (chain_place log r + 1) ≡ member_at s (chain_place s r + 1) =
      ap (λ (p : ℕ). member_at log (p + 1)) (log_same r) ∙ member_same log s same (chain_place s r + 1) in
      ap (link_into (applying log r w)) (sym next) ∙
      next_link log r (descending_logged s (applied_by s r) w g) has w (sized_logged s (applied_by s r) w z)
      (rw (applied_logged s (applied_by s r) w r) (accepts_position s r w.stamp a))
      (ap (entry_at log) (applied_logged s (applied_by s r) w r) ∙ entry_logged_same s (applied_by s r) w z) ∙
      ap (λ (l : List Write). l ++ w ∷ []) (ap (link_into log) next ∙ logged_link s (member_at s (chain_place s r + 1)) r w g (next_live s r g h) e y a)

  pub taken_others : (q : ℕ) → is_live s q ≡ true → 1 < chain_place s q → link_into (taking s r w) q ≡ link_into s q
  unfolding taking
  taken_others q f b =
      applying_others log q r w (descending_logged s (applied_by s r) w g) (log_live q ∙ f) (log_live r ∙ e)
      (λ x. omega (arith, log_same q, log_same r))
      (λ x. omega (arith, log_same q, log_same r)) ∙
      logged_link s q r w g f e y a

-- a removal moves the replicas behind it up one place, and leaves those before it
module _ (s : List ℕ) (q r : ℕ) (g : Descending s) (z : SizedStore s) (f : is_live s q ≡ true) (e : is_live s r ≡ true) where
  left_before : chain_place s q < chain_place s r → chain_place (removed s (chain_place s r)) q ≡ chain_place s q
  left_before b =
      let here : member_at (removed s (chain_place s r)) (chain_place s q) ≡ q = member_removed_before s r z e (chain_place s q) b ∙ place_at s q f in
      ap (chain_place (removed s (chain_place s r))) (sym here) ∙
      place_is (removed s (chain_place s r)) (chain_place s q) (descending_removed s r z g) (omega (arith, count_removed s r z e, place_below s r e))

  left_behind : chain_place s r < chain_place s q → chain_place (removed s (chain_place s r)) q ≡ chain_place s q - 1
  left_behind b =
      let up : chain_place s q - 1 + 1 ≡ chain_place s q = omega arith in
      let here : member_at (removed s (chain_place s r)) (chain_place s q - 1) ≡ q =
      member_removed_behind s r z e (chain_place s q - 1) (omega arith) ∙ ap (member_at s) up ∙ place_at s q f in
      ap (chain_place (removed s (chain_place s r))) (sym here) ∙
      place_is (removed s (chain_place s r)) (chain_place s q - 1) (descending_removed s r z g) (omega (arith, count_removed s r z e, place_below s q f))

  -- at another place, with the same replica before it, as much is to come as before
  left_pending : (k : ℕ) → chain_place (removed s (chain_place s r)) q ≡ k → 0 < k → 0 < chain_place s q →
      member_at (removed s (chain_place s r)) (k - 1) ≡ member_at s (chain_place s q - 1) → pending (removed s (chain_place s r)) q ≡ pending s q
  left_pending k p b h same =
      let before : member_at (removed s (chain_place s r)) (chain_place (removed s (chain_place s r)) q - 1) ≡ member_at s (chain_place s q - 1) =
      ap (λ (i : ℕ). member_at (removed s (chain_place s r)) (i - 1)) p ∙ same in
      simp (before, applied_removed) at (pending_behind (removed s (chain_place s r)) q (omega (arith, p))) ∙ sym (pending_behind s q h)

  module _ (d : chain_place s q ≡ chain_place s r → ⊥) (n : chain_place s q ≡ chain_place s r + 1 → ⊥) where
    further : ¬ (chain_place s q < chain_place s r) → chain_place s r + 1 < chain_place s q
    further b = omega (arith, d, n, b)

    removed_behind : chain_place s r + 1 < chain_place s q → pending (removed s (chain_place s r)) q ≡ pending s q
    removed_behind b =
        let up : chain_place s q - 1 - 1 + 1 ≡ chain_place s q - 1 = omega arith in
        left_pending (chain_place s q - 1) (left_behind (omega arith)) (omega arith) (omega arith)
        (member_removed_behind s r z e (chain_place s q - 1 - 1) (omega arith) ∙ ap (member_at s) up)

    removed_pending : pending (removed s (chain_place s r)) q ≡ pending s q
    removed_pending =
        elim (dec_lt (chain_place s q) (chain_place s r)) [
          | yes b ↦ elim (ℕ_discrete (chain_place s q) 0) [
            | yes y ↦ pending_head (removed s (chain_place s r)) q (left_before b ∙ y) ∙ sym (pending_head s q y)
            | no y ↦ left_pending (chain_place s q) (left_before b) (omega arith) (omega arith)
                (member_removed_before s r z e (chain_place s q - 1) (omega arith))
          ]
          | no b ↦ removed_behind (further b)
        ]

    left_live : is_live (removed s (chain_place s r)) q ≡ true
    left_live =
        elim (dec_lt (chain_place s q) (chain_place s r)) [
          | yes b ↦ below_live (removed s (chain_place s r)) q (omega (arith, left_before b, count_removed s r z e, place_below s r e))
          | no b ↦ below_live (removed s (chain_place s r)) q (omega (arith, left_behind (omega (arith, further b)), further b, count_removed s r z e, place_below s q f))
        ]

    -- a removal leaves every link but those of the replica and of the next one as it is
    pub removed_others : link_into (removed s (chain_place s r)) q ≡ link_into s q
    removed_others =
        link_is s (removed s (chain_place s r)) q f left_live (applied_removed s r q) removed_pending (λ p a b. entry_removed s r p)

-- ---- all links together

link_length : (s : List ℕ) (r : ℕ) → is_live s r ≡ true → length (link_into s r) ≡ pending s r
link_length s r e = ap length (link_live s r e) ∙ entries_length s (applied_by s r) (pending s r)

module _ (s : List ℕ) (g : Descending s) where
  -- the links into the first places hold what the head has applied and the last of them has not
  links_to_lem : (k : ℕ) → k < live_count s → links_to s (suc k) ≡ applied_by s (member_at s 0) - applied_by s (member_at s k)
  unfolding links_to
  links_to_lem zero h =
      let e = in_live s (member_at s 0) (member_in s 0 h) in
      omega (arith, link_length s (member_at s 0) e, pending_head s (member_at s 0) (place_is s 0 g h))
  links_to_lem (suc k) h =
      let e = in_live s (member_at s (suc k)) (member_in s (suc k) h) in
      let place = place_is s (suc k) g h in
      let back : member_at s (chain_place s (member_at s (suc k)) - 1) ≡ member_at s k = ap (member_at s) (omega (arith, place)) in
      let held : pending s (member_at s (suc k)) ≡ applied_by s (member_at s k) - applied_by s (member_at s (suc k)) =
      rw back at (pending_behind s (member_at s (suc k)) (omega (arith, place))) in
      omega (
        arith,
        links_to_lem k (omega arith),
        link_length s (member_at s (suc k)) e,
        held,
        falls_to s k (suc k) g (omega arith) h,
        falls_to s 0 k g (omega arith) (omega arith),
      )

  -- 'All links together hold': as many as the definition of the limit says
  pub links_together : all_links s ≡ linked_writes s
  unfolding all_links linked_writes links_to
  links_together = go (live_count s) refl
    where
      go : (n : ℕ) → live_count s ≡ n → links_to s n ≡ applied_by s (head_of s) - applied_by s (tail_of s)
      go zero e =
          let last : tail_of s ≡ head_of s = tail_is s ∙ ap (λ (n : ℕ). member_at s (n - 1)) e ∙ sym (head_is s) in
          omega (arith, ap (applied_by s) last)
      go (suc k) e =
          let last : tail_of s ≡ member_at s k = tail_is s ∙ ap (λ (n : ℕ). member_at s (n - 1)) e ∙ ap (member_at s) (omega arith) in
          rw (head_is s, last) (links_to_lem k (omega arith))
