-- What the replicas do keeps the log shown: a link moves on, a stamped write comes to the head, a replica is removed.
-- Each time, the writes that become visible are the log's from the old count of the tail to the new one.
use mathlib.Core.Path.{◌≡◌, refl, sym, ap, ◌∙◌}
use mathlib.Core.Bool.{true}
use mathlib.Core.List.{List, [], ◌∷◌, ◌++◌}
use Prim.Native.Nat.{ℕ, zero, suc, ◌+◌, ◌-◌, ◌≤◌, ◌<◌}
use native.Mathlib.Numerals.{add-one}
use native.Mathlib.Decide.{dec_lt}
use native.Mathlib.Omega.{arith}
use lib.ListN.{length, get_or, take, length-append, get_or-append}
use lib.Seq.{length-take-le, take-take, take-append-le, get_or-take, get_or-append_seam, slice, slice_empty, slice-cons}
use Rattle.store.specs.declared.Write.{Write}
use Rattle.store.specs.{live_count, highest_of, applied_by, entry_at, logged}
use Rattle.chain.specs.{chain_place, is_live, member_at, head_of, tail_of, removed}
use Rattle.replicas.specs.Replicas.{accepts, applying, taking, pending, oldest}
use Rattle.replicas.specs.Links.{entries}
use Rattle.chain.proofs.Members.{member_in, in_live, live_in, place_at, place_below, live_same, head_same, tail_same}
use Rattle.replicas.proofs.Cells.{SizedStore, entry_applying, sized_logged, members_logged, highest_logged, applied_logged, value_logged, stamp_logged, entry_logged_same, entry_logged_other}
use Rattle.replicas.proofs.Cells.{positions_apart, sized_removed, highest_removed, applied_removed, entry_removed, value_removed, stamp_removed}
use Rattle.replicas.proofs.Shape.{count_removed, member_removed_before, member_removed_behind}
use Rattle.replicas.proofs.Moves.{accepts_above, accepts_room, accepts_position, pending_after, pending_is, taking_is}
use Rattle.replicas.proofs.Moves as moves
use Rattle.replicas.proofs.Descending.{Descending, pending_short, descending_logged, descending_removed}
use Rattle.write_log.proofs.Log.{top, Rising, rising_append}
use Rattle.write_log.proofs.Holds.{Small, no_write, holds_as}
use Rattle.write_log.proofs.Shows.{ShowsTo, Shows, head_in, tail_in, head_live, tail_live, head_place, applied_falls, applied_between, linked_is, head_highest}
use Rattle.write_log.proofs.Shows.{CanGrow, shows_same, applied_own, applied_other, shows_applying}

-- ---- the writes that become visible

-- a run of the store's entries, where they are the log's
pub entries_shown : (s : List ℕ) (log : List Write) (n n' : ℕ) → n ≤ n' → n' ≤ length log
    → ((i : ℕ) → n ≤ i → i < n' → entry_at s i ≡ get_or log i no_write) → entries s n (n' - n) ≡ slice n n' log
unfolding entries
entries_shown s log n n' g l h = run (n' - n) n (omega arith) h
  where
    run : (j p : ℕ) → p + j ≡ n' → ((i : ℕ) → p ≤ i → i < n' → entry_at s i ≡ get_or log i no_write) → entries s p j ≡ slice p n' log
    run zero p e f =
        let last : p ≡ n' = omega arith in
        rw last (sym (slice_empty n' log))
    run (suc j) p e f =
        rw (slice-cons p n' log no_write (omega arith) l, ← add-one p)
        (λ t. f p (omega arith) (omega arith) t ∷ run j (p + 1) (omega arith) (λ i a b. f i (omega arith) b) t)

-- a run of one write
pub slice_one : (n : ℕ) (log : List Write) → n < length log → slice n (suc n) log ≡ get_or log n no_write ∷ []
slice_one n log l = slice-cons n (suc n) log no_write (omega arith) l ∙ ap (λ rest. get_or log n no_write ∷ rest) (slice_empty (suc n) log)

-- the same after a replica has applied a write
visible_applied : {s : List ℕ} {log : List Write} {m n : ℕ} → ShowsTo s log m n → (r : ℕ) (w : Write) (n' : ℕ)
    → n ≤ n' → n' ≤ length log → entries (applying s r w) n (n' - n) ≡ slice n n' log
visible_applied {s} {log} {n = n} k r w n' g l =
    entries_shown (applying s r w) log n n' g l (λ i a b. entry_applying s r w i ∙ k.entries_are i a (omega arith))

-- ---- a replica applies the oldest write of its incoming link

module _ {s : List ℕ} {log : List Write} {n : ℕ} (k : Shows s log n) (r : ℕ) (live : is_live s r ≡ true) (p : 0 < pending s r) where
  short : CanGrow s r
  short = pending_short s r k.falls live p

  -- it has not applied the whole log
  pub oldest_below : applied_by s r < length log
  oldest_below =
      let before = member_at s (chain_place s r - 1) in
      let there : is_live s before ≡ true =
      in_live s before (member_in s (chain_place s r - 1) (omega (arith, place_below s r live))) in
      omega (arith, pending_is s r p, applied_between k before there)

  -- the oldest write of its link is the next one of the log
  pub oldest_is : oldest s r ≡ get_or log (applied_by s r) no_write
  oldest_is = moves.oldest_is s r ∙ k.entries_are (applied_by s r) (applied_between k r live).0 oldest_below

  -- it applies that write, and the tail has then applied n' writes
  shows_advancing : Rising 0 log → Small log → (n' : ℕ) → applied_by (applying s r (oldest s r)) (tail_of s) ≡ n' → n ≤ n'
      → Shows (applying s r (oldest s r)) log n'
  shows_advancing up small n' b g =
      let w = oldest s r in
      let head-kept : applied_by (applying s r w) (head_of s) ≡ length log =
      applied_other k r w (head_of s) live (head_live k)
      (λ q. omega (arith, pending_after s r p, ap (chain_place s) q, head_place k)) ∙ k.head_has in
      shows_applying k up small r w live short oldest_below oldest_is (λ b. omega (arith, p, pending_is s r p)) (length log) n' head-kept b g

  -- one that is not the tail passes the write on
  pub shows_advanced : Rising 0 log → Small log → (r ≡ tail_of s → ⊥) → Shows (applying s r (oldest s r)) log n
  shows_advanced up small d =
      shows_advancing up small n (applied_other k r (oldest s r) (tail_of s) live (tail_live k) d ∙ k.tail_has) (omega arith)

  -- at the tail the write becomes visible
  pub shows_advanced_tail : Rising 0 log → Small log → r ≡ tail_of s → Shows (applying s r (oldest s r)) log (suc n)
  shows_advanced_tail up small e =
      shows_advancing up small (suc n) (applied_own k r (oldest s r) (tail_of s) short e ∙ ap suc k.tail_has) (omega arith)

  -- there it is the first one that was not visible
  pub oldest_tail_below : r ≡ tail_of s → n < length log
  oldest_tail_below e = omega (arith, oldest_below, ap (applied_by s) e, k.tail_has)

  pub oldest_tail : r ≡ tail_of s → oldest s r ≡ get_or log n no_write
  oldest_tail e = oldest_is ∙ ap (λ i. get_or log i no_write) (ap (applied_by s) e ∙ k.tail_has)

  -- the writes that become visible, from the store after the move, and the one at the tail
  pub visible_advanced : (n' : ℕ) → n ≤ n' → n' ≤ length log → entries (applying s r (oldest s r)) n (n' - n) ≡ slice n n' log
  visible_advanced n' g l = visible_applied k r (oldest s r) n' g l

  pub visible_advanced_tail : r ≡ tail_of s → slice n (suc n) log ≡ oldest s r ∷ []
  visible_advanced_tail e = rw (oldest_tail e) (slice_one n log (oldest_tail_below e))

-- ---- a stamped write comes to the head

module _ {s : List ℕ} {log : List Write} {n : ℕ} (k : Shows s log n) where
  -- the log with a write that no replica has applied yet
  shows_logged : (w : Write) → length log < n + 64 → ShowsTo (logged s (length log) w) (log ++ w ∷ []) (length log) n
  shows_logged w h =
      let p = length log in
      shows_same k (logged s p w) (log ++ w ∷ []) p n (members_logged s p w) (sized_logged s p w k.sized) (descending_logged s p w k.falls)
      (applied_logged s p w (head_of s) ∙ k.head_has) (applied_logged s p w (tail_of s) ∙ k.tail_has)
      (λ r e. rw applied_logged
      (holds_as (logged s p w) (log ++ w ∷ []) (λ x. value_logged s p w r x) (λ x. stamp_logged s p w r x) (highest_logged s p w r)
      (take-append-le (applied_by s r) log (w ∷ []) (applied_between k r e).1) (k.holds r (live_in s r e))))
      (λ i a b.
      elim (dec_lt i p) [
        | yes l ↦ entry_logged_other s p w i (λ e. positions_apart i p l (omega arith) (sym e)) ∙
            k.entries_are i a l ∙ sym (get_or-append log (w ∷ []) no_write i l)
        | no l ↦
            let last : i ≡ p = omega (arith, length-append log (w ∷ [])) in
            rw last (entry_logged_same s p w k.sized ∙ sym (get_or-append_seam log w [] no_write))
      ])
      (rw length-append (omega arith))

  module _ (r : ℕ) (w : Write) (a : accepts s r w.stamp ≡ true) (first : r ≡ head_of s) where
    -- the head, which has applied the whole log
    taken_live : is_live s r ≡ true
    taken_live = rw first (head_live k)

    taken_at : applied_by s r ≡ length log
    taken_at = ap (applied_by s) first ∙ k.head_has

    -- the store in which the write stands in the log, and the head has yet to apply it
    abbrev before : List ℕ
    before = logged s (length log) w

    taken_is : taking s r w ≡ applying before r w
    taken_is = taking_is s r w ∙ ap (λ (p : ℕ). applying (logged s p w) r w) taken_at

    taken_logged : ShowsTo before (log ++ w ∷ []) (length log) n
    taken_logged = shows_logged w (omega (arith, accepts_room s r w.stamp a, linked_is k))

    -- its stamp is above every one of the log
    pub shows_taken_above : top 0 log < w.stamp
    shows_taken_above =
        let high : highest_of s r ≡ top 0 log = ap (highest_of s) first ∙ head_highest k in
        omega (arith, accepts_above s r w.stamp a)

    -- so the stamps still rise
    pub rising_taken : Rising 0 log → Rising 0 (log ++ w ∷ [])
    rising_taken up = rising_append 0 log (w ∷ []) up (shows_taken_above, tt)

    -- the replica in that store
    before_live : is_live before r ≡ true
    before_live = live_same before s (members_logged s (length log) w) r ∙ taken_live

    before_at : applied_by before r ≡ length log
    before_at = applied_logged s (length log) w r ∙ taken_at

    before_short : CanGrow before r
    before_short = rw (before_at, ← taken_at) (accepts_position s r w.stamp a)

    before_first : r ≡ head_of before
    before_first = first ∙ sym (head_same before s (members_logged s (length log) w))

    before_tail : tail_of before ≡ tail_of s
    before_tail = tail_same before s (members_logged s (length log) w)

    -- the head applies it, and the tail has then applied n' writes
    shows_taking : Rising 0 log → Small (log ++ w ∷ []) → (n' : ℕ) → applied_by (applying before r w) (tail_of before) ≡ n' → n ≤ n'
        → Shows (taking s r w) (log ++ w ∷ []) n'
    shows_taking up small n' b g =
        let long : length (log ++ w ∷ []) ≡ suc (length log) = length-append log (w ∷ []) ∙ add-one (length log) in
        rw taken_is
        (shows_applying taken_logged (rising_taken up) small r w before_live before_short
        (omega (arith, long, before_at)) (sym (get_or-append_seam log w [] no_write) ∙ rw before_at)
        (λ q. absurd (omega (arith, ap (chain_place before) before_first, head_place taken_logged))) (length (log ++ w ∷ [])) n'
        (applied_own taken_logged r w (head_of before) before_short before_first ∙ ap suc taken_logged.head_has ∙ sym long) b g)

    -- the head of two or more
    pub shows_taken : Rising 0 log → Small (log ++ w ∷ []) → (r ≡ tail_of s → ⊥) → Shows (taking s r w) (log ++ w ∷ []) n
    shows_taken up small d =
        shows_taking up small n
        (applied_other taken_logged r w (tail_of before) before_live (tail_live taken_logged) (λ e. d (e ∙ before_tail)) ∙ taken_logged.tail_has)
        (omega arith)

    -- a lone replica: the write becomes visible
    pub shows_taken_lone : Rising 0 log → Small (log ++ w ∷ []) → r ≡ tail_of s → Shows (taking s r w) (log ++ w ∷ []) (suc n)
    shows_taken_lone up small e =
        shows_taking up small (suc n)
        (applied_own taken_logged r w (tail_of before) before_short (e ∙ sym before_tail) ∙ ap suc taken_logged.tail_has) (omega arith)

    -- it had applied the whole log
    pub taken_lone_all : r ≡ tail_of s → n ≡ length log
    taken_lone_all e = omega (arith, taken_at, ap (applied_by s) e, k.tail_has)

    -- the writes that become visible, from the store after the move, and the one at a lone replica
    pub visible_taken : (n' : ℕ) → n ≤ n' → n' ≤ length (log ++ w ∷ []) → entries (taking s r w) n (n' - n) ≡ slice n n' (log ++ w ∷ [])
    visible_taken n' g l = rw taken_is (visible_applied taken_logged r w n' g l)

    pub visible_taken_lone : r ≡ tail_of s → slice n (suc n) (log ++ w ∷ []) ≡ w ∷ []
    visible_taken_lone e =
        rw (taken_lone_all e)
        (slice_one (length log) (log ++ w ∷ []) (rw length-append (omega arith)) ∙ ap (λ u. u ∷ []) (get_or-append_seam log w [] no_write))

-- ---- a replica is removed

-- the members that are left were members
pub removed_live : (s : List ℕ) (r q : ℕ) → SizedStore s → is_live s r ≡ true → is_live (removed s (chain_place s r)) q ≡ true → is_live s q ≡ true
removed_live s r q z e f =
    let place = chain_place (removed s (chain_place s r)) q in
    elim (dec_lt place (chain_place s r)) [
      | yes l ↦ stood place (omega arith) (sym (member_removed_before s r z e place l))
      | no l ↦ stood (place + 1) (omega arith) (sym (member_removed_behind s r z e place (omega arith)))
    ]
  where
    stood : (p : ℕ) → p ≤ chain_place (removed s (chain_place s r)) q + 1 → member_at s p ≡ member_at (removed s (chain_place s r)) (chain_place (removed s (chain_place s r)) q) → is_live s q ≡ true
    stood p b h =
        rw (h ∙ place_at (removed s (chain_place s r)) q f) at
        (in_live s (member_at s p) (member_in s p (omega (arith, place_below (removed s (chain_place s r)) q f, count_removed s r z e))))

module _ {s : List ℕ} {log : List Write} {n : ℕ} (k : Shows s log n) where
  -- the log is cut to the first m writes, what the head has applied, and the tail has applied n' of them
  pub shows_removed : (r : ℕ) → is_live s r ≡ true → 1 < live_count s
      → (m : ℕ) × (n' : ℕ) × (n ≤ n') × (n' ≤ m) × (m ≤ length log) × Shows (removed s (chain_place s r)) (take m log) n'
  shows_removed r e h =
      let t = removed s (chain_place s r) in
      let m = applied_by t (head_of t) in
      let n' = applied_by t (tail_of t) in
      let some : 0 < live_count t = omega (arith, count_removed s r k.sized e) in
      let falls : Descending t = descending_removed s r k.sized k.falls in
      let was : (q : ℕ) → is_live t q ≡ true → is_live s q ≡ true = λ q f. removed_live s r q k.sized e f in
      let within : (q : ℕ) → is_live t q ≡ true → (n ≤ applied_by t q) × (applied_by t q ≤ length log) =
      λ q f. rw (applied_removed s r q) (applied_between k q (was q f)) in
      let low : n ≤ n' = (within (tail_of t) (tail_in t some)).0 in
      let high : m ≤ length log = (within (head_of t) (head_in t some)).1 in
      let long : length (take m log) ≡ m = length-take-le m log high in (
        m,
        n',
        low,
        (applied_falls t (tail_of t) falls (tail_in t some)).1,
        high,
        record {
          sized = sized_removed s r k.sized;
          falls = falls;
          live = some;
          head_has = sym long;
          tail_has = refl;
          holds = λ q f.
              let live = in_live t q f in
              holds_as t (take m log) (λ x. value_removed s r q x) (λ x. stamp_removed s r q x) (highest_removed s r q)
              (take-take (applied_by t q) m log (applied_falls t q falls live).1)
              (rw applied_removed (k.holds q (live_in s q (was q live))));
          entries_are = λ i a b.
              entry_removed s r i ∙ k.entries_are i (omega arith) (omega arith) ∙ sym (get_or-take m log i no_write (omega arith));
          room = omega (arith, k.room);
        },
      )

  -- the writes that become visible, where the log is cut to the first m and the tail has applied n' of them
  pub visible_removed : (r m n' : ℕ) → n ≤ n' → n' ≤ m → m ≤ length log → entries (removed s (chain_place s r)) n (n' - n) ≡ slice n n' (take m log)
  visible_removed r m n' g h l =
      rw (take-take n' m log h)
      (entries_shown (removed s (chain_place s r)) log n n' g (omega arith) (λ i a b. entry_removed s r i ∙ k.entries_are i a (omega arith)))
