-- The chain shows one log: the head has applied all of it, every other replica a front part, and the store has what the tail has not applied.
use mathlib.Core.Path.{◌≡◌, refl, sym, ◌∙◌}
use mathlib.Core.Bool.{true}
use mathlib.Core.List.{List, []}
use Prim.Native.Nat.{ℕ, suc, ◌+◌, ◌-◌, ◌≤◌, ◌<◌}
use native.Mathlib.Numerals.{add-one}
use native.Mathlib.Decide.{ℕ_discrete}
use native.Mathlib.Omega.{arith}
use lib.ListN.{length, get_or, take}
use lib.Seq.{take-nil, take-length}
use Rattle.history.specs.History.{◌∈◌}
use Rattle.history.proofs.Lists.{in_get_d}
use Rattle.store.specs.declared.Write.{Write}
use Rattle.store.specs.{live_count, members, highest_of, applied_by, entry_at, value_at, stamp_at}
use Rattle.chain.specs.{chain_place, is_live, member_at, head_of, tail_of, permitting, empty_store}
use Rattle.replicas.specs.Replicas.{linked_writes, applying}
use Rattle.chain.proofs.Members.{head_is, tail_is, member_in, in_live, live_in, place_at, place_below, count_same, head_same, tail_same}
use Rattle.replicas.proofs.Cells.{SizedStore, Named, row_apart, sized_applying, members_applying, entry_applying, applied_applying_same, applied_applying_other}
use Rattle.replicas.proofs.Cells.{sized_permitting, members_permitting, highest_permitting, applied_permitting, entry_permitting, value_permitting, stamp_permitting}
use Rattle.replicas.proofs.Shape.{sized_empty, count_empty, highest_empty, applied_empty, value_empty, stamp_empty}
use Rattle.replicas.proofs.Moves as moves
use Rattle.replicas.proofs.Descending.{Descending, place_is, falls_to, descending_empty, descending_permitting, descending_applying}
use Rattle.write_log.proofs.Log.{values, stamps, top, Rising, same_value}
use Rattle.write_log.proofs.Holds.{Small, no_write, Holds, holds_as, holds_next, holds_other}

-- each live replica has applied a front part of the log, the head the first m writes and the tail the first n
pub record ShowsTo (s : List ℕ) (log : List Write) (m n : ℕ) : Type 0 where
  pub sized : SizedStore s
  pub falls : Descending s
  pub live : 0 < live_count s
  pub head_has : applied_by s (head_of s) ≡ m
  pub tail_has : applied_by s (tail_of s) ≡ n
  pub holds : (r : ℕ) → r ∈ members s → Holds s log r (applied_by s r)
  -- the store has every write that the tail has not applied
  pub entries_are : (i : ℕ) → n ≤ i → i < length log → entry_at s i ≡ get_or log i no_write
  pub room : length log ≤ n + 64

-- the store s shows the log, of which the tail has applied the first n writes
abbrev pub Shows : List ℕ → List Write → ℕ → Type 0
Shows s log n = ShowsTo s log (length log) n

-- ---- the head and the tail

-- where a replica is live, the head and the tail are
pub head_in : (s : List ℕ) → 0 < live_count s → is_live s (head_of s) ≡ true
head_in s l = rw (head_is s) (in_live s (member_at s 0) (member_in s 0 l))

pub tail_in : (s : List ℕ) → 0 < live_count s → is_live s (tail_of s) ≡ true
tail_in s l = rw (tail_is s) (in_live s (member_at s (live_count s - 1)) (member_in s (live_count s - 1) (omega arith)))

-- a live replica has applied at least what the tail has, and at most what the head has
pub applied_falls : (s : List ℕ) (r : ℕ) → Descending s → is_live s r ≡ true
    → (applied_by s (tail_of s) ≤ applied_by s r) × (applied_by s r ≤ applied_by s (head_of s))
applied_falls s r g e =
    let b = place_below s r e in
    let low = falls_to s (chain_place s r) (live_count s - 1) g (omega arith) (omega arith) in
    let high = falls_to s 0 (chain_place s r) g (omega arith) b in
    (rw (← tail_is s, place_at s r e) at low, rw (← head_is s, place_at s r e) at high)

module _ {s : List ℕ} {log : List Write} {m n : ℕ} (k : ShowsTo s log m n) where
  -- the head and the tail are live
  pub head_live : is_live s (head_of s) ≡ true
  head_live = head_in s k.live

  pub tail_live : is_live s (tail_of s) ≡ true
  tail_live = tail_in s k.live

  -- the head has the first place
  pub head_place : chain_place s (head_of s) ≡ 0
  head_place = rw (head_is s) (place_is s 0 k.falls k.live)

  -- a live replica has a number from 1 to 8
  pub live_named : (r : ℕ) → is_live s r ≡ true → Named r
  live_named r e = rw (place_at s r e) at (k.falls.named (chain_place s r) (place_below s r e))

  -- it has applied at least the first n writes, and at most the first m
  pub applied_between : (r : ℕ) → is_live s r ≡ true → (n ≤ applied_by s r) × (applied_by s r ≤ m)
  applied_between r e = rw (k.head_has, k.tail_has) at (applied_falls s r k.falls e)

  -- so the tail has applied no more than the head
  pub tail_below : n ≤ m
  tail_below = omega (arith, applied_between (tail_of s) tail_live)

  -- the links hold what lies between
  pub linked_is : linked_writes s ≡ m - n
  linked_is = moves.linked_is s ∙ rw (k.head_has, k.tail_has)

-- the head's highest stamp is the last of the log
pub head_highest : {s : List ℕ} {log : List Write} {n : ℕ} → Shows s log n → highest_of s (head_of s) ≡ top 0 log
head_highest {s} k = (k.holds (head_of s) (live_in s (head_of s) (head_live k))).highest_is ∙ rw (k.head_has, take-length)

-- ---- reads

module _ {s : List ℕ} {log : List Write} {m n : ℕ} (k : ShowsTo s log m n) where
  -- a live replica gives what the writes that it has applied leave
  pub read_value : (r x : ℕ) → is_live s r ≡ true → x < 1024 → value_at s r x ≡ values (take (applied_by s r) log) x
  read_value r x e b = (k.holds r (live_in s r e)).values_are x b

  pub read_stamp : (r x : ℕ) → is_live s r ≡ true → x < 1024 → stamp_at s r x ≡ stamps (take (applied_by s r) log) x
  read_stamp r x e b = (k.holds r (live_in s r e)).stamps_are x b

  -- the tail gives what the visible writes leave
  pub read_tail : (x : ℕ) → x < 1024 → value_at s (tail_of s) x ≡ values (take n log) x
  read_tail x b = read_value (tail_of s) x (tail_live k) b ∙ rw k.tail_has

  pub stamp_tail : (x : ℕ) → x < 1024 → stamp_at s (tail_of s) x ≡ stamps (take n log) x
  stamp_tail x b = read_stamp (tail_of s) x (tail_live k) b ∙ rw k.tail_has

  -- and so does each live replica whose stamp of the object is not above that of a visible write
  pub read_direct : (r x carried : ℕ) → Rising 0 log → is_live s r ≡ true → x < 1024 → carried ≤ top 0 (take n log) → stamp_at s r x ≤ carried
      → value_at s r x ≡ values (take n log) x
  read_direct r x carried up e b low h =
      read_value r x e b ∙ same_value n (applied_by s r) carried x log up (applied_between k r e).0 low (rw (← read_stamp r x e b) h)

-- ---- at the start

pub shows_start : (n : ℕ) → 1 ≤ n → n ≤ 8 → Shows (empty_store n) [] 0
shows_start n l h = record {
  sized = sized_empty n;
  falls = descending_empty n h;
  live = omega (arith, count_empty n h);
  head_has = applied_empty n (head_of (empty_store n));
  tail_has = applied_empty n (tail_of (empty_store n));
  holds = λ r m. record {
    values_are = λ x b. rw take-nil (value_empty n r x);
    stamps_are = λ x b. rw take-nil (stamp_empty n r x);
    highest_is = rw take-nil (highest_empty n r);
  };
  entries_are = λ i l h. absurd (omega arith);
  room = omega arith;
}

-- ---- the members stay

-- the replica's log has not reached the last position that a cell can hold
abbrev pub CanGrow : List ℕ → ℕ → Type 0
CanGrow s r = applied_by s r < 4294967295

module _ {s : List ℕ} {log : List Write} {m n : ℕ} (k : ShowsTo s log m n) where
  -- a store with the same members
  pub shows_same : (t : List ℕ) (longer : List Write) (m' n' : ℕ) → members t ≡ members s → SizedStore t → Descending t
      → applied_by t (head_of s) ≡ m' → applied_by t (tail_of s) ≡ n'
      → ((r : ℕ) → is_live s r ≡ true → Holds t longer r (applied_by t r))
      → ((i : ℕ) → n' ≤ i → i < length longer → entry_at t i ≡ get_or longer i no_write) → length longer ≤ n' + 64 → ShowsTo t longer m' n'
  shows_same t longer m' n' e z g a b h f l = record {
    sized = z;
    falls = g;
    live = rw (count_same t s e) k.live;
    head_has = rw (head_same t s e) a;
    tail_has = rw (tail_same t s e) b;
    holds = λ r q. h r (in_live s r (rw e at q));
    entries_are = f;
    room = l;
  }

  -- a replica is told to permit a switch
  pub shows_permitting : (r number : ℕ) → ShowsTo (permitting s r number) log m n
  shows_permitting r number =
      shows_same (permitting s r number) log m n (members_permitting s r number) (sized_permitting s r number k.sized)
      (descending_permitting s r number k.falls)
      (applied_permitting s r number (head_of s) ∙ k.head_has) (applied_permitting s r number (tail_of s) ∙ k.tail_has)
      (λ q e. rw applied_permitting
      (holds_as (permitting s r number) log (λ x. value_permitting s r number q x) (λ x. stamp_permitting s r number q x)
      (highest_permitting s r number q) refl (k.holds q (live_in s q e))))
      (λ i a b. entry_permitting s r number i ∙ k.entries_are i a b)
      k.room

  -- what replica q has applied when r has applied one write more
  pub applied_own : (r : ℕ) (w : Write) (q : ℕ) → CanGrow s r → r ≡ q → applied_by (applying s r w) q ≡ suc (applied_by s q)
  applied_own r w q short e = rw (← e) (applied_applying_same s r w k.sized short ∙ add-one (applied_by s r))

  pub applied_other : (r : ℕ) (w : Write) (q : ℕ) → is_live s r ≡ true → is_live s q ≡ true → (r ≡ q → ⊥) → applied_by (applying s r w) q ≡ applied_by s q
  applied_other r w q e f d = applied_applying_other s r w q (row_apart q r (live_named k q f) (live_named k r e) (λ p. d (sym p)))

  -- replica r applies the next write of the log, which the one before it has applied
  module _ (up : Rising 0 log) (small : Small log) (r : ℕ) (w : Write) (e : is_live s r ≡ true) (short : CanGrow s r)
      (l : applied_by s r < length log) (next : w ≡ get_or log (applied_by s r) no_write)
      (lags : 0 < chain_place s r → applied_by s r < applied_by s (member_at s (chain_place s r - 1))) where
    -- each replica has applied a front part, r one that is longer by the write
    holds_applying : (q : ℕ) → is_live s q ≡ true → Holds (applying s r w) log q (applied_by (applying s r w) q)
    holds_applying q f =
        elim (ℕ_discrete r q) [
          | yes p ↦ rw (applied_own r w q short p, ← p)
              (holds_next w k.sized (live_named k r e) up small l next (k.holds r (live_in s r e)))
          | no d ↦ rw (applied_other r w q e f d)
              (holds_other r w (live_named k q f) (live_named k r e) (λ p. d (sym p))
              (small w (rw next (in_get_d log (applied_by s r) no_write l))) (k.holds q (live_in s q f)))
        ]

    -- so the log is shown, where the head has now applied m' writes and the tail n'
    pub shows_applying : (m' n' : ℕ) → applied_by (applying s r w) (head_of s) ≡ m' → applied_by (applying s r w) (tail_of s) ≡ n'
        → n ≤ n' → ShowsTo (applying s r w) log m' n'
    shows_applying m' n' a b g =
        shows_same (applying s r w) log m' n' (members_applying s r w) (sized_applying s r w k.sized)
        (descending_applying s r w k.falls k.sized e short lags) a b
        holds_applying (λ i p q. entry_applying s r w i ∙ k.entries_are i (omega arith) q) (omega (arith, k.room))
