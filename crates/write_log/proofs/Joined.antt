-- Req 04: what holds of the places and of a newcomer's copies in every run, and that everything the replicas do keeps it.
use mathlib.Core.Path.{◌≡◌, sym, ap, ◌∙◌, subst}
use mathlib.Core.Bool.{Bool, true, false}
use mathlib.Core.List.{List}
use Prim.Native.Nat.{ℕ, ◌+◌, ◌-◌, ◌*◌, ◌%◌, ◌≤◌, ◌<◌}
use native.Mathlib.Decide.{ℕ_discrete}
use native.Mathlib.Omega.{arith}
use lib.Dec.{eqb, ltb}
use lib.ListN.{set}
use lib.Seq.{get_or-set_same}
use borrow.Author.Tests.{ltb-false, eqb-true, eqb-false}
use Rattle.lists.proofs.Tests.{by_test, both}
use Rattle.store.specs.declared.Write.{Write}
use Rattle.store.specs.{join_cell, live_count, value_at, stamp_at, logged, tabled}
use Rattle.chain.specs.{is_live, tail_of, permitting, empty_store}
use Rattle.joins.specs.{is_join_set, is_joining, copies_made, newcomer, last_number, beginning, promoted, one_copy, copying, is_copied, handing_on}
use Rattle.replicas.specs.Replicas.{applying}
use Rattle.chain.proofs.Members.{tail_same}
use Rattle.replicas.proofs.Cells.{SizedStore, Named, within, value_tabled_same, stamp_tabled_same, value_tabled_other, stamp_tabled_other}
use Rattle.replicas.proofs.Cells.{sized_applying, value_applying_same, stamp_applying_same, value_applying_other, stamp_applying_other, value_logged, stamp_logged, value_permitting, stamp_permitting}
use Rattle.write_log.proofs.Shows.{Shows, tail_live, tail_in}
use Rattle.write_log.proofs.Kept.{SameReplicas, value_kept, stamp_kept, members_kept, shows_kept, replicas_join}
use Rattle.write_log.proofs.Places.{last_number_same, Places, AtHead, SamePlaces, set_joining, live_count_same, newcomer_same, members_as, joining_same, copies_same, places_order, places_same, places_applying, places_logged, places_permitting, places_trans, places_start, none_joins, order_join, at_head_order, at_head_same}
use Rattle.write_log.proofs.Joins.{places_beginning, copies_beginning}
use Rattle.write_log.proofs.Copies.{SameAt, Alike, CopiedSoFar, places_copied, copied_further, copies_few}
use Rattle.write_log.proofs.Beside.{newcomer_named, newcomer_apart, live_named_in, places_handing, shows_copied}
use Rattle.write_log.proofs.Promotion.{last_promoted, joining_promoted, places_promoted, at_head_promoted}
use Rattle.write_log.proofs.Newcomer.{shows_promoted}

pub record JoinInvariant (s : List ℕ) : Type 0 where
  pub places : Places s
  -- what has been copied is at the newcomer as it is at the tail
  pub copied : CopiedSoFar s

-- no join is under way in a store that says so
pub nothing_copied : (s : List ℕ) → is_join_set s ≡ false → CopiedSoFar s
nothing_copied s e j = absurd (let d : ◌≡◌ {A = Bool} false true = sym e ∙ j in let z : ◌≡◌ {A = ℕ} 0 1 = cc in omega (arith, z))

pub joined_start : (n : ℕ) → n ≤ 8 → JoinInvariant (empty_store n)
joined_start n h = record { places = places_start n h; copied = nothing_copied (empty_store n) (none_joins n) }

-- ---- the tables of the newcomer and of the tail stay

-- both stores agree on an object at the newcomer and at the tail
abbrev BothSame : List ℕ → List ℕ → ℕ → Type 0
BothSame s t o = SameAt s t (newcomer s) o × SameAt s t (tail_of s) o

joined_kept : {s t : List ℕ} → SamePlaces s t → JoinInvariant s → (is_join_set s ≡ true → (o : ℕ) → o < 1024 → BothSame s t o) → JoinInvariant t
joined_kept {s} {t} e g same = record {
  places = places_same e g.places;
  copied = λ j o h.
      let was = sym (joining_same e) ∙ j in
      let low : o < 64 * copies_made s = omega (arith, h, copies_same e) in
      let a = g.copied was o low in
      let b = same was o (omega (arith, low, copies_few s)) in
      rw (newcomer_same e.same (g.places.joining was).0, tail_same t s (members_as e.same))
      (b.0.0 ∙ a.0 ∙ sym b.1.0, b.0.1 ∙ a.1 ∙ sym b.1.1);
}

pub joined_permitting : (s : List ℕ) (r number : ℕ) → JoinInvariant s → JoinInvariant (permitting s r number)
joined_permitting s r number g =
    joined_kept (places_permitting s r number) g (λ j o h.
    ((value_permitting s r number (newcomer s) o, stamp_permitting s r number (newcomer s) o), (value_permitting s r number (tail_of s) o, stamp_permitting s r number (tail_of s) o)))

pub joined_logged : (s : List ℕ) (p : ℕ) (w : Write) → JoinInvariant s → JoinInvariant (logged s p w)
joined_logged s p w g =
    joined_kept (places_logged s p w) g (λ j o h.
    ((value_logged s p w (newcomer s) o, stamp_logged s p w (newcomer s) o), (value_logged s p w (tail_of s) o, stamp_logged s p w (tail_of s) o)))

-- ---- a replica applies a write

module _ (s : List ℕ) (r : ℕ) (w : Write) (g : JoinInvariant s) (live : is_live s r ≡ true) (some : 0 < live_count s) (small : w.object < 1024) where
  named : Named r
  named = live_named_in g.places r live

  tail_named : Named (tail_of s)
  tail_named = live_named_in g.places (tail_of s) (tail_in s some)

  -- at another replica, or of another object
  applied_same : (q o : ℕ) → Named q → o < 1024 → (q ≡ r → o ≡ w.object → ⊥) → SameAt s (applying s r w) q o
  applied_same q o m h d = (value_applying_other s r w q o m named h small d, stamp_applying_other s r w q o m named h small d)

  at_newcomer : is_join_set s ≡ true → (o : ℕ) → o < 1024 → SameAt s (applying s r w) (newcomer s) o
  at_newcomer j o h =
      let free = (g.places.joining j).0 in
      applied_same (newcomer s) o (newcomer_named g.places free) h (λ e p. newcomer_apart g.places free r live (sym e))

  -- one that is not the tail
  pub joined_applying : (r ≡ tail_of s → ⊥) → JoinInvariant (applying s r w)
  joined_applying other =
      joined_kept (places_applying s r w) g
      (λ j o h. (at_newcomer j o h, applied_same (tail_of s) o tail_named h (λ e p. other (sym e))))

  -- the tail, and what it applies is handed on
  module _ (z : SizedStore s) (last : r ≡ tail_of s) where
    abbrev u : List ℕ
    u = applying s r w

    -- the object of the write
    own : (value_at u (tail_of s) w.object ≡ w.value) × (stamp_at u (tail_of s) w.object ≡ w.stamp)
    own = subst (λ (q : ℕ). (value_at u q w.object ≡ w.value) × (stamp_at u q w.object ≡ w.stamp)) last (value_applying_same s r w z, stamp_applying_same s r w z)

    -- an object that the write is not to
    alike_before : is_join_set s ≡ true → (o : ℕ) → o < 64 * copies_made s → (o ≡ w.object → ⊥) → Alike u (newcomer s) (tail_of s) o
    alike_before j o low d =
        let h : o < 1024 = omega (arith, low, copies_few s) in
        let a = g.copied j o low in
        let b = at_newcomer j o h in
        let c = applied_same (tail_of s) o tail_named h (λ e p. d p) in
        (b.0 ∙ a.0 ∙ sym c.0, b.1 ∙ a.1 ∙ sym c.1)

    -- the write handed on
    alike_handed : is_join_set s ≡ true → (o : ℕ) → o < 64 * copies_made s → Alike (tabled u (newcomer s) w) (newcomer s) (tail_of s) o
    alike_handed j o low =
        let q = newcomer s in
        let t = tail_of s in
        let h : o < 1024 = omega (arith, low, copies_few s) in
        let free = (g.places.joining j).0 in
        let m = newcomer_named g.places free in
        let apart : t ≡ q → ⊥ = newcomer_apart g.places free t (tail_in s some) in
        let tails : (value_at (tabled u q w) t o ≡ value_at u t o) × (stamp_at (tabled u q w) t o ≡ stamp_at u t o) =
        (value_tabled_other u q w t o tail_named m h small (λ e p. apart e), stamp_tabled_other u q w t o tail_named m h small (λ e p. apart e)) in
        elim (ℕ_discrete o w.object) [
          | yes e ↦
              let sized = sized_applying s r w z in (
                ap (value_at (tabled u q w) q) e ∙ value_tabled_same u q w sized ∙ sym own.0 ∙ ap (value_at u t) (sym e) ∙ sym tails.0,
                ap (stamp_at (tabled u q w) q) e ∙ stamp_tabled_same u q w sized ∙ sym own.1 ∙ ap (stamp_at u t) (sym e) ∙ sym tails.1,
              )
          | no d ↦
              let a = alike_before j o low d in (
                value_tabled_other u q w q o m m h small (λ e p. d p) ∙ a.0 ∙ sym tails.0,
                stamp_tabled_other u q w q o m m h small (λ e p. d p) ∙ a.1 ∙ sym tails.1,
              )
        ]

    handed_alike : is_join_set s ≡ true → (o : ℕ) → o < 64 * copies_made s → Alike (handing_on u w) (newcomer s) (tail_of s) o
    unfolding handing_on is_copied
    handed_alike j o low =
        let e = places_applying s r w in
        let joins : is_joining u ≡ true = set_joining u (omega (arith, live_count_same e.same, (g.places.joining j).0)) ∙ joining_same e ∙ j in
        let same : newcomer u ≡ newcomer s = newcomer_same e.same (g.places.joining j).0 in
        rw (joins, same, copies_same e)
        (by_test (λ (t : List ℕ). Alike t (newcomer s) (tail_of s) o) (ltb w.object (64 * copies_made s))
        (λ c. alike_handed j o low)
        (λ c. alike_before j o low (λ p. omega (arith, p, low, ltb-false w.object (64 * copies_made s) c))))

    pub joined_handing : JoinInvariant (handing_on u w)
    joined_handing =
        let e = places_trans (places_applying s r w) (places_handing u w) in
        record {
          places = places_same e g.places;
          copied = λ j o h.
              let was = sym (joining_same e) ∙ j in
              rw (newcomer_same e.same (g.places.joining was).0, tail_same (handing_on u w) s (members_as e.same))
              (handed_alike was o (omega (arith, h, copies_same e)));
        }

-- ---- a join begins

pub joined_beginning : (s : List ℕ) → SizedStore s → live_count s < 8 → last_number s < 255 → JoinInvariant s → JoinInvariant (beginning s)
joined_beginning s z free few g = record {
  places = places_beginning s z free few g.places;
  copied = λ j o h. absurd (omega (arith, h, copies_beginning s z free few));
}

-- ---- a copy

module _ {s : List ℕ} {log : List Write} {n : ℕ} (k : Shows s log n) (g : JoinInvariant s) (joins : is_join_set s ≡ true) where
  abbrev made : ℕ
  made = copies_made s

  abbrev one : List ℕ
  one = one_copy s

  pub free : live_count s < 8
  free = (g.places.joining joins).0

  pub copy_places : SamePlaces s one
  unfolding one_copy
  copy_places = places_copied s (newcomer s) (tail_of s) (64 * made) 64

  pub copy_shows : Shows one log n
  unfolding one_copy
  copy_shows = shows_copied k g.places free (tail_of s) (64 * made) 64 (omega (arith, copies_few s))

  -- the objects copied so far, and 64 more
  copy_alike : (o : ℕ) → o < 64 * made + 64 → Alike one (newcomer s) (tail_of s) o
  copy_alike =
      copied_further s k.sized (newcomer_named g.places free) (live_named_in g.places (tail_of s) (tail_live k))
      (newcomer_apart g.places free (tail_of s) (tail_live k)) (copies_few s) (λ o h. g.copied joins o h)

  pub copy_newcomer : newcomer one ≡ newcomer s
  copy_newcomer = newcomer_same copy_places.same free

  pub copy_tail : tail_of one ≡ tail_of s
  copy_tail = tail_same one s (members_as copy_places.same)

  pub copy_free : live_count one < 8
  copy_free = omega (arith, live_count_same copy_places.same, free)

  copy_joins : is_join_set one ≡ true
  copy_joins = joining_same copy_places ∙ joins

  -- a copy before the sixteenth
  module _ (few : made + 1 < 16) where
    abbrev noted : List ℕ
    noted = set one join_cell (made + 2)

    pub noted_replicas : SameReplicas one noted
    noted_replicas = replicas_join one (made + 2) copy_shows.sized

    noted_copies : copies_made noted ≡ made + 1
    unfolding copies_made
    noted_copies =
        ap (λ (i : ℕ). (i - 1) % 16) (get_or-set_same one join_cell (made + 2) 0 (within one join_cell copy_shows.sized (omega arith))) ∙ omega (arith, few)

    noted_newcomer : newcomer noted ≡ newcomer s
    noted_newcomer = newcomer_same (order_join one (made + 2)) copy_free ∙ copy_newcomer

    noted_tail : tail_of noted ≡ tail_of s
    noted_tail = tail_same noted one (members_kept noted_replicas) ∙ copy_tail

    shows_noted : Shows noted log n
    shows_noted = shows_kept noted_replicas copy_shows

    joined_noted : JoinInvariant noted
    joined_noted = record {
      places = places_order (order_join one (made + 2)) (λ j. copy_joins) (places_same copy_places g.places);
      copied = λ j o h.
          let a = copy_alike o (omega (arith, h, noted_copies)) in
          rw (noted_newcomer, noted_tail) (
            value_kept noted_replicas (newcomer s) o ∙ a.0 ∙ sym (value_kept noted_replicas (tail_of s) o),
            stamp_kept noted_replicas (newcomer s) o ∙ a.1 ∙ sym (stamp_kept noted_replicas (tail_of s) o),
          );
    }

    at_head_noted : (r : ℕ) → AtHead s r → AtHead noted r
    at_head_noted r a =
        at_head_order (order_join one (made + 2)) (λ j. copy_joins) (places_same copy_places g.places) r (at_head_same copy_places g.places r a)

  -- the sixteenth
  module _ (all : made + 1 ≡ 16) where
    -- when the newcomer becomes the tail its tables are the old tail's, object by object
    pub all_alike : (o : ℕ) → o < 1024 → Alike one (newcomer one) (tail_of one) o
    all_alike o h = rw (copy_newcomer, copy_tail) (copy_alike o (omega (arith, h, all)))

    shows_last : Shows (promoted one) log n
    shows_last = shows_promoted copy_shows (places_same copy_places g.places) copy_free all_alike

    joined_last : JoinInvariant (promoted one)
    joined_last = record {
      places = places_promoted one copy_shows.sized copy_free copy_joins (places_same copy_places g.places);
      copied = nothing_copied (promoted one) (joining_promoted one copy_shows.sized copy_free copy_joins (places_same copy_places g.places));
    }

    at_head_last : (r : ℕ) → AtHead s r → AtHead (promoted one) r
    at_head_last r a = at_head_promoted one copy_shows.sized copy_free copy_joins (places_same copy_places g.places) r (at_head_same copy_places g.places r a)

  -- any
  pub few_left : eqb (made + 1) 16 ≡ false → made + 1 < 16
  few_left e = omega (arith, eqb-false (made + 1) 16 e, copies_few s)

  pub shows_copying : Shows (copying s) log n
  unfolding copying
  shows_copying =
      by_test (λ (t : List ℕ). Shows t log n) (eqb (made + 1) 16)
      (λ e. shows_last (eqb-true (made + 1) 16 e)) (λ e. shows_noted (few_left e))

  pub joined_copying : JoinInvariant (copying s)
  unfolding copying
  joined_copying = by_test JoinInvariant (eqb (made + 1) 16) (λ e. joined_last (eqb-true (made + 1) 16 e)) (λ e. joined_noted (few_left e))

  -- no number is given by a copy
  pub last_copying : last_number (copying s) ≡ last_number s
  unfolding copying
  last_copying =
      both (λ (t : List ℕ). last_number t ≡ last_number s) (eqb (made + 1) 16)
      (last_promoted one copy_shows.sized copy_free copy_joins (places_same copy_places g.places) ∙ last_number_same copy_places.same)
      (last_number_same (order_join one (made + 2)) ∙ last_number_same copy_places.same)

  pub at_head_copying : (r : ℕ) → AtHead s r → AtHead (copying s) r
  unfolding copying
  at_head_copying r a =
      by_test (λ (t : List ℕ). AtHead t r) (eqb (made + 1) 16)
      (λ e. at_head_last (eqb-true (made + 1) 16 e) r a) (λ e. at_head_noted (few_left e) r a)
