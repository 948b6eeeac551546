-- Req 04: when the newcomer becomes the tail its tables are the old tail's, object by object, with the old tail's highest stamp and permitted switch.
use mathlib.Core.Path.{◌≡◌, refl, ap, ◌∙◌}
use mathlib.Core.Bool.{true}
use mathlib.Core.List.{List}
use Prim.Native.Nat.{ℕ, ◌+◌, ◌-◌, ◌*◌, ◌<◌}
use native.Mathlib.Omega.{arith}
use Rattle.store.specs.declared.Write.{Write}
use Rattle.store.specs.{live_count, number_at, highest_of, permitted_by, value_at, stamp_at}
use Rattle.chain.specs.{member_at, tail_of, tail_number}
use Rattle.joins.specs.{is_join_set, copies_made, newcomer, newcomer_number, promoted, one_copy, copying}
use Rattle.chain.proofs.Members.{tail_is}
use Rattle.chain.proofs.Numbers.{tail_number_at}
use Rattle.write_log.proofs.Shows.{Shows, tail_live}
use Rattle.write_log.proofs.Places.{live_count_same, newcomer_same, newcomer_number_same, joining_same, places_same}
use Rattle.write_log.proofs.Copies.{SameAt, copied_other, highest_copied, permitted_copied, copies_few}
use Rattle.write_log.proofs.Beside.{live_named_in, newcomer_named, newcomer_apart}
use Rattle.write_log.proofs.Promotion.{number_promoted, count_promoted, member_promoted_last, value_promoted, stamp_promoted, highest_promoted_own, permitted_promoted_own}
use Rattle.write_log.proofs.Joined.{JoinInvariant, free, copy_places, copy_shows, copy_free, copy_tail, all_alike}

module _ {s : List ℕ} {log : List Write} {n : ℕ} (k : Shows s log n) (g : JoinInvariant s) (joins : is_join_set s ≡ true) (all : copies_made s + 1 ≡ 16) where
  abbrev one : List ℕ
  one = one_copy s

  copying_is : copying s ≡ promoted one
  unfolding copying
  copying_is = rw all refl

  -- it is the newcomer
  new_tail : tail_of (promoted one) ≡ newcomer one
  new_tail =
      let more = count_promoted one (copy_shows k g joins).sized (copy_free k g joins) in
      tail_is (promoted one) ∙ ap (λ (i : ℕ). member_at (promoted one) (i - 1)) more ∙ ap (member_at (promoted one)) (omega arith) ∙
      member_promoted_last one (copy_shows k g joins).sized (copy_free k g joins)

  pub live_more : live_count (copying s) ≡ live_count s + 1
  live_more =
      ap live_count copying_is ∙ count_promoted one (copy_shows k g joins).sized (copy_free k g joins) ∙ ap (λ (i : ℕ). i + 1) (live_count_same (copy_places k g joins).same)

  -- by table and by number
  pub tail_newcomer : tail_of (copying s) ≡ newcomer s
  tail_newcomer = ap tail_of copying_is ∙ new_tail ∙ newcomer_same (copy_places k g joins).same (free k g joins)

  pub tail_newcomer_number : tail_number (copying s) ≡ newcomer_number s
  unfolding newcomer_number
  tail_newcomer_number =
      let z = (copy_shows k g joins).sized in
      let f = copy_free k g joins in
      let more = count_promoted one z f in
      let places = places_same (copy_places k g joins) g.places in
      ap tail_number copying_is ∙ tail_number_at (promoted one) (omega (arith, more)) ∙ ap (λ (i : ℕ). number_at (promoted one) (i - 1)) more ∙ ap (number_at (promoted one)) (omega arith) ∙
      number_promoted one z f (joining_same (copy_places k g joins) ∙ joins) places (live_count one) f ∙ newcomer_number_same (copy_places k g joins).same (free k g joins)

  -- a copy leaves the old tail's tables
  old_tail : (o : ℕ) → o < 1024 → SameAt s one (tail_of s) o
  unfolding one_copy
  old_tail o h =
      copied_other s (newcomer s) (tail_of s) (64 * copies_made s) k.sized (newcomer_named g.places (free k g joins))
      (live_named_in g.places (tail_of s) (tail_live k)) (newcomer_apart g.places (free k g joins) (tail_of s) (tail_live k)) 64 (omega (arith, copies_few s))
      (tail_of s) o (live_named_in g.places (tail_of s) (tail_live k)) h (λ e a b. newcomer_apart g.places (free k g joins) (tail_of s) (tail_live k) e)

  pub tail_value : (o : ℕ) → o < 1024 → value_at (copying s) (tail_of (copying s)) o ≡ value_at s (tail_of s) o
  tail_value o h =
      rw (copying_is, new_tail)
      (value_promoted one (copy_shows k g joins).sized (copy_free k g joins) (newcomer one) o ∙ (all_alike k g joins all o h).0 ∙
      ap (λ (t : ℕ). value_at one t o) (copy_tail k g joins) ∙ (old_tail o h).0)

  pub tail_stamp : (o : ℕ) → o < 1024 → stamp_at (copying s) (tail_of (copying s)) o ≡ stamp_at s (tail_of s) o
  tail_stamp o h =
      rw (copying_is, new_tail)
      (stamp_promoted one (copy_shows k g joins).sized (copy_free k g joins) (newcomer one) o ∙ (all_alike k g joins all o h).1 ∙
      ap (λ (t : ℕ). stamp_at one t o) (copy_tail k g joins) ∙ (old_tail o h).1)

  pub tail_highest : highest_of (copying s) (tail_of (copying s)) ≡ highest_of s (tail_of s)
  unfolding one_copy
  tail_highest =
      rw (copying_is, new_tail)
      (highest_promoted_own one (copy_shows k g joins).sized (copy_free k g joins) ∙ ap (highest_of one) (copy_tail k g joins) ∙
      highest_copied s (newcomer s) (tail_of s) (64 * copies_made s) 64 (tail_of s))

  pub tail_permitted : permitted_by (copying s) (tail_of (copying s)) ≡ permitted_by s (tail_of s)
  unfolding one_copy
  tail_permitted =
      rw (copying_is, new_tail)
      (permitted_promoted_own one (copy_shows k g joins).sized (copy_free k g joins) ∙ ap (permitted_by one) (copy_tail k g joins) ∙
      permitted_copied s (newcomer s) (tail_of s) (64 * copies_made s) 64 (tail_of s))
