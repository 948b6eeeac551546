-- Req 04: a stamped write comes to the head while a replica joins.
use mathlib.Core.Path.{◌≡◌, sym, ◌∙◌}
use mathlib.Core.Bool.{true}
use mathlib.Core.List.{List}
use Prim.Native.Nat.{ℕ, ◌<◌}
use native.Mathlib.Omega.{arith}
use Rattle.store.specs.declared.Write.{Write}
use Rattle.store.specs.{live_count, applied_by, logged}
use Rattle.chain.specs.{is_live, tail_of}
use Rattle.joins.specs.{handing_on}
use Rattle.replicas.specs.Replicas.{taking}
use Rattle.chain.proofs.Members.{live_same, count_same, tail_same}
use Rattle.replicas.proofs.Cells.{SizedStore, sized_logged, members_logged}
use Rattle.replicas.proofs.Moves.{taking_is}
use Rattle.write_log.proofs.Places.{SamePlaces, places_trans, places_logged, places_applying}
use Rattle.write_log.proofs.Joined.{JoinInvariant, joined_logged, joined_applying, joined_handing}

pub places_taking : (s : List ℕ) (r : ℕ) (w : Write) → SamePlaces s (taking s r w)
places_taking s r w = rw (taking_is s r w) (places_trans (places_logged s (applied_by s r) w) (places_applying (logged s (applied_by s r) w) r w))

module _ (s : List ℕ) (r : ℕ) (w : Write) (g : JoinInvariant s) (live : is_live s r ≡ true) (some : 0 < live_count s) (small : w.object < 1024) where
  -- the store in which the write stands in the log, and the replica has yet to apply it
  abbrev before : List ℕ
  before = logged s (applied_by s r) w

  before_joined : JoinInvariant before
  before_joined = joined_logged s (applied_by s r) w g

  before_live : is_live before r ≡ true
  before_live = live_same before s (members_logged s (applied_by s r) w) r ∙ live

  before_some : 0 < live_count before
  before_some = omega (arith, count_same before s (members_logged s (applied_by s r) w), some)

  before_tail : tail_of before ≡ tail_of s
  before_tail = tail_same before s (members_logged s (applied_by s r) w)

  -- the head of two or more
  pub joined_taking : (r ≡ tail_of s → ⊥) → JoinInvariant (taking s r w)
  joined_taking other = rw (taking_is s r w) (joined_applying before r w before_joined before_live before_some small (λ e. other (e ∙ before_tail)))

  -- a lone replica, which hands the write on
  pub joined_taking_lone : SizedStore s → r ≡ tail_of s → JoinInvariant (handing_on (taking s r w) w)
  joined_taking_lone z last =
      rw (taking_is s r w)
      (joined_handing before r w before_joined before_live before_some small (sized_logged s (applied_by s r) w z) (last ∙ sym before_tail))
