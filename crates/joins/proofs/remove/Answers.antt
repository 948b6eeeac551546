use Rattle.chain.proofs.Found.{some_place, none_place, gone_no_tail}
use Rattle.std.proofs.Common.{◌≡◌, false, refl}
use lib.Dec.{ltb}
use Rattle.store.specs.{live_count}
use Rattle.chain.specs.{is_member, place_of, removed}
use Rattle.joins.specs.{join_ended, without}
use Rattle.joins.proofs.remove.Goals as goal

pub returns-in-Some : goal.returns-in-Some
unfolding without
returns-in-Some c = let found = some_place _ _ _ c.in-Some.ensures in simp (found.1, ← c.end_without.ensures, ← c.remove.ensures)

pub returns-in_default : goal.returns-in_default
unfolding without join_ended removed is_member
returns-in_default c =
    let s = c.args.cells.now in let r = c.args.r in
    let gone : ltb (place_of s r) (live_count s) ≡ false = none_place s r c.in_default.ensures in
    simp (gone_no_tail s r gone, gone) refl
