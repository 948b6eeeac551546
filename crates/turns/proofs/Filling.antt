-- Turns of a run, one after the other.
use mathlib.Core.Path.{◌≡◌, refl, sym, ap, ◌∙◌, subst}
use mathlib.Core.Bool.{Bool, true, false, cond}
use mathlib.Core.List.{List}
use Prim.Native.Nat.{ℕ, zero, suc, ◌-◌, ◌<◌, ◌≤◌}
use native.Mathlib.Omega.{arith}
use lib.Dec.{T}
use borrow.Author.Tests.{leb-true, lt-ltb}
use lib.ListN.{length}
use Rattle.lines.specs.Text.{put_in}
use Rattle.waiting.specs.declared.Packet.{Packet}
use Rattle.turns.specs.declared.Run.{Run}
use Rattle.turns.specs.declared.Ran.{Ran}
use Rattle.turns.specs.Turns.{Standing, next_printed}
use Rattle.turns.specs.Promises.{Turned, turned_to, turned, goes_on, place_after, Stands, stands_as, one_turn}

-- where another record is read, turns are left
pub goes_left : (over : Bool) (k used stop : ℕ) → goes_on over k used stop ≡ true → 0 < k
unfolding goes_on
goes_left true k used stop e = absurd (subst T (sym e) tt)
goes_left false zero used stop e = absurd (subst T (sym e) tt)
goes_left false (suc k) used stop e = omega arith

-- and the place is not past the stop
pub goes_low : (over : Bool) (k used stop : ℕ) → goes_on over k used stop ≡ true → used ≤ stop
unfolding goes_on
goes_low true k used stop e = absurd (subst T (sym e) tt)
goes_low false zero used stop e = absurd (subst T (sym e) tt)
goes_low false (suc k) used stop e = leb-true used stop (rw (lt-ltb 0 (suc k) (omega arith)) at e)

-- a turn, and none
pub turned_goes : (k stop : ℕ) (input : List ℕ) (u : Standing) (out : List ℕ) (used : ℕ) → goes_on u.over k used stop ≡ true
    → turned k stop input u out used ≡ turned (k - 1) stop input (next_printed input u).then (put_in out used (next_printed input u).line) (place_after used (length (next_printed input u).line))
unfolding turned
turned_goes zero stop input u out used e = absurd (omega (arith, goes_left u.over zero used stop e))
turned_goes (suc k) stop input u out used e = rw (e, sub_one k)
  where
    sub_one : (k : ℕ) → suc k - 1 ≡ k
    sub_one k = omega arith

pub turned_stops : (k stop : ℕ) (input : List ℕ) (u : Standing) (out : List ℕ) (used : ℕ) → goes_on u.over k used stop ≡ false → turned k stop input u out used ≡ turned_to u k out used
unfolding turned
turned_stops zero stop input u out used e = refl
turned_stops (suc k) stop input u out used e = rw e

-- no more turns are left than there were
pub turned_left : (k stop : ℕ) (input : List ℕ) (u : Standing) (out : List ℕ) (used : ℕ) → (turned k stop input u out used).left ≤ k
unfolding turned
turned_left zero stop input u out used = omega arith
turned_left (suc k) stop input u out used =
    go (goes_on u.over (suc k) used stop) (turned_left k stop input (next_printed input u).then (put_in out used (next_printed input u).line) (place_after used (length (next_printed input u).line)))
  where
    go : (t : Bool) → (turned k stop input (next_printed input u).then (put_in out used (next_printed input u).line) (place_after used (length (next_printed input u).line))).left ≤ k
        → (cond t (turned k stop input (next_printed input u).then (put_in out used (next_printed input u).line) (place_after used (length (next_printed input u).line))) (turned_to u (suc k) out used)).left ≤ suc k
    go true later = omega arith
    go false later = omega arith

-- in the code's terms
module _ (stop : ℕ) (input : List ℕ) (r : Run) (switch store opens : List ℕ) (row : List Packet) (out : List ℕ) (used : ℕ) where
  abbrev after_all : Turned
  after_all = turned r.left stop input (stands_as r switch store opens row) out used

  -- a turn leaves the end of the turns as it was
  pub turned_again : goes_on r.over r.left used stop ≡ true → (ran : Ran) (switch' store' opens' : List ℕ) (row' : List Packet) (buffer : List ℕ)
      → Stands ran switch' store' opens' row' buffer (one_turn (r.left - 1) out used (next_printed input (stands_as r switch store opens row)))
      → turned ran.run.left stop input (stands_as ran.run switch' store' opens' row') buffer ran.used ≡ after_all
  unfolding stands_as
  turned_again e ran switch' store' opens' row' buffer g =
      rw (g.stands, g.place, g.there, g.left) (sym (turned_goes r.left stop input (stands_as r switch store opens row) out used e))

  -- and there are fewer then
  pub fewer_left : goes_on r.over r.left used stop ≡ true → (ran : Ran) (switch' store' opens' : List ℕ) (row' : List Packet) (buffer : List ℕ)
      → Stands ran switch' store' opens' row' buffer (one_turn (r.left - 1) out used (next_printed input (stands_as r switch store opens row))) → ran.run.left < r.left
  fewer_left e ran switch' store' opens' row' buffer g = omega (arith, g.left, goes_left r.over r.left used stop e)

  -- where no other record is read, this is the end
  pub turned_end : goes_on r.over r.left used stop ≡ false → (end : Turned) → after_all ≡ end → Stands (record { run = r; used = used }) switch store opens row out end
  unfolding stands_as
  turned_end e end same =
      let is : turned_to (stands_as r switch store opens row) r.left out used ≡ end = sym (turned_stops r.left stop input (stands_as r switch store opens row) out used e) ∙ same in
      record {
        stands = ap (λ (t : Turned). t.then) is;
        left = ap (λ (t : Turned). t.left) is;
        place = ap (λ (t : Turned). t.used) is;
        there = ap (λ (t : Turned). t.out) is;
      }

  -- where a record is read, fewer turns are left at the end
  pub fewer_at_end : goes_on r.over r.left used stop ≡ true → after_all.left < r.left
  unfolding stands_as
  fewer_at_end e =
      rw (turned_goes r.left stop input (stands_as r switch store opens row) out used e)
      (omega (arith, goes_left r.over r.left used stop e, turned_left (r.left - 1) stop input (next_printed input (stands_as r switch store opens row)).then (put_in out used (next_printed input (stands_as r switch store opens row)).line) (place_after used (length (next_printed input (stands_as r switch store opens row)).line))))
