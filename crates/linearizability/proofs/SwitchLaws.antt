-- What holds of the switch in every run, kept by a mark, a completion and a replacement: the stamps that it gave are covered by its dirty set, and direct reads are on only with a
-- last-committed stamp of its own. So no write to an object that a direct read may read was stamped above the stamp that the read carries.
use mathlib.Core.Path.{◌≡◌, refl, sym, ap, ◌∙◌, subst}
use mathlib.Core.Bool.{Bool, true, false, cond}
use mathlib.Core.List.{List, [], ◌∷◌, ◌++◌}
use mathlib.Core.Logic.{inl, inr}
use Prim.Native.Nat.{ℕ, ◌+◌, ◌≤◌, ◌<◌, max}
use native.Mathlib.Decide.{ℕ_discrete}
use native.Mathlib.Omega.{arith}
use lib.Dec.{eqb}
use borrow.Author.Tests.{eqb-true, ne_eqb}
use Rattle.lists.proofs.Tests.{untrue}
use Rattle.limits.specs as limits
use Rattle.history.specs.History.{◌∈◌}
use Rattle.history.proofs.Lists.{here, there, cases_append, only-member}
use Rattle.stamp.specs.Stamps.{stamp_of, number_of}
use Rattle.stamp.proofs.Laws.{larger_is}
use Rattle.switch.specs.Numbers.{number_in, counter_in, committed_in, direct_in}
use Rattle.switch.specs.DirtySet.{is_own, looked_up, marked, stamp_for, completed, new_switch}
use Rattle.switch.proofs.Laws.{SizedSwitch, stamp_used, marked_number, marked_committed, marked_counter, marked_direct, marked_stays}
use Rattle.switch.proofs.Laws.{completed_number, completed_committed, completed_counter, completed_direct, new_number, new_counter, new_direct}
use Rattle.switch.proofs.Counted.{invariant_marked, invariant_completed, invariant_new}
use Rattle.switch.proofs.Cover.{Covers, covers_unmarked, covers_own, covers_marked, covers_completed}
use Rattle.store.specs.declared.Write.{Write}
use Rattle.write_log.proofs.Log.{top}
use Rattle.linearizability.proofs.Invariant.{SwitchHolds}

-- the last of some writes has a stamp up to b if all have
pub top_low : (b lo : ℕ) (ws : List Write) → lo ≤ b → ((w : Write) → w ∈ ws → w.stamp ≤ b) → top lo ws ≤ b
top_low b lo [] l f = l
top_low b lo (w ∷ ws) l f = top_low b w.stamp ws (f w (here refl)) (λ u i. f u (there i))

-- ---- a direct read may pass

-- NO WRITE TO AN OBJECT WITHOUT A COUNTING MARK WAS EVER STAMPED ABOVE LAST-COMMITTED, while direct reads are on
pub unmarked_low : {issued : List Write} {w : List ℕ} → SwitchHolds issued w → direct_in w ≡ true → (x : ℕ) → looked_up w x ≡ 0 → (u : Write) → u ∈ issued → u.object ≡ x
    → u.stamp ≤ committed_in w
unfolding number_of
unmarked_low {issued} {w} s on x none u i e = elim (ℕ_discrete (number_of u.stamp) (number_in w)) [
  | yes q ↦ covers_unmarked w x u.stamp none (subst (λ (y : ℕ). Covers w y u.stamp) e (s.covered u i q))
  | no q ↦ omega (arith, q, s.numbers u i, s.own on)
]

-- ---- the start and a replacement

pub holds_new : {issued : List Write} (number : ℕ) → number < limits.switch_numbers → ((u : Write) → u ∈ issued → number_of u.stamp < number) → SwitchHolds issued (new_switch number)
unfolding number_of stamp_of
holds_new {issued} number short older = record {
  invariant = invariant_new number;
  numbers = λ u i. omega (arith, older u i, new_number number short);
  given = λ u i. omega (arith, older u i, new_number number short, new_counter number);
  covered = λ u i e. absurd (omega (arith, e, older u i, new_number number short));
  own = λ on. untrue (sym (new_direct number) ∙ on);
}

-- ---- a completion that bears the present number or a former one

pub holds_completed : {issued : List Write} {w : List ℕ} → SwitchHolds issued w → (x t : ℕ) → number_of (committed_in w) ≤ number_in w → number_of t ≤ number_in w
    → SwitchHolds issued (completed w x t)
unfolding is_own number_of
holds_completed {issued} {w} s x t c l = record {
  invariant = invariant_completed w x t z;
  numbers = λ u i. omega (arith, completed_number w x t z, s.numbers u i);
  given = λ u i. rw (completed_number w x t z, completed_counter w x t z) (s.given u i);
  covered = λ u i e. covers_completed w x t u.object u.stamp z (s.covered u i (e ∙ completed_number w x t z));
  own = λ on.
      ap number_of (completed_committed w x t z ∙ larger_is (committed_in w) t) ∙ go (eqb (number_of t) (number_in w)) refl (sym (completed_direct w x t z) ∙ on) ∙ sym (completed_number w x t z);
}
  where
    z : SizedSwitch w
    z = s.invariant.sized

    go : (b : Bool) → eqb (number_of t) (number_in w) ≡ b → cond b true (direct_in w) ≡ true → number_of (max (committed_in w) t) ≡ number_in w
    go true e d = omega (arith, eqb-true (number_of t) (number_in w) e, c, l)
    go false e d = omega (arith, s.own d, c, l)

-- ---- a mark

module _ {issued : List Write} {w : List ℕ} (s : SwitchHolds issued w) (x : ℕ) (low : committed_in w ≤ stamp_of (number_in w) (counter_in w)) where
  z : SizedSwitch w
  z = s.invariant.sized

  own_marked : direct_in (marked w x) ≡ true → number_of (committed_in (marked w x)) ≡ number_in (marked w x)
  own_marked on = ap number_of (marked_committed w x) ∙ s.own (sym (marked_direct w x) ∙ on) ∙ sym (marked_number w x)

  -- the write is dropped
  pub holds_dropped : stamp_for w x ≡ 0 → SwitchHolds issued (marked w x)
  holds_dropped none = rw (marked_stays w x none) s

  -- the write u gets the next stamp
  module _ (some : stamp_for w x ≡ 0 → ⊥) (few : counter_in w + 1 < limits.counters) (u : Write) (object : u.object ≡ x) (stamp : u.stamp ≡ stamp_for w x) where
    counts : counter_in (marked w x) ≡ counter_in w + 1
    counts = marked_counter w x z ∙ ne_zero (stamp_for w x) some
      where
        ne_zero : (t : ℕ) → (t ≡ 0 → ⊥) → cond (eqb t 0) (counter_in w) (counter_in w + 1) ≡ counter_in w + 1
        ne_zero t n = rw (ne_eqb t 0 n)

    pub holds_marked : SwitchHolds (issued ++ u ∷ []) (marked w x)
    unfolding number_of stamp_of
    holds_marked = record {
      invariant = invariant_marked w x s.invariant;
      numbers = λ v i. elim (cases_append issued i) [
        | inl j ↦ omega (arith, marked_number w x, s.numbers v j)
        | inr j ↦ omega (arith, marked_number w x, next, ap (λ (y : Write). y.stamp) (only-member j), few)
      ];
      given = λ v i. elim (cases_append issued i) [
        | inl j ↦ rw (marked_number w x, counts) (omega (arith, s.given v j))
        | inr j ↦ rw (marked_number w x, counts) (omega (arith, next, ap (λ (y : Write). y.stamp) (only-member j)))
      ];
      covered = λ v i e. elim (cases_append issued i) [
        | inl j ↦ covers_marked w x v.object v.stamp z low (s.given v j) (s.covered v j (e ∙ marked_number w x))
        | inr j ↦ subst (λ (y : Write). Covers (marked w x) y.object y.stamp) (sym (only-member j))
            (subst (λ (y : ℕ). Covers (marked w x) y u.stamp) (sym object) (covers_own w x u.stamp z low some (omega (arith, stamp))))
      ];
      own = own_marked;
    }
      where
        next : u.stamp ≡ stamp_of (number_in w) (counter_in w + 1)
        next = stamp ∙ stamp_used w x some
