-- The open operations are told apart and numbered from 1 to the last number given: an opening of the next number keeps that, and so does a closing.
use mathlib.Core.Path.{◌≡◌, refl, sym, ◌∙◌}
use mathlib.Core.Logic.{inl, inr}
use mathlib.Core.Bool.{Bool, true, false}
use mathlib.Core.List.{List}
use Prim.Native.Nat.{ℕ, ◌+◌, ◌≤◌}
use native.Mathlib.Omega.{arith}
use Rattle.operations.specs.{last_given, none_open, is_open, room_to_open, opening, closing}
use Rattle.operations.proofs.Laws.{SizedOpens, sized_none, sized_opening, sized_closing, none_open_lem, OpenOnce, once_none, once_opening, once_closing, open_before, open_after_closing, last_opening, last_closing}
use Rattle.operations.proofs.Behind.{SameOpens, same_last, same_open, same_once}

pub record Counted (l : List ℕ) : Type 0 where
  pub sized : SizedOpens l
  pub once : OpenOnce l
  pub from_1 : (o : ℕ) → is_open l o ≡ true → (1 ≤ o) × (o ≤ last_given l)

pub counted_none : Counted none_open
counted_none = record { sized = sized_none; once = once_none; from_1 = λ o e. absurd (none_open_lem o e) }

-- the cells behind the open operations do not matter
pub counted_same : {l l' : List ℕ} → SameOpens l l' → SizedOpens l' → Counted l → Counted l'
counted_same s z c = record {
  sized = z;
  once = same_once s c.once;
  from_1 = λ o e. let was = c.from_1 o (sym (same_open s o) ∙ e) in (was.0, omega (arith, was.1, same_last s));
}

module _ {l : List ℕ} (c : Counted l) where
  abbrev next : ℕ
  next = last_given l + 1

  next_shut : (t : Bool) → is_open l next ≡ t → is_open l next ≡ false
  next_shut true e = absurd (omega (arith, c.from_1 next e))
  next_shut false e = e

  pub counted_opening : room_to_open l ≡ true → Counted (opening l next)
  counted_opening room = record {
    sized = sized_opening l next c.sized;
    once = once_opening l next c.sized room (next_shut (is_open l next) refl) c.once;
    from_1 = λ o e.
        elim (open_before l next c.sized room o e) [
          | inl q ↦ omega (arith, last_opening l next c.sized room)
          | inr q ↦ omega (arith, c.from_1 o q, last_opening l next c.sized room)
        ];
  }

  pub counted_closing : (o : ℕ) → is_open l o ≡ true → Counted (closing l o)
  counted_closing o still = record {
    sized = sized_closing l o c.sized;
    once = once_closing l o c.sized still c.once;
    from_1 = λ p e.
        let was = c.from_1 p (open_after_closing l o c.sized still c.once p e).0 in omega (arith, was, last_closing l o c.sized still);
  }
