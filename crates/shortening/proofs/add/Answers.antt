use mathlib.Core.Path.{refl, sym, ap, ◌∙◌}
use mathlib.Core.List.{◌++◌, append-nil}
use Prim.Native.Nat.{◌+◌}
use lib.ListN.{length, take}
use Rattle.std.proofs.lemmas.Slice.{take-put_mid}
use borrow.Rule.Slice.PartMut.{same_len_mid}
use native.Mathlib.Omega.{arith}
use borrow.Author.Tests.{eq-eqb, ne_eqb}
use Rattle.shortening.proofs.add.Goals as goal

pub returns-then-flag-eq0 : goal.returns-then-flag-eq0
returns-then-flag-eq0 c = simp (eq-eqb _ _ c.if-flag-eq0.true) (sym (append-nil _), omega arith, refl)

pub returns : goal.returns
returns c =
    let s = c.args in
    let copied = c.copy_from_slice.ensures in
    let there = take-put_mid s.used _ s.out.now _ (s.used + length s.part.now) (omega (arith, ap length copied.after)) (omega arith) ∙ ap (λ p. take s.used s.out.now ++ p) copied.after in
    simp (ne_eqb _ _ c.if-flag-eq0.false) (there, refl, same_len_mid s.used _ s.out.now _ copied.len)
