use Rattle.line_lengths.proofs.Laws.{finish_length, old_word, new_word, no_word}
use native.Mathlib.Omega.{arith}
use mathlib.Core.Logic.{inl, inr}
use mathlib.Core.Path.{◌≡◌, ap}
use lib.ListN.{length}
use Rattle.line_lengths.specs.Lines.{freshness_end}
use Rattle.line_lengths.proofs.finish_length.Goals as goal

pub returns-then-freshness-eq-NEW : goal.returns-then-freshness-eq-NEW
returns-then-freshness-eq-NEW c =
    let a = c.args in
    let word : length (freshness_end a.freshness) ≡ 4 =
    elim c.if-freshness-eq-NEW.either [ inl e ↦ ap length (old_word _ e) | inr p ↦ ap length (new_word _ p.1) ] in
    (omega (arith, finish_length a.operation a.value a.freshness, word, c.digits_of.ensures.0, c.digits_of-2.ensures.0), omega arith)

pub returns-else-freshness-eq-NEW : goal.returns-else-freshness-eq-NEW
returns-else-freshness-eq-NEW c =
    let a = c.args in
    let word = ap length (no_word _ c.if-freshness-eq-NEW.false.0 c.if-freshness-eq-NEW.false.1) in
    (omega (arith, finish_length a.operation a.value a.freshness, word, c.digits_of.ensures.0, c.digits_of-2.ensures.0), omega arith)
