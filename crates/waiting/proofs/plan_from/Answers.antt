use mathlib.Core.Path.{◌≡◌, sym, ◌∙◌}
use mathlib.Core.Bool.{cond}
use Prim.Native.Nat.{◌+◌}
use lib.Dec.{leb}
use native.Mathlib.Omega.{arith}
use Rattle.waiting.specs.Plans.{planned}
use Rattle.waiting.proofs.Plans.{fits_places, chosen, not_chosen}
use Rattle.waiting.proofs.plan_from.Goals as goal
use Rattle.waiting.proofs.plan_from.Goals.{then-add-ge1, else-add-ge1, then-add-ge2, else-add-ge2}

pub returns-then-not-fits : goal.returns-then-not-fits
unfolding planned
returns-then-not-fits c = simp (← c.fits.ensures, c.if-not-fits.true, ← c.still.ensures)

pub overflow_add-result : goal.overflow_add-result
overflow_add-result c = record { fits = omega (arith, (fits_places _ _ _ (sym c.fits.ensures ∙ c.if-not-fits.false)).0) }

pub overflow_add-result-2 : goal.overflow_add-result-2
overflow_add-result-2 c = record { fits = omega (arith, (fits_places _ _ _ (sym c.fits.ensures ∙ c.if-not-fits.false)).0) }

pub returns : goal.returns
unfolding planned
returns c =
    let place : c.if-add-ge1.result ≡ cond (leb 1 c.args.add) c.args.left c.args.length = elim c.if-add-ge1.branch [
      | then-add-ge1 w ↦ chosen 1 c.args.add _ _ _ w.if-add-ge1.true w.result-is
      | else-add-ge1 w ↦ not_chosen 1 c.args.add _ _ _ w.if-add-ge1.false w.result-is
    ] in
    let next : c.if-add-ge2.result ≡ cond (leb 2 c.args.add) (c.args.left + 1) c.args.length = elim c.if-add-ge2.branch [
      | then-add-ge2 w ↦ chosen 2 c.args.add _ _ _ w.if-add-ge2.true w.result-is
      | else-add-ge2 w ↦ not_chosen 2 c.args.add _ _ _ w.if-add-ge2.false w.result-is
    ] in
    simp (← c.fits.ensures, c.if-not-fits.false, place, next)
