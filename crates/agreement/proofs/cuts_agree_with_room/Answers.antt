use Rattle.std.proofs.Common.{◌≡◌, refl, sym, ap, ◌∙◌, arith, length, take}
use Rattle.runs.specs.Runs.{printed}
use Rattle.agreement.specs.{stands_in, outputs_to}
use Rattle.agreement.proofs.Agreement.{stands_none, cut_differs, cut_stands, cuts_end}
use Rattle.agreement.proofs.cuts_agree_with_room.Goals as goal

pub loop-cut-init : goal.loop-cut-init
unfolding outputs_to
loop-cut-init c = (omega arith, refl, stands_none c.args.expected.now c.args.input.now)

pub returns-then-not-stands_at : goal.returns-then-not-stands_at
returns-then-not-stands_at c =
    let turn = c.loop-cut in
    let expected = c.args.expected.now in
    cut_differs c.args.input.now expected turn.cut turn.at turn.invariant.1 (omega arith)
    (ap (stands_in expected turn.at) (sym c.print-used.ensures.1) ∙ sym c.stands_at.ensures ∙ c.if-not-stands_at.true)

pub loop-cut-preserved : goal.loop-cut-preserved
loop-cut-preserved c =
    let turn = c.loop-cut in
    let input = c.args.input.now in
    let expected = c.args.expected.now in
    let p = c.print-used.ensures in
    let used : c.print-used.result ≡ length (printed (take turn.cut input)) = p.0.1 ∙ ap length p.1 in
    let next = cut_stands input expected turn.cut turn.at turn.invariant.1 turn.invariant.2
    (ap (stands_in expected turn.at) (sym p.1) ∙ sym c.stands_at.ensures ∙ c.if-not-stands_at.false) in
    (omega arith, c.after-at.ensures ∙ omega (arith, used, next.0, next.1), next.2)

pub returns : goal.returns
returns c = cuts_end _ _ c.loop-cut.cut c.loop-cut.at c.loop-cut.invariant.1 (omega arith) c.loop-cut.invariant.2
