use mathlib.Core.Path.{sym, ◌∙◌}
use Rattle.turns.proofs.Filling.{turned_again, fewer_left, turned_end}
use Rattle.replay.proofs.records.Goals as goal

pub loop-switch-smaller : goal.loop-switch-smaller
loop-switch-smaller c =
    let a = c.args in
    let l = c.loop-switch in
    let n = c.next-ran in
    fewer_left a.stop a.input.now l.run l.switch l.store l.opens l.packets l.out l.used (sym c.goes_on.ensures ∙ c.loop-switch-test.true) n.result n.new.switch n.new.store n.new.opens n.new.packets n.new.out n.ensures

pub loop-switch-preserved : goal.loop-switch-preserved
loop-switch-preserved c =
    let a = c.args in
    let l = c.loop-switch in
    let n = c.next-ran in
    turned_again a.stop a.input.now l.run l.switch l.store l.opens l.packets l.out l.used (sym c.goes_on.ensures ∙ c.loop-switch-test.true) n.result n.new.switch n.new.store n.new.opens n.new.packets n.new.out n.ensures ∙
    l.invariant

pub returns : goal.returns
returns c =
    let a = c.args in
    let l = c.loop-switch in
    turned_end a.stop a.input.now l.run l.switch l.store l.opens l.packets l.out l.used (sym c.goes_on.ensures ∙ c.loop-switch-test.false) _ l.invariant
