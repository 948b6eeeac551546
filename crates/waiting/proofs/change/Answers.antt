use mathlib.Core.Path.{◌≡◌, sym, ap, ◌∙◌}
use mathlib.Core.List.{List}
use lib.ListN.{length, set}
use Rattle.waiting.specs.declared.Packet.{Packet}
use Rattle.waiting.specs.declared.Plan.{Plan}
use Rattle.waiting.specs.Waiting.{WaitingList, waiting_list, edited}
use Rattle.waiting.specs.Plans.{plan_of, carried}
use Rattle.waiting.proofs.Plans.{plan_within, plan_edits}
use Rattle.waiting.proofs.change.Goals as goal

pub close_up-requires : goal.close_up-requires
close_up-requires c = rw c.plan_of-p.ensures (plan_within (length c.args.packets.now) c.args.count c.args.e)

pub returns : goal.returns
returns c =
    let l = c.args.packets.now in
    let e = c.args.e in
    let p = c.plan_of-p.result in
    let is : edited (waiting_list l c.args.count) e ≡ waiting_list (carried l (plan_of (length l) c.args.count e) e) (plan_of (length l) c.args.count e).count = plan_edits l c.args.count e in
    let follows : c.put-2.new.packets ≡ carried l p e =
    c.put-2.ensures ∙ ap (λ (r : List Packet). set r p.next e.second) (c.put.ensures ∙ ap (λ (r : List Packet). set r p.place e.first) c.close_up.ensures) in (
      ap (λ (q : Plan). q.count) c.plan_of-p.ensures ∙ ap (λ (w : WaitingList). w.count) (sym is),
      follows ∙ ap (λ (q : Plan). carried l q e) c.plan_of-p.ensures ∙ ap (λ (w : WaitingList). w.packets) (sym is),
    )
