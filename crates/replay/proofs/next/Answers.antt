use mathlib.Core.Path.{◌≡◌, ap}
use mathlib.Core.List.{List}
use Prim.Native.Nat.{ℕ, ◌-◌}
use Rattle.waiting.specs.declared.Packet.{Packet}
use Rattle.protocol.specs.declared.Stepped.{Stepped}
use Rattle.protocol.specs.Steps.{after, stepped_by}
use Rattle.turns.specs.declared.Ran.{Ran}
use Rattle.turns.specs.declared.Run.{Run}
use Rattle.turns.specs.declared.Turn.{Turn}
use Rattle.turns.specs.Turns.{read_next, next_printed}
use Rattle.turns.specs.Promises.{stands_as, Stands, one_turn, step_in, turn_of, Concludes, concluded}
use Rattle.turns.proofs.Standings.{model_of, next_gives}
use Rattle.replay.proofs.next.Goals as goal

-- reading, stepping and concluding make a turn
turn_made : (input : List ℕ) (r : Run) (switch store opens : List ℕ) (row : List Packet) (out : List ℕ) (used : ℕ) (turn : Turn) (done : Stepped) (switch' store' opens' : List ℕ) (row' : List Packet) (ran : Ran)
    (buffer : List ℕ) → turn ≡ turn_of (read_next input r.over r.at) →
    done ≡ stepped_by (model_of r switch store opens row) turn.step →
    switch' ≡ (after (model_of r switch store opens row) turn.step).switch →
    store' ≡ (after (model_of r switch store opens row) turn.step).store →
    opens' ≡ (after (model_of r switch store opens row) turn.step).opens →
    row' ≡ (after (model_of r switch store opens row) turn.step).waiting.packets →
    Concludes ran buffer out used (concluded r turn.found done) →
    Stands ran switch' store' opens' row' buffer (one_turn (r.left - 1) out used (next_printed input (stands_as r switch store opens row)))
turn_made input r switch store opens row out used turn done switch' store' opens' row' ran buffer et ed es ec eo ep d =
    let found : turn.found ≡ read_next input r.over r.at = ap (λ (t : Turn). t.found) et in
    let step : turn.step ≡ step_in (read_next input r.over r.at) = ap (λ (t : Turn). t.step) et in
    let done-is : done ≡ stepped_by (model_of r switch store opens row) (step_in (read_next input r.over r.at)) = rw step at ed in
    rw (es, ec, eo, ep, step) (next_gives r switch store opens row input ran buffer out used (rw (found, done-is) at d))

pub returns : goal.returns
returns c =
    let a = c.args in
    let s = c.step-done in
    turn_made a.input.now a.run a.switch.now a.store.now a.opens.now a.packets.now a.out.now a.used c.look-turn.result s.result s.new.switch s.new.store s.new.opens s.new.packets c.conclude.result c.conclude.new.out
    c.look-turn.ensures s.ensures.0 s.ensures.1 s.ensures.2 s.ensures.3 s.ensures.4 c.conclude.ensures
