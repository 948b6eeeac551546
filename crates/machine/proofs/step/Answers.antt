use mathlib.Core.Path.{◌≡◌, ap, ◌∙◌}
use mathlib.Core.List.{List}
use Prim.Native.Nat.{ℕ}
use lib.ListN.{length}
use Rattle.waiting.specs.declared.Packet.{Packet}
use Rattle.switch.specs.Numbers.{marks_in}
use Rattle.waiting.specs.Waiting.{WaitingList, waiting_list, held_in, look_at, edited}
use Rattle.protocol.specs.declared.Answer.{Answer}
use Rattle.protocol.specs.declared.Decision.{Decision}
use Rattle.protocol.specs.declared.Step.{Step}
use Rattle.protocol.specs.declared.Stepped.{Stepped}
use Rattle.protocol.specs.Decisions.{given, Outcome}
use Rattle.protocol.specs.Steps.{Machine, machine, position_of, decided_in, outcome_of, stepped_by, after, answer_to}
use Rattle.packet_delivery.specs.{Leaves}
use Rattle.machine.proofs.step.Goals as goal

abbrev stepped_with : Answer → ℕ → ℕ → Stepped
stepped_with a n marks = record { answer = a; count = n; marks = marks }

-- looking, deciding and editing make a step
step_made : (m : Machine) (x : Step) (row : List Packet) (p : Packet) (d : Decision) (switch store opens : List ℕ) (marks n : ℕ) (last : List Packet) →
    row ≡ m.waiting.packets →
    p ≡ look_at m.waiting.packets (position_of x) →
    Leaves d switch store opens (decided_in (length row) (given m.switch m.store m.opens (held_in m.waiting.count)) p x) →
    marks ≡ marks_in switch →
    n ≡ (edited (waiting_list row m.waiting.count) d.edit).count →
    last ≡ (edited (waiting_list row m.waiting.count) d.edit).packets →
    (stepped_with d.answer n marks ≡ stepped_by m x) × (switch ≡ (after m x).switch) × (store ≡ (after m x).store) × (opens ≡ (after m x).opens) × (last ≡ (after m x).waiting.packets)
unfolding after answer_to
step_made m x row p d switch store opens marks n last is ep left em en el =
    let g = given m.switch m.store m.opens (held_in m.waiting.count) in
    let u : decided_in (length row) g p x ≡ outcome_of m x =
    ap (λ (l : List Packet). decided_in (length l) g p x) is ∙ ap (λ (q : Packet). decided_in (length m.waiting.packets) g q x) ep in
    let e : d ≡ (outcome_of m x).decision = left.decides ∙ ap (λ (v : Outcome). v.decision) u in
    let w : edited (waiting_list row m.waiting.count) d.edit ≡ edited m.waiting (outcome_of m x).decision.edit =
    ap (λ (l : List Packet). edited (waiting_list l m.waiting.count) d.edit) is ∙ ap (λ (v : Decision). edited m.waiting v.edit) e in
    let es : switch ≡ (outcome_of m x).switch = left.switch_is ∙ ap (λ (v : Outcome). v.switch) u in
    let back : stepped_with d.answer n marks ≡ stepped_by m x =
    ap (λ (v : Decision). stepped_with v.answer n marks) e ∙
    ap (λ (k : ℕ). stepped_with (answer_to m x) k marks) (en ∙ ap (λ (l : WaitingList). l.count) w) ∙
    ap (λ (k : ℕ). stepped_with (answer_to m x) (after m x).waiting.count k) (em ∙ ap marks_in es) in
    (back, es, left.store_is ∙ ap (λ (v : Outcome). v.store) u, left.opens_is ∙ ap (λ (v : Outcome). v.opens) u, el ∙ ap (λ (l : WaitingList). l.packets) w)

pub returns : goal.returns
returns c =
    let a = c.args in
    let l = c.look-p in
    let d = c.decide-decision in
    step_made (machine a.switch.now a.store.now a.opens.now (waiting_list a.packets.now a.count)) a.x l.new.packets l.result d.result d.new.switch d.new.store d.new.opens c.marks-marks.result c.change.result c.change.new.packets
    l.ensures.1 (rw c.position.ensures at l.ensures.0) d.ensures c.marks-marks.ensures c.change.ensures.0 c.change.ensures.1
