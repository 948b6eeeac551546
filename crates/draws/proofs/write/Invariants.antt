-- The loop's invariant: with the records of the steps that are left, the buffer would hold those of all.
use Rattle.std.proofs.Common.{◌≡◌, ℕ, ◌+◌, ◌-◌, ◌≤◌, List, length}
use Rattle.lines.specs.Text.{pasted}
use Rattle.draws.specs.{steps_drawn, records_of}
use Rattle.draws.proofs.write.Given as goal

abbrev pub records : ℕ → ℕ → List ℕ
records k seed = records_of (steps_drawn k seed)

abbrev pub invariant-loop-i : goal.invariant-loop-i
invariant-loop-i l =
    (pasted l.out l.at (records (l.steps - l._i) l.next_seed) ≡ pasted l.initial.out l.from (records l.steps l.seed)) ×
    (l.at + length (records (l.steps - l._i) l.next_seed) ≡ l.from + length (records l.steps l.seed)) ×
    (length l.out ≡ length l.initial.out) ×
    (l.from + length (records l.steps l.seed) ≤ length l.initial.out) ×
    (l.from + length (records l.steps l.seed) ≤ 65536)
