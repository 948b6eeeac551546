-- The loop's invariant: the bytes from place at + left on are the last digits of n, and rest has the other ones; past the digits no byte changes.
use mathlib.Core.Path.{◌≡◌}
use mathlib.Core.List.{◌++◌}
use Prim.Native.Nat.{◌+◌, ◌≤◌}
use lib.ListN.{length, take, drop}
use Rattle.line_lengths.specs.Lines.{digits}
use Rattle.lines.proofs.Digits.{filled}
use Rattle.lines.proofs.put_digits.Given as goal

abbrev pub invariant-loop-place : goal.invariant-loop-place
invariant-loop-place l =
    (take l.at l.initial.out ++ digits l.k l.n ≡ filled l.at (l.at + l.k) l.place l.rest l.out) ×
    (l.place ≤ l.k) ×
    (length l.out ≡ length l.initial.out) ×
    (drop (l.at + l.k) l.out ≡ drop (l.at + l.k) l.initial.out) ×
    (l.at + l.k ≤ length l.initial.out)
