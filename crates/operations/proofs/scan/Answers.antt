use mathlib.Core.Path.{◌≡◌}
use Prim.Native.Nat.{ℕ}
use native.Mathlib.Omega.{arith}
use Rattle.std.proofs.lemmas.Iterator.{IsFirst-from_position, YieldsList-from_slice}
use borrow.Author.Tests.{tests}
use borrow.Author.Rules.{rules}
use lib.ListN.{take}
use Rattle.operations.specs.{open_count}
use Rattle.operations.proofs.Search.{scanned}
use Rattle.operations.proofs.scan.Goals as goal

pub returns : goal.returns
returns c =
    let l = c.args.cells.now in
    let o = c.args.o in
    scanned l o c.position.result (omega arith)
    (IsFirst-from_position _ _ _ (λ (x : ℕ). x ≡ o) (λ (x : ℕ). x ≡ o → ⊥) c.position.ensures.ran
    (YieldsList-from_slice (take (open_count l) l) (rw (← c.count.ensures.0) c.iter.ensures.rest)) (λ x q k. search (rules, tests)) (λ x q k. search (rules, tests)))
