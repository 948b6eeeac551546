use native.Mathlib.Omega.{arith}
use Prim.Native.Nat.{ℕ}
use borrow.Author.Tests.{le-leb, lt-leb, ne_eqb}
use Rattle.records.specs.Records.{tag_of}
use Rattle.records.proofs.kinds.tag_of.Goals as goal

pub returns-in-15 : goal.returns-in-15
unfolding tag_of
returns-in-15 c = simp c.in-15.is

pub returns-in-1-to-14 : goal.returns-in-1-to-14
unfolding tag_of
returns-in-1-to-14 c =
    let k : ℕ = c.args.kind in simp (ne_eqb k 15 (λ e. omega (arith, e)), le-leb 1 k (omega arith), le-leb k 14 (omega arith))

pub returns-in_default : goal.returns-in_default
unfolding tag_of
returns-in_default c = let k : ℕ = c.args.kind in simp (ne_eqb k 15 (λ e. omega (arith, e)), lt-leb 1 k (omega arith))

pub returns-in_default-2 : goal.returns-in_default-2
unfolding tag_of
returns-in_default-2 c =
    let k : ℕ = c.args.kind in simp (ne_eqb k 15 (λ e. omega (arith, e)), le-leb 1 k (omega arith), lt-leb k 14 (omega arith))
