use native.Mathlib.Omega.{arith}
use Prim.Native.Nat.{ℕ}
use borrow.Author.Tests.{le-leb, lt-leb, ne_eqb}
use Rattle.records.specs.Records.{kind_of_tag}
use Rattle.records.proofs.kinds.kind_of_tag.Goals as goal

pub returns-in-32 : goal.returns-in-32
unfolding kind_of_tag
returns-in-32 c = simp c.in-32.is

pub returns-in-33 : goal.returns-in-33
unfolding kind_of_tag
returns-in-33 c = simp c.in-33.is

pub returns-in-1-to-14 : goal.returns-in-1-to-14
unfolding kind_of_tag
returns-in-1-to-14 c =
    let t : ℕ = c.args.tag in
    simp (ne_eqb t 32 (λ e. omega (arith, e)), ne_eqb t 33 (λ e. omega (arith, e)), le-leb 1 t (omega arith), le-leb t 14 (omega arith))

pub returns-in_default : goal.returns-in_default
unfolding kind_of_tag
returns-in_default c =
    let t : ℕ = c.args.tag in
    simp (ne_eqb t 32 (λ e. omega (arith, e)), ne_eqb t 33 (λ e. omega (arith, e)), lt-leb 1 t (omega arith))

pub returns-in_default-2 : goal.returns-in_default-2
unfolding kind_of_tag
returns-in_default-2 c =
    let t : ℕ = c.args.tag in
    simp (ne_eqb t 32 (λ e. omega (arith, e)), ne_eqb t 33 (λ e. omega (arith, e)), le-leb 1 t (omega arith), lt-leb t 14 (omega arith))
