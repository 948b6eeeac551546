use mathlib.Core.Path.{◌≡◌, refl}
use Prim.Native.Nat.{ℕ, ◌+◌, ◌≤◌}
use native.Mathlib.Omega.{arith}
use borrow.Author.Rules.{rules}
use Rattle.remainders.proofs.Entries.{by_one, by_two, by_three, by_four, by_five, by_six, by_seven, by_eight}
use Rattle.remainders.proofs.Table.{remainder_at}
use Rattle.remainders.proofs.remainder.Goals as goal

-- a number that is not k is above it, if it is not below
above : (k n : ℕ) → k ≤ n → (n ≡ k → ⊥) → k + 1 ≤ n
above k n h d = omega (arith, h, d)

pub returns-in-1 : goal.returns-in-1
unfolding by_one
returns-in-1 c = λ low high. remainder_at c.args.n 1 by_one tt refl c.in-1.is c.args.choice _ c.from-i.ensures (search rules)

pub returns-in-2 : goal.returns-in-2
unfolding by_two
returns-in-2 c = λ low high. remainder_at c.args.n 2 by_two tt refl c.in-2.is c.args.choice _ c.from-i.ensures (search rules)

pub returns-in-3 : goal.returns-in-3
unfolding by_three
returns-in-3 c = λ low high. remainder_at c.args.n 3 by_three tt refl c.in-3.is c.args.choice _ c.from-i.ensures (search rules)

pub returns-in-4 : goal.returns-in-4
unfolding by_four
returns-in-4 c = λ low high. remainder_at c.args.n 4 by_four tt refl c.in-4.is c.args.choice _ c.from-i.ensures (search rules)

pub returns-in-5 : goal.returns-in-5
unfolding by_five
returns-in-5 c = λ low high. remainder_at c.args.n 5 by_five tt refl c.in-5.is c.args.choice _ c.from-i.ensures (search rules)

pub returns-in-6 : goal.returns-in-6
unfolding by_six
returns-in-6 c = λ low high. remainder_at c.args.n 6 by_six tt refl c.in-6.is c.args.choice _ c.from-i.ensures (search rules)

pub returns-in-7 : goal.returns-in-7
unfolding by_seven
returns-in-7 c = λ low high. remainder_at c.args.n 7 by_seven tt refl c.in-7.is c.args.choice _ c.from-i.ensures (search rules)

pub returns-in-8 : goal.returns-in-8
unfolding by_eight
returns-in-8 c = λ low high. remainder_at c.args.n 8 by_eight tt refl c.in-8.is c.args.choice _ c.from-i.ensures (search rules)

pub returns-in_default : goal.returns-in_default
returns-in_default c = λ low high.
    let past : 9 ≤ c.args.n = above 8 _ (above 7 _ (above 6 _ (above 5 _ (above 4 _ (above 3 _ (above 2 _ (above 1 _ low c.in_default.in_default-own.rest.0.0.0.0.0.0.0.1) c.in_default.in_default-own.rest.0.0.0.0.0.0.1) c.in_default.in_default-own.rest.0.0.0.0.0.1) c.in_default.in_default-own.rest.0.0.0.0.1) c.in_default.in_default-own.rest.0.0.0.1) c.in_default.in_default-own.rest.0.0.1) c.in_default.in_default-own.rest.0.1) c.in_default.in_default-own.rest.1 in
    absurd (omega (arith, past, high))
