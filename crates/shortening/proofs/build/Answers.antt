use mathlib.Core.Path.{◌≡◌, refl, sym, ap, ◌∙◌}
use mathlib.Core.List.{◌++◌}
use Prim.Native.Nat.{ℕ, ◌+◌, ◌-◌, ◌≤◌}
use native.Mathlib.Omega.{arith}
use lib.ListN.{length, get_or, take, drop, length-append}
use Rattle.shortening.specs.Shortening.{size_at, place_of, kept_to}
use Rattle.shortening.proofs.Records.{place_next_lem, size_least}
use Rattle.shortening.proofs.Keeping.{piece, piece_short, record_bytes, kept_none, kept_next, part_is, part_short, record_within}
use borrow.Author.Rules.{rules}
use Rattle.shortening.proofs.build.Goals as goal

pub loop-i-init : goal.loop-i-init
unfolding place_of
loop-i-init c =
    let s = c.args in
    let none = kept_none s.input.now s.flags.now in
    (sym none, sym (ap length none), omega arith, refl, omega arith, refl, omega arith, c.requires)

pub size_at-requires : goal.size_at-requires
size_at-requires c =
    let s = c.args in
    let k = c.loop-i in
    let inside = record_within s.input.now s.count k.i k.at k.invariant.7.0 c.loop-i-test.true k.invariant.3 in
    omega (arith, inside, size_least s.input.now k.at)

pub overflow_add-end : goal.overflow_add-end
overflow_add-end c =
    let s = c.args in
    let k = c.loop-i in
    let inside = record_within s.input.now s.count k.i k.at k.invariant.7.0 c.loop-i-test.true k.invariant.3 in
    let small : k.at + c.size_at.result ≤ length s.input.now = omega (arith, inside, c.size_at.ensures.0) in
    search (rules, small)

pub slice_bounds-add-end : goal.slice_bounds-add-end
slice_bounds-add-end c =
    let s = c.args in
    let k = c.loop-i in
    let inside = record_within s.input.now s.count k.i k.at k.invariant.7.0 c.loop-i-test.true k.invariant.3 in
    omega (arith, inside, c.size_at.ensures.0)

pub add-used-requires : goal.add-used-requires
add-used-requires c =
    let s = c.args in
    let k = c.loop-i in
    let inside = record_within s.input.now s.count k.i k.at k.invariant.7.0 c.loop-i-test.true k.invariant.3 in
    omega (arith, inside, c.size_at.ensures.0, part_short s.input.now k.at c.size_at.result, k.invariant.2, k.invariant.5, k.invariant.7.2)

pub loop-i-preserved : goal.loop-i-preserved
loop-i-preserved c =
    let s = c.args in
    let k = c.loop-i in
    let l = s.input.now in
    let some = c.loop-i-test.true in
    let size = c.size_at.ensures.0 in
    let a = c.add-used.ensures in
    let inside = record_within l s.count k.i k.at k.invariant.7.0 some k.invariant.3 in
    let part = part_is l k.i k.at c.size_at.result k.invariant.3 size in
    let flag = get_or s.flags.now k.i 0 in
    let next = kept_next k.i l s.flags.now in
    let there : take c.add-used.result _ ≡ kept_to (k.i + 1) l s.flags.now = a.0 ∙ (λ j. k.invariant.0 j ++ piece flag (part j)) ∙ sym next in
    let sized : c.add-used.result ≡ length (kept_to (k.i + 1) l s.flags.now) =
    a.1 ∙ (λ j. k.invariant.1 j + length (piece flag (part j))) ∙ sym (length-append (kept_to k.i l s.flags.now) (piece flag (record_bytes k.i l))) ∙ ap length (sym next) in (
      there,
      sized,
      omega (arith, a.1, piece_short flag (take (k.at + c.size_at.result - k.at) (drop k.at l)), part_short l k.at c.size_at.result, k.invariant.2),
      (λ j. k.invariant.3 j + (size ∙ ap (size_at l) k.invariant.3) j) ∙ sym (place_next_lem k.i l),
      omega arith,
      a.2 ∙ k.invariant.5,
      omega (arith, inside, size),
      k.invariant.7,
    )

pub returns : goal.returns
returns c =
    let s = c.args in
    let k = c.loop-i in
    let all : k.i ≡ s.count = omega (arith, c.loop-i-test.false, k.invariant.4) in (
      k.invariant.0 ∙ ap (λ (n : ℕ). kept_to n s.input.now s.flags.now) all,
      k.invariant.1 ∙ ap (λ (n : ℕ). length (kept_to n s.input.now s.flags.now)) all,
      omega (arith, k.invariant.2, k.invariant.6),
      k.invariant.5,
    )
