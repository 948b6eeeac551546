use mathlib.Core.Path.{◌≡◌, sym, ap, ◌∙◌}
use Prim.Native.Nat.{ℕ, ◌+◌, ◌-◌, ◌≤◌}
use native.Mathlib.Omega.{arith}
use lib.ListN.{length}
use Rattle.shortening.specs.Shortening.{size_at, place_of, records_from, met_from, records_in}
use Rattle.shortening.proofs.Records.{record_lies, met_record, counted_record, met_fault, met_end, counted_end, place_next_lem, place_one, within_one, within_more, size_least}
use borrow.Author.Rules.{rules}
use Rattle.shortening.proofs.scan_from.Goals as goal

pub loop-at-init : goal.loop-at-init
unfolding records_in
loop-at-init c =
    let l = c.args.input.now in
    let p = c.requires in
    let fuel : length l + 1 - 1 ≡ length l = omega arith in (
      (λ j. met_from (fuel j) l (p.0 j)),
      ap (λ (k : ℕ). 1 + k) (λ j. records_from (fuel j) l (p.0 j)),
      p.0 ∙ sym (place_one l),
      omega (arith, p.0, size_least l 0),
      omega (arith, p.2),
      p.1,
      within_one l (omega (arith, p.0, p.1)),
      omega arith,
    )

pub returns-then-not-has_record : goal.returns-then-not-has_record
returns-then-not-has_record c =
    let l = c.args.input.now in
    let k = c.loop-at in
    let none = sym c.has_record.ensures ∙ c.if-not-has_record.true in
    sym k.invariant.0 ∙ met_fault l k.at (length l + 1 - k.count) (omega arith) c.loop-at-test.true none

pub size_at-at-requires : goal.size_at-at-requires
size_at-at-requires c =
    let l = c.args.input.now in
    let k = c.loop-at in
    let there = sym c.has_record.ensures ∙ c.if-not-has_record.false in
    let lies = record_lies l k.at there in
    omega (arith, lies.0, lies.1)

pub overflow_add-at : goal.overflow_add-at
overflow_add-at c =
    let l = c.args.input.now in
    let k = c.loop-at in
    let there = sym c.has_record.ensures ∙ c.if-not-has_record.false in
    let lies = record_lies l k.at there in
    let small : k.at + c.size_at-at.result ≤ length l = omega (arith, lies.0, c.size_at-at.ensures.0) in
    search (rules, small)

pub overflow_add-count : goal.overflow_add-count
overflow_add-count c =
    let l = c.args.input.now in
    let k = c.loop-at in
    let small : k.count + 1 ≤ length l = omega (arith, k.invariant.3, k.invariant.7, c.loop-at-test.true) in
    search (rules, small)

pub loop-at-smaller : goal.loop-at-smaller
loop-at-smaller c =
    let l = c.args.input.now in
    let k = c.loop-at in
    let there = sym c.has_record.ensures ∙ c.if-not-has_record.false in
    let lies = record_lies l k.at there in
    omega (arith, lies.0, lies.1, c.size_at-at.ensures.0)

pub loop-at-preserved : goal.loop-at-preserved
loop-at-preserved c =
    let l = c.args.input.now in
    let k = c.loop-at in
    let inside = c.loop-at-test.true in
    let there = sym c.has_record.ensures ∙ c.if-not-has_record.false in
    let lies = record_lies l k.at there in
    let size = c.size_at-at.ensures.0 in
    let f : ℕ = length l + 1 - k.count in
    let less : length l + 1 - (k.count + 1) ≡ f - 1 = omega arith in
    let next : k.at + c.size_at-at.result ≡ k.at + size_at l k.at = ap (λ (n : ℕ). k.at + n) size in
    let rest : records_from (length l + 1 - (k.count + 1)) l (k.at + c.size_at-at.result) ≡ records_from (f - 1) l (k.at + size_at l k.at) = λ j. records_from (less j) l (next j) in
    let place : k.at + c.size_at-at.result ≡ place_of (k.count + 1) l = next ∙ (λ j. k.invariant.2 j + size_at l (k.invariant.2 j)) ∙ sym (place_next_lem k.count l) in (
      (λ j. met_from (less j) l (next j)) ∙ sym (met_record l k.at f (omega arith) inside there) ∙ k.invariant.0,
      omega (arith, k.invariant.1, counted_record l k.at f (omega arith) inside there, rest),
      place,
      omega (arith, k.invariant.3, lies.1, size),
      omega (arith, k.invariant.4, lies.2, size),
      omega (arith, lies.0, size),
      within_more k.count l k.invariant.6 (omega (arith, place, lies.0, size)),
      omega arith,
    )

pub returns : goal.returns
returns c =
    let l = c.args.input.now in
    let k = c.loop-at in
    let past = c.loop-at-test.false in
    let end : k.at ≡ length l = omega (arith, k.invariant.5, past) in (
      sym k.invariant.0 ∙ met_end l k.at (length l + 1 - k.count) past,
      omega (arith, k.invariant.1, counted_end l k.at (length l + 1 - k.count) past),
      record { within = k.invariant.6; ends = sym k.invariant.2 ∙ end; short = omega (arith, k.invariant.4, end); some = k.invariant.7 },
    )
