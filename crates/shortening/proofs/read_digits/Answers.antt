use mathlib.Core.Path.{sym, ◌∙◌}
use Rattle.shortening.specs.Shortening.{digits_read}
use Rattle.shortening.proofs.Records.{digit_bounds, ascii_digit}
use borrow.Author.Rules.{rules}
use Rattle.shortening.proofs.read_digits.Goals as goal

pub returns-then-not-is_ascii_digit : goal.returns-then-not-is_ascii_digit
unfolding digits_read
returns-then-not-is_ascii_digit c = simp (← ascii_digit c.args.last, ← c.is_ascii_digit.ensures.value, c.if-not-is_ascii_digit.true)

pub overflow_sub-result : goal.overflow_sub-result
overflow_sub-result c =
    let last = digit_bounds c.args.last (sym (c.is_ascii_digit.ensures.value ∙ ascii_digit c.args.last) ∙ c.if-not-is_ascii_digit.false) in
    let low = last.0 in
    search (rules, low)

pub returns-then-not-is_ascii_digit-2 : goal.returns-then-not-is_ascii_digit-2
unfolding digits_read
returns-then-not-is_ascii_digit-2 c = simp (← ascii_digit c.args.last, ← c.is_ascii_digit.ensures.value, c.if-not-is_ascii_digit.false, ← ascii_digit c.args.before, ← c.is_ascii_digit-2.ensures.value, c.if-not-is_ascii_digit-2.true)

pub overflow_sub-result-2 : goal.overflow_sub-result-2
overflow_sub-result-2 c =
    let first = digit_bounds c.args.before (sym (c.is_ascii_digit-2.ensures.value ∙ ascii_digit c.args.before) ∙ c.if-not-is_ascii_digit-2.false) in
    let low = first.0 in
    search (rules, low)

pub overflow_mul-result : goal.overflow_mul-result
overflow_mul-result c =
    let first = digit_bounds c.args.before (sym (c.is_ascii_digit-2.ensures.value ∙ ascii_digit c.args.before) ∙ c.if-not-is_ascii_digit-2.false) in
    let high = first.1 in
    search (rules, high)

pub overflow_sub-result-3 : goal.overflow_sub-result-3
overflow_sub-result-3 c =
    let last = digit_bounds c.args.last (sym (c.is_ascii_digit.ensures.value ∙ ascii_digit c.args.last) ∙ c.if-not-is_ascii_digit.false) in
    let low = last.0 in
    search (rules, low)

pub overflow_add-result : goal.overflow_add-result
overflow_add-result c =
    let first = digit_bounds c.args.before (sym (c.is_ascii_digit-2.ensures.value ∙ ascii_digit c.args.before) ∙ c.if-not-is_ascii_digit-2.false) in
    let last = digit_bounds c.args.last (sym (c.is_ascii_digit.ensures.value ∙ ascii_digit c.args.last) ∙ c.if-not-is_ascii_digit.false) in
    let high = first.1 in
    let top = last.1 in
    search (rules, high, top)

pub returns : goal.returns
unfolding digits_read
returns c = simp (← ascii_digit c.args.last, ← c.is_ascii_digit.ensures.value, c.if-not-is_ascii_digit.false, ← ascii_digit c.args.before, ← c.is_ascii_digit-2.ensures.value, c.if-not-is_ascii_digit-2.false)
