-- How long the output is: 3,276,800 bytes are room for that of any input. And that a buffer with room holds all of it.
use mathlib.Core.Path.{◌≡◌, refl, ap, ◌∙◌}
use mathlib.Core.Logic.{inl, inr}
use mathlib.Core.Bool.{Bool, true, false}
use mathlib.Core.List.{List, [], ◌∷◌, ◌++◌, append-nil}
use Prim.Native.Nat.{ℕ, zero, suc, ◌+◌, ◌-◌, ◌*◌, ◌≤◌}
use native.Mathlib.Omega.{arith}
use lib.Dec.{ltb}
use lib.ListN.{length, take, length-append}
use borrow.Author.Tests.{ltb-false, le-leb, le-ltb}
use Rattle.limits.specs as limits
use Rattle.lists.proofs.Tests.{both}
use Rattle.protocol.specs.declared.Refusal.TheVariants.{InputTooLong}
use Rattle.protocol.specs.Answers.{refusal_number}
use Rattle.protocol.specs.Steps.{Machine}
use Rattle.std.specs.Prelude.{Option, Some, None, Result, Ok, Err}
use Rattle.records.specs.declared.Malformed.{Malformed}
use Rattle.records.specs.declared.Record.{Record}
use Rattle.records.specs.Records.{next_at}
use Rattle.line_lengths.specs.Lines.{no_line}
use Rattle.line_lengths.proofs.Laws.{longest, refusal_length, answer_length}
use Rattle.lines.specs.Text.{pasted}
use Rattle.lines.proofs.Text.{length_pasted, take_pasted}
use Rattle.turns.specs.Turns.{Standing, Printed, continued, read_next, next_printed, stopped, started_with, first_read, first_printed}
use Rattle.runs.specs.Runs.{lines_from, joined, lines_on, lines_of, untouched, printed, fitting, holding}
use Rattle.runs.proofs.Ends.{over_prints, read_ahead, read_ahead_first}

-- no line has more than `longest` bytes
line_short : (u : Standing) (f : Result (Option Record) Malformed) → length (continued u f).line ≤ longest
line_short u (Ok (Some r)) = answer_length _ _ _ _
line_short u (Ok None) = omega arith
line_short u (Err x) = refusal_length _ _

pub next_short : (input : List ℕ) (u : Standing) → length (next_printed input u).line ≤ longest
unfolding next_printed
next_short input u = line_short u (read_next input u.over u.at)

first_short : (m : Machine) (f : Result (Option Record) Malformed) → length (first_read m f).line ≤ longest
unfolding stopped started_with
first_short m (Ok (Some r)) = answer_length _ _ _ _
first_short m (Ok None) = refusal_length _ _
first_short m (Err x) = refusal_length _ _

pub begins_short : (m : Machine) (input : List ℕ) → length (first_printed m input).line ≤ longest
unfolding first_printed stopped
begins_short m input = both (λ (p : Printed). length p.line ≤ longest) (ltb limits.input (length input)) (refusal_length _ _) (first_short m (next_at input 0))

-- each record of the input is at least three bytes long, and the line of a malformed one is the last
lines_short : (k : ℕ) (input : List ℕ) (u : Standing) → u.at ≤ length input → 3 * length (joined (lines_from k input u)) ≤ longest * (length input - u.at) + 3 * longest
unfolding lines_from joined next_printed
lines_short zero input u within = omega arith
lines_short (suc k) input u within = go (read_next input u.over u.at) refl (lines_short k input)
  where
    go : (f : Result (Option Record) Malformed) → read_next input u.over u.at ≡ f
        → ((v : Standing) → v.at ≤ length input → 3 * length (joined (lines_from k input v)) ≤ longest * (length input - v.at) + 3 * longest)
        → 3 * length ((continued u f).line ++ joined (lines_from k input (continued u f).then)) ≤ longest * (length input - u.at) + 3 * longest
    go (Ok (Some r)) e later =
        let p = read_ahead input u.over u.at r.end r.step e in
        omega (arith, length-append (continued u (Ok (Some r))).line (joined (lines_from k input (continued u (Ok (Some r))).then)), line_short u (Ok (Some r)), later (continued u (Ok (Some r))).then p.1, p.0, p.1)
    go (Ok None) e later = rw (over_prints k input (continued u (Ok None)).then refl) (omega arith)
    go (Err x) e later =
        rw (over_prints k input (continued u (Err x)).then refl, append-nil (continued u (Err x)).line)
        (omega (arith, line_short u (Err x)))

-- how long the output of an input is at the most
pub printed_within : (input : List ℕ) → length input ≤ limits.input → length (printed input) ≤ 49 * length input + 294
unfolding printed lines_on joined first_printed
printed_within input small =
    let first = first_read untouched (next_at input 0) in
    rw (le-ltb limits.input (length input) small)
    (elim (read_ahead_first untouched input (next_at input 0) refl) [
      | inl o ↦ rw (over_prints (length input) input first.then o) (simp length-append (omega (arith, first_short untouched (next_at input 0))))
      | inr p ↦ omega (arith, length-append first.line (joined (lines_from (length input) input first.then)), first_short untouched (next_at input 0), lines_short (length input) input first.then p.1)
    ])

-- 3,276,800 BYTES ARE ROOM FOR THE OUTPUT OF ANY INPUT
pub printed_short : (input : List ℕ) → length (printed input) ≤ 3276800
unfolding printed lines_on joined first_printed stopped
printed_short input = go (ltb limits.input (length input)) refl
  where
    go : (t : Bool) → ltb limits.input (length input) ≡ t → length (printed input) ≤ 3276800
    go true e = rw e (rw (over_prints (length input) input (stopped untouched (no_line 0 (refusal_number InputTooLong))).then refl) (simp length-append (omega (arith, refusal_length 0 (refusal_number InputTooLong)))))
    go false e = omega (arith, printed_within input (ltb-false limits.input (length input) e), ltb-false limits.input (length input) e)

-- ---- a buffer with room holds all of it

fitting_all : (room used : ℕ) (ls : List (List ℕ)) → used + length (joined ls) ≤ room → fitting room used ls ≡ ls
unfolding fitting joined
fitting_all room used [] h = refl
fitting_all room used (l ∷ ls) h =
    let more : length (l ++ joined ls) ≡ length l + length (joined ls) = length-append l (joined ls) in
    rw (le-leb (used + length l) room (omega arith)) (ap (λ (k : List (List ℕ)). l ∷ k) (fitting_all room (used + length l) ls (omega arith)))

module _ (out input : List ℕ) (room : length (printed input) ≤ length out) where
  holding_all : holding out (lines_of input) ≡ pasted out 0 (printed input)
  unfolding holding printed
  holding_all = ap (λ (ls : List (List ℕ)). pasted out 0 (joined ls)) (fitting_all (length out) 0 (lines_of input) (omega arith))

  pub whole_output : take (length (printed input)) (holding out (lines_of input)) ≡ printed input
  whole_output =
      let none : length (printed input) ≡ 0 + length (printed input) = omega arith in
      (λ j. take (none j) (holding_all j)) ∙ take_pasted out 0 (printed input) (omega arith)

  pub whole_length : length (holding out (lines_of input)) ≡ length out
  whole_length = ap length holding_all ∙ length_pasted out 0 (printed input) (omega arith)
