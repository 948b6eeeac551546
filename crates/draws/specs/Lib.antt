-- Document 02, Req 08, 'Runs drawn from a seed': the steps that a seed draws, as bytes, and what the writer of them answers.
use Rattle.std.specs.Prelude.{◌≡◌, Bool, true, cond, List, [], ◌∷◌, ◌++◌, ℕ, zero, suc, ◌+◌, ◌*◌, ◌/◌, ◌%◌, eqb, leb, ltb, ℤ, pos, neg_ℤ, length, drop, Some, None, Result, Ok, Err}
use Rattle.draws.specs.declared.DrawError.{DrawError}
use Rattle.protocol.specs.declared.Refusal.TheVariants.{Replicas, BufferTooShort}
use Rattle.protocol.specs.declared.Setup.TheVariants.{Missing, Chain}
use Rattle.protocol.specs.declared.Step.{Step}
use Rattle.protocol.specs.declared.Step.TheVariants.{Start, BeginRead, BeginWrite, Deliver, Lose, Repeat, Advance, Replace, Tell, Remove, GiveUp}
use Rattle.protocol.specs.Answers.{refusal_number}
use Rattle.protocol.specs.Starts.{start_refused}
use Rattle.records.specs.Records.{record_of, read_to, next_at}

-- ---- draws

-- 'each draw is (seed times 1,664,525 plus 1,013,904,223) mod 2^32, which is also the next seed'
unfoldable pub drawn : ℕ → ℕ
drawn seed = (seed * 1664525 + 1013904223) % 4294967296

-- 'its upper 16 bits, u, are used'
unfoldable pub upper_of : ℕ → ℕ
upper_of draw = draw / 65536

-- 'one draw gives tag (u mod 10) + 1': the kinds of those records have their tags' numbers
unfoldable pub kind_from : ℕ → ℕ
kind_from draw = upper_of draw % 10 + 1

-- 'object u mod 1,024, position u mod 64, choice u mod 256, replica (u mod 8) + 1, all others u': the step of a kind, from what is drawn for its fields
unfoldable pub step_from : ℕ → ℕ → ℕ → Step
step_from k a b =
    cond (eqb k 1) (BeginRead (a % 1024))
    (cond (eqb k 2) (BeginWrite (a % 1024) b)
    (cond (eqb k 3) (Deliver (a % 64) (b % 256))
    (cond (eqb k 4) (Lose (a % 64))
    (cond (eqb k 5) (Repeat (a % 64))
    (cond (eqb k 6) (Advance (a % 8 + 1))
    (cond (eqb k 7) (Replace a) (cond (eqb k 8) (Tell (a % 8 + 1)) (cond (eqb k 9) (Remove (a % 8 + 1)) (cond (eqb k 10) (GiveUp a) (Start Missing))))))))))

-- a write and a deliver have two fields, every other of these steps has one
unfoldable pub has_two : ℕ → Bool
has_two k = cond (eqb k 2) true (eqb k 3)

-- 'one draw gives tag .., then one draw a field in written order': the step that is drawn next, and the seed after it
unfoldable pub step_drawn : ℕ → Step
step_drawn seed = step_from (kind_from (drawn seed)) (upper_of (drawn (drawn seed))) (upper_of (drawn (drawn (drawn seed))))

unfoldable pub seed_after : ℕ → ℕ
seed_after seed = cond (has_two (kind_from (drawn seed))) (drawn (drawn (drawn seed))) (drawn (drawn seed))

-- ---- runs

-- so many steps
unfoldable pub steps_drawn : ℕ → ℕ → List Step
steps_drawn zero seed = []
steps_drawn (suc k) seed = step_drawn seed ∷ steps_drawn k (seed_after seed)

-- the records of these steps, one after the other
unfoldable pub records_of : List Step → List ℕ
records_of [] = []
records_of (s ∷ ss) = record_of s ++ records_of ss

-- 'After the start record': the run that a seed draws, and its bytes; 0 steps give the start alone
abbrev pub run_drawn : ℕ → ℕ → ℕ → List Step
run_drawn seed n steps = Start (Chain n) ∷ steps_drawn steps seed

unfoldable pub bytes_drawn : ℕ → ℕ → ℕ → List ℕ
bytes_drawn seed n steps = records_of (run_drawn seed n steps)

-- ---- the answer

-- the most steps of a drawn run, and the refusal of more
abbrev pub most_steps : ℕ
most_steps = 7000

abbrev pub too_many_steps : ℕ
too_many_steps = 20

-- 'Refused: 2 as before, then 20 above 7,000 steps, then 15 for the whole run', which is found too long before a byte is written; 0 for none
unfoldable pub draw_refusal : ℕ → ℕ → ℕ → ℕ → ℕ
draw_refusal room seed n steps =
    cond (start_refused (Chain n)) (refusal_number Replicas)
    (cond (ltb most_steps steps) too_many_steps (cond (leb (length (bytes_drawn seed n steps)) room) 0 (refusal_number BufferTooShort)))

-- 'their number is returned': the length, or minus the refusal
unfoldable pub draw_answer : ℕ → ℕ → ℕ → ℕ → ℤ
draw_answer room seed n steps =
    cond (eqb (draw_refusal room seed n steps) 0) (pos (length (bytes_drawn seed n steps))) (neg_ℤ (pos (draw_refusal room seed n steps)))

-- the number of an error, and the number that is returned for a length or an error
abbrev pub error_number : DrawError → ℕ
error_number DrawError.Replicas = refusal_number Replicas
error_number DrawError.Steps = too_many_steps
error_number DrawError.BufferTooShort = refusal_number BufferTooShort

abbrev pub answer_number : Result ℕ DrawError → ℤ
answer_number (Ok size) = pos size
answer_number (Err e) = neg_ℤ (pos (error_number e))

-- 'The bytes go into a lent buffer', and bytes beyond stay as they were
unfoldable pub draw_buffer : List ℕ → ℕ → ℕ → ℕ → List ℕ
draw_buffer buf seed n steps =
    cond (eqb (draw_refusal (length buf) seed n steps) 0) (bytes_drawn seed n steps ++ drop (length (bytes_drawn seed n steps)) buf) buf

-- ---- reading them back

-- what a run reads in l from a position on: these steps, one after the other, and then the end
abbrev pub ReadsAs : List ℕ → ℕ → List Step → Type 0
ReadsAs l at [] = next_at l at ≡ Ok None
ReadsAs l at (s ∷ ss) = (next_at l at ≡ Ok (Some (read_to s (at + length (record_of s))))) × ReadsAs l (at + length (record_of s)) ss
