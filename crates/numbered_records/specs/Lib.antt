-- Records from numbers: what the exported writers take and give.
use Rattle.std.specs.Prelude.{Bool, false, cond, not, List, ℕ, ◌+◌, ◌%◌, eqb, leb, length, get_or, Result, Err}
use Rattle.limits.specs as limits
use Rattle.contexts.specs.declared.Objects.{Objects}
use Rattle.protocol.specs.declared.Refusal.TheVariants.{Format}
use Rattle.protocol.specs.declared.Setup.TheVariants.{Missing, Chain, Quorum}
use Rattle.protocol.specs.declared.Step.{Step}
use Rattle.protocol.specs.declared.Step.TheVariants.{Start, BeginRead, BeginWrite, Deliver, Lose, Repeat, Advance, Replace, Tell, Remove, GiveUp, BeginContext, Join, Copy, Execute}
use Rattle.protocol.specs.Answers.{refusal_number}
use Rattle.records.specs.declared.WriteError.{WriteError}
use Rattle.records.specs.declared.WriteError.TheVariants.{NoRecord}
use Rattle.records.specs.Records.{kind_of_tag, context_kind, no_step, content_length, written_at, buffer_after, written_refusal}

-- the largest first and second number of each kind of step: what its fields hold
unfoldable pub largest_first : ℕ → ℕ
largest_first k =
    cond (eqb k 0) 255
    (cond (eqb k 6) 255
    (cond (eqb k 8) 255
    (cond (eqb k 9) 255
    (cond (eqb k 10) limits.last_operation (cond (eqb k 12) 0 (cond (eqb k 13) 0 (cond (eqb k 14) 0 (cond (eqb k 15) 255 65535))))))))

unfoldable pub largest_second : ℕ → ℕ
largest_second k = cond (eqb k 2) 4294967295 (cond (eqb k 3) 255 0)

-- the record of this kind has at most two numbers
unfoldable pub has_numbers : ℕ → Bool
has_numbers k = cond (eqb k context_kind) false (not (eqb k no_step))

-- the tag is that of such a record, and the numbers fit its fields
unfoldable pub is_record : ℕ → ℕ → ℕ → Bool
is_record tag a b =
    cond (has_numbers (kind_of_tag tag)) (cond (leb a (largest_first (kind_of_tag tag))) (leb b (largest_second (kind_of_tag tag))) false) false

-- the step of a kind with these numbers
unfoldable pub step_from : ℕ → ℕ → ℕ → Step
step_from k a b =
    cond (eqb k 0) (Start (Chain (a % 256)))
    (cond (eqb k 1) (BeginRead (a % 65536))
    (cond (eqb k 2) (BeginWrite (a % 65536) b)
    (cond (eqb k 3) (Deliver (a % 65536) (b % 256))
    (cond (eqb k 4) (Lose (a % 65536))
    (cond (eqb k 5) (Repeat (a % 65536))
    (cond (eqb k 6) (Advance (a % 256))
    (cond (eqb k 7) (Replace (a % 65536))
    (cond (eqb k 8) (Tell (a % 256))
    (cond (eqb k 9) (Remove (a % 256))
    (cond (eqb k 10) (GiveUp a)
    (cond (eqb k 12) Join
    (cond (eqb k 13) Copy (cond (eqb k 14) Execute (cond (eqb k 15) (Start (Quorum (a % 256))) (Start Missing)))))))))))))))

-- what the writer of a record answers: how many bytes it has, or why it is not written
unfoldable pub record_written : List ℕ → ℕ → ℕ → ℕ → Result ℕ WriteError
record_written buf tag a b = cond (is_record tag a b) (written_at buf 0 (step_from (kind_of_tag tag) a b)) (Err NoRecord)

-- refusal 1 where there is no such record, 15 where the buffer is too short, 0 where it is written
unfoldable pub record_refusal : List ℕ → ℕ → ℕ → ℕ → ℕ
record_refusal buf tag a b = cond (is_record tag a b) (written_refusal (written_at buf 0 (step_from (kind_of_tag tag) a b))) (refusal_number Format)

unfoldable pub record_buffer : List ℕ → ℕ → ℕ → ℕ → List ℕ
record_buffer buf tag a b = cond (is_record tag a b) (buffer_after buf 0 (step_from (kind_of_tag tag) a b)) buf

-- how long the record of a tag is, 0 for an unknown one, and for a read of a whole context, which has no fixed length
unfoldable pub record_size : ℕ → ℕ
record_size tag = cond (has_numbers (kind_of_tag tag)) (3 + content_length (kind_of_tag tag)) 0

-- the objects of a lent list of at most eight
unfoldable pub objects_from : List ℕ → Objects
objects_from xs = record {
  count = length xs;
  first = get_or xs 0 0;
  second = get_or xs 1 0;
  third = get_or xs 2 0;
  fourth = get_or xs 3 0;
  fifth = get_or xs 4 0;
  sixth = get_or xs 5 0;
  seventh = get_or xs 6 0;
  eighth = get_or xs 7 0;
}

-- what the writer of a read of a whole context answers
unfoldable pub context_written : List ℕ → List ℕ → Result ℕ WriteError
context_written buf xs = cond (leb (length xs) limits.context_most) (written_at buf 0 (BeginContext (objects_from xs))) (Err NoRecord)

-- Req 02: 'another number of objects .. is refusal 1, before .. 15'
unfoldable pub context_refusal : List ℕ → List ℕ → ℕ
context_refusal buf xs = cond (leb (length xs) limits.context_most) (written_refusal (written_at buf 0 (BeginContext (objects_from xs)))) (refusal_number Format)

unfoldable pub context_buffer : List ℕ → List ℕ → List ℕ
context_buffer buf xs = cond (leb (length xs) limits.context_most) (buffer_after buf 0 (BeginContext (objects_from xs))) buf
