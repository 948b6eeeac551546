-- Document 02, Req 09, 'A shorter run that is still turned down': which records are kept, and what the writer of them answers.
use Rattle.std.specs.Prelude.{Bool, true, false, cond, List, [], ◌++◌, ℕ, zero, suc, ◌+◌, ◌-◌, ◌*◌, eqb, leb, ltb, ℤ, pos, neg_ℤ, length, get_or, set, take, drop, replicate, Option, Some, None, Result, Ok, Err}
use Rattle.limits.specs as limits
use Rattle.protocol.specs.declared.Refusal.TheVariants.{Format, Replicas, InputTooLong, BufferTooShort}
use Rattle.protocol.specs.Answers.{refusal_number}
use Rattle.protocol.specs.Starts.{setup_of, start_refused}
use Rattle.records.specs.declared.Malformed.{Malformed}
use Rattle.records.specs.declared.Record.{Record}
use Rattle.records.specs.Records.{two_at, next_at}
use Rattle.runs.specs.Runs.{printed}
use Rattle.shortening.specs.declared.ShortenError.{ShortenError}

-- ---- the records of the input

-- how many bytes the record at a position has, by its own length
unfoldable pub size_at : List ℕ → ℕ → ℕ
size_at l at = 3 + two_at l (at + 1)

-- where record i begins, counted from 0
unfoldable pub place_of : ℕ → List ℕ → ℕ
place_of zero l = 0
place_of (suc i) l = place_of i l + size_at l (place_of i l)

-- a run reads a record there
abbrev pub is_record : Result (Option Record) Malformed → Bool
is_record (Ok (Some r)) = true
is_record (Ok None) = false
is_record (Err e) = false

-- the records from a position on that a run reads, at most so many
unfoldable pub records_from : ℕ → List ℕ → ℕ → ℕ
records_from zero l at = 0
records_from (suc f) l at = cond (leb (length l) at) 0 (cond (is_record (next_at l at)) (1 + records_from f l (at + size_at l at)) 0)

-- the refusal that it meets there: 1 for what is malformed, 0 for none
unfoldable pub met_from : ℕ → List ℕ → ℕ → ℕ
met_from zero l at = 0
met_from (suc f) l at = cond (leb (length l) at) 0 (cond (is_record (next_at l at)) (met_from f l (at + size_at l at)) (refusal_number Format))

-- 'Before these come 14, then 1 or 2, as the run meets them'
abbrev pub met_first : List ℕ → Result (Option Record) Malformed → ℕ
met_first l (Ok (Some r)) = cond (start_refused (setup_of r.step)) (refusal_number Replicas) (met_from (length l) l (size_at l 0))
met_first l (Ok None) = refusal_number Format
met_first l (Err e) = refusal_number Format

unfoldable pub met : List ℕ → ℕ
met l = cond (ltb limits.input (length l)) (refusal_number InputTooLong) (met_first l (next_at l 0))

-- how many records there are, the start counted, in an input that meets none
unfoldable pub records_in : List ℕ → ℕ
records_in l = 1 + records_from (length l) l (size_at l 0)

-- ---- the refusal of the last record

-- the byte is a digit
unfoldable pub is_digit : ℕ → Bool
is_digit b = cond (ltb b 48) false (ltb b 58)

-- the number that two bytes show, the last one or both being digits, or 0
unfoldable pub digits_read : ℕ → ℕ → ℕ
digits_read before last = cond (is_digit last) (cond (is_digit before) ((before - 48) * 10 + (last - 48)) (last - 48)) 0

-- the number that the last printed line ends with, which has at most two digits, or 0: only the line of a refusal ends with a digit
unfoldable pub refusal_read : List ℕ → ℕ
refusal_read out = cond (ltb (length out) 3) 0 (digits_read (get_or out (length out - 3) 0) (get_or out (length out - 2) 0))

-- the refusal of the last record of a run, 0 where it is not refused
abbrev pub refusal_of : List ℕ → ℕ
refusal_of l = refusal_read (printed l)

-- ---- what is kept

-- the first i records, without those whose flag is 0
unfoldable pub kept_to : ℕ → List ℕ → List ℕ → List ℕ
kept_to zero l flags = []
kept_to (suc i) l flags = kept_to i l flags ++ cond (eqb (get_or flags i 0) 0) [] (take (size_at l (place_of i l)) (drop (place_of i l) l))

-- 'the last is refused with the same number'
unfoldable pub is_same : List ℕ → ℕ → ℕ → List ℕ → Bool
is_same l count k flags = eqb (refusal_of (kept_to count l flags)) k

-- whether record i can be dropped: it is kept so far, and without it the number is the same
unfoldable pub drops : List ℕ → ℕ → ℕ → List ℕ → ℕ → Bool
drops l count k flags i = cond (eqb (get_or flags i 0) 0) false (is_same l count k (set flags i 0))

-- 'a drop that leaves the number stands at once'
unfoldable pub tried : List ℕ → ℕ → ℕ → List ℕ → ℕ → List ℕ
tried l count k flags i = cond (drops l count k flags i) (set flags i 0) flags

-- 'Try to drop those between one at a time, from the last towards the first': a pass over records i down to 1, and how many it drops
unfoldable pub passed : List ℕ → ℕ → ℕ → ℕ → List ℕ → List ℕ
passed l count k zero flags = flags
passed l count k (suc i) flags = passed l count k i (tried l count k flags (suc i))

unfoldable pub dropped : List ℕ → ℕ → ℕ → ℕ → List ℕ → ℕ
dropped l count k zero flags = 0
dropped l count k (suc i) flags = cond (drops l count k flags (suc i)) 1 0 + dropped l count k i (tried l count k flags (suc i))

-- 'Go round until a whole pass drops none': at most so many passes
unfoldable pub rounds : ℕ → List ℕ → ℕ → ℕ → List ℕ → List ℕ
rounds zero l count k flags = flags
rounds (suc f) l count k flags =
    cond (eqb (dropped l count k (count - 2) flags) 0) (passed l count k (count - 2) flags) (rounds f l count k (passed l count k (count - 2) flags))

-- the most records of an input that is shortened, and the refusals of more and of a last record that its step does not refuse
abbrev pub most_records : ℕ
most_records = 512

abbrev pub too_many_records : ℕ
too_many_records = 22

abbrev pub not_refused : ℕ
not_refused = 21

-- 'keep the start, the last and some between': at first all
unfoldable pub flags_of : List ℕ → List ℕ
flags_of l = rounds most_records l (records_in l) (refusal_of l) (replicate most_records 1)

unfoldable pub shortened : List ℕ → List ℕ
shortened l = kept_to (records_in l) l (flags_of l)

-- ---- the answer

-- 'Refused: .. 21 if the last record is not refused by 3 to 13, 16 to 19 or a number that a later request gives to a step, and 15 last'; 0 for none
unfoldable pub kept_refusal : ℕ → List ℕ → ℕ
kept_refusal room l = cond (eqb (refusal_of l) 0) not_refused (cond (leb (length (shortened l)) room) 0 (refusal_number BufferTooShort))

-- '22 above 512 records', before these; and before it what the run meets
unfoldable pub shorten_refusal : ℕ → List ℕ → ℕ
shorten_refusal room l = cond (eqb (met l) 0) (cond (ltb most_records (records_in l)) too_many_records (kept_refusal room l)) (met l)

-- the length, or minus the refusal
unfoldable pub signed : ℕ → ℕ → ℤ
signed refusal size = cond (eqb refusal 0) (pos size) (neg_ℤ (pos refusal))

-- the number of an error, and the number that is returned for a length or an error
abbrev pub error_number : ShortenError → ℕ
error_number ShortenError.Malformed = refusal_number Format
error_number ShortenError.Replicas = refusal_number Replicas
error_number ShortenError.InputTooLong = refusal_number InputTooLong
error_number ShortenError.TooManyRecords = too_many_records
error_number ShortenError.NotRefused = not_refused
error_number ShortenError.BufferTooShort = refusal_number BufferTooShort

abbrev pub answer_number : Result ℕ ShortenError → ℤ
answer_number (Ok size) = pos size
answer_number (Err e) = neg_ℤ (pos (error_number e))

unfoldable pub shorten_answer : ℕ → List ℕ → ℤ
shorten_answer room l = signed (shorten_refusal room l) (length (shortened l))

-- 'The kept records go unchanged into a lent buffer', and bytes beyond stay as they were; none changes where it is turned down
unfoldable pub handed : List ℕ → ℕ → List ℕ → List ℕ
handed buf refusal bytes = cond (eqb refusal 0) (bytes ++ drop (length bytes) buf) buf

unfoldable pub shorten_buffer : List ℕ → List ℕ → List ℕ
shorten_buffer buf l = handed buf (shorten_refusal (length buf) l) (shortened l)
