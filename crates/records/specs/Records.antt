-- The records of document 01, 'Steps and their records': a step as a list of bytes, what is read at a position, and what a writer leaves in its buffer.
use Rattle.std.specs.Prelude.{Bool, true, false, cond, not, List, [], ◌∷◌, ◌++◌, ℕ, ◌+◌, ◌*◌, ◌/◌, ◌%◌, ◌<◌, leb, eqb, length, get_or, take, drop, Option, Some, None, Result, Ok, Err}
use Rattle.contexts.specs.declared.Objects.{Objects}
use Rattle.contexts.specs.{is_count, is_naming}
use Rattle.protocol.specs.Answers.{refusal_number}
use Rattle.protocol.specs.declared.Refusal.{Refusal}
use Rattle.protocol.specs.declared.Setup.{Setup}
use Rattle.protocol.specs.declared.Setup.TheVariants.{Missing, Chain, Quorum}
use Rattle.protocol.specs.declared.Step.{Step}
use Rattle.protocol.specs.declared.Step.TheVariants.{Start, BeginRead, BeginWrite, Deliver, Lose, Repeat, Advance, Replace, Tell, Remove, GiveUp, BeginContext, Join, Copy, Execute}
use Rattle.records.specs.declared.Malformed.{Malformed}
use Rattle.records.specs.declared.Record.{Record}
use Rattle.records.specs.declared.WriteError.{WriteError}
use Rattle.records.specs.declared.WriteError.TheVariants.{TooShort, NoRecord}

-- ---- numbers: 'bytes of a number go highest first'

-- a number of two bytes, and one of four
unfoldable pub two_bytes : ℕ → List ℕ
two_bytes a = a / 256 ∷ a % 256 ∷ []

unfoldable pub four_bytes : ℕ → List ℕ
four_bytes a = two_bytes (a / 65536) ++ two_bytes (a % 65536)

-- the byte at a position, 0 past the end
abbrev pub byte_at : List ℕ → ℕ → ℕ
byte_at l i = get_or l i 0

-- the number of two bytes at a position, and of four
unfoldable pub two_at : List ℕ → ℕ → ℕ
two_at l i = byte_at l i * 256 + byte_at l (i + 1)

unfoldable pub four_at : List ℕ → ℕ → ℕ
four_at l i = two_at l i * 65536 + two_at l (i + 2)

-- ---- the kinds of step: 0 is the start of a chain, and 1 to 14 have their tags' numbers

-- Req 02: a read of a whole context
abbrev pub context_kind : ℕ
context_kind = 11

-- giving up an operation
abbrev pub give_up_kind : ℕ
give_up_kind = 10

-- Req 11: the start of a quorum store
abbrev pub quorum_kind : ℕ
quorum_kind = 15

-- stands for no step
abbrev pub no_step : ℕ
no_step = 16

-- the column 'Tag', read: a tag that is not in it is unknown
unfoldable pub kind_of_tag : ℕ → ℕ
kind_of_tag t = cond (eqb t 32) 0 (cond (eqb t 33) quorum_kind (cond (leb 1 t) (cond (leb t 14) t no_step) no_step))

-- the column 'Tag', written
unfoldable pub tag_of : ℕ → ℕ
tag_of k = cond (eqb k quorum_kind) 33 (cond (leb 1 k) (cond (leb k 14) k 32) 32)

-- the column 'Length', as it is written; that of a read of a whole context stands below, and Req 04's two and Req 11's tag 14 have none. Req 07: 'Tag 10 is written with length 4'
abbrev pub lengths : List ℕ
lengths = 1 ∷ 2 ∷ 6 ∷ 3 ∷ 2 ∷ 2 ∷ 1 ∷ 2 ∷ 1 ∷ 1 ∷ 4 ∷ 0 ∷ 0 ∷ 0 ∷ 0 ∷ 1 ∷ []

unfoldable pub content_length : ℕ → ℕ
content_length k = get_or lengths k 0

-- Req 02: 'a read of 2 to 8 objects, two bytes each; another length .. is refusal 1'
unfoldable pub is_context_length : ℕ → Bool
is_context_length n = cond (eqb (n % 2) 0) (is_count (n / 2)) false

-- Req 07: 'Files with length 2 are still read': the second length of tag 10, which is never written
unfoldable pub is_short_give_up : ℕ → ℕ → Bool
is_short_give_up k n = cond (eqb k give_up_kind) (eqb n 2) false

-- the content of a record of this kind can have this length
unfoldable pub is_length : ℕ → ℕ → Bool
is_length k n = cond (eqb k context_kind) (is_context_length n) (cond (is_short_give_up k n) true (eqb n (content_length k)))

-- the kind of a start; where none is set up it has no record
abbrev pub setup_kind : Setup → ℕ
setup_kind Missing = no_step
setup_kind (Chain n) = 0
setup_kind (Quorum n) = quorum_kind

-- the kind of each step
abbrev pub kind_of : Step → ℕ
kind_of (Start b) = setup_kind b
kind_of (BeginRead object) = 1
kind_of (BeginWrite object value) = 2
kind_of (Deliver position choice) = 3
kind_of (Lose position) = 4
kind_of (Repeat position) = 5
kind_of (Advance replica) = 6
kind_of (Replace number) = 7
kind_of (Tell replica) = 8
kind_of (Remove replica) = 9
kind_of (GiveUp operation) = give_up_kind
kind_of (BeginContext objects) = context_kind
kind_of Join = 12
kind_of Copy = 13
kind_of Execute = 14

-- ---- a step as bytes

-- two bytes for each of the eight places
abbrev pub place_bytes : Objects → List ℕ
place_bytes x =
    two_bytes x.first ++ two_bytes x.second ++ two_bytes x.third ++ two_bytes x.fourth ++
    two_bytes x.fifth ++ two_bytes x.sixth ++ two_bytes x.seventh ++ two_bytes x.eighth

-- Req 02: the objects that are read, 'two bytes each'
unfoldable pub object_bytes : Objects → List ℕ
object_bytes x = take (2 * x.count) (place_bytes x)

-- the column 'Content and effect': what stands in the content
abbrev pub setup_content : Setup → List ℕ
setup_content Missing = []
setup_content (Chain n) = n ∷ []
setup_content (Quorum n) = n ∷ []

abbrev pub content_of : Step → List ℕ
content_of (Start b) = setup_content b
content_of (BeginRead object) = two_bytes object
content_of (BeginWrite object value) = two_bytes object ++ four_bytes value
content_of (Deliver position choice) = two_bytes position ++ choice ∷ []
content_of (Lose position) = two_bytes position
content_of (Repeat position) = two_bytes position
content_of (Advance replica) = replica ∷ []
content_of (Replace number) = two_bytes number
content_of (Tell replica) = replica ∷ []
content_of (Remove replica) = replica ∷ []
content_of (GiveUp operation) = four_bytes operation
content_of (BeginContext x) = object_bytes x
content_of Join = []
content_of Copy = []
content_of Execute = []

-- 'a one-byte tag, a two-byte length'
unfoldable pub header_of : ℕ → ℕ → List ℕ
header_of k n = tag_of k ∷ two_bytes n

-- 'A record is a one-byte tag, a two-byte length, the content.'
unfoldable pub record_of : Step → List ℕ
record_of s = header_of (kind_of s) (length (content_of s)) ++ content_of s

-- ---- bytes as a step

-- the objects that a content names: nothing stands behind the last
unfoldable pub objects_in : List ℕ → Objects
objects_in c = record {
  count = length c / 2;
  first = two_at c 0;
  second = two_at c 2;
  third = two_at c 4;
  fourth = two_at c 6;
  fifth = two_at c 8;
  sixth = two_at c 10;
  seventh = two_at c 12;
  eighth = two_at c 14;
}

-- Req 07: the operation to give up, in two bytes or in four: 'mean the same number'
unfoldable pub operation_in : List ℕ → ℕ
operation_in c = cond (is_short_give_up give_up_kind (length c)) (two_at c 0) (four_at c 0)

-- the step of a kind with this content
unfoldable pub step_of : ℕ → List ℕ → Step
step_of k c =
    cond (eqb k 0) (Start (Chain (byte_at c 0)))
    (cond (eqb k 1) (BeginRead (two_at c 0))
    (cond (eqb k 2) (BeginWrite (two_at c 0) (four_at c 2))
    (cond (eqb k 3) (Deliver (two_at c 0) (byte_at c 2))
    (cond (eqb k 4) (Lose (two_at c 0))
    (cond (eqb k 5) (Repeat (two_at c 0))
    (cond (eqb k 6) (Advance (byte_at c 0))
    (cond (eqb k 7) (Replace (two_at c 0))
    (cond (eqb k 8) (Tell (byte_at c 0))
    (cond (eqb k 9) (Remove (byte_at c 0))
    (cond (eqb k 10) (GiveUp (operation_in c))
    (cond (eqb k 11) (BeginContext (objects_in c))
    (cond (eqb k 12) Join (cond (eqb k 13) Copy (cond (eqb k 14) Execute (cond (eqb k 15) (Start (Quorum (byte_at c 0))) (Start Missing))))))))))))))))

-- a record that is read: its step, and the position past it
abbrev pub read_to : Step → ℕ → Record
read_to s n = record { step = s; end = n }

-- no record is read (refusal 1)
abbrev pub malformed : Malformed
malformed = record {}

-- the record of a kind whose tag is at the position; refusal 1: 'wrong length, input ends early'
unfoldable pub record_of_kind : ℕ → List ℕ → ℕ → Result Record Malformed
record_of_kind k l at =
    cond (is_length k (two_at l (at + 1)))
    (cond (leb (at + 3 + two_at l (at + 1)) (length l))
    (Ok (read_to (step_of k (take (two_at l (at + 1)) (drop (at + 3) l))) (at + 3 + two_at l (at + 1))))
    (Err malformed))
    (Err malformed)

-- the record at a position; refusal 1: 'input ends early' before the content, 'unknown tag'
unfoldable pub record_at : List ℕ → ℕ → Result Record Malformed
record_at l at =
    cond (leb (at + 3) (length l))
    (cond (eqb (kind_of_tag (byte_at l at)) no_step) (Err malformed) (record_of_kind (kind_of_tag (byte_at l at)) l at))
    (Err malformed)

-- Req 07: the record at a position is a give-up of length 2
unfoldable pub is_short_at : List ℕ → ℕ → Bool
is_short_at l at = is_short_give_up (kind_of_tag (byte_at l at)) (two_at l (at + 1))

-- the step is a start
unfoldable pub is_start : Step → Bool
is_start s = cond (eqb (kind_of s) 0) true (eqb (kind_of s) quorum_kind)

-- 'The first is a start; no other is.'
unfoldable pub in_place : Bool → Step → Bool
in_place first s = cond first (is_start s) (not (is_start s))

-- refusal 1: 'start missing or second', whatever its n
abbrev pub next_of : Bool → Result Record Malformed → Result (Option Record) Malformed
next_of first (Ok r) = cond (in_place first r.step) (Ok (Some r)) (Err malformed)
next_of first (Err e) = Err e

-- what a run reads at a position: a record, none at the end of the input, or refusal 1; in first place it reads no end, so the start of an empty input is missing
unfoldable pub next_at : List ℕ → ℕ → Result (Option Record) Malformed
next_at l at = cond (eqb at 0) (next_of true (record_at l at)) (cond (leb (length l) at) (Ok None) (next_of false (record_at l at)))

-- ---- the writer

-- a start that sets nothing up has no record; Req 02: 'another number of objects in a step to be .. written, is refusal 1, before .. 15'
abbrev pub is_writable : Step → Bool
is_writable (Start Missing) = false
is_writable (Start (Chain n)) = true
is_writable (Start (Quorum n)) = true
is_writable (BeginRead object) = true
is_writable (BeginWrite object value) = true
is_writable (Deliver position choice) = true
is_writable (Lose position) = true
is_writable (Repeat position) = true
is_writable (Advance replica) = true
is_writable (Replace number) = true
is_writable (Tell replica) = true
is_writable (Remove replica) = true
is_writable (GiveUp operation) = true
is_writable (BeginContext x) = is_naming x
is_writable Join = true
is_writable Copy = true
is_writable Execute = true

-- the record has room in the buffer at the position
unfoldable pub has_room : List ℕ → ℕ → Step → Bool
has_room buf at s = leb (at + length (record_of s)) (length buf)

-- refusal 15: 'lent buffer shorter than the record to write'
unfoldable pub written_at : List ℕ → ℕ → Step → Result ℕ WriteError
written_at buf at s = cond (is_writable s) (cond (has_room buf at s) (Ok (length (record_of s))) (Err TooShort)) (Err NoRecord)

-- 'A writer changes no byte of its buffer beyond the record', and none at all where it is turned down
unfoldable pub buffer_after : List ℕ → ℕ → Step → List ℕ
buffer_after buf at s =
    cond (is_writable s) (cond (has_room buf at s) (take at buf ++ record_of s ++ drop (at + length (record_of s)) buf) buf) buf

-- ---- 'Turned down': the number of the refusal that an answer is, 0 for none

abbrev pub next_refusal : Result (Option Record) Malformed → ℕ
next_refusal (Ok o) = 0
next_refusal (Err e) = refusal_number Refusal.Format

abbrev pub written_refusal : Result ℕ WriteError → ℕ
written_refusal (Ok n) = 0
written_refusal (Err TooShort) = refusal_number Refusal.BufferTooShort
written_refusal (Err NoRecord) = refusal_number Refusal.Format

-- ---- numbers that fit their types

-- every element is a byte
abbrev pub AllBytes : List ℕ → Type 0
AllBytes l = (i : ℕ) → byte_at l i < 256

-- the step's numbers fit the widths that the records give them
abbrev pub InRange : Step → Type 0
InRange (Start Missing) = Unit {0}
InRange (Start (Chain n)) = n < 256
InRange (Start (Quorum n)) = n < 256
InRange (BeginRead object) = object < 65536
InRange (BeginWrite object value) = (object < 65536) × (value < 4294967296)
InRange (Deliver position choice) = (position < 65536) × (choice < 256)
InRange (Lose position) = position < 65536
InRange (Repeat position) = position < 65536
InRange (Advance replica) = replica < 256
InRange (Replace number) = number < 65536
InRange (Tell replica) = replica < 256
InRange (Remove replica) = replica < 256
InRange (GiveUp operation) = operation < 4294967296
InRange (BeginContext x) =
    (x.first < 65536) × (x.second < 65536) × (x.third < 65536) × (x.fourth < 65536) × (x.fifth < 65536) × (x.sixth < 65536) × (x.seventh < 65536) × (x.eighth < 65536)
InRange Join = Unit {0}
InRange Copy = Unit {0}
InRange Execute = Unit {0}
