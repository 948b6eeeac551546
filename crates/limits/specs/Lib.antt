-- The limits of document 01, 'Parts and how big they are', under the names that src/lib.rt has.
use Rattle.std.specs.Prelude.{ℕ}

-- objects are numbered 0 to 1,023
abbrev pub objects : ℕ
objects = 1024

-- at most 8 replicas are live, and a start numbers them from 1
abbrev pub replicas : ℕ
replicas = 8

-- Req 04: 'the next number never used', up to 255
abbrev pub last_replica : ℕ
last_replica = 255

-- Req 04: 'copies the next 64 objects', 'The sixteenth copy makes it the tail'
abbrev pub copied_at_once : ℕ
copied_at_once = 64

abbrev pub copies : ℕ
copies = 16

-- at most 64 packets wait
abbrev pub waiting : ℕ
waiting = 64

-- at most 64 operations are open
abbrev pub open_operations : ℕ
open_operations = 64

-- all links together hold at most 64 writes
abbrev pub linked : ℕ
linked = 64

-- Req 11: the entries of the log that the store keeps, the last ones; a replica that lags furthest needs 96 of them
abbrev pub kept : ℕ
kept = 128

-- Req 02: a read of a whole context names 2 to 8 objects
abbrev pub context_least : ℕ
context_least = 2

abbrev pub context_most : ℕ
context_most = 8

-- as many contexts as packets can wait
abbrev pub contexts : ℕ
contexts = 64

-- 'input above 65,536 bytes' is refused
abbrev pub input : ℕ
input = 65536

-- Req 07: operations are numbered 1 to 4,294,967,295
abbrev pub last_operation : ℕ
last_operation = 4294967295

-- switch numbers have 16 bits
abbrev pub switch_numbers : ℕ
switch_numbers = 65536

-- Req 07: counters have 32 bits
abbrev pub last_counter : ℕ
last_counter = 4294967295

abbrev pub counters : ℕ
counters = 4294967296

-- the width of a record's number
abbrev pub last_record_number : ℕ
last_record_number = 18446744073709551615

-- the width of a place in the log: no run reaches its end
abbrev pub last_position : ℕ
last_position = 4294967295

-- Req 03: the width of the stored number of counting marks: no run reaches its end
abbrev pub last_marks : ℕ
last_marks = 4294967295
