-- Document 01, 'What the run program prints', with document 02's Req 01 and Req 02: the bytes of one line.
use Rattle.std.specs.Prelude.{cond, List, [], ◌∷◌, ◌++◌, ℕ, zero, suc, ◌+◌, ◌-◌, ◌/◌, ◌%◌, ltb, eqb}
use Rattle.contexts.specs.{place_of, size_of}
use Rattle.contexts.specs.declared.Context.{Context}
use Rattle.protocol.specs.declared.Answer.{Answer}
use Rattle.protocol.specs.declared.Answer.TheVariants.{Done, Finished, FinishedContext, Refused}
use Rattle.protocol.specs.Answers.{refusal_number, no_freshness, old_read, new_read}

-- the last k decimal digits of n, the most significant first
unfoldable pub digits : ℕ → ℕ → List ℕ
digits zero n = []
digits (suc k) n = digits k (n / 10) ++ (48 + n % 10) ∷ []

-- how many digits a number of 32 bits has
unfoldable pub places : ℕ → ℕ
places n =
    cond (ltb n 10) 1
    (cond (ltb n 100) 2
    (cond (ltb n 1000) 3
    (cond (ltb n 10000) 4
    (cond (ltb n 100000) 5
    (cond (ltb n 1000000) 6 (cond (ltb n 10000000) 7 (cond (ltb n 100000000) 8 (cond (ltb n 1000000000) 9 10))))))))

unfoldable pub decimal : ℕ → List ℕ
decimal n = digits (places n) n

-- Req 07: a soak has more steps than 32 bits can count, so the number of a record has 64
unfoldable pub long_places : ℕ → ℕ
long_places n = cond (ltb n 10000000000) (places n) (10 + places (n / 10000000000))

unfoldable pub long_decimal : ℕ → List ℕ
long_decimal n = digits (long_places n) n

-- 'record number from 1, then `ok`, packets waiting, counting marks .., and operation and value just finished, or `- -`'
abbrev pub ok_start : ℕ → ℕ → ℕ → List ℕ
ok_start k waiting marks = long_decimal k ++ (32 ∷ 111 ∷ 107 ∷ 32 ∷ []) ++ decimal waiting ++ (32 ∷ []) ++ decimal marks ++ (32 ∷ [])

-- Req 01: 'ends with a new field: `old` .., else `new`. Every other `ok` line has `-` there', and the line's end
unfoldable pub freshness_end : ℕ → List ℕ
freshness_end f = cond (eqb f old_read) (111 ∷ 108 ∷ 100 ∷ 10 ∷ []) (cond (eqb f new_read) (110 ∷ 101 ∷ 119 ∷ 10 ∷ []) (45 ∷ 10 ∷ []))

-- the operation just finished, its value and that field
abbrev pub finish_end : ℕ → ℕ → ℕ → List ℕ
finish_end o v f = decimal o ++ (32 ∷ []) ++ decimal v ++ (32 ∷ []) ++ freshness_end f

-- Req 02: 'The values print joined by commas, in the order given': the k values after the first, each behind a comma
unfoldable pub later_values : Context → ℕ → List ℕ
later_values v zero = []
later_values v (suc k) = later_values v k ++ 44 ∷ decimal (place_of v (suc k))

unfoldable pub joined : Context → List ℕ
joined v = decimal v.first ++ later_values v (size_of v - 1)

-- the operation just finished, its values, and 'the field of Req 01 is `-`'
abbrev pub context_end : ℕ → Context → List ℕ
context_end o v = decimal o ++ (32 ∷ []) ++ joined v ++ (32 ∷ []) ++ freshness_end no_freshness

-- no operation and no value
abbrev pub no_finish : List ℕ
no_finish = 45 ∷ 32 ∷ 45 ∷ 32 ∷ []

-- 'A refusal is number, `no`, refusal.'
unfoldable pub no_line : ℕ → ℕ → List ℕ
no_line k refusal = long_decimal k ++ (32 ∷ 110 ∷ 111 ∷ 32 ∷ []) ++ decimal refusal ++ (10 ∷ [])

-- the line of record k, from its answer and from what the machine then holds
unfoldable pub line_of : ℕ → Answer → ℕ → ℕ → List ℕ
line_of k Done waiting marks = ok_start k waiting marks ++ no_finish ++ freshness_end no_freshness
line_of k (Finished o v f) waiting marks = ok_start k waiting marks ++ finish_end o v f
line_of k (FinishedContext o v) waiting marks = ok_start k waiting marks ++ context_end o v
line_of k (Refused r) waiting marks = no_line k (refusal_number r)
