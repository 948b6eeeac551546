-- Document 01, 'What the run program prints': the whole output of an input, over crates/turns/specs/Turns.antt.
use Rattle.std.specs.Prelude.{cond, List, [], ◌∷◌, ◌++◌, ℕ, zero, suc, ◌+◌, leb, length, replicate}
use Rattle.limits.specs as limits
use Rattle.switch.specs.Numbers.{switch_cells}
use Rattle.operations.specs.{none_open}
use Rattle.chain.specs.{empty_cells}
use Rattle.waiting.specs.Waiting.{blank, none_wait}
use Rattle.protocol.specs.Steps.{Machine, machine}
use Rattle.lines.specs.Text.{pasted}
use Rattle.turns.specs.Turns.{Standing, first_printed, next_printed}

-- the lines of k turns
unfoldable pub lines_from : ℕ → List ℕ → Standing → List (List ℕ)
lines_from zero input u = []
lines_from (suc k) input u = (next_printed input u).line ∷ lines_from k input (next_printed input u).then

-- what the program lends: nothing but zeros, and blank places for the packets
abbrev pub untouched : Machine
untouched = machine (replicate switch_cells 0) empty_cells none_open (none_wait (replicate limits.waiting blank))

-- the lines of an input, in a run that is lent m: no input has more records than bytes
unfoldable pub lines_on : Machine → List ℕ → List (List ℕ)
lines_on m input = (first_printed m input).line ∷ lines_from (length input) input (first_printed m input).then

abbrev pub lines_of : List ℕ → List (List ℕ)
lines_of input = lines_on untouched input

unfoldable pub joined : List (List ℕ) → List ℕ
joined [] = []
joined (l ∷ ls) = l ++ joined ls

-- EVERYTHING THAT THE PROGRAM PRINTS FOR AN INPUT
unfoldable pub printed : List ℕ → List ℕ
printed input = joined (lines_of input)

-- ---- in a lent buffer

-- the lines up to the first that does not fit into so many bytes, of which some are used
unfoldable pub fitting : ℕ → ℕ → List (List ℕ) → List (List ℕ)
fitting room used [] = []
fitting room used (l ∷ ls) = cond (leb (used + length l) room) (l ∷ fitting room (used + length l) ls) []

-- a buffer with the whole lines that fit, from its front on; every byte after them is as it was
unfoldable pub holding : List ℕ → List (List ℕ) → List ℕ
holding out ls = pasted out 0 (joined (fitting (length out) 0 ls))
