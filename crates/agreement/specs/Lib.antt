-- When the bytes of one list stand in another, and the outputs that are compared.
use Rattle.std.specs.Prelude.{◌≡◌, Bool, true, false, cond, List, [], ◌++◌, ℕ, zero, suc, ◌+◌, ◌≤◌, leb, eqb, length, get_or, take}
use Rattle.runs.specs.Runs.{printed}

-- the first n bytes of a part stand in s from a place on
unfoldable pub agree_to : List ℕ → ℕ → List ℕ → ℕ → Bool
agree_to s at part zero = true
agree_to s at part (suc n) = cond (eqb (get_or s (at + n) 0) (get_or part n 0)) (agree_to s at part n) false

-- all of them do
unfoldable pub stands_in : List ℕ → ℕ → List ℕ → Bool
stands_in s at part = cond (leb (at + length part) (length s)) (agree_to s at part (length part)) false

unfoldable pub same_bytes : List ℕ → List ℕ → Bool
same_bytes a b = cond (eqb (length a) (length b)) (stands_in a 0 b) false

-- room for the output of any input
abbrev pub output_room : ℕ
output_room = 3276800

-- the outputs of an input that is cut after 0, 1 and so on up to n - 1 bytes, one after the other
unfoldable pub outputs_to : ℕ → List ℕ → List ℕ
outputs_to zero input = []
outputs_to (suc n) input = outputs_to n input ++ printed (take n input)

-- cut at each of its bytes in turn, and not cut
abbrev pub outputs_of : List ℕ → List ℕ
outputs_of input = outputs_to (length input + 1) input
