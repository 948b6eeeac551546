-- What a replica holds, and which replicas there are, for callers.
use Rattle.std.specs.Prelude.{Bool, false, cond, List, [], ◌∷◌, ℕ, eqb, leb}
use Rattle.limits.specs as limits
use Rattle.store.specs.{applied_by, value_at, stamp_at, is_quorum}
use Rattle.chain.specs.{is_member, table_of, number_in}
use Rattle.joins.specs.{is_joining, copies_made, newcomer, newcomer_number, is_newcomer, is_copied}
use Rattle.quorum.specs.{logged_by, acknowledged_by}

-- Req 04: only live and joining replicas have tables, and a newcomer has an object from its copy on. The table that has the replica's value of an object, or 0
unfoldable pub table_for : List ℕ → ℕ → ℕ → ℕ
table_for s r o =
    cond (leb limits.objects o) 0
    (cond (is_member s r) (table_of s r) (cond (is_newcomer s r) (cond (is_copied s o) (newcomer s) 0) 0))

unfoldable pub value_of : List ℕ → ℕ → ℕ → ℕ
value_of s r o = cond (eqb (table_for s r o) 0) 0 (value_at s (table_for s r o) o)

unfoldable pub stamp_held : List ℕ → ℕ → ℕ → ℕ
stamp_held s r o = cond (eqb (table_for s r o) 0) 0 (stamp_at s (table_for s r o) o)

-- the newcomer's number and the copies that it has, 0 where none joins
unfoldable pub newcomer_of : List ℕ → ℕ
newcomer_of s = cond (is_joining s) (newcomer_number s) 0

unfoldable pub copies_of : List ℕ → ℕ
copies_of s = cond (is_joining s) (copies_made s) 0

-- Req 04: the live replicas in chain order, in a quorum store the leader first, 0 behind the last, then the newcomer's number and the copies made
abbrev pub chain_of : List ℕ → List ℕ
chain_of s =
    number_in s 0 ∷ number_in s 1 ∷ number_in s 2 ∷ number_in s 3 ∷ number_in s 4 ∷ number_in s 5 ∷ number_in s 6 ∷ number_in s 7 ∷
    newcomer_of s ∷ copies_of s ∷ []

-- Req 11: a live replica of a quorum store
unfoldable pub has_positions : List ℕ → ℕ → Bool
has_positions s r = cond (is_quorum s) (is_member s r) false

-- how many entries of the leader's log it has logged, how many it has executed, and how many the leader knows it to have logged, by the acknowledgements delivered to it: of the leader itself none
abbrev pub positions_of : List ℕ → ℕ → List ℕ
positions_of s r = logged_by s (table_of s r) ∷ applied_by s (table_of s r) ∷ acknowledged_by s (table_of s r) ∷ []

-- 1 where they are told, and the lent places then; where there is no such replica they are left as they were
unfoldable pub positions_told : List ℕ → ℕ → ℕ
positions_told s r = cond (has_positions s r) 1 0

unfoldable pub positions_in : List ℕ → ℕ → List ℕ → List ℕ
positions_in s r places = cond (has_positions s r) (positions_of s r) places
