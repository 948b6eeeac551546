-- What the switch and a replica do with a read, of one object or of several (document 02, Req 02). w is the switch, s the store.
use Rattle.std.specs.Prelude.{Bool, false, cond, List, ℕ, eqb}
use Rattle.lists.specs.{all_of}
use Rattle.switch.specs.Numbers.{direct_in}
use Rattle.switch.specs.DirtySet.{looked_up}
use Rattle.store.specs.{is_quorum}
use Rattle.replicas.specs.Replicas.{answers_direct}
use Rattle.quorum.specs.{answers_behind}

-- the object has no counting mark
unfoldable pub is_unmarked : List ℕ → ℕ → Bool
is_unmarked w x = eqb (looked_up w x) 0

-- 'If direct reads are on and the object has no counting mark, it goes as a direct read'; Req 02: 'exactly if direct reads are on and none of them has a counting mark'
unfoldable pub goes_directly : List ℕ → List ℕ → Bool
goes_directly w xs = cond (direct_in w) (all_of (is_unmarked w) xs) false

-- replica r answers a direct read of xs: by the objects' stamps; Req 11: in a quorum store by its executed stamp
unfoldable pub answers_read : List ℕ → ℕ → ℕ → ℕ → List ℕ → Bool
answers_read s r number carried xs = cond (is_quorum s) (answers_behind s r number carried) (answers_direct s r number carried xs)
