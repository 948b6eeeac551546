-- The links of document 01, 'Parts and how big they are', as lists of writes: what the log's positions mean.
use Rattle.std.specs.Prelude.{cond, List, [], ◌∷◌, ℕ, zero, suc, ◌+◌, length}
use Rattle.store.specs.{live_count, applied_by, entry_at}
use Rattle.chain.specs.{chain_place, is_live, member_at}
use Rattle.replicas.specs.Replicas.{pending}
use Rattle.store.specs.declared.Write.{Write}

-- the k writes of the log from a position up, the oldest first
unfoldable pub entries : List ℕ → ℕ → ℕ → List Write
entries s position zero = []
entries s position (suc k) = entry_at s position ∷ entries s (position + 1) k

-- the writes of a replica's incoming link, the oldest first; a replica that is gone has none
unfoldable pub link_into : List ℕ → ℕ → List Write
link_into s r = cond (is_live s r) (entries s (applied_by s r) (pending s r)) []

-- the replica after this one in the chain
unfoldable pub successor_of : List ℕ → ℕ → ℕ
successor_of s r = member_at s (chain_place s r + 1)

-- how many writes the links into the first k places hold together; into all places, all links
unfoldable pub links_to : List ℕ → ℕ → ℕ
links_to s zero = 0
links_to s (suc k) = links_to s k + length (link_into s (member_at s k))

unfoldable pub all_links : List ℕ → ℕ
all_links s = links_to s (live_count s)
