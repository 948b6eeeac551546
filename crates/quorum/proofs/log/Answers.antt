use mathlib.Core.Path.{◌≡◌}
use mathlib.Core.List.{List}
use Prim.Native.Nat.{ℕ}
use Rattle.store.specs.declared.Write.{Write}
use Rattle.store.specs.{logged}
use Rattle.chain.specs.{head_of}
use Rattle.quorum.specs.{logged_by, sending_item, count_logged, logging}
use Rattle.quorum.proofs.log.Goals as goal

-- the three changes in turn, by the leader r that has logged p entries
logging_is : (s t u v : List ℕ) (w : Write) (r p : ℕ) → r ≡ head_of s → p ≡ logged_by s r → t ≡ logged s p w → u ≡ sending_item t 1 → v ≡ count_logged u r → v ≡ logging s w
unfolding logging
logging_is s t u v w r p a b c d e = cc

pub returns : goal.returns
returns c = logging_is _ _ _ _ _ _ _ c.head-lead.ensures c.logged-p.ensures c.put_entry.ensures c.send.ensures c.log_next.ensures
