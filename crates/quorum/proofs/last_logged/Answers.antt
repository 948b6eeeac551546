use mathlib.Core.Path.{◌≡◌, ap, ◌∙◌}
use mathlib.Core.List.{List}
use Prim.Native.Nat.{ℕ, ◌-◌}
use Rattle.store.specs.{entry_at}
use Rattle.chain.specs.{head_of}
use Rattle.quorum.specs.{logged_by, last_logged}
use Rattle.quorum.proofs.last_logged.Goals as goal

-- the entry before the n that the leader r has logged
last_is : (s : List ℕ) (r n p : ℕ) → r ≡ head_of s → n ≡ logged_by s r → p ≡ n - 1 → (entry_at s p).stamp ≡ last_logged s
unfolding last_logged
last_is s r n p e f q = ap (λ (k : ℕ). (entry_at s k).stamp) (q ∙ ap (λ (k : ℕ). k - 1) (f ∙ ap (logged_by s) e))

pub returns : goal.returns
returns c = c.entry_stamp.ensures ∙ last_is _ _ _ _ c.head.ensures c.logged-n.ensures c.saturating_sub.ensures
