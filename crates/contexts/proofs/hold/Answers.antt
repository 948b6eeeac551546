use mathlib.Core.Path.{◌≡◌}
use mathlib.Core.List.{List, ◌∷◌, []}
use Prim.Native.Nat.{ℕ, ◌+◌}
use lib.ListN.{set}
use native.Mathlib.Numerals.{unary_clauses}
use Rattle.contexts.specs.{holding, puts}
use Rattle.contexts.proofs.hold.Goals as goal

-- nine numbers, each at the place behind the one before
puts_nine : (l : List ℕ) (i a b c d e f g h k : ℕ) → set (set (set (set (set (set (set (set (set l i a) (i + 1) b) (i + 2) c) (i + 3) d) (i + 4) e) (i + 5) f) (i + 6) g) (i + 7) h) (i + 8) k ≡ puts l i (a ∷ b ∷ c ∷ d ∷ e ∷ f ∷ g ∷ h ∷ k ∷ [])
unfolding puts
puts_nine l i a b c d e f g h k = simp unary_clauses

pub returns : goal.returns
unfolding holding
returns c = simp (← c.row_cell-i.ensures.0) (puts_nine _ _ _ _ _ _ _ _ _ _ _)
