-- A history that no order explains: a read begins after two writes to its object, one after the other, and gives another value than the second wrote.
use mathlib.Core.Path.{◌≡◌, refl, sym, ◌∙◌, subst}
use mathlib.Core.Logic.{inl, inr, ◌≢◌}
use mathlib.Core.List.{List, [], ◌∷◌, ◌++◌, append_assoc}
use Prim.Native.Nat.{ℕ}
use native.Mathlib.Omega.{arith}
use Rattle.history.specs.History.{◌∈◌, reads, writes, History, begun, finished}
use Rattle.history.specs.Linearizability.{Ahead, WritesTo, LastWrote, OneOrder}
use Rattle.history.proofs.Lists.{here, there, no_member, cases_cons, cases_append, ahead_append, ahead_both, cut_ahead}

-- object 5 is written 9, then 7, and then read as v
abbrev pub stale : ℕ → History
stale v = finished 3 (v ∷ []) ∷ begun 3 (reads (5 ∷ [])) ∷ finished 2 (7 ∷ []) ∷ begun 2 (writes 5 7) ∷ finished 1 (9 ∷ []) ∷ begun 1 (writes 5 9) ∷ []

-- the second operation writes to the object
second_writes : (v : ℕ) → WritesTo (stale v) 5 2
second_writes v = (7, there (there (there (here refl))))

-- a write of another value than 7 is the first
first_wrote : (v w : ℕ) → v ≢ 7 → begun w (writes 5 v) ∈ stale v → w ≡ 1
first_wrote v w n (here e) = cc
first_wrote v w n (there (here e)) = cc
first_wrote v w n (there (there (here e))) = cc
first_wrote v w n (there (there (there (here e)))) = absurd (n (cc))
first_wrote v w n (there (there (there (there (here e))))) = cc
first_wrote v w n (there (there (there (there (there (here e)))))) = cc
first_wrote v w n (there (there (there (there (there (there m)))))) = absurd (no_member m)

-- the history has an order only if the read gives 7
pub stale_has_no_order : (v : ℕ) → v ≢ 7 → (order : List ℕ) → OneOrder (stale v) order → ⊥
stale_has_no_order v n order c = elim (c.right k.0 k.1 3 (5 ∷ []) (v ∷ []) k.2 (there (here refl)) (here refl)).0 [
  | inl t ↦ first_not_last t
  | inr t ↦ t.0 2 k.3 (second_writes v)
]
  where
    -- the first write stands before the second
    first_second : Ahead 1 2 order
    first_second = c.timely 1 2 (c.complete 2 (7 ∷ [], there (there (here refl)))) (inr (inl (refl, (9 ∷ [], here refl))))

    -- the order up to the read, with the second write in it
    k : (before : List ℕ) × (later : List ℕ) × (order ≡ before ++ 3 ∷ later) × (2 ∈ before)
    k = cut_ahead order (c.timely 2 3 (c.complete 3 (v ∷ [], here refl)) (inl (refl, (7 ∷ [], here refl))))

    -- the last write before the read is not the first
    first_not_last : LastWrote (stale v) 5 k.0 v → ⊥
    first_not_last t = elim (cases_append t.0 (subst (λ (l : List ℕ). 2 ∈ l) t.3 k.3)) [
      | inl m ↦
          let whole : order ≡ t.0 ++ (t.1 ∷ t.2 ++ 3 ∷ k.1) = k.2 ∙ rw t.3 (append_assoc t.0 (t.1 ∷ t.2) (3 ∷ k.1)) in
          let second-first : Ahead 2 1 order = subst (Ahead 2 1) (sym whole) (ahead_append t.0 (t.1 ∷ t.2 ++ 3 ∷ k.1) m (here (sym first))) in
          elim (ahead_both 1 2 order first_second second-first) [ inl a ↦ c.once 1 a | inr a ↦ c.once 2 a ]
      | inr m ↦ elim (cases_cons m) [ inl e ↦ omega (arith, first) | inr i ↦ t.5 2 i (second_writes v) ]
    ]
      where
        first : t.1 ≡ 1
        first = first_wrote v t.1 n t.4
