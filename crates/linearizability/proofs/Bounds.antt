-- How many writes there are at the most: every write is of an operation of its own, and operations are numbered from 1 up.
use mathlib.Core.Path.{◌≡◌, refl, sym, ap, subst}
use mathlib.Core.Logic.{inl, inr, ◌≢◌}
use mathlib.Core.Bool.{Bool, true, false}
use mathlib.Core.List.Memᴰ
use mathlib.Core.List.{List, [], ◌∷◌, ◌++◌, map}
use Prim.Native.Nat.{ℕ, zero, suc, ◌≤◌}
use native.Mathlib.Omega.{arith}
use lib.ListN.{length, length-append, length-map}
use Rattle.history.specs.History.{◌∈◌, writes, History, Begun}
use Rattle.history.proofs.Lists.{here, in_insert, cut_at, Pairwise, pairwise_at, pairwise_map, pairwise_remove}
use Rattle.history.proofs.Entries.{Entry}
use Rattle.store.specs.declared.Write.{Write}
use Rattle.linearizability.proofs.Members.{has, has_true, has_false}
use Rattle.linearizability.proofs.Visible.{Visible, Distinct}
use Rattle.linearizability.proofs.Logged.{Logged, logged_once}

-- x is one of the numbers 1 to m
abbrev pub UpTo : ℕ → ℕ → Type 0
UpTo m x = (1 ≤ x) × (x ≤ m)

-- the list has only numbers from 1 to m, and none twice
abbrev pub OnceUpTo : ℕ → List ℕ → Type 0
OnceUpTo m l = Pairwise (λ x y. x ≢ y) l × ((x : ℕ) → x ∈ l → UpTo m x)

-- without the largest of these numbers the list has at most one element fewer
without_largest : (m : ℕ) (l : List ℕ) → OnceUpTo (suc m) l → (k : List ℕ) × OnceUpTo m k × (length l ≤ suc (length k))
without_largest m l p = go (has (suc m) l) refl
  where
    below : (x : ℕ) → x ∈ l → x ≢ suc m → UpTo m x
    below x i n = let b = p.1 x i in (b.0, omega (arith, b.1))

    go : (b : Bool) → has (suc m) l ≡ b → (k : List ℕ) × OnceUpTo m k × (length l ≤ suc (length k))
    go true e =
        let c = cut_at l (has_true (suc m) l e) in
        let once = subst (Pairwise (λ x y. x ≢ y)) c.2 p.0 in (
          c.0 ++ c.1,
          (
            pairwise_remove (λ x y. x ≢ y) c.0 (suc m) c.1 once,
            λ x i. below x (subst (λ (k : List ℕ). x ∈ k) (sym c.2) (in_insert c.0 (suc m) c.1 i))
                (λ q. elim (pairwise_at (λ x y. x ≢ y) c.0 (suc m) c.1 once x i) [ inl d ↦ d (sym q) | inr d ↦ d q ]),
          ),
          omega (arith, ap length c.2, length-append c.0 (suc m ∷ c.1), length-append c.0 c.1),
        )
    go false e = (l, (p.0, λ x i. below x i (λ q. has_false (suc m) l e (subst (λ (z : ℕ). z ∈ l) q i))), omega arith)

-- such a list has at most m elements
pub length_once : (m : ℕ) (l : List ℕ) → OnceUpTo m l → length l ≤ m
length_once zero [] p = omega arith
length_once zero (x ∷ l) p = absurd (let b = p.1 x (here refl) in omega arith)
length_once (suc m) l p = let k = without_largest m l p in omega (arith, k.2, length_once m k.0 k.1)

-- the same for elements that each have a number of their own
pub length_numbered : {A : Type 0} (number : A → ℕ) (m : ℕ) (l : List A) → Pairwise (λ x y. number x ≢ number y) l
    → ((x : A) → x ∈ l → UpTo m (number x)) → length l ≤ m
length_numbered number m l p f =
    rw length-map at (length_once m (map number l) (
      pairwise_map number (λ x y. x ≢ y) l p,
      λ y i. let r = Memᴰ.of_map number l i in subst (UpTo m) r.2 (f r.0 r.1),
    ))

module _ {chain : ℕ → ℕ} {h : History} {es : List Entry} {issued : List Write} {shown : ℕ → List Write} (g : Visible chain h es issued shown) {m : ℕ} (b : (o : ℕ) → Begun h o → UpTo m o) where
  -- stamped writes of distinct operations are at most as many as the operation numbers
  operations_bounded : (ws : List Write) → Pairwise Distinct ws → ((w : Write) → w ∈ ws → w ∈ issued) → length ws ≤ m
  operations_bounded ws p i = length_numbered (λ (w : Write). w.operation) m ws p
      (λ w j. b w.operation (writes w.object w.value, g.meant w (i w j)))

  -- so are the stamped writes
  pub issued_bounded : length issued ≤ m
  issued_bounded = operations_bounded issued g.issued_once (λ w i. i)

  -- and the writes of a log
  pub log_bounded : {log : List Write} {d n : ℕ} → Logged chain issued log d n → length log ≤ m
  log_bounded {log} k = operations_bounded log (logged_once k g.issued_once) k.of_issued
