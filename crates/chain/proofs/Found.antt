-- What the search for a replica by its number tells, found or not.
use mathlib.Core.Path.{◌≡◌, refl, sym, ap, ◌∙◌}
use mathlib.Core.Bool.{Bool, true, false}
use mathlib.Core.List.{List}
use Prim.Native.Nat.{ℕ, ◌+◌, ◌≤◌, ◌<◌}
use native.Mathlib.Omega.{arith}
use Rattle.std.specs.Prelude.{Option, Some, None, cond, MatchOption, IsSomeAnd}
use mathlib.Core.Logic.{◌⊎◌, inl, inr}
use borrow.Author.Tests.{le-ltb, ltb-false, ne_eqb}
use Rattle.std.proofs.lemmas.Option.{cond_some, none-some}
use Rattle.store.specs.{live_count, number_at}
use Rattle.chain.proofs.Members.{count_most}
use Rattle.chain.specs.{is_tail, member_at, place_of, is_member, table_of, found_place, found_table}
use Rattle.chain.proofs.Numbers.{place_first, place_none, below_member, member_below, table_is}

cond_none : {A : Type 0} (b : Bool) (x : A) → cond b (Some x) None ≡ None → b ≡ false
cond_none true x e = absurd (none-some x (sym e))
cond_none false x e = refl

-- of its place
pub some_place : (s : List ℕ) (r p : ℕ) → Some p ≡ found_place s r → (is_member s r ≡ true) × (place_of s r ≡ p)
unfolding found_place
some_place s r p e = cond_some (is_member s r) (place_of s r) p (sym e)

pub none_place : (s : List ℕ) (r : ℕ) → None ≡ found_place s r → is_member s r ≡ false
unfolding found_place
none_place s r e = cond_none (is_member s r) (place_of s r) (sym e)

pub place_within : (s : List ℕ) (r p : ℕ) → Some p ≡ found_place s r → p < 8
place_within s r p e = let found = some_place s r p e in omega (arith, member_below s r found.0, found.1, count_most s)

-- one that is gone is not the tail
pub gone_no_tail : (s : List ℕ) (r : ℕ) → is_member s r ≡ false → is_tail s r ≡ false
unfolding is_member is_tail
gone_no_tail s r e = ne_eqb (place_of s r + 1) (live_count s) (λ same. omega (arith, same, ltb-false (place_of s r) (live_count s) e))

-- of its table
pub some_table : (s : List ℕ) (r t : ℕ) → Some t ≡ found_table s r → (is_member s r ≡ true) × (table_of s r ≡ t)
unfolding found_table
some_table s r t e = cond_some (is_member s r) (table_of s r) t (sym e)

pub none_table : (s : List ℕ) (r : ℕ) → None ≡ found_table s r → is_member s r ≡ false
unfolding found_table
none_table s r e = cond_none (is_member s r) (table_of s r) (sym e)

found_some : (s : List ℕ) (r i : ℕ) → i < live_count s → place_of s r ≡ i → found_place s r ≡ Some i
unfolding found_place
found_some s r i low at = simp (below_member s r (omega (arith, low, at)), at) refl

found_none : (s : List ℕ) (r : ℕ) → place_of s r ≡ live_count s → found_place s r ≡ None
unfolding found_place is_member
found_none s r past = rw past (simp (le-ltb (live_count s) (live_count s) (omega arith)) refl)

-- the first place in the chain that has the number is the place found, and where none has it none is found
pub place_is : (s : List ℕ) (r n : ℕ) (o : Option ℕ) → n ≡ live_count s
    → MatchOption o ((k : ℕ) → 0 ≤ k → k < n → number_at s k ≡ r → ⊥) (λ i. (0 ≤ i) × (i < n) × (number_at s i ≡ r) × ((k : ℕ) → 0 ≤ k → k < i → number_at s k ≡ r → ⊥))
    → o ≡ found_place s r
place_is s r n None e never =
    sym (found_none s r (place_none s r (λ k b. never k (omega arith) (omega (arith, e, b)))))
place_is s r n (Some i) e h =
    let low : i < live_count s = omega (arith, e, h.1) in
    sym (found_some s r i low (place_first s i r low (λ k b. h.3 k (omega arith) b) h.2))

-- the table found is that of the place found, as a function Q of the place gives it
pub table_from : (s : List ℕ) (r : ℕ) (o u : Option ℕ) (Q : ℕ → ℕ → Type 0) → o ≡ found_place s r → MatchOption o (u ≡ None) (λ p. IsSomeAnd u (Q p))
    → ((p t : ℕ) → Q p t → t ≡ member_at s p) → u ≡ found_table s r
unfolding found_table
table_from s r None u Q e none is = simp (none_place s r e) none
table_from s r (Some p) None Q e some is = absurd some
table_from s r (Some p) (Some t) Q e some is =
    let found = some_place s r p e in
    simp found.0 (ap Some (is p t some ∙ ap (member_at s) (sym found.1) ∙ sym (table_is s r)))

-- the two cases of a search. The first part is trivially true: it gives `grind` the term to match
pub place_cases : (s : List ℕ) (r : ℕ) → (found_place s r ≡ found_place s r)
    × (((is_member s r ≡ true) × (found_place s r ≡ Some (place_of s r)) × (place_of s r < 8)) ⊎ ((is_member s r ≡ false) × (found_place s r ≡ None)))
unfolding found_place
place_cases s r = (refl, go (is_member s r) refl)
  where
    go : (b : Bool) → is_member s r ≡ b → ((is_member s r ≡ true) × (cond (is_member s r) (Some (place_of s r)) None ≡ Some (place_of s r)) × (place_of s r < 8)) ⊎ ((is_member s r ≡ false) × (cond (is_member s r) (Some (place_of s r)) None ≡ None))
    go true e = inl (e, simp e refl, omega (arith, member_below s r e, count_most s))
    go false e = inr (e, simp e refl)

pub table_cases : (s : List ℕ) (r : ℕ) → (found_table s r ≡ found_table s r)
    × (((is_member s r ≡ true) × (found_table s r ≡ Some (table_of s r))) ⊎ ((is_member s r ≡ false) × (found_table s r ≡ None)))
unfolding found_table
table_cases s r = (refl, go (is_member s r) refl)
  where
    go : (b : Bool) → is_member s r ≡ b → ((is_member s r ≡ true) × (cond (is_member s r) (Some (table_of s r)) None ≡ Some (table_of s r))) ⊎ ((is_member s r ≡ false) × (cond (is_member s r) (Some (table_of s r)) None ≡ None))
    go true e = inl (e, simp e refl)
    go false e = inr (e, simp e refl)

pub ruleset found = (place_cases, table_cases)
