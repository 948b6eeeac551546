-- Lists: an element inserted, relations of every two elements, one element before another, and cuts of a list.
use mathlib.Core.Path.{◌≡◌, refl, sym, ap, ◌∙◌, subst}
use mathlib.Core.Logic.{◌⊎◌, inl, inr, ◌≢◌}
use mathlib.Core.List.Memᴰ
use mathlib.Core.List.{List, [], ◌∷◌, ◌++◌, map, append-nil}
use Prim.Native.Nat.{ℕ, suc, ◌<◌}
use native.Mathlib.Omega.{arith}
use lib.ListN.{length, take, drop, get_or, take-append-drop}
use lib.Seq.{split_at}
use Rattle.history.specs.History.{◌∈◌}
use Rattle.history.specs.Linearizability.{Ahead}
-- membership under short names
pub use mathlib.Core.List.Memᴰ.{eq_of_singleton as only-member}
pub use mathlib.Core.List.Memᴰ.{head as here}
pub use mathlib.Core.List.Memᴰ.{not-nil as no_member}
pub use mathlib.Core.List.Memᴰ.{tail as there}
pub use mathlib.Core.List.Memᴰ.{append_cases as cases_append}
pub use mathlib.Core.List.Memᴰ.{append_left as in_left}
pub use mathlib.Core.List.Memᴰ.{append_right as in_right}
pub use mathlib.Core.List.Memᴰ.{cases_cons}

module _ {A : Type 0} where
  infix 4 ◌∉◌
  -- x is not in the list
  abbrev pub ◌∉◌ : A → List A → Type 0
  x ∉ l = x ∈ l → ⊥

  -- ---- x inserted between a and b

  -- a member of the longer list is x, or a member of the shorter
  pub cases_insert : {y : A} (a : List A) (x : A) (b : List A) → y ∈ a ++ x ∷ b → (y ≡ x) ⊎ (y ∈ a ++ b)
  cases_insert a x b m =
      elim (cases_append a m) [ inl l ↦ inr (in_left b l) | inr r ↦ elim (cases_cons r) [ inl e ↦ inl e | inr n ↦ inr (in_right a n) ] ]

  -- a member of the shorter list is one of the longer
  pub in_insert : {y : A} (a : List A) (x : A) (b : List A) → y ∈ a ++ b → y ∈ a ++ x ∷ b
  in_insert a x b m = elim (cases_append a m) [ inl l ↦ in_left (x ∷ b) l | inr r ↦ in_right a (there r) ]

  -- x is a member of the longer list
  pub inserted : (a : List A) (x : A) (b : List A) → x ∈ a ++ x ∷ b
  inserted a x b = in_right a (here refl)

  -- ---- relations of every two elements

  -- every two elements, the earlier one first, are in R
  abbrev pub Pairwise : (A → A → Type 0) → List A → Type 0
  Pairwise R [] = Unit {0}
  Pairwise R (x ∷ l) = ((y : A) → y ∈ l → R x y) × Pairwise R l

  -- if R implies S for the elements
  pub pairwise_imply : (R S : A → A → Type 0) (l : List A) → ((x y : A) → x ∈ l → y ∈ l → R x y → S x y) → Pairwise R l → Pairwise S l
  pairwise_imply R S [] f p = tt
  pairwise_imply R S (x ∷ l) f p =
      (λ y m. f x y (here refl) (there m) (p.0 y m), pairwise_imply R S l (λ y z m n. f y z (there m) (there n)) p.1)

  -- an element inserted
  pub pairwise_insert : (R : A → A → Type 0) (a : List A) (x : A) (b : List A)
      → Pairwise R (a ++ b) → ((y : A) → y ∈ a → R y x) → ((y : A) → y ∈ b → R x y) → Pairwise R (a ++ x ∷ b)
  pairwise_insert R [] x b p f g = (g, p)
  pairwise_insert R (y ∷ a) x b p f g = (
    λ z m. elim (cases_insert a x b m) [ inl e ↦ subst (R y) (sym e) (f y (here refl)) | inr n ↦ p.0 z n ],
    pairwise_insert R a x b p.1 (λ z m. f z (there m)) g,
  )

  -- an element at the end
  pub pairwise_snoc : (R : A → A → Type 0) (a : List A) (x : A) → Pairwise R a → ((y : A) → y ∈ a → R y x) → Pairwise R (a ++ x ∷ [])
  pairwise_snoc R a x p f = pairwise_insert R a x [] (rw append-nil p) f (λ y m. absurd (no_member m))

  -- an element removed
  pub pairwise_remove : (R : A → A → Type 0) (a : List A) (x : A) (b : List A) → Pairwise R (a ++ x ∷ b) → Pairwise R (a ++ b)
  pairwise_remove R [] x b p = p.1
  pairwise_remove R (y ∷ a) x b p = (λ z m. p.0 z (in_insert a x b m), pairwise_remove R a x b p.1)

  -- an element and any other
  pub pairwise_at : (R : A → A → Type 0) (a : List A) (x : A) (b : List A) → Pairwise R (a ++ x ∷ b) → (y : A) → y ∈ a ++ b → R x y ⊎ R y x
  pairwise_at R [] x b p y m = inl (p.0 y m)
  pairwise_at R (z ∷ a) x b p y m = elim (cases_cons m) [
    | inl e ↦ inr (subst (λ (w : A). R w x) (sym e) (p.0 x (inserted a x b)))
    | inr t ↦ pairwise_at R a x b p.1 y t
  ]

  -- the front part of a list
  pub pairwise_front : (R : A → A → Type 0) (a b : List A) → Pairwise R (a ++ b) → Pairwise R a
  pairwise_front R [] b p = tt
  pairwise_front R (x ∷ a) b p = (λ y m. p.0 y (in_left b m), pairwise_front R a b p.1)

  -- ---- one element before another

  -- each element of a stands before each of b
  pub ahead_append : {x y : A} (a b : List A) → x ∈ a → y ∈ b → Ahead x y (a ++ b)
  ahead_append [] b m n = absurd (no_member m)
  ahead_append (z ∷ a) b m n = elim (cases_cons m) [ inl e ↦ inl (e, in_right a n) | inr t ↦ inr (ahead_append a b t n) ]

  -- two elements of the front part
  pub ahead_front : (x y : A) (a b : List A) → Ahead x y a → Ahead x y (a ++ b)
  ahead_front x y [] b h = absurd h
  ahead_front x y (z ∷ a) b (inl h) = inl (h.0, in_left b h.1)
  ahead_front x y (z ∷ a) b (inr h) = inr (ahead_front x y a b h)

  -- two members stand in one of the two orders, or are the same
  pub ahead_or : {x y : A} (l : List A) → x ∈ l → y ∈ l → (x ≡ y) ⊎ (Ahead x y l ⊎ Ahead y x l)
  ahead_or [] m n = absurd (no_member m)
  ahead_or {x} {y} (z ∷ l) m n = go (cases_cons m) (cases_cons n) (ahead_or l)
    where
      deeper : (x ≡ y) ⊎ (Ahead x y l ⊎ Ahead y x l) → (x ≡ y) ⊎ (Ahead x y (z ∷ l) ⊎ Ahead y x (z ∷ l))
      deeper (inl e) = inl e
      deeper (inr (inl h)) = inr (inl (inr h))
      deeper (inr (inr h)) = inr (inr (inr h))

      go : (x ≡ z) ⊎ (x ∈ l) → (y ≡ z) ⊎ (y ∈ l) → (x ∈ l → y ∈ l → (x ≡ y) ⊎ (Ahead x y l ⊎ Ahead y x l))
          → (x ≡ y) ⊎ (Ahead x y (z ∷ l) ⊎ Ahead y x (z ∷ l))
      go (inl e) (inl f) r = inl (e ∙ sym f)
      go (inl e) (inr q) r = inr (inl (inl (e, q)))
      go (inr p) (inl f) r = inr (inr (inl (f, p)))
      go (inr p) (inr q) r = deeper (r p q)

  -- of two elements, one before the other
  pub pairwise_ahead : (R : A → A → Type 0) {x y : A} (l : List A) → Pairwise R l → Ahead x y l → R x y
  pairwise_ahead R [] p h = absurd h
  pairwise_ahead R {x} {y} (z ∷ l) p (inl h) = subst (λ (w : A). R w y) (sym h.0) (p.0 y h.1)
  pairwise_ahead R (z ∷ l) p (inr h) = pairwise_ahead R l p.1 h

  -- of an element of the front part and one of the back part
  pub pairwise_cross : (R : A → A → Type 0) {x y : A} (a b : List A) → Pairwise R (a ++ b) → x ∈ a → y ∈ b → R x y
  pairwise_cross R a b p m n = pairwise_ahead R (a ++ b) p (ahead_append a b m n)

  -- both are members
  pub ahead_first : (x y : A) (l : List A) → Ahead x y l → x ∈ l
  ahead_first x y [] h = absurd h
  ahead_first x y (z ∷ l) (inl h) = here h.0
  ahead_first x y (z ∷ l) (inr h) = there (ahead_first x y l h)

  pub ahead_in : (x y : A) (l : List A) → Ahead x y l → y ∈ l
  ahead_in x y [] h = absurd h
  ahead_in x y (z ∷ l) (inl h) = there h.1
  ahead_in x y (z ∷ l) (inr h) = there (ahead_in x y l h)

  -- if each of two stands before the other, one is there twice
  pub ahead_both : (x y : A) (l : List A) → Ahead x y l → Ahead y x l → Ahead x x l ⊎ Ahead y y l
  ahead_both x y [] h k = absurd h
  ahead_both x y (z ∷ l) (inl h) (inl k) = inl (inl (h.0, k.1))
  ahead_both x y (z ∷ l) (inl h) (inr k) = inl (inl (h.0, ahead_in y x l k))
  ahead_both x y (z ∷ l) (inr h) (inl k) = inr (inl (k.0, ahead_in x y l h))
  ahead_both x y (z ∷ l) (inr h) (inr k) = elim (ahead_both x y l h k) [ inl q ↦ inl (inr q) | inr q ↦ inr (inr q) ]

  -- ---- cuts of a list

  -- a cut at a member
  pub cut_at : {x : A} (l : List A) → x ∈ l → (before : List A) × (later : List A) × (l ≡ before ++ x ∷ later)
  cut_at [] m = absurd (no_member m)
  cut_at (z ∷ l) m = elim (cases_cons m) [
    | inl e ↦ ([], l, ap (λ (y : A). y ∷ l) (sym e))
    | inr t ↦ let c = cut_at l t in (z ∷ c.0, c.1, (let g = c.2 in cc))
  ]

  -- a cut at the later of two
  pub cut_ahead : {x y : A} (l : List A) → Ahead x y l → (before : List A) × (later : List A) × (l ≡ before ++ y ∷ later) × (x ∈ before)
  cut_ahead [] h = absurd h
  cut_ahead (z ∷ l) (inl h) = let c = cut_at l h.1 in (z ∷ c.0, c.1, (let g = c.2 in cc), here h.0)
  cut_ahead (z ∷ l) (inr h) = let c = cut_ahead l h in (z ∷ c.0, c.1, (let g = c.2 in cc), there c.3)

  -- two cuts of one list: the second is in the first's back part, or in its front part
  pub two_cuts : (a b c d : List A) → a ++ b ≡ c ++ d
      → ((m : List A) × (c ≡ a ++ m) × (b ≡ m ++ d)) ⊎ ((m : List A) × (a ≡ c ++ m) × (d ≡ m ++ b))
  two_cuts [] b c d e = inl (c, refl, e)
  two_cuts (x ∷ a) b [] d e = inr (x ∷ a, refl, sym e)
  two_cuts (x ∷ a) b (y ∷ c) d e =
      let same : x ≡ y = cc in
      let rest : a ++ b ≡ c ++ d = cc in
      elim (two_cuts a b c d rest) [ inl t ↦ inl (t.0, (let g = t.1 in cc), t.2) | inr t ↦ inr (t.0, (let g = t.1 in cc), t.2) ]

  -- the first n elements are elements, and so is the one at place n
  pub in_take : {x : A} (n : ℕ) (l : List A) → x ∈ take n l → x ∈ l
  in_take {x} n l m = subst (λ (k : List A). x ∈ k) (take-append-drop n l) (in_left (drop n l) m)

  pub in_get_d : (l : List A) (n : ℕ) (d : A) → n < length l → get_or l n d ∈ l
  in_get_d l n d h = subst (λ (k : List A). get_or l n d ∈ k) (sym (split_at l n d h)) (inserted (take n l) (get_or l n d) (drop (suc n) l))

-- ---- a function on the elements

module _ {A B : Type 0} (f : A → B) where
  -- every two results of f are in R, if every two elements are so by f
  pub pairwise_map : (R : B → B → Type 0) (l : List A) → Pairwise (λ x y. R (f x) (f y)) l → Pairwise R (map f l)
  pairwise_map R [] p = tt
  pairwise_map R (x ∷ l) p = (λ b m. let r = Memᴰ.of_map f l m in subst (R (f x)) r.2 (p.0 r.0 r.1), pairwise_map R l p.1)

  -- the results of two elements, one before the other
  pub ahead_map : (x y : A) (l : List A) → Ahead x y l → Ahead (f x) (f y) (map f l)
  ahead_map x y [] h = absurd h
  ahead_map x y (z ∷ l) (inl h) = inl (ap f h.0, Memᴰ.map f h.1)
  ahead_map x y (z ∷ l) (inr h) = inr (ahead_map x y l h)

  -- two elements of which f gives the same are the same, where no two elements have the same result
  pub same_member : {x y : A} (l : List A) → Pairwise (λ u v. f u ≢ f v) l → x ∈ l → y ∈ l → f x ≡ f y → x ≡ y
  same_member l p m n e = elim (ahead_or l m n) [
    | inl q ↦ q
    | inr (inl q) ↦ absurd (pairwise_ahead (λ u v. f u ≢ f v) l p q e)
    | inr (inr q) ↦ absurd (pairwise_ahead (λ u v. f u ≢ f v) l p q (sym e))
  ]

  -- a cut of the results is a cut of the list
  pub cut_map : (l : List A) (before : List B) (o : B) (later : List B) → map f l ≡ before ++ o ∷ later
      → (front : List A) × (e : A) × (back : List A) × (l ≡ front ++ e ∷ back) × (map f front ≡ before) × (f e ≡ o)
  cut_map [] [] o later q = absurd (let z : ◌≡◌ {A = ℕ} 0 1 = cc in omega arith)
  cut_map [] (b ∷ before) o later q = absurd (let z : ◌≡◌ {A = ℕ} 0 1 = cc in omega arith)
  cut_map (e ∷ l) [] o later q = ([], e, l, refl, refl, (cc))
  cut_map (e ∷ l) (b ∷ before) o later q =
      let same : f e ≡ b = cc in
      let rest : map f l ≡ before ++ o ∷ later = cc in
      let r = cut_map l before o later rest in
      (e ∷ r.0, r.1, r.2, (let g = r.3 in cc), (let g = r.4 in cc), r.5)
