-- Req 04: the eight places of the order as runs have them. Every place has a table of its own, whether its replica is live, joins, or is none; and no number stands twice.
use mathlib.Core.Path.{◌≡◌, refl, sym, ap, ◌∙◌}
use mathlib.Core.Bool.{true, false, not}
use mathlib.Core.List.{List}
use Prim.Native.Nat.{ℕ, ◌+◌, ◌-◌, ◌*◌, ◌/◌, ◌%◌, ◌≤◌, ◌<◌, min}
use native.Mathlib.Omega.{arith}
use lib.Dec.{eqb, leb}
use borrow.Author.Tests.{lt-leb}
use lib.ListN.{get_or, set}
use lib.Seq.{get_or-set_other}
use Rattle.lists.proofs.Tests.{second_passes}
use Rattle.store.specs.declared.Write.{Write}
use Rattle.store.specs.{last_number_cell, join_cell, live_count, order_at, number_at, members, logged, tabled}
use Rattle.lists.specs.{list_of}
use Rattle.lists.proofs.Places.{list_of_same}
use Rattle.chain.specs.{numbers, member_at, place_of, is_member, table_of, permitting, empty_store}
use Rattle.replicas.specs.Replicas.{applying}
use Rattle.joins.specs.{is_join_set, is_joining, copies_made, newcomer, newcomer_number, last_number}
use Rattle.chain.proofs.Members.{count_most}
use Rattle.replicas.proofs.Cells.{Named, members_same, order_applying, behind_applying, order_logged, behind_logged, order_permitting, behind_permitting, low_tabled, behind_tabled}
use Rattle.replicas.proofs.Shape.{count_empty, cell_empty, last_empty, join_empty}

-- while a replica joins there is a place for it behind the live ones, and its number is the last given, which no live replica has
abbrev pub JoiningPlace : List ℕ → Type 0
JoiningPlace s = (live_count s < 8) × (newcomer_number s ≡ last_number s) × ((p : ℕ) → p < live_count s → number_at s p < newcomer_number s)

pub record Places (s : List ℕ) : Type 0 where
  pub named : (p : ℕ) → p < 8 → Named (order_at s p)
  pub apart : (p q : ℕ) → p < 8 → q < 8 → order_at s p ≡ order_at s q → p ≡ q
  pub given : (p : ℕ) → p < live_count s → number_at s p ≤ last_number s
  pub numbers_apart : (p q : ℕ) → p < live_count s → q < live_count s → number_at s p ≡ number_at s q → p ≡ q
  pub joining : is_join_set s ≡ true → JoiningPlace s

-- a join that is under way is set; and the other way round where there is a place for the newcomer
pub joining_set : (s : List ℕ) → is_joining s ≡ true → is_join_set s ≡ true
unfolding is_joining
joining_set s e = (second_passes (leb 8 (live_count s)) (is_join_set s) e).1

pub set_joining : (s : List ℕ) → live_count s < 8 → is_joining s ≡ is_join_set s
unfolding is_joining
set_joining s h = rw (lt-leb 8 (live_count s) h) refl

-- a write that waits for the replica with number r: r is the head's number, or that of a replica that is gone; so it is a number that was given, and not the newcomer's
abbrev pub AtHead : List ℕ → ℕ → Type 0
AtHead s r = ((p : ℕ) → p < live_count s → number_at s p ≡ r → p ≡ 0) × (r ≤ last_number s) × (is_join_set s ≡ true → r < newcomer_number s)

-- the head's number is such a number
pub at_head_now : (s : List ℕ) → Places s → 0 < live_count s → AtHead s (number_at s 0)
at_head_now s g live = (λ p h d. g.numbers_apart p 0 h live d, g.given 0 live, λ j. (g.joining j).2 0 live)

-- two stores that have the same order and the same last number
pub record SameOrder (s t : List ℕ) : Type 0 where
  pub order : (i : ℕ) → i < 9 → get_or t i 0 ≡ get_or s i 0
  pub last : get_or t last_number_cell 0 ≡ get_or s last_number_cell 0

module _ {s t : List ℕ} (e : SameOrder s t) where
  pub live_count_same : live_count t ≡ live_count s
  unfolding live_count
  live_count_same = ap (min 8) (e.order 0 (omega arith))

  pub members_as : members t ≡ members s
  members_as = members_same t s e.order

  pub order_at_same : (p : ℕ) → p < 8 → order_at t p ≡ order_at s p
  unfolding order_at
  order_at_same p h = ap (λ (n : ℕ). n % 256) (e.order (1 + p) (omega arith))

  pub number_at_same : (p : ℕ) → p < 8 → number_at t p ≡ number_at s p
  unfolding number_at
  number_at_same p h = ap (λ (n : ℕ). n / 256 % 256) (e.order (1 + p) (omega arith))

  -- who is live, by number, and with which table
  numbers_as : numbers t ≡ numbers s
  unfolding numbers
  numbers_as = ap (list_of (number_at t)) live_count_same ∙ list_of_same (number_at t) (number_at s) (live_count s) (λ p h. number_at_same p (omega (arith, h, count_most s)))

  pub member_as : (r : ℕ) → is_member t r ≡ is_member s r
  unfolding is_member place_of
  member_as r = rw (numbers_as, live_count_same)

  pub table_as : (r : ℕ) → table_of t r ≡ table_of s r
  unfolding table_of place_of member_at
  table_as r = rw (numbers_as, members_as)

  pub last_number_same : last_number t ≡ last_number s
  unfolding last_number
  last_number_same = ap (λ (n : ℕ). n % 256) e.last

  pub newcomer_same : live_count s < 8 → newcomer t ≡ newcomer s
  unfolding newcomer
  newcomer_same h = ap (order_at t) live_count_same ∙ order_at_same (live_count s) h

  pub newcomer_number_same : live_count s < 8 → newcomer_number t ≡ newcomer_number s
  unfolding newcomer_number
  newcomer_number_same h = ap (number_at t) live_count_same ∙ number_at_same (live_count s) h

  within : (p : ℕ) → p < live_count t → p < live_count s
  within p h = omega (arith, live_count_same)

  few : (p : ℕ) → p < live_count t → p < 8
  few p h = omega (arith, count_most t)

  -- the places of the second, where no join is under way that is not under way in the first
  pub places_order : (is_join_set t ≡ true → is_join_set s ≡ true) → Places s → Places t
  places_order still g = record {
    named = λ p h. rw (order_at_same p h) (g.named p h);
    apart = λ p q a b d. g.apart p q a b (sym (order_at_same p a) ∙ d ∙ order_at_same q b);
    given = λ p h. rw (number_at_same p (few p h), last_number_same) (g.given p (within p h));
    numbers_apart = λ p q a b d.
        g.numbers_apart p q (within p a) (within q b) (sym (number_at_same p (few p a)) ∙ d ∙ number_at_same q (few q b));
    joining = λ j.
        let was = g.joining (still j) in (
          omega (arith, live_count_same, was.0),
          newcomer_number_same was.0 ∙ was.1 ∙ sym last_number_same,
          λ p h. rw (number_at_same p (few p h), newcomer_number_same was.0) (was.2 p (within p h)),
        );
  }

  -- and the writes that wait for the head
  pub at_head_order : (is_join_set t ≡ true → is_join_set s ≡ true) → Places s → (r : ℕ) → AtHead s r → AtHead t r
  at_head_order still g r a = (
    λ p h d. a.0 p (within p h) (sym (number_at_same p (few p h)) ∙ d),
    rw last_number_same a.1,
    λ j. rw (newcomer_number_same (g.joining (still j)).0) (a.2 (still j)),
  )

-- two stores that have the same join as well
pub record SamePlaces (s t : List ℕ) : Type 0 where
  pub same : SameOrder s t
  pub join : get_or t join_cell 0 ≡ get_or s join_cell 0

module _ {s t : List ℕ} (e : SamePlaces s t) where
  pub joining_same : is_join_set t ≡ is_join_set s
  unfolding is_join_set
  joining_same = ap (λ (n : ℕ). not (eqb n 0)) e.join

  pub copies_same : copies_made t ≡ copies_made s
  unfolding copies_made
  copies_same = ap (λ (n : ℕ). (n - 1) % 16) e.join

  pub places_same : Places s → Places t
  places_same g = places_order e.same (λ j. sym joining_same ∙ j) g

  pub at_head_same : Places s → (r : ℕ) → AtHead s r → AtHead t r
  at_head_same g r a = at_head_order e.same (λ j. sym joining_same ∙ j) g r a

pub places_trans : {s t u : List ℕ} → SamePlaces s t → SamePlaces t u → SamePlaces s u
places_trans a b = record {
  same = record { order = λ i h. b.same.order i h ∙ a.same.order i h; last = b.same.last ∙ a.same.last };
  join = b.join ∙ a.join;
}

pub places_self : {s : List ℕ} → SamePlaces s s
places_self = record { same = record { order = λ i h. refl; last = refl }; join = refl }

-- ---- what leaves the places as they are

pub places_applying : (s : List ℕ) (r : ℕ) (w : Write) → SamePlaces s (applying s r w)
places_applying s r w = record {
  same = record { order = order_applying s r w; last = behind_applying s r w last_number_cell (omega arith) };
  join = behind_applying s r w join_cell (omega arith);
}

pub places_logged : (s : List ℕ) (p : ℕ) (w : Write) → SamePlaces s (logged s p w)
places_logged s p w = record {
  same = record { order = order_logged s p w; last = behind_logged s p w last_number_cell (omega arith) };
  join = behind_logged s p w join_cell (omega arith);
}

pub places_permitting : (s : List ℕ) (r number : ℕ) → SamePlaces s (permitting s r number)
places_permitting s r number = record {
  same = record { order = order_permitting s r number; last = behind_permitting s r number last_number_cell (omega arith) };
  join = behind_permitting s r number join_cell (omega arith);
}

pub places_tabled : (s : List ℕ) (r : ℕ) (w : Write) → SamePlaces s (tabled s r w)
places_tabled s r w = record {
  same = record { order = λ i h. low_tabled s r w i (omega arith); last = behind_tabled s r w last_number_cell (omega arith) };
  join = behind_tabled s r w join_cell (omega arith);
}

-- the join cell alone changes
pub order_join : (s : List ℕ) (v : ℕ) → SameOrder s (set s join_cell v)
order_join s v = record {
  order = λ i h. get_or-set_other s join_cell i v 0 (λ e. omega arith);
  last = get_or-set_other s join_cell last_number_cell v 0 (λ e. omega arith);
}

-- ---- at the start

last_start : (n : ℕ) → n ≤ 8 → last_number (empty_store n) ≡ n
unfolding last_number
last_start n few = ap (λ (k : ℕ). k % 256) (last_empty n) ∙ omega (arith, few)

pub none_joins : (n : ℕ) → is_join_set (empty_store n) ≡ false
unfolding is_join_set
none_joins n = ap (λ (k : ℕ). not (eqb k 0)) (join_empty n)

not_joining : false ≡ true → ⊥
not_joining e = let z : ◌≡◌ {A = ℕ} 0 1 = cc in omega arith

pub places_start : (n : ℕ) → n ≤ 8 → Places (empty_store n)
unfolding order_at number_at
places_start n most = record {
  named = λ p h. rw (tabled_as p h) (omega (arith, h), omega (arith, h));
  apart = λ p q h l d. let same : p + 1 ≡ q + 1 = sym (tabled_as p h) ∙ d ∙ tabled_as q l in omega (arith, same);
  given = λ p h. let l : p < n = omega (arith, count_empty n most) in omega (arith, l, numbered p (omega (arith, l, most)), last);
  numbers_apart = λ p q h l d.
      omega (arith, d, numbered p (omega (arith, count_most (empty_store n))), numbered q (omega (arith, count_most (empty_store n))));
  joining = λ j. absurd (none j);
}
  where
    tabled_as : (p : ℕ) → p < 8 → get_or (empty_store n) (1 + p) 0 % 256 ≡ p + 1
    tabled_as p h = ap (λ (k : ℕ). k % 256) (cell_empty n p h) ∙ omega (arith, h)

    numbered : (p : ℕ) → p < 8 → get_or (empty_store n) (1 + p) 0 / 256 % 256 ≡ p + 1
    numbered p h =
        let high : (256 * (p + 1) + (p + 1)) / 256 ≡ p + 1 = omega (arith, h) in
        ap (λ (k : ℕ). k / 256 % 256) (cell_empty n p h) ∙ ap (λ (k : ℕ). k % 256) high ∙ omega (arith, h)

    last : last_number (empty_store n) ≡ n
    last = last_start n most

    none : is_join_set (empty_store n) ≡ true → ⊥
    none j = not_joining (sym (none_joins n) ∙ j)
