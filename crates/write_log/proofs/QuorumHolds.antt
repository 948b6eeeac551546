-- What holds of a quorum store in every run, and that everything its replicas do keeps it: the log is shown, the places of the order stay, and every executed write stands in the
-- logs of a majority.
use mathlib.Core.Path.{◌≡◌, refl, sym, ap, ◌∙◌}
use mathlib.Core.Bool.{Bool, true, false}
use mathlib.Core.List.{List, [], ◌∷◌, ◌++◌}
use Prim.Native.Nat.{ℕ, suc, ◌+◌, ◌*◌, ◌≤◌, ◌<◌, max}
use native.Mathlib.Decide.{ℕ_discrete}
use native.Mathlib.Omega.{arith}
use lib.Dec.{leb, ltb}
use lib.ListN.{length, set, length-append}
use lib.Seq.{get_or-set_other}
use borrow.Author.Tests.{leb-true, le-leb, ltb-true}
use Rattle.history.specs.History.{◌∈◌}
use Rattle.history.proofs.Lists.{here, there}
use Rattle.store.specs.declared.Write.{Write}
use Rattle.store.specs.{last_number_cell, join_cell, kind_cell, logged_cell, acknowledged_cell, item_cell, live_count, members, row_of, logged, is_quorum}
use Rattle.chain.specs.{head_of, permitting, empty_store}
use Rattle.replicas.specs.Replicas.{next_position, applying}
use Rattle.chain.proofs.Members.{count_members, count_same}
use Rattle.replicas.proofs.Cells.{row_apart}
use Rattle.replicas.proofs.Shape.{count_empty}
use Rattle.quorum.specs.{logged_by, acknowledged_by, items_taken, linked_items, logs, sending_item, count_logged, logging, next_is_entry, next_entry, acknowledging, count_of, executes, executing, quorum_store}
use Rattle.quorum.proofs.Counts.{count_most}
use Rattle.quorum.proofs.Cells.{item_from, same_start, logged_counted, logged_counted_other, logged_acknowledging, logged_behind, applying_behind, permitting_behind, quorum_start}
use Rattle.write_log.proofs.Log.{Rising}
use Rattle.write_log.proofs.Holds.{Small}
use Rattle.write_log.proofs.Places.{Places, SamePlaces, live_count_same, members_as, places_same, places_trans, places_applying, places_logged, places_permitting, places_start}
use Rattle.write_log.proofs.StoreKind.{SameKind, kind_applying, kind_permitting, kind_counted, kind_acknowledging, kind_logging, kind_executing}
use Rattle.write_log.proofs.Quorum.{ShowsQuorum, entry_there, shows_permitting, shows_acknowledging, shows_entry_taken, shows_stamp_taken, shows_quorum_start}
use Rattle.write_log.proofs.Leader.{other_counts, shows_logging, logged_all, shows_executing, majority_has}

-- more than half of the replicas have logged the first n writes
abbrev pub Majority : List ℕ → ℕ → Type 0
Majority s n = live_count s < 2 * count_of (λ r. leb n (logged_by s r)) (members s)

pub record QuorumHolds (s : List ℕ) (log : List Write) (n : ℕ) : Type 0 where
  pub lead : ℕ
  pub items : List Bool
  pub kind : is_quorum s ≡ true
  pub shown : ShowsQuorum s lead log n items
  pub places : Places s
  pub majority : Majority s n

-- ---- the store later

-- what a quorum store leaves as it was: the places and the kind; and no replica has logged fewer entries than before
pub record Later (s t : List ℕ) : Type 0 where
  pub places : SamePlaces s t
  pub kind : SameKind s t
  pub logged : (r : ℕ) → r ∈ members s → logged_by s r ≤ logged_by t r

majority_later : {s t : List ℕ} → Later s t → (n : ℕ) → Majority s n → Majority t n
majority_later {s} {t} l n m =
    let most = count_most (λ r. leb n (logged_by s r)) (λ r. leb n (logged_by t r)) (members s)
    (λ r i e. le-leb n (logged_by t r) (omega (arith, leb-true n (logged_by s r) e, l.logged r i))) in
    rw (members_as l.places.same, live_count_same l.places.same) (omega (arith, m, most))

-- a cell behind the places is set
places_far : (s : List ℕ) (i v : ℕ) → kind_cell ≤ i → SamePlaces s (set s i v)
places_far s i v far = record {
  same = record { order = λ j h. get_or-set_other s i j v 0 (λ e. omega (arith, e, h, far)); last = get_or-set_other s i last_number_cell v 0 (λ e. omega (arith, e, far)) };
  join = get_or-set_other s i join_cell v 0 (λ e. omega (arith, e, far));
}

places_sending : (s : List ℕ) (item : ℕ) → SamePlaces s (sending_item s item)
unfolding sending_item
places_sending s item = places_far s (item_cell (items_taken s (head_of s))) item (omega (arith, item_from (items_taken s (head_of s))))

pub places_counted : (s : List ℕ) (r : ℕ) → SamePlaces s (count_logged s r)
unfolding count_logged
places_counted s r = places_far s (logged_cell (row_of r)) (next_position (logged_by s r)) (omega arith)

pub places_acknowledging : (s : List ℕ) (r k : ℕ) → SamePlaces s (acknowledging s r k)
unfolding acknowledging
places_acknowledging s r k = places_far s (acknowledged_cell (row_of r)) (max (acknowledged_by s r) k) (omega arith)

pub places_logging : (s : List ℕ) (w : Write) → SamePlaces s (logging s w)
unfolding logging
places_logging s w =
    let one = logged s (logged_by s (head_of s)) w in
    places_trans (places_logged s (logged_by s (head_of s)) w) (places_trans (places_sending one 1) (places_counted (sending_item one 1) (head_of s)))

pub places_executing : (s : List ℕ) → SamePlaces s (executing s)
unfolding executing
places_executing s = places_trans (places_sending s 0) (places_applying (sending_item s 0) (head_of s) (next_entry s (head_of s)))

-- the invariant, where the same writes are executed
kept : {s t : List ℕ} {log log' : List Write} {n : ℕ} (k : QuorumHolds s log n) → Later s t → (items : List Bool) → ShowsQuorum t k.lead log' n items → QuorumHolds t log' n
kept {n} k l items shown = record {
  lead = k.lead;
  items = items;
  kind = l.kind ∙ k.kind;
  shown = shown;
  places = places_same l.places k.places;
  majority = majority_later l n k.majority;
}

module _ {s : List ℕ} {log : List Write} {n : ℕ} (k : QuorumHolds s log n) where
  -- ---- a replica is told to permit a switch

  pub later_permitting : (r number : ℕ) → Later s (permitting s r number)
  later_permitting r number = record {
    places = places_permitting s r number;
    kind = kind_permitting s r number;
    logged = λ q i. omega (arith, logged_behind s (permitting s r number) (permitting_behind s r number) q);
  }

  pub holds_permitting : (r number : ℕ) → QuorumHolds (permitting s r number) log n
  holds_permitting r number = kept k (later_permitting r number) k.items (shows_permitting k.shown r number)

  -- ---- an acknowledgement comes to the leader

  pub later_acknowledging : (r j : ℕ) → Later s (acknowledging s r j)
  later_acknowledging r j = record {
    places = places_acknowledging s r j;
    kind = kind_acknowledging s r j;
    logged = λ q i. omega (arith, logged_acknowledging s r j q);
  }

  pub holds_acknowledging : (r j : ℕ) → r ∈ members s → j ≤ logged_by s r → QuorumHolds (acknowledging s r j) log n
  holds_acknowledging r j i low = kept k (later_acknowledging r j) k.items (shows_acknowledging k.shown r j i low)

  -- ---- a follower takes the oldest item of its link

  -- the link of a follower holds an item: so it is no leader, and has not taken all
  module _ (r : ℕ) (i : r ∈ members s) (some : 0 < linked_items s r) where
    pub follower : r ≡ k.lead → ⊥
    unfolding linked_items
    follower e = omega (arith, some, ap (items_taken s) (k.shown.leads ∙ sym e))

    pub left : items_taken s r < length k.items
    unfolding linked_items
    left = omega (arith, some, ap (items_taken s) k.shown.leads ∙ k.shown.all_made)

    module _ (entry : next_is_entry s r ≡ true) where
      -- it logs one entry more
      pub logs_one : logged_by (count_logged s r) r ≡ logged_by s r + 1
      logs_one = logged_counted s r k.shown.sized (omega (arith, entry_there k.shown r i follower left entry, k.shown.short))

      pub later_entry : Later s (count_logged s r)
      later_entry = record {
        places = places_counted s r;
        kind = kind_counted s r;
        logged = λ q m. elim (ℕ_discrete q r) [
          | yes e ↦ rw e (omega (arith, logs_one))
          | no d ↦ omega (arith, logged_counted_other s r q (row_apart q r (k.shown.named q m) (k.shown.named r i) d))
        ];
      }

      pub holds_entry : QuorumHolds (count_logged s r) log n
      holds_entry = kept k later_entry k.items (shows_entry_taken k.shown r i follower left entry)

    module _ (stamp : next_is_entry s r ≡ false) (up : Rising 0 log) (small : Small log) where
      pub later_stamp : Later s (applying s r (next_entry s r))
      later_stamp = record {
        places = places_applying s r (next_entry s r);
        kind = kind_applying s r (next_entry s r);
        logged = λ q m. omega (arith, logged_behind s (applying s r (next_entry s r)) (applying_behind s r (next_entry s r)) q);
      }

      pub holds_stamp : QuorumHolds (applying s r (next_entry s r)) log n
      holds_stamp = kept k later_stamp k.items (shows_stamp_taken k.shown r i follower left stamp up small)

  -- ---- the leader logs a write

  module _ (w : Write) (accepted : logs s w.stamp ≡ true) where
    pub later_logging : Later s (logging s w)
    unfolding logging
    later_logging = record {
      places = places_logging s w;
      kind = kind_logging s w;
      logged = λ q m. elim (ℕ_discrete q k.lead) [
        | yes e ↦ rw e (omega (arith, k.shown.leader_logged, (shows_logging k.shown w accepted).leader_logged, length-append log (w ∷ [])))
        | no d ↦ omega (arith, other_counts k.shown w accepted q m d)
      ];
    }

    pub holds_logging : QuorumHolds (logging s w) (log ++ w ∷ []) n
    holds_logging = kept k later_logging (k.items ++ true ∷ []) (shows_logging k.shown w accepted)

  -- ---- the leader executes

  module _ (can : executes s ≡ true) (up : Rising 0 log) (small : Small log) where
    pub later_executing : Later s (executing s)
    unfolding executing
    later_executing = record {
      places = places_executing s;
      kind = kind_executing s;
      logged = λ q m. omega (arith, logged_all k.shown can up small q);
    }

    -- one write more stands in the logs of a majority
    majority_next : Majority s (suc n)
    majority_next =
        let most = count_most (λ r. ltb n (logged_by s r)) (λ r. leb (suc n) (logged_by s r)) (members s) (λ r i e. le-leb (suc n) (logged_by s r) (omega (arith, ltb-true n (logged_by s r) e))) in
        omega (arith, majority_has k.shown can up small, most)

    pub holds_executing : QuorumHolds (executing s) log (suc n)
    holds_executing = record {
      lead = k.lead;
      items = k.items ++ false ∷ [];
      kind = later_executing.kind ∙ k.kind;
      shown = shows_executing k.shown can up small;
      places = places_same later_executing.places k.places;
      majority = majority_later later_executing (suc n) majority_next;
    }

-- ---- at the start

-- a list all of whose numbers pass
count_all : (f : ℕ → Bool) (l : List ℕ) → ((r : ℕ) → r ∈ l → f r ≡ true) → count_of f l ≡ length l
unfolding count_of
count_all f [] h = refl
count_all f (r ∷ l) h = rw (h r (here refl)) (omega (arith, count_all f l (λ q i. h q (there i))))

pub quorum_holds_start : (n : ℕ) → 1 ≤ n → n ≤ 8 → QuorumHolds (quorum_store n) [] 0
unfolding quorum_store
quorum_holds_start n l h = record {
  lead = 1;
  items = [];
  kind = quorum_start n;
  shown = shows_quorum_start n l h;
  places = places_same (places_far (empty_store n) kind_cell 1 (omega arith)) (places_start n h);
  majority =
      let t = quorum_store n in
      let all = count_all (λ r. leb 0 (logged_by t r)) (members t) (λ r i. le-leb 0 (logged_by t r) (omega arith)) in
      let live = count_same t (empty_store n) (same_start n).members_are in
      omega (arith, all, live, count_empty n h, l, count_members t);
}
