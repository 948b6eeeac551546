-- The links of a quorum store, in the words of document 02, Req 11: 'sends each down an ordered link of 64 entries and executed stamps to every follower', 'put its executed stamp in every
-- link', 'Advancing a follower logs the entry', 'a follower executes up to that stamp on taking it'.
use mathlib.Core.Path.{◌≡◌, refl, sym, ap, ◌∙◌, subst}
use mathlib.Core.Bool.{Bool, true, false}
use mathlib.Core.List.{List, [], ◌∷◌, ◌++◌}
use Prim.Native.Nat.{ℕ, suc, ◌+◌, ◌≤◌, ◌<◌}
use native.Mathlib.Omega.{arith}
use lib.ListN.{length, get_or, take, drop, length-drop, take-append-drop, get_or-append}
use lib.Seq.{take_all, drop-append-le, drop-cons, get_or-drop, get_or-append_seam}
use Rattle.history.specs.History.{◌∈◌}
use Rattle.store.specs.declared.Write.{Write}
use Rattle.store.specs.{members, applied_by, entry_at}
use Rattle.chain.specs.{head_of}
use Rattle.replicas.specs.Replicas.{applying}
use Rattle.replicas.proofs.Cells.{members_applying, applied_applying_same}
use Rattle.quorum.specs.{logged_by, is_entry, items_taken, linked_items, logs, count_logged, logging, next_is_entry, next_entry, executes, executing}
use Rattle.quorum.specs.Links.{Item, entry, executed, items as itemsFrom, link_to}
use Rattle.quorum.proofs.Cells.{same_counted, logged_counted, logged_behind, applying_behind}
use Rattle.quorum.proofs.Items.{entries_in, stamps_in, entries_append, stamps_append}
use Rattle.write_log.proofs.Log.{Rising}
use Rattle.write_log.proofs.Holds.{Small, no_write}
use Rattle.write_log.proofs.Quorum.{ShowsQuorum, made_entries, made_stamps, executed_is, executed_logged, entries_kept, next_is, entry_there, shows_entry_taken, executed_there, next_entry_is, shows_stamp_taken}
use Rattle.write_log.proofs.Leader.{same, keeps, other_counts, applied_all, shows_logging, logged_all, others_apply, executed_entry, shows_executing}

-- the items with these kinds, for a follower that has logged l entries and executed e
abbrev pub sent_items : List Write → List Bool → ℕ → ℕ → List Item
sent_items log [] l e = []
sent_items log (true ∷ bs) l e = entry (get_or log l no_write) ∷ sent_items log bs (l + 1) e
sent_items log (false ∷ bs) l e = executed (get_or log e no_write).stamp ∷ sent_items log bs l (e + 1)

pub length_sent : (log : List Write) (bs : List Bool) (l e : ℕ) → length (sent_items log bs l e) ≡ length bs
length_sent log [] l e = refl
length_sent log (true ∷ bs) l e = ap suc (length_sent log bs (l + 1) e)
length_sent log (false ∷ bs) l e = ap suc (length_sent log bs l (e + 1))

-- the store's items are these, where it has the entries from lo up to hi
items_are : (s : List ℕ) (log : List Write) (lo hi : ℕ) → ((i : ℕ) → lo ≤ i → i < hi → entry_at s i ≡ get_or log i no_write) → (bs : List Bool) (l e : ℕ)
    → ((j : ℕ) → j < length bs → is_entry s (l + e + j) ≡ get_or bs j false) → lo ≤ l → lo ≤ e → l + entries_in bs ≤ hi → e + stamps_in bs ≤ hi
    → itemsFrom s l e (length bs) ≡ sent_items log bs l e
unfolding itemsFrom
items_are s log lo hi there [] l e kind a b c d = refl
items_are s log lo hi there (true ∷ bs) l e kind a b c d =
    let first : is_entry s (l + e) ≡ true = ap (is_entry s) (omega arith) ∙ kind 0 (omega arith) in
    rw first
    (λ j. entry (there l a (omega (arith, c)) j) ∷
    items_are s log lo hi there bs (l + 1) e (λ i h. ap (is_entry s) (omega arith) ∙ kind (suc i) (omega (arith, h))) (omega (arith, a)) b (omega (arith, c)) d j)
items_are s log lo hi there (false ∷ bs) l e kind a b c d =
    let first : is_entry s (l + e) ≡ false = ap (is_entry s) (omega arith) ∙ kind 0 (omega arith) in
    rw first
    (λ j. executed (there e b (omega (arith, d)) j).stamp ∷
    items_are s log lo hi there bs l (e + 1) (λ i h. ap (is_entry s) (omega arith) ∙ kind (suc i) (omega (arith, h))) a (omega (arith, b)) c (omega (arith, d)) j)

-- a longer log, and one item more
sent_longer : (log : List Write) (w : Write) (bs : List Bool) (l e : ℕ) → l + entries_in bs ≤ length log → e + stamps_in bs ≤ length log
    → sent_items (log ++ w ∷ []) bs l e ≡ sent_items log bs l e
sent_longer log w [] l e a b = refl
sent_longer log w (true ∷ bs) l e a b =
    λ j. entry (get_or-append log (w ∷ []) no_write l (omega (arith, a)) j) ∷ sent_longer log w bs (l + 1) e (omega (arith, a)) b j
sent_longer log w (false ∷ bs) l e a b =
    λ j. executed (get_or-append log (w ∷ []) no_write e (omega (arith, b)) j).stamp ∷ sent_longer log w bs l (e + 1) a (omega (arith, b)) j

sent_entry : (log : List Write) (bs : List Bool) (l e : ℕ) → sent_items log (bs ++ true ∷ []) l e ≡ sent_items log bs l e ++ entry (get_or log (l + entries_in bs) no_write) ∷ []
sent_entry log [] l e = ap (λ (i : ℕ). entry (get_or log i no_write) ∷ []) (omega arith)
sent_entry log (true ∷ bs) l e =
    ap (λ (r : List Item). entry (get_or log l no_write) ∷ r)
    (sent_entry log bs (l + 1) e ∙ ap (λ (i : ℕ). sent_items log bs (l + 1) e ++ entry (get_or log i no_write) ∷ []) (omega arith))
sent_entry log (false ∷ bs) l e = ap (λ (r : List Item). executed (get_or log e no_write).stamp ∷ r) (sent_entry log bs l (e + 1))

sent_stamp : (log : List Write) (bs : List Bool) (l e : ℕ) → sent_items log (bs ++ false ∷ []) l e ≡ sent_items log bs l e ++ executed (get_or log (e + stamps_in bs) no_write).stamp ∷ []
sent_stamp log [] l e = ap (λ (i : ℕ). executed (get_or log i no_write).stamp ∷ []) (omega arith)
sent_stamp log (true ∷ bs) l e = ap (λ (r : List Item). entry (get_or log l no_write) ∷ r) (sent_stamp log bs (l + 1) e)
sent_stamp log (false ∷ bs) l e =
    ap (λ (r : List Item). executed (get_or log e no_write).stamp ∷ r)
    (sent_stamp log bs l (e + 1) ∙ ap (λ (i : ℕ). sent_items log bs l (e + 1) ++ executed (get_or log i no_write).stamp ∷ []) (omega arith))

module _ {s : List ℕ} {lead : ℕ} {log : List Write} {n : ℕ} {items : List Bool} (k : ShowsQuorum s lead log n items) (r : ℕ) (i : r ∈ members s) where
  -- the kinds of the items that its link holds
  abbrev left : List Bool
  left = drop (items_taken s r) items

  left_counts : (logged_by s r + entries_in left ≡ length log) × (applied_by s r + stamps_in left ≡ n)
  left_counts = (
    omega (arith, ap entries_in (take-append-drop (items_taken s r) items), entries_append (take (items_taken s r) items) left, (k.follows r i).logged_is, made_entries k),
    omega (arith, ap stamps_in (take-append-drop (items_taken s r) items), stamps_append (take (items_taken s r) items) left, executed_is k r i, made_stamps k),
  )

  executed_within : n ≤ length log
  executed_within = omega (arith, made_entries k, made_stamps k, rw (take_all (length items) items (omega arith)) at (k.in_turn (length items) (omega arith)).0)

  left_length : length left ≡ linked_items s r
  unfolding linked_items
  left_length = omega (arith, length-drop (items_taken s r) items, ap (items_taken s) k.leads ∙ k.all_made)

  -- WHAT A LINK IS
  pub link_is : link_to s r ≡ sent_items log left (logged_by s r) (applied_by s r)
  unfolding link_to items_taken
  link_is =
      ap (itemsFrom s (logged_by s r) (applied_by s r)) (sym left_length) ∙
      items_are s log (applied_by s r) (length log) (λ j a b. k.entries_are j b (omega (arith, a, entries_kept k r i))) left (logged_by s r) (applied_by s r)
      (λ j h. let below : items_taken s r + j < length items = omega (arith, h, length-drop (items_taken s r) items) in
      k.kinds (items_taken s r + j) below (omega (arith, (k.follows r i).room)) ∙ sym (get_or-drop (items_taken s r) items j false))
      (executed_logged k r i).0 (omega arith) (omega (arith, left_counts.0)) (omega (arith, left_counts.1, executed_within))

  -- 'an ordered link of 64'
  pub link_within : length (link_to s r) ≤ 64
  link_within = omega (arith, ap length link_is, length_sent log left (logged_by s r) (applied_by s r), length-drop (items_taken s r) items, (k.follows r i).room)

-- the link of a store that shows the log, told by what the replica has
link_told : {t : List ℕ} {lead : ℕ} {log : List Write} {n : ℕ} {items : List Bool} (k : ShowsQuorum t lead log n items) (r l e : ℕ) → r ∈ members t → logged_by t r ≡ l → applied_by t r ≡ e
    → link_to t r ≡ sent_items log (drop (l + e) items) l e
unfolding items_taken
link_told {t} {log} {items} k r l e m a b = link_is k r m ∙ rw (a, b)

-- where the same items were sent, the link of a replica that has taken as many stays
pub link_kept : {s t : List ℕ} {lead : ℕ} {log : List Write} {n : ℕ} {items : List Bool} → ShowsQuorum s lead log n items → ShowsQuorum t lead log n items → (r : ℕ) → r ∈ members s → members t ≡ members s
    → logged_by t r ≡ logged_by s r → applied_by t r ≡ applied_by s r → link_to t r ≡ link_to s r
link_kept {s} {t} k k' r i same a b =
    link_told k' r (logged_by s r) (applied_by s r) (subst (λ (l : List ℕ). r ∈ l) (sym same) i) a b ∙ sym (link_told k r (logged_by s r) (applied_by s r) i refl refl)

module _ {s : List ℕ} {lead : ℕ} {log : List Write} {n : ℕ} {items : List Bool} (k : ShowsQuorum s lead log n items) (r : ℕ) (i : r ∈ members s) (d : r ≡ lead → ⊥) where
  -- 'sends each down an ordered link .. to every follower': A WRITE THAT THE LEADER LOGS COMES TO THE END OF EVERY FOLLOWER'S LINK
  pub link_logging : (w : Write) → logs s w.stamp ≡ true → link_to (logging s w) r ≡ link_to s r ++ entry w ∷ []
  unfolding items_taken logging
  link_logging w accepted =
      let t = shows_logging k w accepted in
      let bs = left k r i in
      let c = left_counts k r i in
      link_told t r (logged_by s r) (applied_by s r) (subst (λ (l : List ℕ). r ∈ l) (sym (same k w accepted)) i) (other_counts k w accepted r i d) (applied_all k w accepted r) ∙
      ap (λ (l : List Bool). sent_items (log ++ w ∷ []) l (logged_by s r) (applied_by s r)) (drop-append-le (items_taken s r) items (true ∷ []) (k.follows r i).taken) ∙
      sent_entry (log ++ w ∷ []) bs (logged_by s r) (applied_by s r) ∙
      ap (λ (l : List Item). l ++ entry (get_or (log ++ w ∷ []) (logged_by s r + entries_in bs) no_write) ∷ [])
      (sent_longer log w bs (logged_by s r) (applied_by s r) (omega (arith, c.0)) (omega (arith, c.1, executed_within k r i)) ∙ sym (link_is k r i)) ∙
      ap (λ (u : Write). link_to s r ++ entry u ∷ []) (ap (λ (j : ℕ). get_or (log ++ w ∷ []) j no_write) c.0 ∙ get_or-append_seam log w [] no_write)

  -- 'put its executed stamp in every link'
  pub link_executing : executes s ≡ true → Rising 0 log → Small log → link_to (executing s) r ≡ link_to s r ++ executed (next_entry s (head_of s)).stamp ∷ []
  unfolding items_taken executing
  link_executing can up small =
      let t = shows_executing k can up small in
      let bs = left k r i in
      let c = left_counts k r i in
      link_told t r (logged_by s r) (applied_by s r) (subst (λ (l : List ℕ). r ∈ l) (sym (keeps k can up small)) i) (logged_all k can up small r) (others_apply k can up small r i d) ∙
      ap (λ (l : List Bool). sent_items log l (logged_by s r) (applied_by s r)) (drop-append-le (items_taken s r) items (false ∷ []) (k.follows r i).taken) ∙
      sent_stamp log bs (logged_by s r) (applied_by s r) ∙
      ap (λ (l : List Item). l ++ executed (get_or log (applied_by s r + stamps_in bs) no_write).stamp ∷ []) (sym (link_is k r i)) ∙
      ap (λ (u : Write). link_to s r ++ executed u.stamp ∷ []) (ap (λ (j : ℕ). get_or log j no_write) c.1 ∙ sym (executed_entry k can up small))

  -- a follower takes the oldest item of its link, and the rest stays
  module _ (some : items_taken s r < length items) where
    -- 'Advancing a follower logs the entry'
    pub link_entry_taken : next_is_entry s r ≡ true → link_to s r ≡ entry (entry_at s (logged_by s r)) ∷ link_to (count_logged s r) r
    unfolding items_taken
    link_entry_taken e =
        let t = shows_entry_taken k r i d some e in
        let first : drop (items_taken s r) items ≡ true ∷ drop (suc (items_taken s r)) items =
        drop-cons items (items_taken s r) false some ∙ ap (λ (b : Bool). b ∷ drop (suc (items_taken s r)) items) (sym (next_is k r i d some) ∙ e) in
        let moved : logged_by s r + 1 + applied_by s r ≡ suc (logged_by s r + applied_by s r) = omega arith in
        let there_is = k.entries_are (logged_by s r) (entry_there k r i d some e) (omega (arith, entries_kept k r i, (executed_logged k r i).0)) in
        link_is k r i ∙
        ap (λ (l : List Bool). sent_items log l (logged_by s r) (applied_by s r)) first ∙
        ap (λ (u : Write). entry u ∷ sent_items log (drop (suc (items_taken s r)) items) (logged_by s r + 1) (applied_by s r)) (sym there_is) ∙
        ap (λ (l : List Item). entry (entry_at s (logged_by s r)) ∷ l)
        (sym (link_told t r (logged_by s r + 1) (applied_by s r) (subst (λ (l : List ℕ). r ∈ l) (sym (same_counted s r).members_are) i)
        (logged_counted s r k.sized (omega (arith, entry_there k r i d some e, k.short))) ((same_counted s r).applied_is r) ∙
        ap (λ (q : ℕ). sent_items log (drop q items) (logged_by s r + 1) (applied_by s r)) moved))

    -- 'a follower executes up to that stamp on taking it': IT IS THE STAMP OF THE ENTRY THAT IT EXECUTES, the next of those that it has logged
    pub link_stamp_taken : next_is_entry s r ≡ false → Rising 0 log → Small log → link_to s r ≡ executed (next_entry s r).stamp ∷ link_to (applying s r (next_entry s r)) r
    unfolding items_taken
    link_stamp_taken e up small =
        let w = next_entry s r in
        let t = shows_stamp_taken k r i d some e up small in
        let moved : logged_by s r + (applied_by s r + 1) ≡ suc (logged_by s r + applied_by s r) = omega arith in
        let first : drop (items_taken s r) items ≡ false ∷ drop (suc (items_taken s r)) items =
        drop-cons items (items_taken s r) false some ∙ ap (λ (b : Bool). b ∷ drop (suc (items_taken s r)) items) (sym (next_is k r i d some) ∙ e) in
        link_is k r i ∙
        ap (λ (l : List Bool). sent_items log l (logged_by s r) (applied_by s r)) first ∙
        ap (λ (u : Write). executed u.stamp ∷ sent_items log (drop (suc (items_taken s r)) items) (logged_by s r) (applied_by s r + 1)) (sym (next_entry_is k r i d some e up small)) ∙
        ap (λ (l : List Item). executed w.stamp ∷ l)
        (sym (link_told t r (logged_by s r) (applied_by s r + 1) (subst (λ (l : List ℕ). r ∈ l) (sym (members_applying s r w)) i)
        (logged_behind s (applying s r w) (applying_behind s r w) r) (applied_applying_same s r w k.sized (omega (arith, executed_there k r i d some e up small, k.short))) ∙
        ap (λ (q : ℕ). sent_items log (drop q items) (logged_by s r) (applied_by s r + 1)) moved))
