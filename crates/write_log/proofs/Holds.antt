-- What one replica shows of the log: its tables and its highest stamp are those of the writes that it has applied.
use mathlib.Core.Path.{◌≡◌, sym, ap, ◌∙◌, subst}
use mathlib.Core.Logic.{inl, inr}
use mathlib.Core.List.{List, [], ◌∷◌, ◌++◌}
use Prim.Native.Nat.{ℕ, suc, ◌<◌}
use native.Mathlib.Omega.{arith}
use lib.Dec.{eqb}
use lib.ListN.{length, get_or, take}
use lib.Seq.{take-suc}
use Rattle.lists.proofs.Tests.{by_test}
use Rattle.history.specs.History.{◌∈◌}
use Rattle.history.proofs.Entries.{empty}
use Rattle.history.proofs.Lists.{only-member, cases_append, in_take, in_get_d}
use Rattle.history.proofs.Tests.{eqb-true, eqb-false}
use Rattle.stamp.proofs.Laws.{larger_is}
use Rattle.store.specs.declared.Write.{Write}
use Rattle.store.specs.{highest_of, value_at, stamp_at}
use Rattle.replicas.specs.Replicas.{applying}
use Rattle.replicas.proofs.Cells.{SizedStore, Named, row_apart, highest_applying_same, highest_applying_other}
use Rattle.replicas.proofs.Cells.{value_applying_same, value_applying_other, stamp_applying_same, stamp_applying_other}
use Rattle.write_log.proofs.Log.{table, values, stamps, top, Rising, table_append, top_append, rising_back, rising_take}

-- every write of the log is to an object that there is
abbrev pub Small : List Write → Type 0
Small log = (w : Write) → w ∈ log → w.object < 1024

-- a front part of the log, and one write more
pub small_take : (m : ℕ) (log : List Write) → Small log → Small (take m log)
small_take m log small w q = small w (in_take m log q)

pub small_append : (log : List Write) (w : Write) → Small log → w.object < 1024 → Small (log ++ w ∷ [])
small_append log w small l u q = elim (cases_append log q) [ inl m ↦ small u m | inr m ↦ rw (only-member m) l ]

-- what is read past the end of the log
abbrev pub no_write : Write
no_write = record { operation = 0; object = 0; value = 0; stamp = 0 }

-- replica r has applied the first k writes of the log
pub record Holds (s : List ℕ) (log : List Write) (r k : ℕ) : Type 0 where
  pub values_are : (x : ℕ) → x < 1024 → value_at s r x ≡ values (take k log) x
  pub stamps_are : (x : ℕ) → x < 1024 → stamp_at s r x ≡ stamps (take k log) x
  pub highest_is : highest_of s r ≡ top 0 (take k log)

-- the same of a store and a log that agree with these in what the replica has applied
pub holds_as : {s : List ℕ} {log : List Write} {r k : ℕ} (t : List ℕ) (longer : List Write)
    → ((x : ℕ) → value_at t r x ≡ value_at s r x) → ((x : ℕ) → stamp_at t r x ≡ stamp_at s r x)
    → highest_of t r ≡ highest_of s r → take k longer ≡ take k log → Holds s log r k → Holds t longer r k
holds_as t longer a b e f h = record {
  values_are = λ x l. a x ∙ rw f (h.values_are x l);
  stamps_are = λ x l. b x ∙ rw f (h.stamps_are x l);
  highest_is = e ∙ rw f h.highest_is;
}

-- a number of a table after one more write: the write's own, or as before
table_next : (f : Write → ℕ) (front : List Write) (w : Write) (x before now : ℕ) → before ≡ table f empty front x
    → (x ≡ w.object → now ≡ f w) → ((x ≡ w.object → ⊥) → now ≡ before) → now ≡ table f empty (front ++ w ∷ []) x
table_next f front w x before now e own other =
    by_test (λ z. now ≡ z) (eqb w.object x) {x = f w} {y = table f empty front x}
    (λ q. own (sym (eqb-true w.object x q)))
    (λ q. other (λ p. eqb-false w.object x q (sym p)) ∙ e)
    ∙ sym (ap (λ t. t x) (table_append f empty front (w ∷ [])))

-- the replica applies the next write of the log
pub holds_next : {s : List ℕ} {log : List Write} {r k : ℕ} (w : Write)
    → SizedStore s → Named r → Rising 0 log → Small log → k < length log → w ≡ get_or log k no_write
    → Holds s log r k → Holds (applying s r w) log r (suc k)
holds_next {s} {log} {r} {k} w z named up small l e h =
    let grown : take (suc k) log ≡ take k log ++ w ∷ [] = take-suc log k no_write l ∙ ap (λ u. take k log ++ u ∷ []) (sym e) in
    let above : top 0 (take k log) < w.stamp =
    (rising_back 0 (take k log) (w ∷ []) (subst (Rising 0) grown (rising_take 0 (suc k) log up))).0 in
    let fits : w.object < 1024 = small w (subst (λ u. u ∈ log) (sym e) (in_get_d log k no_write l)) in
    record {
      values_are = λ x b. rw grown
          (table_next (λ u. u.value) (take k log) w x (value_at s r x) (value_at (applying s r w) r x) (h.values_are x b)
          (λ q. rw q (value_applying_same s r w z))
          (λ d. value_applying_other s r w r x named named b fits (λ p q. d q)));
      stamps_are = λ x b. rw grown
          (table_next (λ u. u.stamp) (take k log) w x (stamp_at s r x) (stamp_at (applying s r w) r x) (h.stamps_are x b)
          (λ q. rw q (stamp_applying_same s r w z))
          (λ d. stamp_applying_other s r w r x named named b fits (λ p q. d q)));
      highest_is = rw (grown, top_append, highest_applying_same s r w z, larger_is) (omega (arith, h.highest_is));
    }

-- another replica applies a write
pub holds_other : {s : List ℕ} {log : List Write} {q k : ℕ} (r : ℕ) (w : Write)
    → Named q → Named r → (q ≡ r → ⊥) → w.object < 1024 → Holds s log q k → Holds (applying s r w) log q k
holds_other {s} {q = q} r w m n d fits h = record {
  values_are = λ x l. value_applying_other s r w q x m n l fits (λ e o. d e) ∙ h.values_are x l;
  stamps_are = λ x l. stamp_applying_other s r w q x m n l fits (λ e o. d e) ∙ h.stamps_are x l;
  highest_is = highest_applying_other s r w q (row_apart q r m n d) ∙ h.highest_is;
}
