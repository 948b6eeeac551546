-- The open operations of every run: those that the machine keeps are those that the steps and their answers tell, and a begin is refused with 'OpenFull' exactly when
-- they are 64.
use mathlib.Core.Path.{◌≡◌, refl, sym, ap, ◌∙◌, subst}
use mathlib.Core.Bool.{Bool, true, false}
use mathlib.Core.List.{List, [], ◌∷◌, ◌++◌}
use mathlib.Core.Logic.{inl, inr, ◌≢◌, ◌↔◌}
use Prim.Native.Nat.{ℕ, suc, ◌+◌, ◌≤◌, ◌<◌}
use native.Mathlib.Omega.{arith}
use lib.Dec.{ltb}
use lib.ListN.{length, take, drop}
use lib.Seq.{split_at}
use borrow.Author.Tests.{lt-leb, le-ltb}
use Rattle.lists.proofs.Tests.{by_test, both}
use Rattle.limits.specs as limits
use Rattle.lists.specs.{index_of, without}
use Rattle.lists.proofs.Closing.{length_without}
use Rattle.lists.proofs.Index.{index_at, in_index}
use Rattle.history.specs.History.{◌∈◌, Kind, reads, writes, History, begun, finished}
use Rattle.history.proofs.Lists.{here, there, no_member, cases_cons, cases_insert, in_insert, Pairwise, pairwise_remove, pairwise_at}
use Rattle.history.proofs.Entries.{Entry}
use Rattle.operations.specs.{open_count, is_open, last_given, room_to_open, none_open, opening, closing}
use Rattle.operations.proofs.Behind.{SameOpens, same_self, same_count, same_open}
use Rattle.contexts.specs.declared.Objects.{Objects}
use Rattle.contexts.specs.{context_of, numbers_of, are_objects, are_different, is_naming, free_row}
use Rattle.contexts.proofs.Rows.{opens_holding, opens_freeing}
use Rattle.operations.proofs.Laws.{count_none, none_open_lem, count_opening, opened_now, still_open, open_before, room_below, full_count, count_closing, others_stay_open, open_after_closing}
use Rattle.waiting.specs.declared.Packet.{Packet}
use Rattle.waiting.specs.Waiting.{none_wait}
use Rattle.waiting.proofs.Laws.{length_edited}
use Rattle.protocol.specs.declared.Setup.{Setup}
use Rattle.protocol.specs.Starts.{start_refused}
use Rattle.protocol.specs.declared.Answer.{Answer}
use Rattle.protocol.specs.declared.Answer.TheVariants.{Done, Finished, FinishedContext, Refused}
use Rattle.waiting.specs.declared.Edit.{Edit}
use Rattle.protocol.specs.declared.Message.{Message}
use Rattle.protocol.specs.declared.Refusal.TheVariants.{OpenFull}
use Rattle.protocol.specs.declared.Step.{Step}
use Rattle.protocol.specs.declared.Step.TheVariants.{BeginRead, BeginWrite, BeginContext}
use Rattle.protocol.specs.Messages.{is_of_context}
use Rattle.protocol.specs.Decisions.{Given, Outcome, Opened, changing_opens, refusing, overfull}
use Rattle.protocol.specs.Contexts.{released}
use Rattle.protocol.specs.Steps.{Machine, given_by, outcome_of, begin_operation, begin_context, decided, is_malformed, decided_in, answer_to, after, started}
use Rattle.protocol.specs.Roles.{Role}
use Rattle.protocol.proofs.Effects.{Quiet, turned_down, delivers, loses, repeats, removal, copy, other, OpensEffect, quiet, begins_read, begins_write, finishes as finishing, finishes_context as finishing-context, gives_up as giving-up}
use Rattle.protocol.proofs.Effects.{RowEffect, rows_kept, row_passed, row_answered, row_freed, row_released, row_given, row_copied, effect}
use Rattle.linearizability.proofs.Noted.{noted_as, open_noted_as, noted_as_lem}
use Rattle.linearizability.specs.Run.{begun_count, noted, history_of, open_without, open_noted, open_from, open_of}
use Rattle.linearizability.proofs.Invariant.{Good, refused_same}
use Rattle.linearizability.proofs.Steps.{next_is}
use Rattle.linearizability.proofs.OneOrder.{good_start, good_after}
use Rattle.linearizability.proofs.Limits.{reached, machine_of, good_run}

-- ---- what a step does to the open operations

-- from the cells, the history and the list of open numbers before a step to those after it
pub data Change (cells : List ℕ) (h : History) (l : List ℕ) (cells' : List ℕ) (h' : History) (l' : List ℕ) : Type 0 where
  -- none begins, finishes or is given up
  stays : SameOpens cells cells' → h' ≡ h → l' ≡ l → Change cells h l cells' h' l'
  begins : (k : Kind) → room_to_open cells ≡ true → SameOpens (opening cells (last_given cells + 1)) cells' → h' ≡ begun (suc (begun_count h)) k ∷ h
      → l' ≡ suc (begun_count h) ∷ l → Change cells h l cells' h' l'
  finishes : (o : ℕ) (vs : List ℕ) → is_open cells o ≡ true → SameOpens (closing cells o) cells' → h' ≡ finished o vs ∷ h → l' ≡ open_without o l → Change cells h l cells' h' l'
  gives_up : (o : ℕ) → is_open cells o ≡ true → SameOpens (closing cells o) cells' → h' ≡ h → l' ≡ open_without o l → Change cells h l cells' h' l'

-- a step that begins, finishes and gives up nothing is not noted
quiet_same : {k : Role} {a : Answer} → Quiet k a → (h : History) (l : List ℕ) → (noted_as k a h ≡ h) × (open_noted_as k a h l ≡ l)
quiet_same (turned_down k r) h l = refused_same k r h l
quiet_same (delivers at) h l = (refl, refl)
quiet_same (loses at) h l = (refl, refl)
quiet_same (repeats at) h l = (refl, refl)
quiet_same (removal r) h l = (refl, refl)
quiet_same copy h l = (refl, refl)
quiet_same other h l = (refl, refl)

-- the rows lie behind the open operations
same_rows : {p : Packet} {q : Message} {held : ℕ} {e : Edit} {l l' : List ℕ} → RowEffect p q held e l l' → SameOpens l l'
unfolding released
same_rows (rows_kept n) = same_self
same_rows (row_passed at r q i n k e) = same_self
same_rows {l = l} (row_answered at r v q i n k e) = opens_holding l r v
same_rows {l = l} (row_freed r n) = opens_freeing l r
same_rows {p} {l = l} row_released = both (SameOpens l) (is_of_context p) (opens_freeing l p.value) same_self
same_rows {l = l} (row_given r v q h n e) = opens_holding l r v
same_rows {l = l} (row_copied r v h k e) = opens_holding l r v

change_of : {k : Role} {a : Answer} {cells mid cells' : List ℕ} (h : History) (l : List ℕ) → OpensEffect k cells a mid → SameOpens mid cells'
    → Change cells h l cells' (noted_as k a h) (open_noted_as k a h l)
change_of h l (quiet q) s = stays s (quiet_same q h l).0 (quiet_same q h l).1
change_of h l (begins_read xs e room) s = begins (reads xs) room s (ap (λ (k : Role). noted_as k Done h) e) (ap (λ (k : Role). open_noted_as k Done h l) e)
change_of h l (begins_write x v e room) s = begins (writes x v) room s (ap (λ (k : Role). noted_as k Done h) e) (ap (λ (k : Role). open_noted_as k Done h l) e)
change_of h l (finishing at o v f e still) s = finishes o (v ∷ []) still s (ap (λ (k : Role). noted_as k (Finished o v f) h) e) (ap (λ (k : Role). open_noted_as k (Finished o v f) h l) e)
change_of h l (finishing-context at o v e still) s =
    finishes o (numbers_of v) still s (ap (λ (k : Role). noted_as k (FinishedContext o v) h) e) (ap (λ (k : Role). open_noted_as k (FinishedContext o v) h l) e)
change_of h l (giving-up o e still) s = gives_up o still s (ap (λ (k : Role). noted_as k Done h) e) (ap (λ (k : Role). open_noted_as k Done h l) e)

-- every step of a machine
pub change : (m : Machine) (h : History) (l : List ℕ) (x : Step)
    → Change m.opens h l (after m x).opens (noted x (answer_to m x) h) (open_noted x (answer_to m x) h l)
unfolding after answer_to
change m h l x = let e = noted_as_lem x (outcome_of m x).decision.answer h l in rw (e.0, e.1) (change_of h l (effect m x).opens (same_rows (effect m x).rows))

-- ---- one number of a list is taken out

module _ (o : ℕ) (l : List ℕ) (i : o ∈ l) where
  -- what stands before it, and behind it
  abbrev before : List ℕ
  before = take (index_of l o) l

  abbrev behind : List ℕ
  behind = drop (suc (index_of l o)) l

  split : l ≡ before ++ o ∷ behind
  split = split_at l (index_of l o) 0 (in_index l o i) ∙ ap (λ (p : ℕ). before ++ p ∷ behind) (index_at l o (in_index l o i))

  stays_in : (p : ℕ) → (p ≡ o → ⊥) → p ∈ l → p ∈ open_without o l
  unfolding without
  stays_in p d j = elim (cases_insert before o behind (subst (λ (k : List ℕ). p ∈ k) split j)) [ inl e ↦ absurd (d e) | inr t ↦ t ]

  was_in : (p : ℕ) → p ∈ open_without o l → p ∈ l
  unfolding without
  was_in p j = subst (λ (k : List ℕ). p ∈ k) (sym split) (in_insert before o behind j)

  module _ (u : Pairwise {A = ℕ} ◌≢◌ l) where
    distinct_out : Pairwise {A = ℕ} ◌≢◌ (open_without o l)
    unfolding without
    distinct_out = pairwise_remove ◌≢◌ before o behind (subst (Pairwise {A = ℕ} ◌≢◌) split u)

    is_out : (p : ℕ) → p ∈ open_without o l → p ≡ o → ⊥
    unfolding without
    is_out p j e =
        elim (pairwise_at ◌≢◌ before o behind (subst (Pairwise {A = ℕ} ◌≢◌) split u) p j) [ inl d ↦ d (sym e) | inr d ↦ d e ]

-- ---- the operations that the machine has open

-- they are those of the list, and none stands there twice
pub record Same (cells l : List ℕ) : Type 0 where
  pub counted : open_count cells ≡ length l
  pub listed : (o : ℕ) → is_open cells o ≡ true → o ∈ l
  pub kept : (o : ℕ) → o ∈ l → is_open cells o ≡ true
  pub distinct : Pairwise {A = ℕ} ◌≢◌ l

-- the cells behind them do not matter
same_kept : {cells cells' l : List ℕ} → SameOpens cells cells' → Same cells l → Same cells' l
same_kept c s = record {
  counted = same_count c ∙ s.counted;
  listed = λ o e. s.listed o (sym (same_open c o) ∙ e);
  kept = λ o i. same_open c o ∙ s.kept o i;
  distinct = s.distinct;
}

pub same_none : Same none_open []
same_none = record { counted = count_none; listed = λ o e. absurd (none_open_lem o e); kept = λ o i. absurd (no_member i); distinct = tt }

module _ {m : Machine} {h : History} {es : List Entry} (g : Good m h es) {l : List ℕ} (s : Same m.opens l) where
  same_opening : room_to_open m.opens ≡ true → Same (opening m.opens (last_given m.opens + 1)) (suc (begun_count h) ∷ l)
  same_opening room =
      let b = g.books in
      let next = last_given m.opens + 1 in
      let new : (o : ℕ) → o ∈ l → next ≡ o → ⊥ = λ o i e. omega (arith, e, next_is g, (b.bounded o (b.opened o (s.kept o i)).0).1) in
      subst (λ (o : ℕ). Same (opening m.opens next) (o ∷ l)) (next_is g)
      record {
        counted = omega (arith, count_opening m.opens next b.open_numbers_lem.sized room, s.counted);
        listed = λ o e. elim (open_before m.opens next b.open_numbers_lem.sized room o e) [ inl q ↦ here q | inr q ↦ there (s.listed o q) ];
        kept = λ o i. elim (cases_cons i) [
          | inl q ↦ subst (λ (p : ℕ). is_open (opening m.opens next) p ≡ true) (sym q) (opened_now m.opens next b.open_numbers_lem.sized room)
          | inr t ↦ still_open m.opens next b.open_numbers_lem.sized room o (s.kept o t)
        ];
        distinct = (new, s.distinct);
      }

  same_closing : (o : ℕ) → is_open m.opens o ≡ true → Same (closing m.opens o) (open_without o l)
  same_closing o was =
      let b = g.books in
      let i : o ∈ l = s.listed o was in
      record {
        counted = omega (arith, count_closing m.opens o b.open_numbers_lem.sized was, length_without l (index_of l o) (in_index l o i), s.counted);
        listed = λ p e. let t = open_after_closing m.opens o b.open_numbers_lem.sized was b.open_numbers_lem.once p e in stays_in o l i p t.1 (s.listed p t.0);
        kept = λ p j. others_stay_open m.opens o b.open_numbers_lem.sized was p (is_out o l i s.distinct p j) (s.kept p (was_in o l i p j));
        distinct = distinct_out o l i s.distinct;
      }

  pub same_changed : {cells' : List ℕ} {h' : History} {l' : List ℕ} → Change m.opens h l cells' h' l' → Same cells' l'
  same_changed (stays c e q) = rw q (same_kept c s)
  same_changed (begins k room c e q) = rw q (same_kept c (same_opening room))
  same_changed (finishes o vs was c e q) = rw q (same_kept c (same_closing o was))
  same_changed (gives_up o was c e q) = rw q (same_kept c (same_closing o was))

pub same_reached : {m : Machine} {h : History} {es : List Entry} → Good m h es → {l : List ℕ} → Same m.opens l → (xs : List Step)
    → Same (reached m xs).opens (open_from m h l xs)
same_reached g s [] = s
same_reached {m} {h} g {l} s (x ∷ xs) = same_reached {m = after m x} (good_after g x) (same_changed g s (change m h l x)) xs

-- ---- a begin while 64 are open

-- the step begins an operation that neither 1 nor 3 nor 16 refuses
pub data Begins : Step → Type 0 where
  reading : (x : ℕ) → x < limits.objects → Begins (BeginRead x)
  writing : (x v : ℕ) → x < limits.objects → Begins (BeginWrite x v)
  reading_context : (x : Objects) → is_naming x ≡ true → are_objects (context_of x) ≡ true → are_different (context_of x) ≡ true → Begins (BeginContext x)

-- an outcome that is refusal 5 exactly when 64 are open
abbrev FullExactly : List ℕ → Outcome → Type 0
FullExactly cells u = (u.decision.answer ≡ Refused OpenFull) ↔ (open_count cells ≡ limits.open_operations)

-- with room it is not
not_full : (cells : List ℕ) {A : Type 0} → room_to_open cells ≡ true → (A → ⊥) → A ↔ (open_count cells ≡ limits.open_operations)
not_full cells room n = (λ e. absurd (n e), λ e. absurd (omega (arith, e, room_below cells room)))

full_begin : (g : Given) (isWrite : Bool) (x v : ℕ) → x < limits.objects → last_given g.opens < limits.last_operation
    → FullExactly g.opens (changing_opens g (begin_operation g.opens g.held isWrite x v))
unfolding begin_operation refusing
full_begin g isWrite x v small left =
    rw (lt-leb limits.objects x small, lt-leb limits.last_operation (last_given g.opens) left)
    (by_test P (room_to_open g.opens)
    (λ room. both P (overfull g.held 0 1)
    (not_full g.opens room (λ e. let z : ◌≡◌ {A = ℕ} 0 1 = cc in omega arith))
    (not_full g.opens room (λ e. let z : ◌≡◌ {A = ℕ} 0 1 = cc in omega arith)))
    (λ full. (λ e. full_count g.opens full, λ e. refl)))
  where
    P : Opened → Type 0
    P u = FullExactly g.opens (changing_opens g u)

full_context : (g : Given) (x : Objects) → are_objects (context_of x) ≡ true → are_different (context_of x) ≡ true → last_given g.opens < limits.last_operation
    → FullExactly g.opens (changing_opens g (begin_context g.opens g.held x))
unfolding begin_context refusing
full_context g x known different left =
    rw (known, different, lt-leb limits.last_operation (last_given g.opens) left)
    (by_test P (room_to_open g.opens)
    (λ room. both P (overfull g.held 0 1)
    (not_full g.opens room (λ e. let z : ◌≡◌ {A = ℕ} 0 1 = cc in omega arith))
    (both P (ltb (free_row g.opens) limits.contexts)
    (not_full g.opens room (λ e. let z : ◌≡◌ {A = ℕ} 0 1 = cc in omega arith))
    (not_full g.opens room (λ e. let z : ◌≡◌ {A = ℕ} 0 1 = cc in omega arith))))
    (λ full. (λ e. full_count g.opens full, λ e. refl)))
  where
    P : Opened → Type 0
    P u = FullExactly g.opens (changing_opens g u)

full_step : (m : Machine) → limits.waiting ≤ length m.waiting.packets → last_given m.opens < limits.last_operation → {step : Step} → Begins step
    → FullExactly m.opens (outcome_of m step)
unfolding decided_in decided is_malformed
full_step m wide left (reading x small) = rw (le-ltb (length m.waiting.packets) limits.waiting wide) (full_begin (given_by m) false x 0 small left)
full_step m wide left (writing x v small) = rw (le-ltb (length m.waiting.packets) limits.waiting wide) (full_begin (given_by m) true x v small left)
full_step m wide left (reading_context x named known different) =
    rw (named, le-ltb (length m.waiting.packets) limits.waiting wide) (full_context (given_by m) x known different left)

-- the row of places stays as long as it is
pub length_reached : (m : Machine) (xs : List Step) → length (reached m xs).waiting.packets ≡ length m.waiting.packets
unfolding after
length_reached m [] = refl
length_reached m (x ∷ xs) = length_reached (after m x) xs ∙ length_edited m.waiting (outcome_of m x).decision.edit

-- FOR EVERY START THAT IS NOT REFUSED, EVERY LENT ROW OF PLACES AND EVERY LIST OF STEPS, refused ones included
module _ (b : Setup) (starts : start_refused b ≡ false) (row : List Packet) (xs : List Step) where
  pub same_run : Same (machine_of b row xs).opens (open_of b row xs)
  unfolding started
  same_run = same_reached (good_start b starts row) same_none xs

  -- the machine has as many operations open as the steps and their answers tell
  pub open_counted : open_count (machine_of b row xs).opens ≡ length (open_of b row xs)
  open_counted = same_run.counted

  -- and it has the same ones open
  pub open_exactly : (o : ℕ) → (is_open (machine_of b row xs).opens o ≡ true) ↔ (o ∈ open_of b row xs)
  open_exactly o = (same_run.listed o, same_run.kept o)

  -- 'at most 64 are open': with 64 lent places, a begin that neither 1, 3 and 16 (its objects) nor 4 (the last operation is given) refuses is refused with 5 exactly when 64 are open
  pub full_exactly : 64 ≤ length row → begun_count (history_of b row xs) < limits.last_operation → {step : Step} → Begins step
      → (answer_to (machine_of b row xs) step ≡ Refused OpenFull) ↔ (length (open_of b row xs) ≡ 64)
  unfolding answer_to started none_wait
  full_exactly wide left {step} begins-it =
      let m = machine_of b row xs in
      subst (λ (k : ℕ). (answer_to m step ≡ Refused OpenFull) ↔ (k ≡ 64)) open_counted
      (full_step m (rw (length_reached (started b row) xs) wide) (rw (good_run b starts row xs).books.numbered left) begins-it)
