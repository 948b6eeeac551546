-- Every step keeps the invariant.
use mathlib.Core.Path.{◌≡◌, refl, sym, ap, ◌∙◌, subst}
use mathlib.Core.Bool.{Bool, true, false, cond, not}
use mathlib.Core.List.{List, [], ◌∷◌, ◌++◌}
use mathlib.Core.Logic.{inl, inr}
use Prim.Native.Nat.{ℕ, suc, ◌+◌, ◌%◌, ◌≤◌, ◌<◌}
use native.Mathlib.Numerals.{add-one}
use native.Mathlib.Omega.{arith}
use lib.Dec.{eqb, leb, ltb}
use lib.ListN.{length, take}
use borrow.Author.Tests.{eqb-true, le-leb, leb-false, le-ltb, ltb-true, ltb-false}
use Rattle.lists.proofs.Tests.{by_test, both}
use Rattle.limits.specs as limits
use Rattle.history.specs.History.{◌∈◌, Kind, reads, writes, History, begun}
use Rattle.history.proofs.Lists.{here, there, inserted, cases_cons, only-member}
use Rattle.history.proofs.Entries.{Entry, Unfinished}
use Rattle.history.proofs.Growth.{older, begun_not_finished}
use Rattle.switch.specs.Numbers.{number_in, committed_in}
use Rattle.switch.specs.DirtySet.{new_switch}
use Rattle.switch.proofs.Laws.{new_counter, new_committed}
use Rattle.operations.specs.{is_open, last_given, room_to_open, opening}
use Rattle.operations.proofs.Behind.{same_last}
use Rattle.operations.proofs.Counted.{counted_opening}
use Rattle.operations.proofs.Laws.{SizedOpens, sized_opening, last_opening, open_before, last_closing}
use Rattle.contexts.specs.declared.Objects.{Objects}
use Rattle.contexts.specs.{context_of, numbers_of, are_objects, are_different, is_count, is_naming, size_at, context_at, free_row, holding}
use Rattle.contexts.proofs.Places.{naming_count, objects_small}
use Rattle.contexts.proofs.Rows.{Apart, size_is, context_opening, context_closing, context_apart, opens_holding, sized_holding, size_held, numbers_held, free_apart}
use Rattle.waiting.specs.declared.Packet.{Packet}
use Rattle.waiting.specs.Waiting.{held, look_at}
use Rattle.waiting.proofs.Laws as waiting
use Rattle.protocol.specs.declared.Message.{Message}
use Rattle.protocol.specs.declared.Message.TheVariants.{SwitchRead, ContextRead}
use Rattle.protocol.specs.declared.Refusal.TheVariants.{Format, ObjectNumber, OperationsUsedUp, OpenFull, WaitingFull, NoPacket, UnstampedRepeat, SwitchNumber, NotOpen, BufferTooShort, SameObject, WrongStore}
use Rattle.protocol.specs.declared.Step.{Step}
use Rattle.protocol.specs.declared.Step.TheVariants.{Start, BeginRead, BeginWrite, Deliver, Lose, Repeat, Advance, Replace, Tell, Remove, GiveUp, BeginContext, Join, Copy, Execute}
use Rattle.protocol.specs.Messages.{packet_of, context_message, message_of, is_unstamped, is_of_context, in_row}
use Rattle.protocol.specs.Decisions.{Switched, Opened, opened, changing_switch, changing_store, changing_opens, deciding, no_edit, add_one, dropping, overfull}
use Rattle.protocol.specs.Contexts.{released, leaving, dropping_row}
use Rattle.protocol.specs.Steps.{Machine, given_by, asking, begin_operation, begin_context, delivered, lost, copied, repeated, advancing, executing_on, replacing, telling, removing, joining, copying_on, giving_up, decided, is_malformed, decided_in, position_of, outcome_of}
use Rattle.linearizability.specs.Run.{begun_count, noted}
use Rattle.protocol.proofs.Effects.{Names}
use Rattle.linearizability.proofs.Packets.{Asks, not_free, unstamped_one, unstamped_append, asks_none}
use Rattle.linearizability.proofs.Core.{core_begin, core_add, core_join, core_rows, core_commit, core_ask}
use Rattle.linearizability.proofs.Waits.{messages, front, back, Stands, stands_in_lem, at_position, edited_nothing, added_packet, added_one}
use Rattle.linearizability.proofs.SwitchLaws.{holds_new}
use Rattle.linearizability.proofs.Invariant.{only, Placed, InRange, Books, one_chain, ChainCore, Good, Then, order_stays, good_refused, posted_add, new_number, new_unfinished}
use Rattle.linearizability.proofs.Copies.{family_names, family_only, family_asks, family_placed, family_fine, packet_family}
use Rattle.linearizability.proofs.Deliveries.{good_of, books_closed, books_same, good_dropped, good_freed}
use Rattle.linearizability.proofs.Invariant.{ReplicasHold, in_chain, in_quorum}
use Rattle.linearizability.proofs.ChainMoves.{good_advance, good_tell, good_remove, good_join, good_copy}
use Rattle.linearizability.proofs.QuorumMoves.{good_told, good_follower, good_execute}
use Rattle.linearizability.proofs.Messages.{good_message}
use Rattle.protocol.specs.Steps.{is_sound}

-- ---- begin

-- an operation that begins is none of those that finished
pub unfinished_begin : {h : History} {o p : ℕ} {k : Kind} → Unfinished h p → Unfinished (begun o k ∷ h) p
unfinished_begin u f = u (f.0, older f.1 (λ e. begun_not_finished (sym e)))

same_begin : {o p : ℕ} {j k : Kind} → begun o j ≡ begun p k → (o ≡ p) × (j ≡ k)
same_begin e = ((cc), (cc))

-- the next number that is given
pub next_is : {m : Machine} {h : History} {es : List Entry} (g : Good m h es) → last_given m.opens + 1 ≡ suc (begun_count h)
next_is {m} g = add-one (last_given m.opens) ∙ ap suc g.books.numbered

books_begin : {m : Machine} {h : History} {es : List Entry} (g : Good m h es) (k : Kind) → InRange k → room_to_open m.opens ≡ true
    → last_given m.opens < limits.last_operation → Books (opening m.opens (last_given m.opens + 1)) (begun (suc (begun_count h)) k ∷ h)
books_begin {m} {h} g k fits room left =
    let b = g.books in
    let next = last_given m.opens + 1 in
    let last : last_given (opening m.opens next) ≡ next = last_opening m.opens next b.open_numbers_lem.sized room in
    record {
      open_numbers_lem = counted_opening b.open_numbers_lem room;
      opened = λ o e. elim (open_before m.opens next b.open_numbers_lem.sized room o e) [
        | inl q ↦ ((k, here (ap (λ (p : ℕ). begun p k) (q ∙ next_is g))), unfinished_begin (subst (Unfinished h) (sym (q ∙ next_is g)) (new_unfinished g)))
        | inr q ↦ let was = b.opened o q in ((was.0.0, there was.0.1), unfinished_begin was.1)
      ];
      numbered = last ∙ next_is g;
      few = omega (arith, last);
      bounded = λ o p. elim (cases_cons p.1) [
        | inl e ↦ (omega (arith, (same_begin e).0), omega (arith, (same_begin e).0))
        | inr t ↦ let u = b.bounded o (p.0, t) in (u.0, omega (arith, u.1))
      ];
      ranged = λ o j i. elim (cases_cons i) [ inl e ↦ subst InRange (sym (same_begin e).1) fits | inr t ↦ b.ranged o j t ];
      ends_once = b.ends_once;
    }

-- what a begun operation asks is fine
asked_core : {m : Machine} {h : History} {es : List Entry} (g : Good m h es) (isWrite : Bool) (x v : ℕ)
    → ChainCore (begun (suc (begun_count h)) (cond isWrite (writes x v) (reads (x ∷ []))) ∷ h) es g.issued g.log g.n
    (messages m.waiting ++ asking isWrite (suc (begun_count h)) x v ∷ []) (committed_in m.switch) m.opens
unfolding asking
asked_core {m} {h} g true x v = core_ask g.core (suc (begun_count h)) x v (new_number g)
asked_core {m} {h} g false x v =
    core_add (core_begin g.core (suc (begun_count h)) (reads (x ∷ [])) (new_number g)) (SwitchRead (suc (begun_count h)) x) (here refl) (λ p q. q) (λ p q. q)

asked_placed : (s : List ℕ) (isWrite : Bool) (o x v : ℕ) → Placed s (asking isWrite o x v)
unfolding asking
asked_placed s true o x v = (tt, omega arith)
asked_placed s false o x v = (tt, omega arith)

-- it asks for one stamp at the most
asked_one : (isWrite : Bool) (o x v : ℕ) → unstamped_one (asking isWrite o x v) ≤ 1
unfolding asking
asked_one true o x v = omega arith
asked_one false o x v = omega arith

in_range : (isWrite : Bool) (x v : ℕ) → x < 1024 → InRange (cond isWrite (writes x v) (reads (x ∷ [])))
in_range true x v l = l
in_range false x v l = λ y i. subst (λ (z : ℕ). z < 1024) (sym (only-member i)) l

module _ {m : Machine} {h : History} {es : List Entry} (g : Good m h es) (wide : waiting.Roomy m.waiting) (step : Step) (isWrite : Bool) (x v : ℕ)
    (notes : noted step (deciding no_edit).answer h ≡ begun (suc (begun_count h)) (cond isWrite (writes x v) (reads (x ∷ []))) ∷ h) where
  abbrev P : Opened → Type 0
  P u = Then step m h es (changing_opens (given_by m) u)

  good_begin : P (begin_operation m.opens (held m.waiting) isWrite x v)
  unfolding begin_operation
  good_begin =
      by_test P (leb 1024 x)
      (λ e. good_refused step ObjectNumber g)
      (λ e. by_test P (leb limits.last_operation (last_given m.opens))
      (λ last. good_refused step OperationsUsedUp g)
      (λ last. by_test P (room_to_open m.opens)
      (λ room. by_test P (overfull (held m.waiting) 0 1)
      (λ full. good_refused step WaitingFull g)
      (λ roomy. begins (leb-false 1024 x e) (leb-false limits.last_operation (last_given m.opens) last) room roomy))
      (λ room. good_refused step OpenFull g)))
    where
      begins : x < 1024 → last_given m.opens < limits.last_operation → room_to_open m.opens ≡ true → overfull (held m.waiting) 0 1 ≡ false
          → P (opened (deciding (add_one (packet_of (asking isWrite (last_given m.opens + 1) x v)))) (opening m.opens (last_given m.opens + 1)))
      begins small left room roomy =
          let next = last_given m.opens + 1 in
          let q : Message = asking isWrite next x v in
          let core : ChainCore (begun (suc (begun_count h)) (cond isWrite (writes x v) (reads (x ∷ []))) ∷ h) es g.issued g.log g.n (messages m.waiting ++ q ∷ []) (committed_in m.switch) m.opens =
          rw (next_is g) (asked_core g isWrite x v) in
          rw (notes, order_stays m.store m.store es refl)
          (good_of g.issued g.log g.n (messages m.waiting ++ q ∷ []) (added_one m.waiting wide g.exact q roomy)
          (core_rows core (λ p i r n. context_opening m.opens next r)) g.logged g.replicas
          (posted_add m.store (messages m.waiting) q g.posted (asked_placed m.store isWrite next x v))
          (books_begin g (cond isWrite (writes x v) (reads (x ∷ []))) (in_range isWrite x v small) room left)
          (omega (arith, g.counted, unstamped_append (messages m.waiting) (q ∷ []), asked_one isWrite next x v, last_opening m.opens next g.books.open_numbers_lem.sized room))
          g.switch_holds (waiting.exact_edited m.waiting _ g.exact))

-- ---- a read of a whole context begins

module _ {m : Machine} {h : History} {es : List Entry} (g : Good m h es) (wide : waiting.Roomy m.waiting) (x : Objects) (named : is_naming x ≡ true) where
  abbrev Begins : Opened → Type 0
  Begins u = Then (BeginContext x) m h es (changing_opens (given_by m) u)

  -- its number, its row and its objects
  abbrev number : ℕ
  number = last_given m.opens + 1

  abbrev row : ℕ
  row = free_row m.opens

  abbrev objects : List ℕ
  objects = numbers_of (context_of x)

  abbrev cells : List ℕ
  cells = holding (opening m.opens number) row (context_of x)

  sized : SizedOpens (opening m.opens number)
  sized = sized_opening m.opens number g.books.open_numbers_lem.sized

  -- a row that is named is another
  taken : row < 64 → (q : Message) → q ∈ messages m.waiting → (r : ℕ) → Names q r → Apart row r
  taken free q i r n = free_apart m.opens r free (not_free (size_at m.opens r) (g.core.packets.used q r i n))

  context_core : row < 64 → ChainCore (begun (suc (begun_count h)) (reads objects) ∷ h) es g.issued g.log g.n
      (messages m.waiting ++ ContextRead number row ∷ []) (committed_in m.switch) cells
  context_core free =
      core_join
      (core_rows (core_begin g.core (suc (begun_count h)) (reads objects) (new_number g))
      (λ q i r n. context_apart (opening m.opens number) row (context_of x) r (taken free q i r n) ∙ context_opening m.opens number r))
      (ContextRead number row)
      (here (λ j. begun (next_is g j) (reads (numbers_held (opening m.opens number) row (context_of x) sized j)))) (λ p q. q)
      (λ q i r s n e d. taken free q i r n (ap (λ (k : ℕ). k % limits.contexts) e ∙ sym d))
      (λ r e. subst (λ (k : ℕ). is_count (size_at cells k) ≡ true) e (ap is_count (size_held (opening m.opens number) row (context_of x) sized) ∙ naming_count x named))

  good_context_begins : are_objects (context_of x) ≡ true → last_given m.opens < limits.last_operation → room_to_open m.opens ≡ true → overfull (held m.waiting) 0 1 ≡ false → row < 64
      → Begins (opened (deciding (add_one (packet_of (ContextRead number row)))) cells)
  good_context_begins small left room roomy free =
      rw (order_stays m.store m.store es refl)
      (good_of g.issued g.log g.n (messages m.waiting ++ ContextRead number row ∷ [])
      (added_one m.waiting wide g.exact (ContextRead number row) roomy) (context_core free) g.logged g.replicas
      (posted_add m.store (messages m.waiting) (ContextRead number row) g.posted (tt, omega arith))
      (books_same (opens_holding (opening m.opens number) row (context_of x)) (sized_holding (opening m.opens number) row (context_of x) sized)
      (books_begin g (reads objects) (objects_small (context_of x) small) room left))
      (omega (
        arith,
        g.counted,
        unstamped_append (messages m.waiting) (ContextRead number row ∷ []),
        last_opening m.opens number g.books.open_numbers_lem.sized room,
        same_last (opens_holding (opening m.opens number) row (context_of x)),
      ))
      g.switch_holds (waiting.exact_edited m.waiting _ g.exact))

  good_begin_context : Begins (begin_context m.opens (held m.waiting) x)
  unfolding begin_context
  good_begin_context =
      by_test Begins (are_objects (context_of x))
      (λ small. both Begins (are_different (context_of x))
      (by_test Begins (leb limits.last_operation (last_given m.opens))
      (λ last. good_refused (BeginContext x) OperationsUsedUp g)
      (λ last. by_test Begins (room_to_open m.opens)
      (λ room. by_test Begins (overfull (held m.waiting) 0 1)
      (λ full. good_refused (BeginContext x) WaitingFull g)
      (λ roomy. by_test Begins (ltb row 64)
      (λ free. good_context_begins small (leb-false limits.last_operation (last_given m.opens) last) room roomy (ltb-true row 64 free))
      (λ none. good_refused (BeginContext x) WaitingFull g)))
      (λ room. good_refused (BeginContext x) OpenFull g)))
      (good_refused (BeginContext x) SameObject g))
      (λ large. good_refused (BeginContext x) ObjectNumber g)

-- ---- packets are delivered, lost, repeated

-- a packet that may be repeated is no unstamped write
asks_not : (p : Packet) → is_unstamped p ≡ false → (o : ℕ) → Asks (message_of p) o → ⊥
unfolding is_unstamped message_of context_message
asks_not p e o =
    let P : Message → Type 0 = λ q. Asks q o → ⊥ in
    rw e
    (both P (eqb p.kind 2) (λ a. a) (both P (eqb p.kind 3) (λ a. a) (both P (eqb p.kind 4) (λ a. a)
    (both P (eqb p.kind 5) (λ a. a) (both P (eqb p.kind 6) (λ a. a) (both P (eqb p.kind 7) (λ a. a)
    (both P (eqb p.kind 8) (λ a. a) (both P (eqb p.kind 9) (λ a. a) (both P (eqb p.kind 10) (λ a. a) (both P (eqb p.kind 11) (λ a. a) (both P (eqb p.kind 12) (λ a. a) (λ a. a))))))))))))

-- nor one that names a row, unless it is of a context
pub names_not : (p : Packet) → is_of_context p ≡ false → (r : ℕ) → Names (message_of p) r → ⊥
unfolding is_of_context message_of context_message
names_not p e r =
    let P : Message → Type 0 = λ q. Names q r → ⊥ in
    both P (eqb p.kind 1) (λ a. a) (both P (eqb p.kind 2) (λ a. a) (both P (eqb p.kind 3) (λ a. a) (both P (eqb p.kind 4) (λ a. a)
    (both P (eqb p.kind 5) (λ a. a) (both P (eqb p.kind 6) (λ a. a) (both P (eqb p.kind 7) (λ a. a)
    (by_test P (eqb p.kind 8) (λ k. absurd (other 8 (eqb-true p.kind 8 k) (omega arith) (omega arith)))
    (λ f. by_test P (eqb p.kind 9) (λ k. absurd (other 9 (eqb-true p.kind 9 k) (omega arith) (omega arith)))
    (λ f. by_test P (eqb p.kind 10) (λ k. absurd (other 10 (eqb-true p.kind 10 k) (omega arith) (omega arith)))
    (λ f. by_test P (eqb p.kind 11) (λ k. absurd (other 11 (eqb-true p.kind 11 k) (omega arith) (omega arith)))
    (λ f. both P (eqb p.kind 12) (λ a. a) (λ a. a))))))))))))
  where
    other : (k : ℕ) → p.kind ≡ k → 8 ≤ k → k ≤ 11 → ⊥
    other k q low high =
        let t : true ≡ false = sym (rw (le-ltb p.kind 8 (omega (arith, q, low))) (le-leb p.kind 11 (omega (arith, q, high)))) ∙ e in
        let z : ◌≡◌ {A = ℕ} 0 1 = cc in omega arith

module _ {m : Machine} {h : History} {es : List Entry} (g : Good m h es) (wide : waiting.Roomy m.waiting) (at : ℕ) where
  -- the packet at the position
  abbrev packet : Packet
  packet = look_at m.waiting.packets at

  -- the message that it holds
  there_is : leb (held m.waiting) at ≡ false → Stands m.waiting at (message_of packet)
  there_is e = at_position m.waiting at wide (leb-false (held m.waiting) at e)

  -- it leaves the list, and a row that it names is free
  good_leaves : (choice : ℕ) → Stands m.waiting at (message_of packet) → Then (Deliver at choice) m h es (changing_opens (given_by m) (leaving m.opens packet at))
  unfolding leaving released dropping_row
  good_leaves choice s =
      by_test (λ (l : List ℕ). Then (Deliver at choice) m h es (changing_opens (given_by m) (opened (dropping at) l))) (is_of_context packet)
      (λ c.
      let (q, family, holds) = packet_family packet c in
      good_freed g choice s packet.value (subst (λ (p : Message). Names p packet.value) (sym (holds packet.value)) (family_names family packet.value)))
      (λ c. good_dropped g choice s)

  good_deliver : (choice : ℕ) → Then (Deliver at choice) m h es (delivered (given_by m) packet at choice)
  unfolding delivered
  good_deliver choice =
      by_test (Then (Deliver at choice) m h es) (leb (held m.waiting) at)
      (λ e. good_refused (Deliver at choice) NoPacket g)
      (λ e. both (Then (Deliver at choice) m h es) (is_sound m.opens packet) (good_message g choice (message_of packet) (there_is e)) (good_leaves choice (there_is e)))

  good_lose : Then (Lose at) m h es (changing_opens (given_by m) (lost m.opens (held m.waiting) packet at))
  unfolding lost leaving released dropping
  good_lose =
      by_test (λ (u : Opened). Then (Lose at) m h es (changing_opens (given_by m) u)) (leb (held m.waiting) at)
      (λ e. good_refused (Lose at) NoPacket g)
      (λ e. good_leaves 0 (there_is e))

  -- a copy of a packet of a context, with a copy of its row
  good_copied : is_of_context packet ≡ true → free_row m.opens < 64 → Stands m.waiting at (message_of packet) → overfull (held m.waiting) 0 1 ≡ false
      → Then (Repeat at) m h es (changing_opens (given_by m)
      (opened (deciding (add_one (in_row packet (free_row m.opens)))) (holding m.opens (free_row m.opens) (context_at m.opens packet.value))))
  good_copied c free s roomy =
      let (q, family, holds) = packet_family packet c in
      let l = m.opens in
      let r = free_row l in
      let was = packet.value in
      let v = context_at l was in
      let z = g.books.open_numbers_lem.sized in
      let i : q was ∈ messages m.waiting = subst (λ (p : Message). p ∈ messages m.waiting) (holds was) (stands_in_lem s) in
      let used : is_count (size_at l was) ≡ true = g.core.packets.used (q was) was i (family_names family was) in
      let apart : (p : Message) → p ∈ messages m.waiting → (k : ℕ) → Names p k → Apart r k = λ p j k n. free_apart l k free (not_free (size_at l k) (g.core.packets.used p k j n)) in
      let core : ChainCore h es g.issued g.log g.n (messages m.waiting ++ q r ∷ []) (committed_in m.switch) (holding l r v) =
      core_join (core_rows g.core (λ p j k n. context_apart l r v k (apart p j k n))) (q r)
      (family_fine family one_chain h es g.issued (only (take g.n g.log)) l (holding l r v) was r (numbers_held l r v z) (g.core.packets.fine (q was) i)) (family_asks family r)
      (λ p j k t n o d. apart p j k n (ap (λ (y : ℕ). y % limits.contexts) (sym (family_only family r t o)) ∙ sym d))
      (λ k n. subst (λ (y : ℕ). is_count (size_at (holding l r v) y) ≡ true) (sym (family_only family r k n)) (ap is_count (size_held l r v z ∙ size_is l was) ∙ used)) in
      rw (order_stays m.store m.store es refl)
      (good_of g.issued g.log g.n (messages m.waiting ++ q r ∷ [])
      (added_packet m.waiting wide g.exact (in_row packet r) roomy ∙ ap (λ (p : Message). messages m.waiting ++ p ∷ []) (holds r)) core g.logged g.replicas
      (posted_add m.store (messages m.waiting) (q r) g.posted (family_placed family m.store was r (g.posted (q was) i)))
      (books_same (opens_holding l r v) (sized_holding l r v z) g.books)
      (omega (arith, g.counted, unstamped_append (messages m.waiting) (q r ∷ []), asks_none (q r) (family_asks family r), same_last (opens_holding l r v)))
      g.switch_holds (waiting.exact_edited m.waiting _ g.exact))

  good_repeat : Then (Repeat at) m h es (changing_opens (given_by m) (repeated m.opens (held m.waiting) packet at))
  unfolding repeated copied
  good_repeat =
      by_test P (leb (held m.waiting) at)
      (λ e. good_refused (Repeat at) NoPacket g)
      (λ e. by_test P (is_unstamped packet)
      (λ u. good_refused (Repeat at) UnstampedRepeat g)
      (λ u. by_test P (overfull (held m.waiting) 0 1)
      (λ full. good_refused (Repeat at) WaitingFull g)
      (λ roomy. by_test P (is_of_context packet)
      (λ c. by_test P (ltb (free_row m.opens) 64)
      (λ free. good_copied c (ltb-true (free_row m.opens) 64 free) (there_is e) roomy)
      (λ none. good_refused (Repeat at) WaitingFull g))
      (λ c. again (there_is e) (asks_not packet u) (names_not packet c) roomy))))
    where
      P : Opened → Type 0
      P u = Then (Repeat at) m h es (changing_opens (given_by m) u)

      again : Stands m.waiting at (message_of packet) → ((o : ℕ) → Asks (message_of packet) o → ⊥) → ((r : ℕ) → Names (message_of packet) r → ⊥)
          → overfull (held m.waiting) 0 1 ≡ false → P (opened (deciding (add_one packet)) m.opens)
      again s u k roomy =
          let p : Message = message_of packet in
          let i : p ∈ messages m.waiting = subst (λ (l : List Message). p ∈ l) (sym s.split) (inserted (front at m.waiting) p (back at m.waiting)) in
          rw (order_stays m.store m.store es refl)
          (good_of g.issued g.log g.n (messages m.waiting ++ p ∷ []) (added_packet m.waiting wide g.exact packet roomy)
          (core_add g.core p (g.core.packets.fine p i) u k) g.logged g.replicas
          (posted_add m.store (messages m.waiting) p g.posted (g.posted p i)) g.books
          (omega (arith, g.counted, unstamped_append (messages m.waiting) (p ∷ []), asks_none p u)) g.switch_holds
          (waiting.exact_edited m.waiting _ g.exact))

-- ---- the switch is replaced, and an operation is given up

good_replace : {m : Machine} {h : History} {es : List Entry} (g : Good m h es) (number : ℕ) → number < limits.switch_numbers → Then (Replace number) m h es (changing_switch (given_by m) (replacing m.switch number))
unfolding replacing
good_replace {m} {h} {es} g number short =
    by_test (λ (u : Switched). Then (Replace number) m h es (changing_switch (given_by m) u)) (leb number (number_in m.switch))
    (λ e. good_refused (Replace number) SwitchNumber g)
    (λ e.
    rw (order_stays m.store m.store es refl)
    (good_of g.issued g.log g.n (messages m.waiting) (ap messages (edited_nothing m.waiting))
    (core_commit g.core (λ d. committed_in (new_switch number)) (λ x. omega (arith, new_committed number)))
    g.logged g.replicas g.posted g.books (omega (arith, g.counted, new_counter number))
    (holds_new number short (λ u i. omega (arith, g.switch_holds.numbers u i, leb-false number (number_in m.switch) e)))
    (waiting.exact_edited m.waiting no_edit g.exact)))

good_give_up : {m : Machine} {h : History} {es : List Entry} (g : Good m h es) (o : ℕ) → Then (GiveUp o) m h es (changing_opens (given_by m) (giving_up m.opens o))
unfolding giving_up
good_give_up {m} {h} {es} g o =
    by_test (λ (u : Opened). Then (GiveUp o) m h es (changing_opens (given_by m) u)) (is_open m.opens o)
    (λ still.
    rw (order_stays m.store m.store es refl)
    (good_of g.issued g.log g.n (messages m.waiting) (ap messages (edited_nothing m.waiting))
    (core_rows g.core (λ q i r n. context_closing m.opens o r)) g.logged g.replicas g.posted
    (books_closed o still g.books) (omega (arith, g.counted, last_closing m.opens o g.books.open_numbers_lem.sized still)) g.switch_holds
    (waiting.exact_edited m.waiting no_edit g.exact)))
    (λ e. good_refused (GiveUp o) NotOpen g)

-- ---- every step

not_false_true : (b : Bool) → not b ≡ false → b ≡ true
not_false_true true e = refl
not_false_true false e = absurd (let z : ◌≡◌ {A = ℕ} 0 1 = cc in omega arith)

-- the steps that change the replicas, by the kind of store
module _ {m : Machine} {h : History} {es : List Entry} (g : Good m h es) where
  replica_advance : (r : ℕ) → waiting.Roomy m.waiting → ReplicasHold m.store g.log g.n → Then (Advance r) m h es (changing_store (given_by m) (advancing m.store (held m.waiting) r))
  unfolding advancing
  replica_advance r wide (in_chain k) = rw k.kind (good_advance g k r wide)
  replica_advance r wide (in_quorum k) = rw k.kind (good_follower g k r wide)

  replica_tell : (r : ℕ) → ReplicasHold m.store g.log g.n → Then (Tell r) m h es (changing_store (given_by m) (telling m.switch m.store r))
  replica_tell r (in_chain k) = good_tell g k r
  replica_tell r (in_quorum k) = good_told g k r

  replica_remove : (r : ℕ) → ReplicasHold m.store g.log g.n → Then (Remove r) m h es (changing_store (given_by m) (removing m.store r))
  unfolding removing
  replica_remove r (in_chain k) = good_remove g k r
  replica_remove r (in_quorum k) = rw k.kind (good_refused (Remove r) WrongStore g)

  replica_join : ReplicasHold m.store g.log g.n → Then Join m h es (changing_store (given_by m) (joining m.store))
  unfolding joining
  replica_join (in_chain k) = good_join g k
  replica_join (in_quorum k) = rw k.kind (good_refused Join WrongStore g)

  replica_copy : ReplicasHold m.store g.log g.n → Then Copy m h es (changing_store (given_by m) (copying_on m.store))
  unfolding copying_on
  replica_copy (in_chain k) = good_copy g k
  replica_copy (in_quorum k) = rw k.kind (good_refused Copy WrongStore g)

  replica_execute : waiting.Roomy m.waiting → ReplicasHold m.store g.log g.n → Then Execute m h es (changing_store (given_by m) (executing_on m.store (held m.waiting)))
  unfolding executing_on
  replica_execute wide (in_chain k) = rw k.kind (good_refused Execute WrongStore g)
  replica_execute wide (in_quorum k) = good_execute g k wide

good_decided : {m : Machine} {h : History} {es : List Entry} (g : Good m h es) → waiting.Roomy m.waiting → (x : Step) → is_malformed x ≡ false
    → Then x m h es (decided (given_by m) (look_at m.waiting.packets (position_of x)) x)
unfolding decided position_of is_malformed
good_decided g wide (Start b) some = good_refused (Start b) Format g
good_decided g wide (BeginRead x) some = good_begin g wide (BeginRead x) false x 0 refl
good_decided g wide (BeginWrite x v) some = good_begin g wide (BeginWrite x v) true x v refl
good_decided g wide (Deliver at choice) some = good_deliver g wide at choice
good_decided g wide (Lose at) some = good_lose g wide at
good_decided g wide (Repeat at) some = good_repeat g wide at
good_decided g wide (Advance r) some = replica_advance g r wide g.replicas
good_decided g wide (Replace number) some = good_replace g number (leb-false limits.switch_numbers number some)
good_decided g wide (Tell r) some = replica_tell g r g.replicas
good_decided g wide (Remove r) some = replica_remove g r g.replicas
good_decided g wide (GiveUp o) some = good_give_up g o
good_decided g wide (BeginContext x) some = good_begin_context g wide x (not_false_true (is_naming x) some)
good_decided g wide Join some = replica_join g g.replicas
good_decided g wide Copy some = replica_copy g g.replicas
good_decided g wide Execute some = replica_execute g wide g.replicas

-- where fewer than 64 places are lent for the packets, every step is refused
pub good_step : {m : Machine} {h : History} {es : List Entry} (g : Good m h es) (x : Step) → Then x m h es (outcome_of m x)
unfolding decided_in
good_step {m} {h} {es} g x =
    by_test (Then x m h es) (is_malformed x)
    (λ none. good_refused x Format g)
    (λ some. by_test (Then x m h es) (ltb (length m.waiting.packets) limits.waiting)
    (λ short. good_refused x BufferTooShort g)
    (λ wide. good_decided g (ltb-false (length m.waiting.packets) limits.waiting wide) x some))
