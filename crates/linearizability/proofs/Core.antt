-- The invariant of the order, the visible writes, the waiting packets and the switch's last-committed stamps together, and every change that a step makes to them.
-- Of the replicas there is only what each chain shows: how a chain or a quorum of replicas holds its log is no part of it.
use mathlib.Core.Path.{◌≡◌, refl, sym, ap, ◌∙◌, subst}
use mathlib.Core.Logic.{◌⊎◌, inl, inr, ◌≢◌}
use mathlib.Core.Bool.{true, cond}
use mathlib.Core.List.{List, [], ◌∷◌, ◌++◌, map, append_assoc, append-nil}
use Prim.Native.Nat.{ℕ, suc, ◌%◌, ◌≤◌, ◌<◌}
use native.Mathlib.Decide.{ℕ_discrete}
use native.Mathlib.Omega.{arith}
use lib.Dec.{eqb}
use lib.ListN.{length, take, length-append}
use lib.Seq.{take_all, take-append-le}
use borrow.Author.Tests.{eq-eqb, ne_eqb}
use Rattle.history.specs.History.{◌∈◌, Kind, reads, writes, Event, History, begun, finished, Begun}
use Rattle.history.proofs.Lists.{here, there, in_left, in_insert, inserted}
use Rattle.history.proofs.Entries.{Entry, read_entry, New, Unfinished, InOrder}
use Rattle.history.proofs.Growth.{begun_at}
use Rattle.history.proofs.Readable.{Readable, placed, readable_now, readable_forget, readable_begin, readable_visible, readable_finish, readable_placed}
use Rattle.write_log.proofs.Log.{values, stamps, top, Rising, top_append, behind_value, below_top}
use Rattle.limits.specs as limits
use Rattle.contexts.specs.{is_count, size_at, context_at}
use Rattle.contexts.proofs.Rows.{Apart}
use Rattle.store.specs.declared.Write.{Write}
use Rattle.protocol.specs.Answers.{no_freshness, new_read}
use Rattle.protocol.specs.declared.Message.{Message}
use Rattle.protocol.specs.declared.Message.TheVariants.{UnstampedWrite, StampedWrite, Completion, Reply}
use Rattle.linearizability.proofs.Visible.{entry, shows, Wrote, Visible, none_shown, OneMore, visible_wrote, visible_start, visible_begin, visible_finish, visible_reply, visible_stamp, visible_show, hidden_unfinished}
use Rattle.protocol.proofs.Effects.{Names}
use Rattle.linearizability.proofs.Packets.{AnsweredContext, Together, Direct, Fine, Asks, Others, Packets, packets_start, grows_event, packets_grows, packets_begun, packets_lose, packets_join, packets_add, packets_ask, packets_stamp, packets_rows, rows_apart}

-- two functions that agree on a list
pub map_same : (f g : ℕ → ℕ) (xs : List ℕ) → ((x : ℕ) → x ∈ xs → f x ≡ g x) → map f xs ≡ map g xs
map_same f g [] e = refl
map_same f g (x ∷ xs) e = λ j. e x (here refl) j ∷ map_same f g xs (λ y i. e y (there i)) j

-- a reply that says nothing of a pending write is not `new`
none_new : no_freshness ≢ new_read
none_new e = omega (arith, e)

-- c has the switch's last-committed stamp of each chain, and opens the rows of the contexts
pub record Core (chain : ℕ → ℕ) (h : History) (es : List Entry) (issued : List Write) (shown : ℕ → List Write) (messages : List Message) (c : ℕ → ℕ) (opens : List ℕ) : Type 0 where
  pub visible : Visible chain h es issued shown
  pub packets : Packets chain h es issued shown opens messages
  -- it is not above what the chain shows
  pub low : (x : ℕ) → c (chain x) ≤ top 0 (shown (chain x))

-- nothing happened yet
pub core_start : {chain : ℕ → ℕ} {opens : List ℕ} → Core chain [] [] [] none_shown [] (λ d. 0) opens
core_start {chain} = record { visible = visible_start chain; packets = packets_start; low = λ x. omega arith }

module _ {chain : ℕ → ℕ} {h : History} {es : List Entry} {issued : List Write} {shown : ℕ → List Write} {messages : List Message} {c : ℕ → ℕ} {opens : List ℕ}
    (k : Core chain h es issued shown messages c opens) where
  -- ---- the history grows

  -- an event after which the order has the same entries and perhaps others
  core_event : {e : Event} {es' : List Entry} → Visible chain (e ∷ h) es' issued shown → ((f : Entry) → f ∈ es → f ∈ es')
      → ((o : ℕ) (xs vs : List ℕ) (was : List Entry) → Begun h o → Readable h es o xs vs was → Readable (e ∷ h) es' o xs vs was) → Core chain (e ∷ h) es' issued shown messages c opens
  core_event v old r = record { visible = v; packets = packets_grows (grows_event old r) k.packets; low = k.low }

  -- an operation begins
  pub core_begin : (o : ℕ) (a : Kind) → New h o → Core chain (begun o a ∷ h) es issued shown messages c opens
  core_begin o a w = core_event (visible_begin k.visible o a w) (λ f i. i) (λ p xs vs was b r. readable_begin r w b)

  -- an operation of the order finishes
  pub core_finish : {o : ℕ} {vs : List ℕ} → InOrder es o vs → Core chain (finished o vs ∷ h) es issued shown messages c opens
  core_finish i = core_event (visible_finish k.visible i) (λ f j. j) (λ p xs us was b r. readable_finish r)

  -- an answered read finishes, and takes its place in the order
  pub core_reply : {o : ℕ} {xs vs : List ℕ} {was : List Entry} → begun o (reads xs) ∈ h → Unfinished h o → (r : Readable h es o xs vs was)
      → Core chain (finished o vs ∷ h) (placed r) issued shown messages c opens
  core_reply {o} {xs} {vs} b w r =
      core_event (visible_reply k.visible b w r)
      (λ f i. in_insert r.front (read_entry o xs vs) r.back (subst (λ (l : List Entry). f ∈ l) r.cut i))
      (λ p ys us then d q. readable_placed q r w)

  -- ---- packets join the list

  -- one that is no unstamped write, and names no row
  pub core_add : (m : Message) → Fine chain h es issued shown opens m → ((o : ℕ) → Asks m o → ⊥) → ((r : ℕ) → Names m r → ⊥)
      → Core chain h es issued shown (messages ++ m ∷ []) c opens
  core_add m f a b = record { visible = k.visible; packets = packets_add messages m f a b k.packets; low = k.low }

  -- one that names a row, which holds 2 to 8 numbers, and which no other names
  pub core_join : (m : Message) → Fine chain h es issued shown opens m → ((o : ℕ) → Asks m o → ⊥) → ((q : Message) → q ∈ messages → Others q m)
      → ((r : ℕ) → Names m r → is_count (size_at opens r) ≡ true) → Core chain h es issued shown (messages ++ m ∷ []) c opens
  core_join m f a rows held = record { visible = k.visible; packets = packets_join messages m f (λ o b. absurd (a o b)) rows held k.packets; low = k.low }

  -- the rows that are named hold what they held
  pub core_rows : {opens' : List ℕ} → ((q : Message) → q ∈ messages → (r : ℕ) → Names q r → context_at opens' r ≡ context_at opens r)
      → Core chain h es issued shown messages c opens'
  core_rows same = record { visible = k.visible; packets = packets_rows same k.packets; low = k.low }

  -- ---- reads

  -- the values that the visible writes of chain d leave of the objects of that chain are the order's
  order_values : (d : ℕ) (xs : List ℕ) (f : ℕ → ℕ) → Together chain d xs → ((x : ℕ) → x ∈ xs → f x ≡ values (shown d) x) → (o : ℕ) → Readable h es o xs (map f xs) es
  order_values d xs f in_one e o =
      readable_now es (map_same _ _ xs (λ x i. e x i ∙ ap (λ (j : ℕ). values (shown j) x) (sym (in_one x i)) ∙ sym (k.visible.store x)))

  -- a read that carries the stamp s is answered with what its chain shows, and with `new` only if the order has a write from s on
  pub core_answer : (o x v s f : ℕ) → begun o (reads (x ∷ [])) ∈ h → v ≡ values (shown (chain x)) x → (f ≡ new_read → Wrote x s es)
      → Core chain h es issued shown (messages ++ Reply o v s f ∷ []) c opens
  core_answer o x v s f b e w =
      core_add (Reply o v s f) (inr (x, b, es, readable_now es (ap (λ (z : ℕ). z ∷ []) (e ∙ sym (k.visible.store x))), w)) (λ p q. q) (λ p q. q)

  -- so is a direct read
  pub core_direct : (o x v : ℕ) → begun o (reads (x ∷ [])) ∈ h → v ≡ values (shown (chain x)) x → Core chain h es issued shown (messages ++ Reply o v 0 no_freshness ∷ []) c opens
  core_direct o x v b e = core_answer o x v 0 no_freshness b e (λ n. absurd (none_new n))

  -- and a normal read, which is `new` only if x's stamp is not below the one carried
  pub core_normal : (o x s f : ℕ) → begun o (reads (x ∷ [])) ∈ h → (f ≡ new_read → (0 < s) × (s ≤ stamps (shown (chain x)) x))
      → Core chain h es issued shown (messages ++ Reply o (values (shown (chain x)) x) s f ∷ []) c opens
  core_normal o x s f b t = core_answer o x (values (shown (chain x)) x) s f b refl (λ e. visible_wrote k.visible x s (t e).0 (t e).1)

  -- a read of a whole context can be put into the order with what its chain shows
  pub context_now : (o d : ℕ) (xs : List ℕ) (f : ℕ → ℕ) → begun o (reads xs) ∈ h → Together chain d xs → ((x : ℕ) → x ∈ xs → f x ≡ values (shown d) x)
      → AnsweredContext h es o (map f xs)
  context_now o d xs f b in_one e = (xs, b, es, order_values d xs f in_one e o)

  -- the switch lets a direct read pass: no write to its objects was ever stamped above the stamp s that the read carries
  pub core_passes : (o d s : ℕ) (xs : List ℕ) → Together chain d xs → s ≤ top 0 (shown d) → ((w : Write) → w ∈ issued → w.object ∈ xs → w.stamp ≤ s)
      → Direct chain h es shown s o xs
  core_passes o d s xs in_one low none = (
    d,
    in_one,
    low,
    λ j l reach. readable_forget (order_values d xs (values (take j (shown d))) in_one (λ x i.
        behind_value j s x (shown d) (k.visible.rising d) l reach
        (λ w m e. none w (k.visible.of_issued d w m) (subst (λ (y : ℕ). y ∈ xs) (sym e) i))) o),
  )

  -- a replica that has executed the first j of the visible writes, up to the stamp s or beyond, answers the direct read
  pub core_behind : (o x s j : ℕ) → begun o (reads (x ∷ [])) ∈ h → (f : Direct chain h es shown s o (x ∷ [])) → j ≤ length (shown (chain x)) → s ≤ top 0 (take j (shown (chain x)))
      → Core chain h es issued shown (messages ++ Reply o (values (take j (shown (chain x))) x) 0 no_freshness ∷ []) c opens
  core_behind o x s j b (d, in_one, low, behind) l reach =
      let e : chain x ≡ d = in_one x (here refl) in
      core_add (Reply o (values (take j (shown (chain x))) x) 0 no_freshness)
      (inr (x, b, [], rw e (behind j (rw e at l) (rw e at reach)), λ n. absurd (none_new n))) (λ p q. q) (λ p q. q)

  -- ---- the last-committed stamps

  -- a completion, or a new switch
  pub core_commit : (c' : ℕ → ℕ) → ((x : ℕ) → c' (chain x) ≤ top 0 (shown (chain x))) → Core chain h es issued shown messages c' opens
  core_commit c' l = record { visible = k.visible; packets = k.packets; low = l }

  -- ---- the visible writes

  -- chain d shows one write more
  pub core_show : (d : ℕ) (w : Write) {shown' : ℕ → List Write} → OneMore shown shown' d w → w ∈ issued → chain w.object ≡ d → top 0 (shown d) < w.stamp
      → Core chain h (es ++ entry w ∷ []) issued shown' messages c opens
  core_show d w {shown'} m known own above = record {
    visible = v;
    packets = packets_grows (record {
      events = λ e i. i;
      entries = λ e i. in_left (entry w ∷ []) i;
      issues = λ u i. i;
      tops = up;
      reading = λ o xs vs was b r. readable_visible r (entry w) (hidden_unfinished k.visible d w known own above);
      fronts = fronts;
    }) k.packets;
    low = λ x. omega (arith, k.low x, up (chain x));
  }
    where
      v : Visible chain h (es ++ entry w ∷ []) issued shown'
      v = visible_show k.visible d w known own above m

      up : (b : ℕ) → top 0 (shown b) ≤ top 0 (shown' b)
      up b = elim (ℕ_discrete b d) [
        | yes e ↦ rw (e, m.grown, top_append) (omega (arith, above))
        | no n ↦ rw (m.same b n) (omega arith)
      ]

      -- a front part of what a chain shows is one of those before, or all that chain d shows now
      fronts : (b j : ℕ) → j ≤ length (shown' b) → ((j ≤ length (shown b)) × (take j (shown' b) ≡ take j (shown b)))
          ⊎ ((o : ℕ) (xs : List ℕ) → Together chain b xs → Readable h (es ++ entry w ∷ []) o xs (map (values (take j (shown' b))) xs) [])
      fronts b j l = elim (ℕ_discrete b d) [
        | yes e ↦ own_front e
        | no n ↦ inl (rw (m.same b n) at l, ap (take j) (m.same b n))
      ]
        where
          own_front : b ≡ d → ((j ≤ length (shown b)) × (take j (shown' b) ≡ take j (shown b)))
              ⊎ ((o : ℕ) (xs : List ℕ) → Together chain b xs → Readable h (es ++ entry w ∷ []) o xs (map (values (take j (shown' b))) xs) [])
          own_front e =
              let grown : shown' b ≡ shown b ++ w ∷ [] = ap shown' e ∙ m.grown ∙ ap (λ (a : ℕ). shown a ++ w ∷ []) (sym e) in
              elim (ℕ_discrete j (suc (length (shown b)))) [
                | yes all ↦ inr (λ o xs in_one.
                    let whole : take j (shown' b) ≡ shown' b = take_all j (shown' b) (omega (arith, all, ap length grown, length-append (shown b) (w ∷ []))) in
                    readable_forget (readable_now (es ++ entry w ∷ []) (map_same _ _ xs (λ x i.
                    ap (λ (t : List Write). values t x) whole ∙ ap (λ (a : ℕ). values (shown' a) x) (sym (in_one x i)) ∙ sym (v.store x)))))
                | no less ↦
                    let short : j ≤ length (shown b) = omega (arith, l, less, ap length grown, length-append (shown b) (w ∷ [])) in
                    inl (short, ap (take j) grown ∙ take-append-le j (shown b) (w ∷ []) short)
              ]

-- ---- changes of a message of the list

-- a packet is lost or delivered
pub core_lose : {chain : ℕ → ℕ} {h : History} {es : List Entry} {issued : List Write} {shown : ℕ → List Write} {c : ℕ → ℕ} {opens : List ℕ} (a : List Message) (m : Message) (b : List Message)
    → Core chain h es issued shown (a ++ m ∷ b) c opens → Core chain h es issued shown (a ++ b) c opens
core_lose a m b k = record { visible = k.visible; packets = packets_lose a m b k.packets; low = k.low }

-- the switch stamps a write, and sends it to replica r
pub core_stamp : {chain : ℕ → ℕ} {h : History} {es : List Entry} {issued : List Write} {shown : ℕ → List Write} {c : ℕ → ℕ} {opens : List ℕ} (a b : List Message) (w : Write) (r : ℕ)
    → Core chain h es issued shown (a ++ UnstampedWrite w.operation w.object w.value ∷ b) c opens
    → Core chain h es (issued ++ w ∷ []) shown (a ++ b ++ StampedWrite r w ∷ []) c opens
core_stamp a b w r k =
    let asked : Message = UnstampedWrite w.operation w.object w.value in
    let i = inserted a asked b in
    record {
      visible = visible_stamp k.visible w (k.packets.fine asked i) (λ u j e. k.packets.unstamped asked w.operation i refl u j e);
      packets = packets_stamp a b w r k.packets;
      low = k.low;
    }

module _ {chain : ℕ → ℕ} {h : History} {es : List Entry} {issued : List Write} {shown : ℕ → List Write} {c : ℕ → ℕ} {opens : List ℕ} (a : List Message) (m : Message) (b : List Message)
    (k : Core chain h es issued shown (a ++ m ∷ b) c opens) (r : ℕ) (names : Names m r) {opens' : List ℕ}
    (same : (s : ℕ) → Apart r s → context_at opens' s ≡ context_at opens s) where
  -- a message that names row r leaves the list, and only that row may change
  pub core_leave : Core chain h es issued shown (a ++ b) c opens'
  core_leave = core_rows (core_lose a m b k) (λ q i s j. same s (rows_apart a m b k.packets r names q i s j))

  -- another message that names that row comes of it
  pub core_turn : (q : Message) → Fine chain h es issued shown opens' q → ((o : ℕ) → Asks q o → ⊥) → ((s : ℕ) → Names q s → s ≡ r) → is_count (size_at opens' r) ≡ true
      → Core chain h es issued shown ((a ++ b) ++ q ∷ []) c opens'
  core_turn q f no-ask only held =
      core_join core_leave q f no-ask
      (λ p i s t j l. let e = only t l in λ d. rows_apart a m b k.packets r names p i s j (ap (λ (z : ℕ). z % limits.contexts) (sym e) ∙ sym d))
      (λ s l. subst (λ (z : ℕ). is_count (size_at opens' z) ≡ true) (sym (only s l)) held)

-- ---- changes made of several

-- what chain d shows is replaced
abbrev replaced : (ℕ → List Write) → ℕ → List Write → ℕ → List Write
replaced shown d l e = cond (eqb e d) l (shown e)

replaced_same : (shown : ℕ → List Write) (d : ℕ) (l : List Write) → replaced shown d l d ≡ l
replaced_same shown d l = rw (eq-eqb d d refl)

replaced_other : (shown : ℕ → List Write) (d : ℕ) (l : List Write) (e : ℕ) → (e ≡ d → ⊥) → replaced shown d l e ≡ shown e
replaced_other shown d l e n = rw (ne_eqb e d n)

-- chain d shows the writes ws more
pub core_reveal : {chain : ℕ → ℕ} {h : History} {issued : List Write} {messages : List Message} {c : ℕ → ℕ} {opens : List ℕ} (ws : List Write) (es : List Entry) (shown shown' : ℕ → List Write) (d : ℕ)
    → shown' d ≡ shown d ++ ws → ((e : ℕ) → (e ≡ d → ⊥) → shown' e ≡ shown e) → Rising (top 0 (shown d)) ws
    → ((w : Write) → w ∈ ws → w ∈ issued) → ((w : Write) → w ∈ ws → chain w.object ≡ d)
    → Core chain h es issued shown messages c opens → Core chain h (shows es ws) issued shown' messages c opens
core_reveal {chain} {h} {issued} {messages} {c} {opens} [] es shown shown' d grown same up known own k =
    subst (λ (f : ℕ → List Write). Core chain h es issued f messages c opens) (λ j e. agree e j) k
  where
    agree : (e : ℕ) → shown e ≡ shown' e
    agree e = elim (ℕ_discrete e d) [ yes q ↦ rw q (sym (grown ∙ append-nil (shown d))) | no n ↦ sym (same e n) ]
core_reveal {chain} {h} {issued} {messages} {c} {opens} (w ∷ ws) es shown shown' d grown same up known own k =
    let next : ℕ → List Write = replaced shown d (shown d ++ w ∷ []) in
    let one : next d ≡ shown d ++ w ∷ [] = replaced_same shown d (shown d ++ w ∷ []) in
    core_reveal ws (es ++ entry w ∷ []) next shown' d
    (grown ∙ sym (ap (λ (l : List Write). l ++ ws) one ∙ append_assoc (shown d) (w ∷ []) ws))
    (λ e n. same e n ∙ sym (replaced_other shown d (shown d ++ w ∷ []) e n))
    (rw (one, top_append) up.1) (λ u i. known u (there i)) (λ u i. own u (there i))
    (core_show k d w (record { grown = one; same = replaced_other shown d (shown d ++ w ∷ []) }) (known w (here refl)) (own w (here refl)) up.0)

module _ {chain : ℕ → ℕ} {h : History} {es : List Entry} {issued : List Write} {shown : ℕ → List Write} {messages : List Message} {c : ℕ → ℕ} {opens : List ℕ}
    (k : Core chain h es issued shown messages c opens) where
  -- a reply and a completion are sent for a visible write
  pub core_sent : (w : Write) → w ∈ shown (chain w.object)
      → Core chain h es issued shown (messages ++ Reply w.operation w.value 0 no_freshness ∷ Completion w.object w.stamp ∷ []) c opens
  core_sent w m =
      let reply : Message = Reply w.operation w.value 0 no_freshness in
      let completion : Message = Completion w.object w.stamp in
      let low = below_top 0 (shown (chain w.object)) w (k.visible.rising (chain w.object)) m in
      subst (λ (l : List Message). Core chain h es issued shown l c opens) (append_assoc messages (reply ∷ []) (completion ∷ []))
      (core_add (core_add k reply (inl ((entry w, k.visible.ordered (chain w.object) w m, refl, refl), none_new)) (λ p q. q) (λ p q. q)) completion low (λ p q. q) (λ p q. q))

  -- a write begins
  pub core_ask : (o x v : ℕ) → New h o → Core chain (begun o (writes x v) ∷ h) es issued shown (messages ++ UnstampedWrite o x v ∷ []) c opens
  core_ask o x v w =
      let begins = core_begin k o (writes x v) w in
      record {
        visible = begins.visible;
        packets = packets_ask messages o x v (here refl)
            (λ q i a. w (packets_begun k.packets q i a))
            (λ u i e. w (writes u.object u.value, begun_at e (k.visible.meant u i)))
            begins.packets;
        low = begins.low;
      }
