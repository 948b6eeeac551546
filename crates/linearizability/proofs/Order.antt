-- The order as a function of what a step shows and of the history: a write that becomes visible goes to its end, a read that finishes to the last place
-- at which its objects hold the values that it gave.
use mathlib.Core.Path.{◌≡◌, refl, sym, ap, ◌∙◌, subst}
use mathlib.Core.Logic.{◌⊎◌, inl, inr}
use mathlib.Core.Bool.{cond}
use mathlib.Core.List.{List, [], ◌∷◌, ◌++◌, append-nil}
use Prim.Native.Nat.{ℕ}
use lib.Dec.{eqb}
use lib.ListN.{take, drop, take-append-drop}
use Rattle.lists.proofs.Tests.{by_test}
use Rattle.history.specs.History.{◌∈◌, Kind, reads, writes, History, begun, finished}
use Rattle.history.proofs.Lists.{here, there, no_member, in_right}
use Rattle.history.proofs.Tests.{eqb-true, eqb-false}
use Rattle.history.proofs.Entries.{Entry, Unfinished, InOrder}
use Rattle.history.proofs.Growth.{older, begun_not_finished, begun_at, unfinished_read_out}
use Rattle.history.proofs.Readable.{Readable, placed}
use Rattle.history.proofs.Place.{with_read, readable_last}
use Rattle.history.proofs.Claim.{numbers, in_numbers, of_numbers}
use Rattle.write_log.proofs.Log.{top, Rising}
use Rattle.store.specs.declared.Write.{Write}
use Rattle.protocol.specs.Answers.{no_freshness}
use Rattle.protocol.specs.declared.Message.{Message}
use Rattle.protocol.specs.declared.Message.TheVariants.{Completion, Reply}
use Rattle.linearizability.proofs.Members.{has, has_true, has_false}
use Rattle.linearizability.proofs.Visible.{shows}
use Rattle.linearizability.proofs.Packets.{Answered, AnsweredContext}
use Rattle.linearizability.proofs.Core.{Core, core_finish, core_reply, core_reveal, core_sent}

-- the objects that an operation of this kind reads
abbrev pub objects : Kind → List ℕ
objects (reads xs) = xs
objects (writes x v) = []

-- the objects that operation o reads: none if it is no read of the history
unfoldable pub objects_of : ℕ → History → List ℕ
objects_of o [] = []
objects_of o (begun p k ∷ h) = cond (eqb o p) (objects k) (objects_of o h)
objects_of o (finished p vs ∷ h) = objects_of o h

-- the order when operation o finishes with the values vs: as it was if o is in it, and else with the read o
unfoldable pub finish_order : History → ℕ → List ℕ → List Entry → List Entry
finish_order h o vs es = cond (has o (numbers es)) es (with_read o (objects_of o h) vs es)

-- the objects of an operation that was begun with one kind
pub objects_of_lem : (h : History) {o : ℕ} {k : Kind} → ((p : ℕ) (i j : Kind) → begun p i ∈ h → begun p j ∈ h → i ≡ j) → begun o k ∈ h → objects_of o h ≡ objects k
unfolding objects_of
objects_of_lem [] u m = absurd (no_member m)
objects_of_lem (begun p j ∷ h) {o} {k} u m =
    by_test (λ (xs : List ℕ). xs ≡ objects k) (eqb o p)
    (λ e. ap objects (u p j k (here refl) (begun_at (eqb-true o p e) m)))
    (λ e. objects_of_lem h (λ q i l a b. u q i l (there a) (there b)) (older m (λ q. eqb-false o p e (cc))))
objects_of_lem (finished p vs ∷ h) u m = objects_of_lem h (λ q i l a b. u q i l (there a) (there b)) (older m begun_not_finished)

-- an element of a back part
pub in_drop : {A : Type 0} {x : A} (n : ℕ) (l : List A) → x ∈ drop n l → x ∈ l
in_drop {A} {x} n l m = subst (λ (k : List A). x ∈ k) (take-append-drop n l) (in_right (take n l) m)

-- what is sent when these writes become visible: nothing, or for one write a reply and a completion
abbrev pub Sent : List Write → List Message → Type 0
Sent ws ms = (ms ≡ []) ⊎ ((w : Write) × (ws ≡ w ∷ []) × (ms ≡ Reply w.operation w.value 0 no_freshness ∷ Completion w.object w.stamp ∷ []))

module _ {chain : ℕ → ℕ} {h : History} {es : List Entry} {issued : List Write} {shown : ℕ → List Write} {messages : List Message} {c : ℕ → ℕ} {opens : List ℕ}
    (k : Core chain h es issued shown messages c opens) where
  -- chain d shows the writes ws more, and sends for them
  pub core_outcome : {shown' : ℕ → List Write} (d : ℕ) (ws : List Write) → shown' d ≡ shown d ++ ws → ((e : ℕ) → (e ≡ d → ⊥) → shown' e ≡ shown e) → Rising (top 0 (shown d)) ws
      → ((w : Write) → w ∈ ws → w ∈ issued) → ((w : Write) → w ∈ ws → chain w.object ≡ d) → (ms : List Message) → Sent ws ms
      → Core chain h (shows es ws) issued shown' (messages ++ ms) c opens
  core_outcome {shown'} d ws grown same up known own ms (inl e) = rw (e, append-nil) (core_reveal ws es shown shown' d grown same up known own k)
  core_outcome {shown'} d ws grown same up known own ms (inr t) =
      let w = t.0 in
      let i : w ∈ ws = subst (λ (l : List Write). w ∈ l) (sym t.1) (here refl) in
      let m : w ∈ shown' (chain w.object) = subst (λ (l : List Write). w ∈ l) (sym (ap shown' (own w i) ∙ grown)) (in_right (shown d) i) in
      rw t.2 (core_sent (core_reveal ws es shown shown' d grown same up known own k) w m)

  -- an operation that is in the order finishes, and the order stays
  finish_in : (o : ℕ) (vs : List ℕ) → InOrder es o vs → finish_order h o vs es ≡ es
  unfolding finish_order
  finish_in o vs i = by_test (λ (l : List Entry). l ≡ es) (has o (numbers es))
      (λ e. refl)
      (λ e. absurd (has_false o (numbers es) e (subst (λ (p : ℕ). p ∈ numbers es) i.2 (in_numbers i.1))))

  -- a read that has been answered finishes, and is put where it can stand
  pub finish_read : (o : ℕ) (xs vs : List ℕ) {was : List Entry} → begun o (reads xs) ∈ h → Unfinished h o → Readable h es o xs vs was
      → (r : Readable h es o xs vs was) × (finish_order h o vs es ≡ placed r)
  unfolding finish_order
  finish_read o xs vs b w d =
      let r = readable_last d in (
        r.0,
        by_test (λ (l : List Entry). l ≡ placed r.0) (has o (numbers es))
            (λ e.
            let t = of_numbers es (has_true o (numbers es) e) in
            absurd (unfinished_read_out k.visible.linearizes b w t.0 t.1 t.2))
            (λ e. rw (objects_of_lem h k.visible.linearizes.one_kind b) (sym r.1)),
      )

  -- an operation that has been answered finishes
  pub core_finishes : (o v d s : ℕ) → Answered h es o v d s → Unfinished h o → Core chain (finished o (v ∷ []) ∷ h) (finish_order h o (v ∷ []) es) issued shown messages c opens
  core_finishes o v d s (inl f) w = rw (finish_in o (v ∷ []) f.0) (core_finish k f.0)
  core_finishes o v d s (inr f) w = let r = finish_read o (f.0 ∷ []) (v ∷ []) f.1 w f.3 in rw r.1 (core_reply k f.1 w r.0)

  -- so does a read of a whole context
  pub context_finishes : (o : ℕ) (vs : List ℕ) → AnsweredContext h es o vs → Unfinished h o → Core chain (finished o vs ∷ h) (finish_order h o vs es) issued shown messages c opens
  context_finishes o vs f w = let r = finish_read o f.0 vs f.1 w f.3 in rw r.1 (core_reply k f.1 w r.0)
