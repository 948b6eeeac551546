-- The records of a start: a tag of a start, a length of its own, and the number of replicas.
use mathlib.Core.Path.{◌≡◌, refl, sym, ap, subst, ◌∙◌}
use mathlib.Core.Bool.{Bool, true, false}
use mathlib.Core.List.{List}
use Prim.Native.Nat.{ℕ, ◌+◌}
use native.Mathlib.Omega.{arith}
use lib.Dec.{leb, eqb}
use lib.ListN.{length, take, drop}
use lib.Seq.{get_or-take, get_or-drop}
use borrow.Author.Tests.{eqb-true}
use Rattle.lists.proofs.Tests.{untrue, by_test, both}
use Rattle.std.specs.Prelude.{Result}
use Rattle.protocol.specs.declared.Setup.TheVariants.{Missing, Chain, Quorum}
use Rattle.protocol.specs.declared.Step.{Step}
use Rattle.protocol.specs.Starts.{setup_of}
use Rattle.records.specs.declared.Malformed.{Malformed}
use Rattle.records.specs.declared.Record.{Record}
use Rattle.records.specs.Records.{byte_at, two_at, quorum_kind, no_step, kind_of_tag, tag_of, content_length, is_short_give_up, is_length, step_of, record_of_kind, record_at}
use Rattle.records.proofs.Table.{tag_back}
use Rattle.sessions.specs.{whole_step, asked_by, start_asked}

-- a step of another kind sets nothing up
other_kind : (k : ℕ) (c : List ℕ) → eqb k 0 ≡ false → eqb k quorum_kind ≡ false → setup_of (step_of k c) ≡ Missing
unfolding step_of
other_kind k c n q =
    let P : Step → Type 0 = λ s. setup_of s ≡ Missing in
    by_test P (eqb k 0) (λ e. untrue (sym n ∙ e))
    (λ _. both P (eqb k 1) refl (both P (eqb k 2) refl (both P (eqb k 3) refl (both P (eqb k 4) refl (both P (eqb k 5) refl (both P (eqb k 6) refl (both P (eqb k 7) refl
    (both P (eqb k 8) refl (both P (eqb k 9) refl (both P (eqb k 10) refl (both P (eqb k 11) refl (both P (eqb k 12) refl (both P (eqb k 13) refl (both P (eqb k 14) refl
    (by_test P (eqb k quorum_kind) (λ e. untrue (sym q ∙ e)) (λ _. refl))))))))))))))))

-- a kind of start has its own tag, and one byte of content
module _ (t k w : ℕ) (is : kind_of_tag t ≡ k) (sized : is_length k w ≡ true) where
  chain_facts : k ≡ 0 → (t ≡ 32) × (w ≡ 1)
  unfolding tag_of is_length is_short_give_up content_length
  chain_facts e = (
    sym (sym (ap tag_of (is ∙ e)) ∙ (tag_back t (λ d. let z : ◌≡◌ {A = ℕ} 0 no_step = sym (is ∙ e) ∙ d in omega (arith, z))).1),
    eqb-true w 1 (subst (λ (i : ℕ). is_length i w ≡ true) e sized),
  )

  quorum_facts : k ≡ quorum_kind → (t ≡ 33) × (w ≡ 1)
  unfolding tag_of is_length is_short_give_up content_length
  quorum_facts e = (
    sym (sym (ap tag_of (is ∙ e)) ∙ (tag_back t (λ d. let z : ◌≡◌ {A = ℕ} quorum_kind no_step = sym (is ∙ e) ∙ d in omega (arith, z))).1),
    eqb-true w 1 (subst (λ (i : ℕ). is_length i w ≡ true) e sized),
  )

module _ (l : List ℕ) where
  -- these bytes, and no others, are the record of a start with this tag
  abbrev pub Starts : ℕ → Type 0
  Starts tag = (length l ≡ 4) × (byte_at l 0 ≡ tag) × (byte_at l 1 ≡ 0) × (byte_at l 2 ≡ 1)

  pub no_start : (Starts 32 → ⊥) → (Starts 33 → ⊥) → Missing ≡ start_asked l
  unfolding start_asked asked_by record_at record_of_kind two_at
  no_start chain quorum =
      let P : Result Record Malformed → Type 0 = λ f. setup_of (whole_step f (length l)) ≡ Missing in
      let t : ℕ = byte_at l 0 in
      let k : ℕ = kind_of_tag t in
      let w : ℕ = two_at l 1 in
      let starts : (tag : ℕ) → (t ≡ tag) × (w ≡ 1) → eqb (3 + w) (length l) ≡ true → Starts tag =
      λ tag f whole. (omega (arith, f.1, eqb-true (3 + w) (length l) whole), f.0, omega (arith, f.1), omega (arith, f.1)) in
      sym (by_test P (leb 3 (length l))
      (λ long. by_test P (eqb k no_step) (λ none. refl)
      (λ known. by_test P (is_length k w)
      (λ sized. by_test P (leb (3 + w) (length l))
      (λ room. by_test (λ (s : Step). setup_of s ≡ Missing) (eqb (3 + w) (length l))
      (λ whole. by_test {A = Unit {0}} (λ _. setup_of (step_of k (take w (drop 3 l))) ≡ Missing) (eqb k 0) {x = tt} {y = tt}
      (λ zero. absurd (chain (starts 32 (chain_facts t k w refl sized (eqb-true k 0 zero)) whole)))
      (λ later. by_test {A = Unit {0}} (λ _. setup_of (step_of k (take w (drop 3 l))) ≡ Missing) (eqb k quorum_kind) {x = tt} {y = tt}
      (λ last. absurd (quorum (starts 33 (quorum_facts t k w refl sized (eqb-true k quorum_kind last)) whole)))
      (λ none. other_kind k (take w (drop 3 l)) later none)))
      (λ parted. refl))
      (λ short. refl))
      (λ strange. refl)))
      (λ short. refl))

  pub chain_start : Starts 32 → Chain (byte_at l 3) ≡ start_asked l
  unfolding start_asked asked_by record_at record_of_kind kind_of_tag is_length is_short_give_up content_length two_at step_of
  chain_start s = rw (s.0, s.1, s.2, s.3) (ap Chain (sym (get_or-take 1 (drop 3 l) 0 0 (omega arith) ∙ get_or-drop 3 l 0 0)))

  pub quorum_start : Starts 33 → Quorum (byte_at l 3) ≡ start_asked l
  unfolding start_asked asked_by record_at record_of_kind kind_of_tag is_length is_short_give_up content_length two_at step_of
  quorum_start s = rw (s.0, s.1, s.2, s.3) (ap Quorum (sym (get_or-take 1 (drop 3 l) 0 0 (omega arith) ∙ get_or-drop 3 l 0 0)))
