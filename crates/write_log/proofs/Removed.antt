-- Document 01, 'Steps and their records', of the links when a replica is removed: the step names the replica by its number, and may end a join.
use mathlib.Core.Path.{◌≡◌, refl, sym, ap, ◌∙◌}
use mathlib.Core.Bool.{true}
use mathlib.Core.List.{List, [], ◌++◌}
use Prim.Native.Nat.{ℕ, ◌+◌, ◌<◌}
use native.Mathlib.Omega.{arith}
use Rattle.store.specs.declared.Write.{Write}
use Rattle.store.specs.{live_count}
use Rattle.chain.specs.{chain_place, is_live, member_at, place_of, is_member}
use Rattle.joins.specs.{without}
use Rattle.replicas.specs.Links.{link_into, successor_of}
use Rattle.chain.proofs.Members.{place_same, live_same, member_same}
use Rattle.replicas.proofs.Links.{HasNext, removed_head, removed_joins, removed_itself, removed_others}
use Rattle.write_log.proofs.Shows.{Shows}
use Rattle.write_log.proofs.Kept.{members_kept, applied_kept, entry_kept}
use Rattle.write_log.proofs.Joined.{JoinInvariant}
use Rattle.write_log.proofs.Links.{links_same}
use Rattle.write_log.proofs.Without.{table, ended, replicas_ended, shows_ended, ended_place, ended_live, ended_count, without_is}

module _ {s : List ℕ} {log : List Write} {n : ℕ} (k : Shows s log n) (g : JoinInvariant s) (r : ℕ) (member : is_member s r ≡ true) where
  abbrev gone : ℕ
  gone = table k g r member

  abbrev before : List ℕ
  before = ended k g r member

  links_before : (q : ℕ) → link_into before q ≡ link_into s q
  links_before q =
      let e = replicas_ended k g r member in
      links_same s before (members_kept e) (applied_kept e) (entry_kept e) q

  place_before : (q : ℕ) → chain_place before q ≡ chain_place s q
  place_before q = place_same before s (members_kept (replicas_ended k g r member)) q

  next_before : successor_of before gone ≡ successor_of s gone
  unfolding successor_of
  next_before = ap (λ (p : ℕ). member_at before (p + 1)) (place_before gone) ∙ member_same before s (members_kept (replicas_ended k g r member)) (chain_place s gone + 1)

  has_next : place_of s r + 1 < live_count s → HasNext before gone
  has_next h = omega (arith, h, ended_place k g r member, ended_count k g r member)

  -- 'Removing the tail empties its incoming link': whichever is removed, nothing is in the link to it any more
  pub without_itself : link_into (without s r) gone ≡ []
  without_itself = let b = shows_ended k g r member in ap (λ (t : List ℕ). link_into t gone) (without_is k g r member) ∙ removed_itself before gone b.falls b.sized (ended_live k g r member)

  module _ (more : place_of s r + 1 < live_count s) where
    -- 'Removing the head loses its outgoing link.'
    pub without_head : place_of s r ≡ 0 → link_into (without s r) (successor_of s gone) ≡ []
    without_head first =
        let b = shows_ended k g r member in
        ap (λ (t : List ℕ). link_into t (successor_of s gone)) (without_is k g r member) ∙ ap (link_into _) (sym next_before) ∙
        removed_head before gone b.falls b.sized (has_next more) (ended_place k g r member ∙ first)

    -- 'Removing one between joins its two links, the outgoing link's writes first.'
    pub without_between : 0 < place_of s r → link_into (without s r) (successor_of s gone) ≡ link_into s (successor_of s gone) ++ link_into s gone
    without_between later =
        let b = shows_ended k g r member in
        ap (λ (t : List ℕ). link_into t (successor_of s gone)) (without_is k g r member) ∙ ap (link_into _) (sym next_before) ∙
        removed_joins before gone b.falls b.sized (has_next more) (omega (arith, later, ended_place k g r member)) ∙
        rw (links_before (successor_of before gone), links_before gone, next_before) refl

  -- every other link stays
  pub without_others : (q : ℕ) → is_live s q ≡ true → (chain_place s q ≡ place_of s r → ⊥) → (chain_place s q ≡ place_of s r + 1 → ⊥) → link_into (without s r) q ≡ link_into s q
  without_others q live d e =
      let b = shows_ended k g r member in
      let p = ended_place k g r member in
      ap (λ (t : List ℕ). link_into t q) (without_is k g r member) ∙
      removed_others before q gone b.falls b.sized (live_same before s (members_kept (replicas_ended k g r member)) q ∙ live) (ended_live k g r member)
      (λ c. d (sym (place_before q) ∙ c ∙ p)) (λ c. e (sym (place_before q) ∙ c ∙ ap (λ (i : ℕ). i + 1) p)) ∙ links_before q
