use mathlib.Core.Path.{refl, ap, ◌∙◌}
use mathlib.Core.Bool.{Bool, not}
use Prim.Native.Nat.{ℕ}
use lib.Dec.{eqb}
use borrow.Author.Rules.{rules}
use borrow.Author.Tests.{tests}
use Rattle.lists.specs.{list_of, all_of}
use Rattle.lists.proofs.All.{all_places, all_same}
use Rattle.contexts.specs.{place_of, size_of, numbers_of, stands_first, are_different}
use Rattle.contexts.proofs.Places.{stands_first_lem}
use Rattle.contexts.proofs.are_different.Goals as goal

pub returns : goal.returns
unfolding are_different
returns c =
    let v = c.args.v in
    let is_first : ℕ → Bool = λ i. all_of (λ q. not (eqb q (place_of v i))) (list_of (place_of v) i) in
    all_places is_first (λ i. i) _ c.all.ensures.ran refl (λ x b q k. search (rules, tests)) ∙
    ap (λ n. all_of is_first (list_of (λ i. i) n)) c.size.ensures.0 ∙
    all_same is_first (stands_first (numbers_of v)) (λ i. i) (size_of v) (λ i h. stands_first_lem v i h)
