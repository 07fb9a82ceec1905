use Rattle.std.proofs.Common.{◌≡◌, ◌<◌, ◌∙◌, true, nat_eq, List, ℕ, [], length, map, slice_index, slice_index_or, ap, sym, subst}
use Rattle.std.specs.Prelude.{All}
use Rattle.std.specs.List.{AllByRecursion, flat_map, list_any}
use Rattle.kt_levels.specs.declared.layers.TopLayer.{TopLayer}
use Rattle.kt_ri.proofs.CededLemmas.{owners-are, owners-members}
use Rattle.kt_ri.proofs.places.owner_places.Goals as goal

pub places_of-requires-clause-members : goal.places_of-requires-clause-members
places_of-requires-clause-members c =
    let kept = c.is_of_a_tree.ensures.kept in
    let owners = flat_map (λ (one : TopLayer). slice_index_or c.args.programme.now.beneath one.node []) c.args.layers.now in
    subst (AllByRecursion (λ id. list_any (nat_eq id) c.ids.result.now ≡ true)) (sym (c.deref.ensures.value ∙ c.in_ok-owners.ensures.value))
    (subst (λ (ids : List ℕ). AllByRecursion (λ id. list_any (nat_eq id) ids ≡ true) owners) (sym c.ids.ensures.value) (owners-members kept.tree c.args.programme.now kept.is c.args.layers.now c.requires.layers.each))

pub returns : goal.returns
returns c = record {
  value = record {
    within = subst (λ (ids : List ℕ). All (λ place. place < length ids) c.in_ok-places.places.items) c.ids.ensures.value c.in_ok-places.ensures.within;
    owners_are = λ tree is.
        ap (λ (ids : List ℕ). map (slice_index ids) c.in_ok-places.places.items) (sym c.ids.ensures.value)
        ∙ (c.in_ok-places.ensures.value ∙ (c.deref.ensures.value ∙ (c.in_ok-owners.ensures.value ∙ owners-are tree c.args.programme.now is c.args.layers.now c.requires.layers)));
  };
}
