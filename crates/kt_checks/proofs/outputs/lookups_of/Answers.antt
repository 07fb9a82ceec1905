use Rattle.std.proofs.Common.{◌∙◌, ℕ, ap, sym, map, nat_eq}
use Rattle.std.specs.List.{list_any}
use Rattle.kt_keys.specs.Keys.{same_pair}
use Rattle.kt_checks.proofs.OutputLemmas.{EndsAt-same}
use Rattle.kt_checks.proofs.outputs.lookups_of.Goals as goal

pub returns : goal.returns
returns c =
    let layers = c.in_ok-layers.ensures.value in
    record {
      next = c.in_ok-next_units.ensures.value;
      with_terms = λ unit. c.in_ok-set_of.ensures.value.0 unit ∙ ap (list_any (nat_eq unit)) (c.deref-2.ensures.value ∙ (c.in_ok-units.ensures.value ∙ ap (map (λ (pair : ℕ × ℕ). pair.0)) (c.deref.ensures.value ∙ layers)));
      layers = λ pair. c.in_ok-pair_set.ensures.value.0 pair ∙ ap (list_any (same_pair pair)) (c.deref-3.ensures.value ∙ layers);
      last = EndsAt-same (λ pair. list_any (same_pair pair) c.deref-4.result.now) _ (λ pair. ap (list_any (same_pair pair)) (c.deref-4.ensures.value ∙ layers) ∙ sym (c.in_ok-pair_set.ensures.value.0 pair ∙ ap (list_any (same_pair pair)) (c.deref-3.ensures.value ∙ layers))) c.last_layer.result c.last_layer.ensures.value;
      outputs = c.in_ok-owners.ensures.value;
    }
