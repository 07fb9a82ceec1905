use Rattle.std.proofs.Common.{◌≡◌, ◌∙◌, ℕ, List, map, ap, subst, sym}
use Rattle.std.specs.List.{AllByRecursion, filter_map}
use Rattle.kt_levels.specs.Layers.{IsTopLayer, key_of}
use Rattle.kt_levels.specs.declared.layers.TopLayer.{TopLayer}
use Rattle.kt_alloc.specs.Insured.{in_order}
use Rattle.kt_alloc.specs.Layout.{keys, keys_for, outlet_of}
use Rattle.kt_alloc.proofs.layout.Layout.new.Goals as goal

pub keys_of-requires : goal.keys_of-requires
keys_of-requires c = record { layers = subst (AllByRecursion (IsTopLayer c.args.programme.now)) (sym c.deref.ensures.value) c.in_ok-layers.ensures.within }

pub returns-clause-value : goal.returns-clause-value
returns-clause-value c = λ tree all is indexed.
    let rule = c.args.rule in
    let layers_are = c.in_ok-layers.ensures.keys tree is in
    let keys_are : c.in_ok-keys.keys.items ≡ keys tree rule =
    c.in_ok-keys.ensures.value tree is
    ∙ (ap (λ (layers : List TopLayer). keys_for tree rule (map key_of layers)) c.deref.ensures.value
    ∙ ap (keys_for tree rule) layers_are) in
    record {
      layers_are = layers_are;
      layers_within = c.in_ok-layers.ensures.within;
      outlets_are = c.in_ok-outlets.ensures.value all indexed ∙ ap (λ (found : List (ℕ × ℕ)). filter_map (outlet_of found) (in_order all)) (c.deref-2.ensures.value ∙ keys_are);
    }
