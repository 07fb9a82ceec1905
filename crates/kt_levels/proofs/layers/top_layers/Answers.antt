use Rattle.std.proofs.Common.{◌++◌, ◌∙◌, ℕ, List, map, ap, sym, subst, arith, refl, slice_index_or}
use Rattle.kt_rec.specs.Rising.{IsRising}
use Rattle.kt_levels.proofs.LayerLemmas.{layer_at, layers-end, layers-step, place-le, programme-layers, programme-within}
use Rattle.kt_levels.proofs.layers.top_layers.Goals as goal

pub overflow_cast-node : goal.overflow_cast-node
overflow_cast-node c =
    let least = place-le c.tops-tops.result.now (subst IsRising (sym c.tops-tops.ensures.value) c.requires.rising) c.loop-place.place c.loop-place-test.true in
    let most = (c.type_inv.tops c.loop-place.place).fits in
    record { fits = omega (arith, least, most) }

pub loop-place-preserved : goal.loop-place-preserved
loop-place-preserved c =
    layers-step c.args.programme.now.layers c.tops-tops.result.now c.loop-place.found.items c.push_layers.new.found.items c.loop-place.place (slice_index_or c.tops-tops.result.now c.loop-place.place 0) c.loop-place-test.true refl c.loop-place.invariant
    (c.in_ok-push_layers.ensures.ok ∙ ap (λ (layers : List ℕ). c.loop-place.found.items ++ map (layer_at c.loop-place.place (slice_index_or c.tops-tops.result.now c.loop-place.place 0)) layers) c.layers.ensures.value)

pub returns-clause-keys : goal.returns-clause-keys
returns-clause-keys c = λ tree is.
    programme-layers tree c.args.programme.now is c.loop-place.found.items (layers-end c.args.programme.now c.tops-tops.result.now c.loop-place.found.items c.loop-place.place c.loop-place-test.false c.loop-place.invariant c.tops-tops.ensures.value)

pub returns-clause-within : goal.returns-clause-within
returns-clause-within c =
    programme-within c.args.programme.now c.loop-place.found.items (layers-end c.args.programme.now c.tops-tops.result.now c.loop-place.found.items c.loop-place.place c.loop-place-test.false c.loop-place.invariant c.tops-tops.ensures.value)
