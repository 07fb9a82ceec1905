use Rattle.std.proofs.Common.{List, take, sym, subst, arith}
use Rattle.std.proofs.lemmas.List.{take_all, take_more}
use Rattle.std.proofs.lemmas.List.Elements.{All-from_recursion}
use Rattle.kt_levels.specs.ByLanes.{AreLayers}
use Rattle.kt_levels.specs.Layers.{IsTopLayer}
use Rattle.kt_levels.specs.declared.layers.TopLayer.{TopLayer}
use Rattle.kt_levels.proofs.ByLanesLemmas.{layers-start}
use Rattle.kt_levels.proofs.by_lanes.layer_lanes.Goals as goal

pub loop-one-init : goal.loop-one-init
loop-one-init c = record {
  room = c.in_ok-room.ensures.room c.args.programme.now c.args.lanes.now;
  layers = layers-start c.args.programme.now c.args.lanes.now c.args.climbed.now.width c.args.rule _ c.in_ok-made.ensures.shares c.in_ok-made.ensures.policies;
}

pub push_layer-requires-clause-layer : goal.push_layer-requires-clause-layer
push_layer-requires-clause-layer c = All-from_recursion (IsTopLayer c.args.programme.now) c.args.layers.now c.requires.layers c.loop-one.one-index _ c.loop-one-test.true

pub push_layer-requires-clause-plain : goal.push_layer-requires-clause-plain
push_layer-requires-clause-plain c = c.requires.plain c.loop-one.one-index (record { node = 0; top = 0; layer = 0 }) c.loop-one-test.true

pub loop-one-preserved : goal.loop-one-preserved
loop-one-preserved c =
    let none : TopLayer = record { node = 0; top = 0; layer = 0 } in
    let i = c.loop-one.one-index in
    let layers = c.args.layers.now in
    record {
      room = c.in_ok-push_layer.ensures.room;
      layers =
          subst (λ (front : List TopLayer). AreLayers c.args.programme.now c.args.lanes.now c.args.climbed.now.width c.args.rule front c.push_layer.new.made) (sym (take_more layers i none c.loop-one-test.true))
          (c.in_ok-push_layer.ensures.value (take i layers) c.loop-one.invariant.layers);
    }

pub returns : goal.returns
returns c = record {
  value =
      subst (λ (front : List TopLayer). AreLayers c.args.programme.now c.args.lanes.now c.args.climbed.now.width c.args.rule front c.loop-one.made)
      (take_all c.loop-one.one-index c.args.layers.now (omega (arith, c.loop-one-test.false))) c.loop-one.invariant.layers;
}
