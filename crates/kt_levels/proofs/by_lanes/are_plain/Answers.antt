use Rattle.std.proofs.Common.{◌∙◌, List, take, slice_index_or, sym, subst, arith}
use Rattle.std.specs.List.{All}
use Rattle.std.proofs.lemmas.List.{take_more, take_all}
use Rattle.kt_lanes.specs.LaneLaws.{All-more}
use Rattle.kt_levels.specs.ByLanes.{IsPlainLayer}
use Rattle.kt_levels.specs.declared.layers.TopLayer.{TopLayer}
use Rattle.kt_levels.proofs.by_lanes.are_plain.Goals as goal

pub loop-one-preserved : goal.loop-one-preserved
loop-one-preserved c =
    let none : TopLayer = record { node = 0; top = 0; layer = 0 } in
    let i = c.loop-one.one-index in
    let layers = c.args.layers.now in
    subst (λ (all : List TopLayer). All (IsPlainLayer c.args.programme.now) all) (sym (take_more layers i none c.loop-one-test.true))
    (All-more (IsPlainLayer c.args.programme.now) (take i layers) (slice_index_or layers i none) c.loop-one.invariant (λ tree is. sym (c.layer_looks_back.ensures.value tree is) ∙ c.if-layer_looks_back.false))

pub returns : goal.returns
returns c = record { plain = λ _. subst (λ (all : List TopLayer). All (IsPlainLayer c.args.programme.now) all) (take_all c.loop-one.one-index c.args.layers.now (omega (arith, c.loop-one-test.false))) c.loop-one.invariant }
