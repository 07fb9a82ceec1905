use Rattle.std.proofs.Common.{◌++◌, ◌∙◌, List, ℕ, [], ap, slice_index_or}
use Rattle.kt_fmtree.specs.LoopLaws.{flat_map-goes}
use Rattle.kt_levels.specs.declared.layers.TopLayer.{TopLayer}
use Rattle.kt_ri.proofs.places.owners_of.Goals as goal

pub loop-one-preserved : goal.loop-one-preserved
loop-one-preserved c =
    flat_map-goes (λ (one : TopLayer). slice_index_or c.args.programme.now.beneath one.node []) c.args.layers.now c.loop-one.one-index (record { node = 0; top = 0; layer = 0 }) c.loop-one.owners.items c.extend_from_slice.new.self.items c.loop-one-test.true c.loop-one.invariant
    (c.in_ok-extend_from_slice.ensures.items ∙ ap (λ (ids : List ℕ). c.loop-one.owners.items ++ ids) c.beneath.ensures.value)
