use Rattle.std.proofs.lemmas.List.Elements.{All-from_recursion}
use Rattle.kt_levels.specs.Layers.{IsTopLayer}
use Rattle.kt_levels.proofs.by_lanes.share_counts.Goals as goal

pub beneath-beneath-requires : goal.beneath-beneath-requires
beneath-beneath-requires c = (All-from_recursion (IsTopLayer c.args.programme.now) c.args.layers.now c.requires.layers c.loop-one.one-index _ c.loop-one-test.true).node
