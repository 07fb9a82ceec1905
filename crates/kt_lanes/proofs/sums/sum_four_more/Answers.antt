use Rattle.std.proofs.Common.{◌+◌, refl, arith}
use Rattle.kt_lanes.specs.LaneLaws.{sum-four}
use Rattle.kt_lanes.proofs.sums.sum_four_more.Goals as goal

pub add_four-requires-clause-few : goal.add_four-requires-clause-few
add_four-requires-clause-few c = λ k less.
    omega (
      arith,
      c.requires.few k less,
      c.requires.sums.each k less,
      sum-four c.args.lanes.now c.args.start c.args.count (c.args.start + c.args.count) refl (c.args.count + 4) refl c.requires.within c.lane.result.now c.lane-2.result.now c.lane.ensures.value c.lane-2.ensures.value c.lane-3.result.now c.lane-3.ensures.value c.lane-4.result.now c.lane-4.ensures.value k,
    )

pub returns : goal.returns
returns c = record {
  value = record {
    wide = c.add_four.ensures.value.wide;
    each = λ k less.
        omega (
          arith,
          c.add_four.ensures.value.each k less,
          c.requires.sums.each k less,
          sum-four c.args.lanes.now c.args.start c.args.count (c.args.start + c.args.count) refl (c.args.count + 4) refl c.requires.within c.lane.result.now c.lane-2.result.now c.lane.ensures.value c.lane-2.ensures.value c.lane-3.result.now c.lane-3.ensures.value c.lane-4.result.now c.lane-4.ensures.value k,
        );
  };
}
