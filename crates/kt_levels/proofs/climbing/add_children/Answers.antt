use Rattle.std.proofs.Common.{◌≤◌, ◌^◌, ◌∙◌, ℕ, List, ap, sym, subst}
use Rattle.std.specs.List.{sum}
use Rattle.kt_lanes.specs.LaneLaws.{column-part}
use Rattle.kt_levels.proofs.climbing.add_children.Goals as goal

pub sum_lanes-requires-clause-few : goal.sum_lanes-requires-clause-few
sum_lanes-requires-clause-few c = λ k below.
    subst (λ (losses : List ℕ). sum losses ≤ 10 ^ 16) (sym (column-part k c.args.node.now.start c.args.node.now.width c.args.below.now)) (c.requires.can.few k below)

pub returns : goal.returns
returns c =
    let made = c.sum_lanes.ensures.value in
    record {
      value = record {
        wide = made.wide;
        each = λ k below. made.each k below ∙ ap sum (column-part k c.args.node.now.start c.args.node.now.width c.args.below.now);
      };
    }
