use Rattle.std.proofs.Common.{◌∙◌, ◌≤◌, ◌^◌, ℕ, List, length, slice_index, drop, take, refl, sym, ap, subst}
use Rattle.std.specs.List.{sum}
use Rattle.std.proofs.lemmas.Option.{IfSome_then}
use Rattle.kt_money.specs.Sharing.{share_out}
use Rattle.kt_lanes.specs.Lanes.{column}
use Rattle.kt_levels.specs.Units.{child_losses}
use Rattle.kt_lanes.specs.LaneLaws.{column-part}
use Rattle.kt_lanes.specs.BehindLaws.{behind-are}
use Rattle.kt_levels.proofs.down.push_shares_of.Goals as goal

pub share_lanes-requires-clause-sums : goal.share_lanes-requires-clause-sums
share_lanes-requires-clause-sums c =
    IfSome_then c.args.sums c.requires.sums
    (λ all are. record { wide = are.wide; each = λ k less. are.each k less ∙ ap sum (sym (column-part k c.args.node.now.start c.args.node.now.width c.args.below.now)) })

pub share_lanes-requires-clause-few : goal.share_lanes-requires-clause-few
share_lanes-requires-clause-few c = λ k less.
    subst (λ (losses : List ℕ). sum losses ≤ 10 ^ 16) (sym (column-part k c.args.node.now.start c.args.node.now.width c.args.below.now)) (c.requires.can.few k less)

pub share_lanes-requires-clause-backed : goal.share_lanes-requires-clause-backed
share_lanes-requires-clause-backed c = λ k less.
    subst (λ (losses : List ℕ). slice_index c.args.totals.now k ≤ sum losses) (sym (column-part k c.args.node.now.start c.args.node.now.width c.args.below.now)) (c.requires.backed k less)

pub returns-clause-value : goal.returns-clause-value
returns-clause-value c =
    let node = c.args.node.now in
    let below = c.args.below.now in
    let totals = c.args.totals.now in
    behind-are (length totals) node.width node.width (λ k. share_out (slice_index totals k) (column k (take node.width (drop node.start below)))) (λ k. share_out (slice_index totals k) (child_losses (column k below) node)) c.args.out.now c.share_lanes.new.out c.in_ok-share_lanes.ensures.value refl
    (λ k less. ap (share_out (slice_index totals k)) (column-part k node.start node.width below))
