use Rattle.std.proofs.Common.{◌∙◌, List, ℕ, length, slice_index, ap, subst, arith}
use Rattle.std.specs.List.{sum}
use Rattle.std.proofs.lemmas.List.{length-map}
use Rattle.kt_fmtree.specs.Carried.{AreCarried, loss_by}
use Rattle.kt_levels.proofs.ByRowsLemmas.{rows-push}
use Rattle.kt_levels.proofs.by_rows.push_row.Goals as goal

pub column_of-requires : goal.column_of-requires
column_of-requires c = λ k d below. let wide = c.requires.lanes.wide k d below in omega (arith, wide, c.requires.at)

pub carry-requires-clause-losses : goal.carry-requires-clause-losses
carry-requires-clause-losses c =
    ap length (c.deref.ensures.value ∙ c.in_ok-losses.ensures.value) ∙ (length-map c.args.lanes.now (λ (lane : List ℕ). slice_index lane c.args.at) ∙ c.requires.lanes.count_is)

pub carry-requires-clause-few : goal.carry-requires-clause-few
carry-requires-clause-few c = omega (arith, ap sum (c.deref.ensures.value ∙ c.in_ok-losses.ensures.value), c.requires.lanes.few c.args.at c.requires.at)

pub returns : goal.returns
returns c =
    let parts = c.args.programme.now in
    let losses = c.deref.ensures.value ∙ c.in_ok-losses.ensures.value in
    record {
      value =
          rows-push parts c.args.lanes.now c.args.rule c.args.layers.now c.args.at c.args.rows.now _ c.in_ok-row.row.shares c.in_ok-row.row.policies c.in_ok-push.ensures.items c.in_ok-push-2.ensures.items
          (λ tree is.
          c.in_ok-row.ensures.value tree _ is (subst (λ (at : List ℕ). AreCarried tree (loss_by tree.ids at) parts c.in_ok-levels.levels) losses (c.in_ok-levels.ensures.value tree is)));
    }
