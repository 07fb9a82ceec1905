use Rattle.std.proofs.Common.{◌<◌, ◌∙◌, ℕ, List, length, slice_index, slice_index_or, ap, sym, subst}
use Rattle.kt_runs.specs.LossLanesLaws.{lane-loss}
use Rattle.kt_runs.proofs.loss_lanes.LossLanesRunLosses.take_at.Goals as goal

pub returns : goal.returns
returns c =
    let lane = c.lane.result.now in
    let wide = c.lane.ensures.rows ∙ c.requires.rows in
    record {
      value = λ d. record {
        wide = ap length c.copy_from_slice.ensures.after ∙ wide;
        each = λ row below.
            ap (λ (all : List ℕ). slice_index all row) c.copy_from_slice.ensures.after
            ∙ sym (lane-loss _ lane (slice_index_or c.args.self.now.records c.args.place d).pairs (c.lane.ensures.pairs d) row (subst (λ n. row < n) (sym wide) below));
      };
    }
