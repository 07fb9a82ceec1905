-- The rows of the means.
use Rattle.std.proofs.Common.{ℕ, List, map, refl, ◌∙◌}
use Rattle.kt_money.specs.Rounding.{half_up}
use Rattle.kt_period_cells.specs.Outcomes.{on_more}
use Rattle.kt_curve.proofs.Curves.{ranks_of_equal, rows_of_count}
use Rattle.kt_curve.proofs.mean_curves.append_means.Goals as goal

pub returns : goal.returns
returns c = record {
  ok = let whole : List ℕ = map (λ total. half_up total c.args.group.now.samples) c.args.sums.now in
      on_more c.append_values.result (λ rows. rows_of_count _ _ _ _ _ _ whole _ (rows whole (ranks_of_equal _ whole whole (c.as_mut_slice.ensures.value ∙ c.in_ok-values.ensures.value) (λ least some. refl))) c.from.ensures) c.append_values.ensures.ok;
}
