-- The checks of summaries, and of the number of cells that the samples make.
-- The rules: docs/CHECKS.md, "Losses of an event", "Summary losses of an event".
use Rattle.std.specs.Prelude.{◌≡◌, ℕ, ◌+◌, ◌*◌, ◌||◌, nat_lt, cond, List, [], ◌∷◌, map, length, Option, Some, None}
use Rattle.std.specs.Set.{distinct_count}
use Rattle.kt_rec.specs.declared.table.Table.TheVariants.{Items, FmXref, GulSummaryXref, FmSummaryXref}
use Rattle.kt_rec.specs.Rows.{Rows}
use Rattle.kt_keys.specs.declared.need.Need.{Need}
use Rattle.kt_checks.specs.declared.samples.SummaryCounts.{SummaryCounts}
use Rattle.kt_keys.specs.declared.need.Refusal.{Refusal}
use Rattle.kt_keys.specs.Refusals.{at_stage, is_loaded, refusal, first_of}
use Rattle.kt_keys.specs.Keys.{same_pair}
use Rattle.kt_checks.specs.TableChecks.{rows_above}

-- what check 18 refuses: the items, or the outputs, times the cells of each are above 2,000,000
abbrev pub sample_refusals : Rows → Need → ℕ → List (Option Refusal)
sample_refusals rows need samples =
    refusal 18 (at_stage 0 Items) (is_loaded need 0 Items) (rows_above 2000000 (length rows.items) (samples + 2))
    ∷ refusal 18 (at_stage 0 FmXref) (is_loaded need 0 FmXref) (rows_above 2000000 (length rows.fm_xref) (samples + 2))
    ∷ []

-- check 18: there are too many cells
abbrev pub sample_checks : Rows → Need → ℕ → Option Refusal
sample_checks rows need samples = first_of (sample_refusals rows need samples)

-- the number of distinct summaries of items
abbrev pub item_summaries : Rows → ℕ
item_summaries rows = distinct_count same_pair (map (λ row. (row.summaryset_id, row.summary_id)) rows.gulsummaryxref)

-- the number of distinct summaries of outputs
abbrev pub output_summaries : Rows → ℕ
output_summaries rows = distinct_count same_pair (map (λ row. (row.summaryset_id, row.summary_id)) rows.fmsummaryxref)

-- the numbers of distinct summaries are those of the tables
pub record CountsSummaries (rows : Rows) (counts : SummaryCounts) : Type 0 where
  pub items : counts.of_items ≡ item_summaries rows
  pub outputs : counts.of_outputs ≡ output_summaries rows

-- the summaries of all perspectives: of ground-up and of insured losses, and of net losses where they are summed too
abbrev pub summaries_of : Rows → Need → ℕ
summaries_of rows need =
    cond (is_loaded need 0 GulSummaryXref) (item_summaries rows) 0 + cond (is_loaded need 0 FmSummaryXref) (cond need.net 2 1 * output_summaries rows) 0

-- row 0, where so many with so much each are above the most
abbrev pub zero_above : ℕ → ℕ → ℕ → Option ℕ
zero_above most number each = cond (nat_lt most (number * each)) (Some 0) None

-- check 19: the summaries times the cells of each are above 1,000,000
abbrev pub summary_size_check : Rows → Need → ℕ → Option Refusal
summary_size_check rows need samples =
    refusal 19 (at_stage 0 (cond (is_loaded need 0 FmSummaryXref) FmSummaryXref GulSummaryXref)) (is_loaded need 0 GulSummaryXref || is_loaded need 0 FmSummaryXref) (zero_above 1000000 (summaries_of rows need) (samples + 2))
