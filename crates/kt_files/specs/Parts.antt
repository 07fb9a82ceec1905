-- The text of each output file in three parts: what stands at its head, what each event adds, and what comes behind the last event.
-- The rules: docs/OUTPUTS.md, "Files of a run".
use Rattle.std.specs.Prelude.{ℕ, Bool, List, [], ◌∷◌, ◌++◌, ◌&&◌, codes, nat_eq, if◌then◌else◌}
use Rattle.std.specs.List.{flat_map}
use Rattle.kt_curve.specs.Average.{aal_heading_text, average_annual_loss_rows}
use Rattle.kt_curve.specs.Exceedance.{lec_heading_text, by_sidx, exceedance_rows}
use Rattle.kt_cell.specs.Losses.{Added, all_losses, same_perspective}
use Rattle.kt_elt.specs.EventLoss.{elt_heading_text, event_loss_rows, table_line}
use Rattle.kt_elt.specs.PeriodLoss.{plt_heading_text, period_losses}
use Rattle.kt_block.specs.declared.block.EventBlock.{EventBlock}
use Rattle.kt_block.specs.declared.block.Summaries.{Summaries}
use Rattle.kt_block.specs.declared.terms.SummarySet.{SummarySet}
use Rattle.kt_block.specs.declared.layer_sum.LayerSum.{LayerSum}
use Rattle.kt_money.specs.NumberText.{count_text, money_text}
use Rattle.kt_rec.specs.Rows.{Rows}
use Rattle.kt_stream.specs.declared.entry.SummaryRecord.{SummaryRecord}
use Rattle.kt_tables.specs.Lookups.{occurrences_of, return_periods_of}
use Rattle.kt_files.specs.declared.file.OutputFile.{OutputFile}
use Rattle.kt_files.specs.declared.file.OutputFile.TheVariants.{OfSet, Layers}
use Rattle.kt_files.specs.declared.file.SetTable.{SetTable}
use Rattle.kt_files.specs.declared.file.SetTable.TheVariants.{EventLoss, PeriodLoss, AverageAnnualLoss, ExceedanceCurve}

-- ---- the head of a file

-- the names of the columns of the layers
abbrev pub layers_heading_text : List ℕ
layers_heading_text = table_line (codes "event_id" ∷ codes "agg_id" ∷ codes "layer_id" ∷ codes "policy_loss" ∷ codes "allocated_loss" ∷ [])

-- the heads of the tables that grow event by event are the names of their columns; the tables over all periods are written whole at the end
abbrev pub table_head : SetTable → List ℕ
table_head EventLoss = elt_heading_text
table_head PeriodLoss = plt_heading_text
table_head AverageAnnualLoss = []
table_head (ExceedanceCurve curve) = []

abbrev pub head_text : OutputFile → List ℕ
head_text (OfSet set table) = table_head table
head_text Layers = layers_heading_text

-- ---- what an event adds

-- whether summaries are those of a set
abbrev pub is_of_set : SummarySet → Summaries → Bool
is_of_set set summaries = same_perspective summaries.perspective set.perspective && nat_eq summaries.set set.set

-- the records of a set among summaries
abbrev pub records_of_set : SummarySet → List Summaries → List SummaryRecord
records_of_set set [] = []
records_of_set set (one ∷ more) = if is_of_set set one then one.records else records_of_set set more

-- the rows of summary records in a table that grows event by event
abbrev pub record_rows : ℕ → Rows → SetTable → SummaryRecord → List ℕ
record_rows samples rows EventLoss entry = event_loss_rows samples entry
record_rows samples rows PeriodLoss entry = period_losses samples entry (occurrences_of rows entry.event)
record_rows samples rows AverageAnnualLoss entry = []
record_rows samples rows (ExceedanceCurve curve) entry = []

-- the row of a layer: its event, its unit of the top level, its number, and over all samples its policy losses and what they were shared out to
abbrev pub layer_row : LayerSum → List ℕ
layer_row sum = table_line (count_text sum.event ∷ count_text sum.agg ∷ count_text sum.layer ∷ money_text sum.policy ∷ money_text sum.allocated ∷ [])

-- what the block of an event adds to a file
abbrev pub block_text : ℕ → Rows → OutputFile → EventBlock → List ℕ
block_text samples rows (OfSet set table) block = flat_map (record_rows samples rows table) (records_of_set set block.summaries)
block_text samples rows Layers block = flat_map layer_row block.layers

-- ---- what comes at the end

-- a table over all periods, of all records that were added: the names of its columns, and its rows of a set
abbrev pub table_end : ℕ → Rows → SummarySet → SetTable → List Added → List ℕ
table_end samples rows set EventLoss added = []
table_end samples rows set PeriodLoss added = []
table_end samples rows set AverageAnnualLoss added = aal_heading_text ++ average_annual_loss_rows set.perspective set.set rows.periods samples (all_losses added)
table_end samples rows set (ExceedanceCurve curve) added = lec_heading_text (by_sidx curve) ++ exceedance_rows curve set.perspective set.set rows.periods samples (all_losses added) (return_periods_of rows)

abbrev pub end_text : ℕ → Rows → List Added → OutputFile → List ℕ
end_text samples rows added (OfSet set table) = table_end samples rows set table added
end_text samples rows added Layers = []
