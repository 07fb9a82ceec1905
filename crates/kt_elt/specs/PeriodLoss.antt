-- The period loss table: its heading, and the two rows of a summary record for each occurrence of its event.
-- The rules: docs/OUTPUTS.md, "Period loss table".
use Rattle.std.specs.Prelude.{ℕ, List, [], ◌∷◌, ◌++◌, codes}
use Rattle.std.specs.List.{flat_map}
use Rattle.kt_money.specs.NumberText.{count_text, money_text}
use Rattle.kt_money.specs.declared.moments.MeanSd.{MeanSd}
use Rattle.kt_rec.specs.declared.periods.Occurrence.{Occurrence}
use Rattle.kt_stream.specs.declared.entry.SummaryRecord.{SummaryRecord}
use Rattle.kt_elt.specs.declared.row_type.RowType.{RowType}
use Rattle.kt_elt.specs.declared.row_type.RowType.TheVariants.{Analytical, Sample}
use Rattle.kt_elt.specs.EventLoss.{table_line}
use Rattle.kt_elt.specs.Losses.{analytical_moments, sample_moments}
use Rattle.kt_elt.specs.RowType.{type_number}

-- the names of the columns
abbrev pub plt_heading_text : List ℕ
plt_heading_text = codes "summary_id,type,event_id,period_no,mean,standard_deviation,exposure_value,occ_year,occ_month,occ_day" ++ 10 ∷ []

-- a row of a record and an occurrence: the fields of the event loss table, with the period behind the event and the date at the end
abbrev pub plt_row : RowType → MeanSd → SummaryRecord → Occurrence → List ℕ
plt_row kind moments entry at =
    table_line (count_text entry.summary ∷ count_text (type_number kind) ∷ count_text entry.event ∷ count_text at.period_no ∷ money_text moments.mean ∷ money_text moments.sd ∷ money_text entry.exposure ∷ count_text at.occ_year ∷ count_text at.occ_month ∷ count_text at.occ_day ∷ [])

-- the last columns of a row: the date of the occurrence
abbrev pub date_columns : Occurrence → List ℕ
date_columns at = table_line (count_text at.occ_year ∷ count_text at.occ_month ∷ count_text at.occ_day ∷ [])

-- the two rows of a record for an occurrence: the analytical one, and that of the samples
abbrev pub period_loss_rows : ℕ → SummaryRecord → Occurrence → List ℕ
period_loss_rows samples entry at =
    plt_row Analytical (analytical_moments entry.pairs) entry at ++ plt_row Sample (sample_moments samples entry.pairs) entry at

-- the rows of a record for these occurrences, one after the other
abbrev pub period_losses : ℕ → SummaryRecord → List Occurrence → List ℕ
period_losses samples entry occurrences = flat_map (period_loss_rows samples entry) occurrences
