-- The event loss table: its heading, and the two rows of a summary record.
-- The rules: docs/OUTPUTS.md, "Event loss table".
use Rattle.std.specs.Prelude.{ℕ, List, [], ◌∷◌, ◌++◌, codes}
use Rattle.std.specs.List.{join_with_byte}
use Rattle.kt_money.specs.NumberText.{count_text, money_text}
use Rattle.kt_money.specs.declared.moments.MeanSd.{MeanSd}
use Rattle.kt_stream.specs.declared.entry.SummaryRecord.{SummaryRecord}
use Rattle.kt_elt.specs.declared.row_type.RowType.{RowType}
use Rattle.kt_elt.specs.declared.row_type.RowType.TheVariants.{Analytical, Sample}
use Rattle.kt_elt.specs.Losses.{analytical_moments, sample_moments}
use Rattle.kt_elt.specs.RowType.{type_number}

-- a line of a table: its fields with a comma between each two, and an LF
abbrev pub table_line : List (List ℕ) → List ℕ
table_line fields = join_with_byte 44 fields ++ 10 ∷ []

-- the names of the columns
abbrev pub elt_heading_text : List ℕ
elt_heading_text = codes "summary_id,type,event_id,mean,standard_deviation,exposure_value" ++ 10 ∷ []

-- a row of a record: its summary id, the type, its event, the mean, the deviation and the exposure
abbrev pub elt_row : RowType → MeanSd → SummaryRecord → List ℕ
elt_row kind moments entry =
    table_line (count_text entry.summary ∷ count_text (type_number kind) ∷ count_text entry.event ∷ money_text moments.mean ∷ money_text moments.sd ∷ money_text entry.exposure ∷ [])

-- the two rows of a record: the analytical one, and that of the samples
abbrev pub event_loss_rows : ℕ → SummaryRecord → List ℕ
event_loss_rows samples entry =
    elt_row Analytical (analytical_moments entry.pairs) entry ++ elt_row Sample (sample_moments samples entry.pairs) entry
