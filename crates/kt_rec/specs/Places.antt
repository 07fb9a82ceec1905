-- The place of each table among the rows: what is kept of it, how it is got and how it is put.
-- The rules: docs/TABLES.md, "Tables", "Files".
use Rattle.std.specs.Prelude.{ℕ, List, [], length, slice_set}
use Rattle.kt_rec.specs.Rows.{FinancialRows, Rows, financial_at}
use Rattle.kt_rec.specs.declared.exposure.Coverage.{Coverage}
use Rattle.kt_rec.specs.declared.exposure.Item.{Item}
use Rattle.kt_rec.specs.declared.financial.FmPolicytc.{FmPolicytc}
use Rattle.kt_rec.specs.declared.financial.FmProfile.{FmProfile}
use Rattle.kt_rec.specs.declared.financial.FmProgramme.{FmProgramme}
use Rattle.kt_rec.specs.declared.financial.FmXref.{FmXref}
use Rattle.kt_rec.specs.declared.hazard.DamageBin.{DamageBin}
use Rattle.kt_rec.specs.declared.hazard.Event.{Event}
use Rattle.kt_rec.specs.declared.hazard.FootRow.{FootRow}
use Rattle.kt_rec.specs.declared.hazard.FootprintIdx.{FootprintIdx}
use Rattle.kt_rec.specs.declared.hazard.Random.{Random}
use Rattle.kt_rec.specs.declared.hazard.Vulnerability.{Vulnerability}
use Rattle.kt_rec.specs.declared.periods.Occurrence.{Occurrence}
use Rattle.kt_rec.specs.declared.periods.ReturnPeriod.{ReturnPeriod}
use Rattle.kt_rec.specs.declared.summary.FmSummaryXref.{FmSummaryXref}
use Rattle.kt_rec.specs.declared.summary.GulSummaryXref.{GulSummaryXref}
use Rattle.kt_rec.specs.declared.table.Table.{Table}
use Rattle.kt_rec.specs.declared.table.Table.TheVariants as table
use Rattle.kt_rec.specs.declared.table.TableId.{TableId}

-- a table of the base, at 0, or of a stage
abbrev pub table_at : ℕ → Table → TableId
table_at stage t = record { stage = stage; table = t }

-- a row of a table
abbrev pub RowOf : Table → Type 0
RowOf table.Events = Event
RowOf table.Items = Item
RowOf table.Coverages = Coverage
RowOf table.Footprint = FootRow
RowOf table.FootprintIdx = FootprintIdx
RowOf table.Vulnerability = Vulnerability
RowOf table.DamageBinDict = DamageBin
RowOf table.Random = Random
RowOf table.FmProgramme = FmProgramme
RowOf table.FmPolicytc = FmPolicytc
RowOf table.FmProfile = FmProfile
RowOf table.FmXref = FmXref
RowOf table.GulSummaryXref = GulSummaryXref
RowOf table.FmSummaryXref = FmSummaryXref
RowOf table.Occurrence = Occurrence
RowOf table.ReturnPeriods = ReturnPeriod

-- what is kept of a table: of `footprint` the size of its file, of `occurrence` its rows and the number of periods, else its rows
abbrev pub PartOf : Table → Type 0
PartOf table.Footprint = ℕ
PartOf table.Occurrence = List Occurrence × ℕ
PartOf t = List (RowOf t)

-- the rows of a part; of the footprint none is kept
abbrev pub list_of : (t : Table) → PartOf t → List (RowOf t)
list_of table.Footprint size = []
list_of table.Occurrence part = part.0
list_of t part = part

-- the part that a file gives: its rows, the number that its header ends with, and its size in bytes
abbrev pub part_read : (t : Table) → List (RowOf t) → ℕ → ℕ → PartOf t
part_read table.Footprint list extra size = size
part_read table.Occurrence list extra size = (list, extra)
part_read t list extra size = list

-- a place among the rows, from which something is got and to which it is put
pub record Place (A : Type 0) : Type 0 where
  pub get : Rows → A
  pub put : A → Rows → Rows

-- the place of a financial table of the base, at 0, or of a stage
abbrev pub staged : {R : Type 0} → ℕ → (FinancialRows → List R) → (List R → FinancialRows → FinancialRows) → Place (List R)
staged stage get put = record { get = λ rows. get (financial_at rows stage); put = λ list rows. record rows { financial = slice_set rows.financial stage (put list (financial_at rows stage)) } }

-- the place of a table of the base, at 0, or of a stage
abbrev pub place_of : (t : Table) → ℕ → Place (PartOf t)
place_of table.Events stage = record { get = λ rows. rows.events; put = λ list rows. record rows { events = list } }
place_of table.Items stage = record { get = λ rows. rows.items; put = λ list rows. record rows { items = list } }
place_of table.Coverages stage = record { get = λ rows. rows.coverages; put = λ list rows. record rows { coverages = list } }
place_of table.Footprint stage = record { get = λ rows. rows.footprint_size; put = λ size rows. record rows { footprint_size = size } }
place_of table.FootprintIdx stage = record { get = λ rows. rows.footprint_idx; put = λ list rows. record rows { footprint_idx = list } }
place_of table.Vulnerability stage = record { get = λ rows. rows.vulnerability; put = λ list rows. record rows { vulnerability = list } }
place_of table.DamageBinDict stage = record { get = λ rows. rows.damage_bin_dict; put = λ list rows. record rows { damage_bin_dict = list } }
place_of table.Random stage = record { get = λ rows. rows.random; put = λ list rows. record rows { random = list } }
place_of table.FmProgramme stage = staged stage (λ part. part.programme) (λ list part. record part { programme = list })
place_of table.FmPolicytc stage = staged stage (λ part. part.policytc) (λ list part. record part { policytc = list })
place_of table.FmProfile stage = staged stage (λ part. part.profile) (λ list part. record part { profile = list })
place_of table.FmXref stage = record { get = λ rows. rows.fm_xref; put = λ list rows. record rows { fm_xref = list } }
place_of table.GulSummaryXref stage = record { get = λ rows. rows.gulsummaryxref; put = λ list rows. record rows { gulsummaryxref = list } }
place_of table.FmSummaryXref stage = record { get = λ rows. rows.fmsummaryxref; put = λ list rows. record rows { fmsummaryxref = list } }
place_of table.Occurrence stage = record { get = λ rows. (rows.occurrence, rows.periods); put = λ part rows. record rows { occurrence = part.0; periods = part.1 } }
place_of table.ReturnPeriods stage = record { get = λ rows. rows.returnperiods; put = λ list rows. record rows { returnperiods = list } }

-- what is kept of a table of the base, at 0, or of a stage
abbrev pub part_in : (t : Table) → ℕ → Rows → PartOf t
part_in t stage = (place_of t stage).get

-- the rows of all tables with another part of one
abbrev pub with_part : (t : Table) → ℕ → PartOf t → Rows → Rows
with_part t stage = (place_of t stage).put

-- the rows of a table of the base, at 0, or of a stage; of the footprint none is kept
abbrev pub rows_in : (t : Table) → ℕ → Rows → List (RowOf t)
rows_in t stage rows = list_of t (part_in t stage rows)

-- how many rows a table of the base, at 0, or of a stage has
abbrev pub count_in : Rows → ℕ → Table → ℕ
count_in rows stage table.Events = length (rows_in table.Events stage rows)
count_in rows stage t = length (rows_in t stage rows)

-- how many rows a table has
abbrev pub row_count : Rows → TableId → ℕ
row_count rows id = count_in rows id.stage id.table
