-- A list that is put into the tables of a stage, and what it leaves of the others.
use Rattle.std.proofs.Common.{◌≡◌, ℕ, ap, get_or}
use Rattle.std.specs.Prelude.{slice_set}
use Rattle.kt_rec.specs.declared.tables.FinancialTables.{FinancialTables}
use Rattle.kt_rec.specs.declared.tables.Tables.{Tables}
use Rattle.kt_schema.specs.Loading.{ChangesStage}

-- a list that is put into the tables of a stage
pub stage_put : {L : Type 0} (Has : L → Type 0) (tables : Tables) (stage : ℕ) (part : FinancialTables) (put : FinancialTables → L → FinancialTables) (list now : L) → Has list → part ≡ get_or tables.financial stage part → now ≡ list →
    (before : FinancialTables) × ((new : L) × (Has new × ChangesStage stage tables (record tables { financial = slice_set tables.financial stage (put (get_or tables.financial stage part) now) }) before (put before new)))
stage_put {L = L} Has tables stage part put list now has is same =
    (get_or tables.financial stage part, (list, (has, record { was = ap (λ p. get_or tables.financial stage p) is; becomes = ap (λ (l : L). record tables { financial = slice_set tables.financial stage (put (get_or tables.financial stage part) l) }) same })))
