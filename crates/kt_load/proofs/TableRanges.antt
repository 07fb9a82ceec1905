-- The rows of each table are in range, and stay so with those of one more table.
use Rattle.std.proofs.Common.{◌≡◌, ◌⊎◌, ℕ, List, Ok, arith, subst, inl, inr}
use Rattle.std.specs.Prelude.{All, IfOk, drop, map, slice_set}
use Rattle.std.proofs.lemmas.Bool.Decides.{nat_tests}
use Rattle.std.proofs.lemmas.List.Elements.{All-set}
use Rattle.kt_rec.specs.Ranges.{AreInRange, AreFinancial, ArePeriods, IsId, IsPart, IsCoverage, IsDamageBin, IsFmPolicytc, IsFmProfile, IsFmProgramme, IsFmSummaryXref, IsFmXref, IsFootprintIdx, IsGulSummaryXref, IsItem, IsOccurrence, IsVulnerability}
use Rattle.kt_rec.specs.Places.{RowOf}
use Rattle.kt_rec.specs.Rows.{FinancialRows, Rows}
use Rattle.kt_rec.specs.declared.table.Table.{Table}
use Rattle.kt_rec.specs.declared.table.Table.TheVariants as table
use Rattle.kt_rec.specs.TableNames.{number_of}
use Rattle.kt_cells.specs.Header.{header_extra, header_width}
use Rattle.kt_cells.specs.Reading.{and_then-ok}
use Rattle.kt_cells.specs.Records.{record_rows}
use Rattle.kt_checks.specs.FinancialRanges.{financial_ranges}
use Rattle.kt_schema.specs.Loading.{RowsInRange, loaded_rows}
use Rattle.kt_schema.specs.Tables.{kinds_of}
use Rattle.kt_load.specs.Typed.{column, row_from, with_rows}
use Rattle.kt_load.proofs.RangeLemmas.{AreBounds, AreOfKinds, all_made}

-- rows in range stay so with other financial rows that are
in_range-with_financial : (rows : Rows) (stage : ℕ) (financial : FinancialRows) → AreFinancial financial → AreInRange rows → AreInRange (record rows { financial = slice_set rows.financial stage financial })
in_range-with_financial rows stage financial are h = assumption (All-set AreFinancial rows.financial stage financial are h.financial)

-- the rows of a table that are made of rows of numbers in range
made : (t : Table) (P : RowOf t → Type 0) → ((values : List ℕ) → AreOfKinds 0 (kinds_of t) (λ place. column place values) → P (row_from t values)) → (values : List (List ℕ)) → RowsInRange t values → All P (map (row_from t) values)
made t P each values are = all_made (kinds_of t) (row_from t) P each values are

-- rows in range stay so with those of one more table
pub in_range-with_rows : (t : Table) (rows : Rows) (stage extra : ℕ) (values : List (List ℕ)) (size : ℕ) → RowsInRange t values → AreInRange rows → AreInRange (with_rows rows stage t extra values size)
in_range-with_rows table.Footprint rows stage extra values size are h = assumption
in_range-with_rows table.Events rows stage extra values size are h = assumption (made table.Events (λ row. IsId row.event_id) (λ each c. assumption) values are)
in_range-with_rows table.Items rows stage extra values size are h = assumption (made table.Items IsItem (λ each c. assumption) values are)
in_range-with_rows table.Coverages rows stage extra values size are h = assumption (made table.Coverages IsCoverage (λ each c. assumption) values are)
in_range-with_rows table.FootprintIdx rows stage extra values size are h = assumption (made table.FootprintIdx IsFootprintIdx (λ each c. assumption) values are)
in_range-with_rows table.Vulnerability rows stage extra values size are h = assumption (made table.Vulnerability IsVulnerability (λ each c. assumption) values are)
in_range-with_rows table.DamageBinDict rows stage extra values size are h = assumption (made table.DamageBinDict IsDamageBin (λ each c. assumption) values are)
in_range-with_rows table.Random rows stage extra values size are h = assumption (made table.Random (λ row. IsPart row.random) (λ each c. assumption) values are)
in_range-with_rows table.FmXref rows stage extra values size are h = assumption (made table.FmXref IsFmXref (λ each c. assumption) values are)
in_range-with_rows table.GulSummaryXref rows stage extra values size are h = assumption (made table.GulSummaryXref IsGulSummaryXref (λ each c. assumption) values are)
in_range-with_rows table.FmSummaryXref rows stage extra values size are h = assumption (made table.FmSummaryXref IsFmSummaryXref (λ each c. assumption) values are)
in_range-with_rows table.Occurrence rows stage extra values size are h = assumption (made table.Occurrence IsOccurrence (λ each c. assumption) values are)
in_range-with_rows table.ReturnPeriods rows stage extra values size are h = assumption (made table.ReturnPeriods (λ row. IsId row.return_period) (λ each c. assumption) values are)
in_range-with_rows table.FmProgramme rows stage extra values size are h = in_range-with_financial rows stage _ (assumption (made table.FmProgramme IsFmProgramme (λ each c. assumption) values are, financial_ranges rows h.financial stage)) h
in_range-with_rows table.FmPolicytc rows stage extra values size are h = in_range-with_financial rows stage _ (assumption (made table.FmPolicytc IsFmPolicytc (λ each c. assumption) values are, financial_ranges rows h.financial stage)) h
in_range-with_rows table.FmProfile rows stage extra values size are h = in_range-with_financial rows stage _ (assumption (made table.FmProfile IsFmProfile (λ each c. assumption) values are, financial_ranges rows h.financial stage)) h

-- a number that a header ends with is within its bounds
extra_within : (number least most : ℕ) (bytes : List ℕ) (extra : ℕ) → header_extra number least most bytes ≡ Ok extra → AreBounds least most extra
unfolding header_extra
extra_within number least most bytes extra is = grind (arith, nat_tests)

-- the number of periods in the file of the occurrences
periods_read : (bytes : List ℕ) (extra : ℕ) (values : List (List ℕ)) → loaded_rows table.Occurrence bytes ≡ Ok (extra, values) → ArePeriods extra
periods_read bytes extra values is =
    let header = and_then-ok (header_extra 15 1 100000 bytes) _ (extra, values) is in
    let rows = and_then-ok (record_rows 1 (kinds_of table.Occurrence) (drop header_width bytes)) _ (extra, values) header.2 in
    let within = extra_within 15 1 100000 bytes header.0 header.1 in
    subst (λ file. IfOk file (λ f. ArePeriods f.0)) rows.2 (record { least = within.above; most = within.below })

-- a number of periods in range stays so with the rows of one more table, and the occurrences have it
pub periods-with_rows : (t : Table) (rows : Rows) (stage extra size : ℕ) (bytes : List ℕ) (values : List (List ℕ)) → loaded_rows t bytes ≡ Ok (extra, values) → ArePeriods rows.periods ⊎ (number_of t ≡ 15) → ArePeriods (with_rows rows stage t extra values size).periods
periods-with_rows table.Occurrence rows stage extra size bytes values is h = periods_read bytes extra values is
periods-with_rows t rows stage extra size bytes values is (inl h) = h
periods-with_rows t rows stage extra size bytes values is (inr h) = absurd (omega (arith, h))
