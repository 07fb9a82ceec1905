-- What reading a file puts into the tables, as rows.
use Rattle.std.proofs.Common.{◌≡◌, ℕ, List, [], ◌∷◌, map, refl, ap, ◌∙◌, zero, suc, Ok}
use Rattle.std.specs.Prelude.{slice_index_or, slice_set}
use Rattle.std.proofs.lemmas.List.{map-id}
use Rattle.std.proofs.lemmas.Simd.{map-map}
use Rattle.kt_rec.specs.declared.table.Table.{Table}
use Rattle.kt_rec.specs.declared.table.Table.TheVariants as table
use Rattle.kt_rec.specs.declared.tables.FinancialTables.{FinancialTables}
use Rattle.kt_rec.specs.declared.tables.Tables.{Tables}
use Rattle.kt_rec.specs.Rows.{Rows, FinancialRows, rows_of, financial_rows, no_financial_rows}
use Rattle.kt_cells.specs.Reading.{and_then, and_then-ok}
use Rattle.kt_cells.specs.Ranges.{AreRows}
use Rattle.kt_schema.specs.Loading.{LoadsTable, HasRows, RowsInRange, loaded_rows}
use Rattle.kt_schema.specs.Rows.{occurrence_values}
use Rattle.kt_load.specs.Typed.{with_rows, with_size}

-- the tables have the rows of a file, which are in range, once its size is kept
pub record HasLoaded (t : Table) (stage : ℕ) (bytes : List ℕ) (old new : Rows) : Type 0 where
  pub extra : ℕ
  pub values : List (List ℕ)
  pub read : loaded_rows t bytes ≡ Ok (extra, values)
  pub in_range : RowsInRange t values
  pub becomes : (size : ℕ) → with_size new t size ≡ with_rows old stage t extra values size

-- what one list gives the tables
one_list : (t : Table) (stage : ℕ) (bytes : List ℕ) (values : List (List ℕ)) (old new : Rows) → HasRows t bytes values → ((extra size : ℕ) → with_size new t size ≡ with_rows old stage t extra values size) → HasLoaded t stage bytes old new
one_list t stage bytes values old new has becomes =
    let file = and_then-ok (loaded_rows t bytes) (λ f. Ok f.1) values has.loaded in
    record { extra = file.0.0; values = values; read = file.1 ∙ ap (λ r. and_then r (λ v. Ok (file.0.0, v))) file.2; in_range = has.in_range; becomes = becomes file.0.0 }

-- what changes in one stage changes in its rows
changed : (tables : List FinancialTables) (stage : ℕ) (before after : FinancialTables) → before ≡ slice_index_or tables stage before → (change : FinancialRows → FinancialRows) → financial_rows after ≡ change (financial_rows before) → map financial_rows (slice_set tables stage after) ≡ slice_set (map financial_rows tables) stage (change (slice_index_or (map financial_rows tables) stage no_financial_rows))
changed [] stage before after was change is = refl
changed (table ∷ tables) zero before after was change is = ap (λ f. f ∷ map financial_rows tables) (is ∙ ap (λ b. change (financial_rows b)) was)
changed (table ∷ tables) (suc stage) before after was change is = ap (λ l. financial_rows table ∷ l) (changed tables stage before after was change is)

-- what reading a file puts into the tables
pub loads-rows_at : (t : Table) (stage : ℕ) (bytes : List ℕ) (old new : Tables) → LoadsTable t stage bytes old new → HasLoaded t stage bytes (rows_of old) (rows_of new)
unfolding AreRows
loads-rows_at table.Footprint stage bytes old new h = one_list table.Footprint stage bytes [] (rows_of old) (rows_of new) (record { loaded = h.0; in_range = tt }) (λ extra size. ap (λ tables. record (rows_of tables) { footprint_size = size }) h.1)
loads-rows_at table.Occurrence stage bytes old new (in_range, read, is) = record { extra = new.periods; values = map occurrence_values new.occurrence.items; read = read; in_range = in_range; becomes = λ size. ap rows_of is ∙ simp (map-map, map-id) }
loads-rows_at table.FmProgramme stage bytes old new (before, (list, (has, changes))) = one_list table.FmProgramme stage bytes _ (rows_of old) (rows_of new) has (λ extra size. ap rows_of changes.becomes ∙ ap (λ f. record (rows_of old) { financial = f }) (changed old.financial stage before (record before { programme = list }) changes.was (λ f. record f { programme = list.items }) refl) ∙ simp (map-map, map-id))
loads-rows_at table.FmPolicytc stage bytes old new (before, (list, (has, changes))) = one_list table.FmPolicytc stage bytes _ (rows_of old) (rows_of new) has (λ extra size. ap rows_of changes.becomes ∙ ap (λ f. record (rows_of old) { financial = f }) (changed old.financial stage before (record before { policytc = list }) changes.was (λ f. record f { policytc = list.items }) refl) ∙ simp (map-map, map-id))
loads-rows_at table.FmProfile stage bytes old new (before, (list, (has, changes))) = one_list table.FmProfile stage bytes _ (rows_of old) (rows_of new) has (λ extra size. ap rows_of changes.becomes ∙ ap (λ f. record (rows_of old) { financial = f }) (changed old.financial stage before (record before { profile = list }) changes.was (λ f. record f { profile = list.items }) refl) ∙ simp (map-map, map-id))
loads-rows_at t stage bytes old new h = one_list t stage bytes _ (rows_of old) (rows_of new) h.0 (λ extra size. ap rows_of h.1 ∙ simp (map-map, map-id))
