-- What loading the tables of a command gives.
-- The rules: docs/REFUSALS.md, "Order".
use Rattle.std.specs.Prelude.{◌≡◌, refl, List, Option, None, Some, Result, Ok, Err, IfOk}
use Rattle.std.specs.List.{filter}
use Rattle.std.proofs.Common.{subst}
use Rattle.kt_out.specs.NamedFiles.{FileMap}
use Rattle.kt_rec.specs.Rows.{Rows, no_rows}
use Rattle.kt_rec.specs.TableSet.{is_in}
use Rattle.kt_rec.specs.declared.table.TableId.{TableId}
use Rattle.kt_checks.specs.Checks.{first_refusal}
use Rattle.kt_keys.specs.declared.need.Need.{Need}
use Rattle.kt_keys.specs.declared.need.Refusal.{Refusal}
use Rattle.kt_load.specs.declared.stop.LoadStop.{LoadStop}
use Rattle.kt_load.specs.declared.stop.LoadStop.TheVariants as stop
use Rattle.kt_tables.specs.Portfolio.{PortfolioRows}
use Rattle.kt_load.specs.Ends.{TellsLoad}
use Rattle.kt_load.specs.FileNames.{load_order, file_name_of}
use Rattle.kt_load.specs.Reading.{with_table_files, go_on}

-- the tables that a command needs, in the order of loading
abbrev pub needed : Need → List TableId
needed need = filter (is_in need.loaded) load_order

-- the rows, unless a check refuses them
abbrev pub unless_refused : Rows → Option Refusal → Result Rows LoadStop
unless_refused rows None = Ok rows
unless_refused rows (Some refusal) = Err (stop.Check refusal.number (file_name_of refusal.table) refusal.row)

-- the rows of the tables that a command needs: by table what is missing, too large or bad in its file, then the checks
abbrev pub loaded : FileMap → Need → Result Rows LoadStop
loaded files need = go_on (with_table_files files (needed need) no_rows) (λ rows. unless_refused rows (first_refusal rows need))

-- tables that loaded were read, and no check refuses them
pub record WasLoaded (files : FileMap) (need : Need) (rows : Rows) : Type 0 where
  pub read : with_table_files files (needed need) no_rows ≡ Ok rows
  pub none : first_refusal rows need ≡ None

pub was_loaded : (files : FileMap) (need : Need) (rows : Rows) → loaded files need ≡ Ok rows → WasLoaded files need rows
was_loaded files need rows is = by_read (with_table_files files (needed need) no_rows) refl is
  where
    by_check : (now : Rows) (refused : Option Refusal) → with_table_files files (needed need) no_rows ≡ Ok now → first_refusal now need ≡ refused → unless_refused now refused ≡ Ok rows → WasLoaded files need rows
    by_check now None read none h = subst (λ r. IfOk r (WasLoaded files need)) h (record { read = read; none = none })
    by_check now (Some why) read none h = cc

    by_read : (read : Result Rows LoadStop) → with_table_files files (needed need) no_rows ≡ read → go_on read (λ r. unless_refused r (first_refusal r need)) ≡ Ok rows → WasLoaded files need rows
    by_read (Ok now) e h = by_check now (first_refusal now need) e refl h
    by_read (Err why) e h = cc

-- what a call for a portfolio tells: its rows, or why there is none
abbrev pub TellsLoaded : Result Rows LoadStop → Result PortfolioRows LoadStop → Type 0
TellsLoaded expected (Ok portfolio) = expected ≡ Ok portfolio.rows
TellsLoaded expected (Err why) = TellsLoad expected why
