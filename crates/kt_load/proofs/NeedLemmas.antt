-- Loading begins with no rows, and reads the tables that are needed.
use Rattle.std.proofs.Common.{◌≡◌, List, refl, ap, subst, arith, Option, Ok, Err}
use Rattle.std.proofs.lemmas.List.Elements.{All-nil, All-replicate}
use Rattle.std.specs.Prelude.{All, IfSome}
use Rattle.std.specs.List.{filter}
use Rattle.kt_rec.specs.Ranges.{AreInRange}
use Rattle.kt_rec.specs.Rows.{Rows, no_rows}
use Rattle.kt_rec.specs.TableSet.{is_in}
use Rattle.kt_rec.specs.declared.table.TableId.{TableId}
use Rattle.kt_checks.specs.Checks.{first_refusal}
use Rattle.kt_keys.specs.declared.need.Need.{Need}
use Rattle.kt_out.specs.NamedFiles.{FileMap}
use Rattle.kt_tables.specs.Portfolio.{HasPeriods}
use Rattle.kt_rec.specs.declared.table.Table.TheVariants as table
use Rattle.kt_keys.specs.Refusals.{is_loaded}
use Rattle.kt_load.specs.FileNames.{load_order, table_at}
use Rattle.kt_load.specs.declared.stop.LoadStop.{LoadStop}
use Rattle.kt_load.specs.Ends.{TellsLoad, TellsTables}
use Rattle.kt_load.proofs.KnownLemmas.{if_known}
use Rattle.kt_load.proofs.TablesLemmas.{tells_on}
use Rattle.kt_load.specs.Steps.{GivesPeriods}
use Rattle.kt_load.specs.Loaded.{loaded, needed, unless_refused}
use Rattle.kt_load.specs.Reading.{with_table_files, go_on}

-- no rows are in range
pub no_rows-in_range : AreInRange no_rows
no_rows-in_range = search (All-nil, All-replicate)

-- the number of periods is in range where the occurrences were read
pub has_periods-from_all : (need : Need) (order : List TableId) (now : Rows) → order ≡ load_order → All (GivesPeriods need.loaded now) order → HasPeriods now need
unfolding is_loaded
has_periods-from_all need order now ordered read loaded = subst (All (GivesPeriods need.loaded now)) ordered read 14 (table_at 0 table.Occurrence) (omega arith) refl loaded

module _ (held : Option FileMap) (need : Need) (order : List TableId) (empty : Rows) (ordered : order ≡ load_order) (none : empty ≡ no_rows) where
  -- what was read is loaded where no check refuses it
  pub read-loads : (now : Rows) → TellsTables held (filter (is_in need.loaded) order) empty now (Ok tt) → IfSome held (λ files. loaded files need ≡ unless_refused now (first_refusal now need))
  read-loads now told = if_known held (λ files read. ap (λ r. go_on r (λ rows. unless_refused rows (first_refusal rows need))) read) (rw (ordered, none) at told)

  -- what stops the reading stops the loading
  pub stop-loads : (now : Rows) (stop : LoadStop) → TellsTables held (filter (is_in need.loaded) order) empty now (Err stop) → IfSome held (λ files. TellsLoad (loaded files need) stop)
  stop-loads now stop told = if_known held (λ files tells. tells_on (with_table_files files (needed need) no_rows) (λ rows. unless_refused rows (first_refusal rows need)) stop tells) (rw (ordered, none) at told)
