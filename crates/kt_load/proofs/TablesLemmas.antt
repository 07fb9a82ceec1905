-- Reading table after table: what holds of the tables behind one holds of all.
use Rattle.std.proofs.Common.{◌≡◌, ◌≤◌, ◌<◌, ◌+◌, ℕ, List, ◌∷◌, length, drop, drop-cons, add-one, Option, Ok, Err, refl, ap, sym, ◌∙◌, true, false, inl, inr}
use Rattle.std.specs.Prelude.{IfSome, Result, slice_index_or}
use Rattle.std.specs.List.{filter}
use Rattle.std.proofs.lemmas.Bool.{true≢false}
use Rattle.std.proofs.lemmas.List.{drop_all}
use Rattle.std.proofs.lemmas.List.Elements.{All-cons, All-nil}
use Rattle.kt_out.specs.NamedFiles.{FileMap}
use Rattle.kt_rec.specs.Rows.{Rows}
use Rattle.kt_rec.specs.TableSet.{is_in}
use Rattle.kt_rec.specs.declared.table.TableId.{TableId}
use Rattle.kt_rec.specs.declared.table_set.TableSet.{TableSet}
use Rattle.kt_load.specs.declared.stop.LoadStop.{LoadStop}
use Rattle.kt_load.specs.declared.stop.LoadStop.TheVariants.{ReadFault, OutOfMemory}
use Rattle.kt_load.specs.Ends.{TellsLoad, TellsTables}
use Rattle.kt_load.specs.FileNames.{file_name_of}
use Rattle.kt_load.specs.Reading.{go_on, with_table_file, with_table_files}
use Rattle.kt_load.proofs.KnownLemmas.{always, if_known, if_both}
use Rattle.kt_load.specs.Steps.{GivesPeriods, KeepsRows, KeepsAll}

-- what is told and kept of the tables that are left is so of all
pub record Carries (held : Option FileMap) (set : TableSet) (ids rest : List TableId) (old now : Rows) : Type 0 where
  pub tells : (new : Rows) (result : Result Unit LoadStop) → TellsTables held (filter (is_in set) rest) now new result → TellsTables held (filter (is_in set) ids) old new result
  pub keeps : (new : Rows) → KeepsAll set rest now new → KeepsAll set ids old new

-- a stop is that of what would go on
pub tells_on : {A B : Type 0} (expected : Result A LoadStop) (next : A → Result B LoadStop) (stop : LoadStop) → TellsLoad expected stop → TellsLoad (go_on expected next) stop
tells_on expected next ReadFault tells = tt
tells_on expected next OutOfMemory tells = tt
tells_on expected next stop tells = ap (λ r. go_on r next) tells

module _ (held : Option FileMap) (set : TableSet) (ids : List TableId) (at : ℕ) (d : TableId) (old now : Rows) (before : Carries held set ids (drop at ids) old now) where
  -- the next table, and those behind it
  next : at < length ids → Carries held set ids (slice_index_or ids at d ∷ drop (at + 1) ids) old now
  next below =
      let step : drop at ids ≡ slice_index_or ids at d ∷ drop (at + 1) ids = rw add-one (drop-cons ids at d below) in
      rw step at before

  -- the next table is left out
  pub carries-behind : at < length ids → is_in set (slice_index_or ids at d) ≡ false → Carries held set ids (drop (at + 1) ids) old now
  carries-behind below out = record {
    tells = λ new result told. (next below).tells new result (rw out told);
    keeps = λ new keeps. (next below).keeps new (assumption (All-cons (GivesPeriods set new) _ _ (λ number there. absurd (true≢false (sym there ∙ out))) keeps.read_periods));
  }

  -- the next table is read
  pub carries-read : (mid : Rows) → at < length ids → is_in set (slice_index_or ids at d) ≡ true → IfSome held (λ files. with_table_file now (slice_index_or ids at d) (files (file_name_of (slice_index_or ids at d))) ≡ Ok mid) → KeepsRows (slice_index_or ids at d) now mid → Carries held set ids (drop (at + 1) ids) old mid
  unfolding with_table_files
  carries-read mid below there read this = record {
    tells = λ new result told. (next below).tells new result (if_both held (λ files (gives : with_table_file now (slice_index_or ids at d) (files (file_name_of (slice_index_or ids at d))) ≡ Ok mid) told. rw (there, gives) told) read told);
    keeps = λ new keeps. (next below).keeps new (record {
      in_range = λ h. keeps.in_range (this.in_range h);
      outside = λ h. keeps.outside (this.outside set there h);
      periods = λ h. keeps.periods (this.periods (inl h));
      read_periods = All-cons (GivesPeriods set new) _ _ (λ number _. keeps.periods (this.periods (inr number))) keeps.read_periods;
    });
  }

  -- the next table stops the reading
  pub carries-stop : (stop : LoadStop) → at < length ids → is_in set (slice_index_or ids at d) ≡ true → IfSome held (λ files. TellsLoad (with_table_file now (slice_index_or ids at d) (files (file_name_of (slice_index_or ids at d)))) stop) → TellsTables held (filter (is_in set) ids) old now (Err stop)
  unfolding with_table_files
  carries-stop stop below there tells = (next below).tells now (Err stop) (if_known held (λ files this. rw there (tells_on (with_table_file now (slice_index_or ids at d) (files (file_name_of (slice_index_or ids at d)))) _ stop this)) tells)

  -- none is left
  pub keeps-all : length ids ≤ at → KeepsAll set ids old now
  keeps-all past = (rw (drop_all at ids past) at before).keeps now (assumption (All-nil (GivesPeriods set now)))

  pub tells-all : length ids ≤ at → TellsTables held (filter (is_in set) ids) old now (Ok tt)
  unfolding with_table_files
  tells-all past = (rw (drop_all at ids past) at before).tells now (Ok tt) (always held (λ files. refl))
