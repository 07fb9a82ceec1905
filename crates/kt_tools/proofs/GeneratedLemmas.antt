-- A run of all stages over a made-up set, in memory.
use Rattle.std.proofs.Common.{◌≡◌, ◌∙◌, ℕ, Bool, true, false, List, [], ◌∷◌, length, Option, None, Some, Result, Ok, Err, refl, sym, ap, subst, arith, inl, inr}
use Rattle.std.specs.Prelude.{◌⊎◌, ◌&&◌, ◌++◌, is_some, map, nat_lt, if◌then◌else◌, unwrap_or, IsSomeAnd, MatchResult}
use Rattle.std.specs.List.{list_all}
use Rattle.kt_cells.specs.declared.stop.TableStop.{TableStop}
use Rattle.kt_cells.specs.declared.stop.TableStop.TheVariants as table
use Rattle.kt_chain.specs.Events.{RunInput, run_input}
use Rattle.kt_chain.specs.Files.{text_upto, text_whole}
use Rattle.kt_chain.specs.Outcome.{chain_outcome, reached_outcome, run_reaches}
use Rattle.kt_chain.specs.Rounds.{IsRunStop}
use Rattle.kt_chain.specs.Runs.{chain_uses}
use Rattle.kt_checks.specs.Checks.{first_refusal}
use Rattle.kt_ends.specs.Ending.{Ended, IsMissing, IsRefusal, ToolEnds}
use Rattle.kt_ends.specs.Endings.{UnderWay, ends_for_memory, ends_refused, nothing, writes_text}
use Rattle.kt_ends.specs.Outcome.{Outcome}
use Rattle.kt_ends.specs.Stops.{end_status, stop_status}
use Rattle.kt_ends.specs.World.{Finds, Uses, World, world}
use Rattle.kt_ends.specs.declared.status.Refusal.{Refusal as RunRefusal}
use Rattle.kt_ends.specs.declared.status.Refusal.TheVariants as refusal
use Rattle.kt_ends.specs.declared.status.Status.{Status}
use Rattle.kt_ends.specs.declared.status.Status.TheVariants as status
use Rattle.kt_ends.specs.declared.tool_stop.ToolStop.{ToolStop}
use Rattle.kt_ends.specs.declared.tool_stop.ToolStop.TheVariants as stop
use Rattle.kt_event.specs.Needs.{chain_need}
use Rattle.kt_event.specs.declared.terms.Terms.{Terms}
use Rattle.kt_files.specs.OutputFiles.{output_files, output_name}
use Rattle.kt_files.specs.declared.file.OutputFile.{OutputFile}
use Rattle.kt_gen.specs.FileLines.{file_lines}
use Rattle.kt_gen.specs.Generated.{files_of, generated_files}
use Rattle.kt_gen.specs.Parts.{footprint_tables}
use Rattle.kt_gen.specs.Shown.{MadeFilesAreShown, lines_of_files, names_of}
use Rattle.kt_keys.specs.declared.need.Need.{Need}
use Rattle.kt_keys.specs.declared.need.Refusal.{Refusal}
use Rattle.kt_load.specs.EventRows.{HasFootprint, footprint_name}
use Rattle.kt_load.specs.FootprintSize.{footprint_size-known}
use Rattle.kt_load.specs.Ends.{AfterStop, TellsLoad}
use Rattle.kt_load.specs.FileNames.{file_name_of}
use Rattle.kt_load.specs.Loaded.{loaded, needed, unless_refused}
use Rattle.kt_load.specs.Reading.{file_limit, go_on, with_read, with_table_file, with_table_files}
use Rattle.kt_load.specs.declared.stop.LoadStop.{LoadStop}
use Rattle.kt_load.specs.declared.stop.LoadStop.TheVariants as load
use Rattle.kt_out.specs.Counts.{Rose}
use Rattle.kt_out.specs.InputFiles.{InputsState}
use Rattle.kt_out.specs.MemoryObjects.{SureFiles}
use Rattle.kt_out.specs.NamedFiles.{File, FileMap, bytes_of}
use Rattle.kt_out.specs.OutputFiles.{OutputsState}
use Rattle.kt_out.specs.Reading.{SourceState}
use Rattle.kt_out.specs.Writing.{SinkState}
use Rattle.kt_outputs.specs.Files.{files_with}
use Rattle.kt_outputs.specs.Names.{AreDistinct}
use Rattle.kt_rec.specs.Rows.{Rows, no_rows}
use Rattle.kt_rec.specs.declared.table.TableId.{TableId}
use Rattle.kt_schema.specs.Loading.{loaded_rows}
use Rattle.kt_tools.specs.GeneratedRun.{MadeInMemory, StopsInMemory, generated_map, generated_run, generated_terms, shown, shown_by}
use Rattle.kt_front.specs.Loading.{load_stop, table_stop, with_tables}

-- ---- no table is missing

-- each of some tables has a file
abbrev all_held : FileMap → List TableId → Bool
all_held files ids = list_all (λ id. is_some (files (file_name_of id))) ids

first_held : (one rest : Bool) → (one && rest) ≡ true → (one ≡ true) × (rest ≡ true)
first_held true rest both = (refl, both)
first_held false rest both = cc

never_missing : (files : FileMap) (ids : List TableId) (rows : Rows) (name : List ℕ) → all_held files ids ≡ true → with_table_files files ids rows ≡ Err (load.Missing name) → ⊥
unfolding with_table_files
never_missing files [] rows name held is = cc
never_missing files (id ∷ ids) rows name held is =
    by_file (files (file_name_of id)) (first_held (is_some (files (file_name_of id))) (all_held files ids) held).0 (λ read. never_missing files ids read name (first_held (is_some (files (file_name_of id))) (all_held files ids) held).1) is
  where
    by_read : (read : Result (ℕ × List (List ℕ)) TableStop) (size : ℕ) → ((read : Rows) → with_table_files files ids read ≡ Err (load.Missing name) → ⊥)
        → go_on (with_read rows id size read) (with_table_files files ids) ≡ Err (load.Missing name) → ⊥
    by_read (Ok file) size later h = later _ h
    by_read (Err why) size later h = cc

    by_size : (large : Bool) (bytes : List ℕ) → ((read : Rows) → with_table_files files ids read ≡ Err (load.Missing name) → ⊥)
        → go_on (if large then Err (load.TooLarge (file_name_of id)) else with_read rows id (length bytes) (loaded_rows id.table bytes)) (with_table_files files ids) ≡ Err (load.Missing name) → ⊥
    by_size true bytes later h = cc
    by_size false bytes later h = by_read (loaded_rows id.table bytes) (length bytes) later h

    by_file : (found : Option (List ℕ)) → is_some found ≡ true → ((read : Rows) → with_table_files files ids read ≡ Err (load.Missing name) → ⊥)
        → go_on (with_table_file rows id found) (with_table_files files ids) ≡ Err (load.Missing name) → ⊥
    by_file None there later h = cc
    by_file (Some bytes) there later h = by_size (nat_lt file_limit (length bytes)) bytes later h

-- the files of a made-up set are those of the tables that its run needs
all_there : (seed items events : ℕ) → all_held (generated_map seed items events) (needed (chain_need generated_terms)) ≡ true
all_there seed items events = refl

not_missing : (seed items events : ℕ) (name : List ℕ) → loaded (generated_map seed items events) (chain_need generated_terms) ≡ Err (load.Missing name) → ⊥
not_missing seed items events name is = by_rows (with_table_files (generated_map seed items events) (needed (chain_need generated_terms)) no_rows) refl is
  where
    by_refusal : (rows : Rows) (found : Option Refusal) → unless_refused rows found ≡ Err (load.Missing name) → ⊥
    by_refusal rows None h = cc
    by_refusal rows (Some why) h = cc

    by_rows : (read : Result Rows LoadStop) → with_table_files (generated_map seed items events) (needed (chain_need generated_terms)) no_rows ≡ read
        → go_on read (λ rows. unless_refused rows (first_refusal rows (chain_need generated_terms))) ≡ Err (load.Missing name) → ⊥
    by_rows (Ok rows) e h = by_refusal rows (first_refusal rows (chain_need generated_terms)) h
    by_rows (Err why) e h = never_missing (generated_map seed items events) (needed (chain_need generated_terms)) no_rows name (all_there seed items events) (e ∙ h)

-- ---- the names of the files

names_with : (text : OutputFile → List ℕ) (files : List OutputFile) → names_of (files_with output_name text files) ≡ map output_name files
names_with text [] = refl
names_with text (file ∷ files) = ap (λ (names : List (List ℕ)). output_name file ∷ names) (names_with text files)

names_of_run : (run : RunInput) → names_of (chain_outcome run).files ≡ map output_name (output_files run.rows run.terms.last)
names_of_run run = by_refusal (run_reaches run).refusal
  where
    by_refusal : (why : Option RunRefusal) → names_of (reached_outcome run (run_reaches run).done why).files ≡ map output_name (output_files run.rows run.terms.last)
    by_refusal None = names_with (text_whole run (run_reaches run).done) (output_files run.rows run.terms.last)
    by_refusal (Some why) = names_with (text_upto run (run_reaches run).done) (output_files run.rows run.terms.last)

-- ---- the run

-- no count of objects in memory rises
none_rose : Rose 0 0 → ⊥
none_rose rose = omega (arith, rose)

none_of_both : {A B : Type 0} → (Rose 0 0 × A) ⊎ (Rose 0 0 × B) → ⊥
none_of_both (inl rose) = none_rose rose.0
none_of_both (inr rose) = none_rose rose.0

-- objects in memory as all objects are seen
abbrev pub sure_inputs : SureFiles → InputsState
sure_inputs held = record { held = Some (bytes_of held.files); faults = 0; misses = held.misses }

abbrev pub sure_outputs : List File → OutputsState
sure_outputs files = record { written = Some (bytes_of files); faults = 0 }

abbrev pub no_source : SourceState
no_source = record { left = None; faults = 0 }

abbrev pub no_sink : SinkState
no_sink = record { taken = None; faults = 0 }

-- a run that has touched nothing
untouched : (uses : Uses) (before : World) → UnderWay uses before before
untouched uses before = record { inputs = refl; outputs = refl; sink = refl; reads = refl; source = λ unused. refl }

-- the footprint's file is as long as that of the tables that were loaded
pub footprint_known : (set held : FileMap) (rows : Rows) → loaded set (chain_need generated_terms) ≡ Ok rows → held footprint_name ≡ set footprint_name → HasFootprint (Some held) rows.footprint_size
footprint_known set held rows loads same =
    subst (λ (found : Option (List ℕ)). IsSomeAnd found (λ bytes. length bytes ≡ rows.footprint_size)) (sym same) (footprint_size-known (Some set) (chain_need generated_terms) rows loads refl)

-- the tables of the set are loaded for its run
pub loaded_for_run : (seed items events : ℕ) (before : SureFiles) (misses : ℕ) (need : Need) (rows : Rows) → before ≡ record { files = generated_files seed items events; misses = misses } → need ≡ chain_need generated_terms → loaded (bytes_of before.files) need ≡ Ok rows → loaded (generated_map seed items events) (chain_need generated_terms) ≡ Ok rows
loaded_for_run seed items events before misses need rows is for loads =
    subst (λ (held : SureFiles). loaded (bytes_of held.files) (chain_need generated_terms) ≡ Ok rows) is
    (subst (λ (one : Need). loaded (bytes_of before.files) one ≡ Ok rows) for loads)

-- the footprint that is made alone is that of the set
pub footprint_held : (seed items events : ℕ) (inputs : SureFiles) → inputs ≡ record { files = files_of seed items events footprint_tables; misses = 0 } → bytes_of inputs.files footprint_name ≡ generated_map seed items events footprint_name
footprint_held seed items events inputs is = ap (λ (held : SureFiles). bytes_of held.files footprint_name) is

-- a run into no files, by its terms
pub ends_by_terms : (terms : Terms) (rows : Rows) (before after : SureFiles) (old made : List File) (end : Status) → terms ≡ generated_terms → old ≡ []
    → ToolEnds chain_uses (λ files _. chain_outcome (run_input terms rows files)) (world (sure_inputs before) (sure_outputs old) no_source no_sink) (world (sure_inputs after) (sure_outputs made) no_source no_sink) end
    → ToolEnds chain_uses (λ files _. chain_outcome (run_input generated_terms rows files)) (world (sure_inputs before) (sure_outputs []) no_source no_sink) (world (sure_inputs after) (sure_outputs made) no_source no_sink) end
ends_by_terms terms rows before after old made end is none ended =
    subst (λ (one : Terms). ToolEnds chain_uses (λ files _. chain_outcome (run_input one rows files)) (world (sure_inputs before) (sure_outputs []) no_source no_sink) (world (sure_inputs after) (sure_outputs made) no_source no_sink) end) is
    (subst (λ (files : List File). ToolEnds chain_uses (λ files _. chain_outcome (run_input terms rows files)) (world (sure_inputs before) (sure_outputs files) no_source no_sink) (world (sure_inputs after) (sure_outputs made) no_source no_sink) end) none ended)

-- a refusal of the run is none of a missing file
never_a_file : (why : RunRefusal) → IsRunStop (stop.Refused why) → IsMissing (status.Refused why) → ⊥
never_a_file (refusal.Missing name) is missing = is
never_a_file why is missing = missing

module _ (seed items events : ℕ) (rows : Rows) (loads : loaded (generated_map seed items events) (chain_need generated_terms) ≡ Ok rows) where
  -- once the tables are loaded, the run is that over their rows and the footprint
  run_is : (held : FileMap) → held footprint_name ≡ generated_map seed items events footprint_name → generated_run seed items events ≡ chain_outcome (run_input generated_terms rows held)
  unfolding generated_run
  run_is held same =
      ap (λ (tables : Result Rows LoadStop). with_tables tables (λ rows. chain_outcome (run_input generated_terms rows (generated_map seed items events)))) loads
      ∙ ap (λ (found : Option (List ℕ)). chain_outcome (record { terms = generated_terms; rows = rows; footprint = unwrap_or found [] })) (sym same)

  module _ (before after : SureFiles) (made : List File) (held : bytes_of before.files footprint_name ≡ generated_map seed items events footprint_name) where
    abbrev files : FileMap
    files = bytes_of before.files

    abbrev input : RunInput
    input = run_input generated_terms rows files

    abbrev Ends : Result (Unit {0}) ToolStop → Type 0
    Ends end = ToolEnds chain_uses (λ files _. chain_outcome (run_input generated_terms rows files)) (world (sure_inputs before) (sure_outputs []) no_source no_sink) (world (sure_inputs after) (sure_outputs made) no_source no_sink) (end_status end)

    finds : Finds chain_uses (world (sure_inputs before) (sure_outputs []) no_source no_sink) files []
    finds = record { files_told = λ used. refl; source_told = λ used. cc }

    -- it is done
    pub made_in_memory : (shows : MadeFilesAreShown) (distinct : AreDistinct (map output_name (output_files rows generated_terms.last))) (names : List OutputFile) → names ≡ output_files rows generated_terms.last → Ends (Ok tt) → MadeInMemory (generated_run seed items events) made names
    made_in_memory shows distinct names are ended =
        let wanted : List File = (chain_outcome input).files in
        let shown_are : file_lines (bytes_of made) (names_of wanted) ≡ lines_of_files wanted = shows wanted (bytes_of []) (bytes_of made) (subst AreDistinct (sym (names_of_run input)) distinct) (ended.files files [] finds) in
        subst (λ (run : Outcome). MadeInMemory run made names) (sym (run_is files held)) (record {
          done = ended.verdict files [] finds;
          lines = ap (λ (all : List OutputFile). file_lines (bytes_of made) (map output_name all)) are ∙ ap (file_lines (bytes_of made)) (sym (names_of_run input)) ∙ shown_are;
        })

    -- it has stopped
    pub stops_in_memory : (why : ToolStop) → IsRunStop why → Ends (Err why) → StopsInMemory (generated_run seed items events) why
    stops_in_memory (stop.Refused why) is ended = (subst (λ (run : Outcome). run.status ≡ status.Refused why) (sym (run_is files held)) (ended.verdict files [] finds), never_a_file why is)
    stops_in_memory stop.ReadFault is ended = none_of_both ended.counted.rose
    stops_in_memory stop.WriteFault is ended = none_of_both ended.counted.rose
    stops_in_memory stop.NoMemory is ended = tt

-- ---- the tables are refused

module _ (seed items events : ℕ) where
  refused_run : (why : LoadStop) → loaded (generated_map seed items events) (chain_need generated_terms) ≡ Err why → generated_run seed items events ≡ nothing (stop_status (load_stop why))
  unfolding generated_run
  refused_run why is = ap (λ (tables : Result Rows LoadStop). with_tables tables (λ rows. chain_outcome (run_input generated_terms rows (generated_map seed items events)))) is

  refused_status : (why : LoadStop) → loaded (generated_map seed items events) (chain_need generated_terms) ≡ Err why → (generated_run seed items events).status ≡ stop_status (load_stop why)
  refused_status why is = ap (λ (run : Outcome). run.status) (refused_run why is)

  unloaded_table : (name : List ℕ) (why : TableStop) → TellsLoad (loaded (generated_map seed items events) (chain_need generated_terms)) (load.Table name why) → StopsInMemory (generated_run seed items events) (table_stop name why)
  unloaded_table name table.NotProfile tells = (refused_status (load.Table name table.NotProfile) tells, λ missing. missing)
  unloaded_table name (table.WrongTable found) tells = (refused_status (load.Table name (table.WrongTable found)) tells, λ missing. missing)
  unloaded_table name (table.WrongVersion found) tells = (refused_status (load.Table name (table.WrongVersion found)) tells, λ missing. missing)
  unloaded_table name (table.CutRecord row) tells = (refused_status (load.Table name (table.CutRecord row)) tells, λ missing. missing)
  unloaded_table name (table.Bad row column cause) tells = (refused_status (load.Table name (table.Bad row column cause)) tells, λ missing. missing)
  unloaded_table name table.OutOfMemory tells = tt

  pub unloaded_in_memory : (misses : ℕ) (after : SureFiles) (why : LoadStop) → TellsLoad (loaded (generated_map seed items events) (chain_need generated_terms)) why
      → AfterStop (sure_inputs (record { files = generated_files seed items events; misses = misses })) (sure_inputs after) why → StopsInMemory (generated_run seed items events) (load_stop why)
  unloaded_in_memory misses after load.ReadFault tells counted = absurd (none_rose counted.counted)
  unloaded_in_memory misses after load.OutOfMemory tells counted = tt
  unloaded_in_memory misses after (load.Missing name) tells counted = absurd (not_missing seed items events name tells)
  unloaded_in_memory misses after (load.TooLarge name) tells counted = (refused_status (load.TooLarge name) tells, λ missing. missing)
  unloaded_in_memory misses after (load.Table name why) tells counted = unloaded_table name why tells
  unloaded_in_memory misses after (load.Check number name row) tells counted = (refused_status (load.Check number name row) tells, λ missing. missing)

-- ---- what is shown

-- a run that is done is shown by the lines of its files
pub shown_done : (run : Outcome) (held : List File) (names : List OutputFile) → MadeInMemory run held names → shown run ≡ writes_text (file_lines (bytes_of held) (map output_name names))
shown_done run held names made = ap (λ (end : Status). shown_by end run.files) made.done ∙ ap writes_text (sym made.lines)

-- so is the text of these lines
pub shown_text : (run : Outcome) (held : List File) (names named : List OutputFile) (start lines text : List ℕ) → MadeInMemory run held names → named ≡ names → start ≡ [] → lines ≡ start ++ file_lines (bytes_of held) (map output_name named) → text ≡ lines → shown run ≡ writes_text text
shown_text run held names named start lines text made same none are is =
    shown_done run held names made
    ∙ ap writes_text (sym (is ∙ are ∙ ap (λ (before : List ℕ). before ++ file_lines (bytes_of held) (map output_name named)) none ∙ ap (λ (all : List OutputFile). file_lines (bytes_of held) (map output_name all)) same))

-- one that has stopped shows nothing
pub shown_stopped : (found : FileMap → List ℕ → Type 0) (uses : Uses) (run : Outcome) (before : World) (why : ToolStop) → StopsInMemory run why → Ended found uses (λ files source. shown run) before before (stop_status why)
shown_stopped found uses run before (stop.Refused why) stops = ends_refused found uses (λ files source. shown run) before before why stops.1 (untouched uses before) (λ files source finds. ap (λ (end : Status). shown_by end run.files) stops.0)
shown_stopped found uses run before stop.ReadFault stops = absurd stops
shown_stopped found uses run before stop.WriteFault stops = absurd stops
shown_stopped found uses run before stop.NoMemory stops = ends_for_memory found uses (λ files source. shown run) before before (untouched uses before)

-- memory was wanting before the run began
pub memory_in_memory : {T : Type 0} (made : T → Type 0) (run : Outcome) (answer : Result T ToolStop) (why : ToolStop) → answer ≡ Err why → why ≡ stop.NoMemory → MatchResult answer made (StopsInMemory run)
memory_in_memory {T} made run answer why is none = subst (λ (one : Result T ToolStop). MatchResult one made (StopsInMemory run)) (sym (is ∙ ap (λ (s : ToolStop). Err s) none)) tt

-- a run that is done is not refused
pub not_refused : (run : Outcome) → run.status ≡ status.Done → IsRefusal (shown run).status → ⊥
not_refused run done refused = subst (λ (end : Status). IsRefusal (shown_by end run.files).status) done refused
