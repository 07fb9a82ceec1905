-- What a round makes of the output files, and what rounds do one behind the other.
use Rattle.std.proofs.Common.{◌≡◌, ◌<◌, ℕ, List, [], ◌∷◌, ◌++◌, length, map, nat_eq, true, get_or, All, Option, Some, None, Result, Ok, Err, refl, sym, ap, subst, ◌∙◌, append_assoc, append-nil, arith}
use Rattle.std.specs.List.{flat_map}
use Rattle.std.proofs.lemmas.Bool.{eqb-true}
use Rattle.std.proofs.lemmas.Grind.{flat_map-append}
use Rattle.std.proofs.lemmas.List.{get_or-map, length-map}
use Rattle.kt_ends.specs.Stops.{fault_stop}
use Rattle.kt_ends.specs.declared.status.Refusal.{Refusal}
use Rattle.kt_ends.specs.declared.tool_stop.ToolStop.{ToolStop}
use Rattle.kt_ends.specs.declared.tool_stop.ToolStop.TheVariants.{Refused, ReadFault, WriteFault, NoMemory}
use Rattle.kt_block.specs.declared.block.EventBlock.{EventBlock}
use Rattle.kt_block.specs.declared.terms.Terms.{Terms}
use Rattle.kt_files.specs.OutputFiles.{output_files, output_name}
use Rattle.kt_files.specs.Parts.{block_text, head_text}
use Rattle.kt_files.specs.declared.file.OutputFile.{OutputFile}
use Rattle.kt_out.specs.InputFiles.{InputsState}
use Rattle.kt_out.specs.NamedFiles.{File, FileMap}
use Rattle.kt_out.specs.OutputFiles.{OutputsState}
use Rattle.kt_out.specs.declared.fault.Fault.{Fault}
use Rattle.kt_out.specs.declared.fault.Fault.TheVariants.{Failed, OutOfMemory}
use Rattle.kt_outputs.specs.Composing.{makes_nothing, makes_then, stops_as, stops_behind}
use Rattle.kt_outputs.specs.Files.{Makes, files_with}
use Rattle.kt_rec.specs.Ranges.{AreInRange}
use Rattle.kt_rec.specs.Rows.{Rows}
use Rattle.kt_rec.specs.declared.hazard.Event.{Event}
use Rattle.kt_stream.specs.Pairs.{IsId}
use Rattle.kt_tables.specs.Lookups.{event_ids}
use Rattle.kt_chain.specs.Events.{RunInput, block_of}
use Rattle.kt_chain.specs.Files.{event_text, files_upto, text_upto}
use Rattle.kt_chain.specs.Outcome.{event_refusal}
use Rattle.kt_chain.specs.Reached.{AreDone, Passes, StopsAt, both_pass, done_behind, done_with_more, earlier_are_done, none_passes, passed_are_done, reached_are_done, stops_with_more}
use Rattle.kt_chain.specs.Reached.{stops_behind as stops_later}
use Rattle.kt_fold.specs.Folds.{FoldState}
use Rattle.kt_load.specs.EventRows.{EventRows, ids_of}
use Rattle.kt_chain.specs.Runs.{AreGivenRows, CountsRead, FoldEnds, FoldsTo, GoesOn, IsFolded, IsRunOf, MakesSome, RoundGoes, RoundMakes, RunShares}
use Rattle.kt_chain.specs.TextFolds.{KeepsRows}
use Rattle.kt_chain.specs.declared.text_fold.TextFold.{TextFold}
use Rattle.kt_chain.proofs.TextLemmas.{same_files}

-- ---- the ids of events with their rows

-- what holds of the ids of events holds of each event's
pub ids_are : (given : List EventRows) → All IsId (ids_of given) → All (λ one. IsId one.event) given
ids_are given ids k d below =
    let many : length (ids_of given) ≡ length given = length-map given (λ (one : EventRows). one.event) in
    let at : get_or (ids_of given) k d.event ≡ (get_or given k d).event = get_or-map (λ (one : EventRows). one.event) given k d d.event below in
    subst IsId at (ids k d.event (subst (λ (n : ℕ). k < n) (sym many) below))

-- the events of a portfolio have ids
pub events_are_ids : (rows : Rows) → AreInRange rows → All IsId (event_ids rows)
events_are_ids rows ranges k d below =
    let none : Event = record { event_id = 0 } in
    let many : length (event_ids rows) ≡ length rows.events = length-map rows.events (λ (row : Event). row.event_id) in
    let inside : k < length rows.events = subst (λ (n : ℕ). k < n) many below in
    let at : get_or (event_ids rows) k d ≡ (get_or rows.events k none).event_id = get_or-map (λ (row : Event). row.event_id) rows.events k none d inside in
    let id = ranges.events k none inside in
    subst IsId (sym at) (id.least, id.most)

-- a list of no length
pub none_left : (rest : List ℕ) → nat_eq (length rest) 0 ≡ true → rest ≡ []
none_left rest none = by rest (eqb-true (length rest) 0 none)
  where
    by : (left : List ℕ) → length left ≡ 0 → left ≡ []
    by [] is = refl
    by (event ∷ later) is = absurd (omega (arith, is))

-- ---- the run of an input

-- the files of a run are those of its input
pub files_of_run : (input : RunInput) (run : RunShares) (held : Option FileMap) → IsRunOf held run.terms run.portfolio.rows input → run.files ≡ output_files run.portfolio.rows run.terms.last → run.files ≡ output_files input.rows input.terms.last
files_of_run input run held is files =
    files ∙ ap (λ (rows : Rows). output_files rows run.terms.last) (sym is.rows_are) ∙ ap (λ (terms : Terms). output_files input.rows terms.last) (sym is.terms_are)

-- what the fold of a round does to its events, whose rows were read
pub folds_to : (input : RunInput) (run : RunShares) (done events : List ℕ) (given : List EventRows) → ids_of given ≡ events → (rows : Rows) → rows ≡ run.portfolio.rows → (held : Option FileMap) → IsRunOf held run.terms run.portfolio.rows input
    → ((terms : Terms) (other : RunInput) → IsRunOf held terms rows other → AreGivenRows other given) → (old : FoldState) → IsFolded input done old → (refusal : Option Refusal) (fold : TextFold)
    → ((one : RunInput) (before : List ℕ) → one.terms ≡ run.terms → one.rows ≡ run.portfolio.rows → AreGivenRows one given → IsFolded one before old → FoldsTo one before (ids_of given) refusal fold.inner × KeepsRows fold)
    → FoldsTo input done events refusal fold.inner × KeepsRows fold
folds_to input run done events given ids rows rows_are held is read old folded refusal fold folds =
    subst (λ (all : List ℕ). FoldsTo input done all refusal fold.inner × KeepsRows fold) ids
    (folds input done is.terms_are is.rows_are
    (read run.terms input (subst (λ (r : Rows). IsRunOf held run.terms r input) (sym rows_are) is)) folded)

-- ---- the rows of a round

-- a call that came to its end, whatever it might have answered instead
pub ended : (held wanted : List File) (before after : OutputsState) → Makes {T = Unit {0}} {E = Fault} held wanted before after (Ok tt) → Makes {T = Unit {0}} {E = ToolStop} held wanted before after (Ok tt)
ended held wanted before after made = makes_then {T = Unit {0}} {U = Unit {0}} {D = Fault} {E = ToolStop} held wanted wanted before after after tt (Ok tt) made (makes_nothing (Unit {0}) ToolStop wanted after tt)

module _ (run : RunInput) where
  -- what the blocks of events add to a file
  texts_of_blocks : (file : OutputFile) (events : List ℕ) → flat_map (block_text run.terms.samples run.rows file) (map (block_of run) events) ≡ flat_map (event_text run file) events
  texts_of_blocks file [] = refl
  texts_of_blocks file (event ∷ later) = ap (λ (more : List ℕ). event_text run file event ++ more) (texts_of_blocks file later)

  -- the rows of more events behind those of others
  upto_more : (done front : List ℕ) (samples : ℕ) (rows : Rows) (blocks : List EventBlock) → samples ≡ run.terms.samples → rows ≡ run.rows → blocks ≡ map (block_of run) front → (file : OutputFile) → text_upto run done file ++ flat_map (block_text samples rows file) blocks ≡ text_upto run (done ++ front) file
  upto_more done front samples rows blocks samples_are rows_are blocks_are file =
      let more : flat_map (block_text samples rows file) blocks ≡ flat_map (event_text run file) front =
      ap (λ (n : ℕ). flat_map (block_text n rows file) blocks) samples_are
      ∙ ap (λ (r : Rows). flat_map (block_text run.terms.samples r file) blocks) rows_are
      ∙ ap (λ (bs : List EventBlock). flat_map (block_text run.terms.samples run.rows file) bs) blocks_are
      ∙ texts_of_blocks file front in
      ap (λ (text : List ℕ). text_upto run done file ++ text) more
      ∙ append_assoc (head_text file) (flat_map (event_text run file) done) (flat_map (event_text run file) front)
      ∙ ap (λ (text : List ℕ). head_text file ++ text) (sym (flat_map-append (event_text run file) done front))

  -- the rows of the blocks that are kept were appended
  pub upto_made : (files : List OutputFile) → files ≡ output_files run.rows run.terms.last → (done front : List ℕ) (samples : ℕ) (rows : Rows) (blocks : List EventBlock) → samples ≡ run.terms.samples → rows ≡ run.rows → blocks ≡ map (block_of run) front
      → (before after : OutputsState) (answer : Result (Unit {0}) Fault)
      → ((text : OutputFile → List ℕ) → Makes (files_with output_name text files) (files_with output_name (λ file. text file ++ flat_map (block_text samples rows file) blocks) files) before after answer)
      → Makes (files_upto run done) (files_upto run (done ++ front)) before after answer
  upto_made files are done front samples rows blocks samples_are rows_are blocks_are before after answer made =
      let longer : OutputFile → List ℕ = λ file. text_upto run done file ++ flat_map (block_text samples rows file) blocks in
      let here : Makes (files_upto run done) (files_with output_name longer (output_files run.rows run.terms.last)) before after answer =
      subst (λ (list : List OutputFile). Makes (files_with output_name (text_upto run done) list) (files_with output_name longer list) before after answer) are (made (text_upto run done)) in
      subst (λ (now : List File). Makes (files_upto run done) now before after answer)
      (same_files output_name longer (text_upto run (done ++ front)) (upto_more done front samples rows blocks samples_are rows_are blocks_are) (output_files run.rows run.terms.last)) here

  module _ (done events : List ℕ) where
    -- the events whose rows were appended are done in any case
    front_done : (front : List ℕ) (refusal : Option Refusal) (fold : FoldState) → FoldEnds run done events front refusal fold → AreDone (event_refusal run) done events (done ++ front)
    front_done front None fold ends = subst (λ (all : List ℕ). AreDone (event_refusal run) done events (done ++ all)) (sym ends.0) (passed_are_done (event_refusal run) done events ends.1)
    front_done front (Some why) fold ends = reached_are_done (event_refusal run) done events (done ++ front) why ends

    -- a fault in writing ends the round
    pub writing_stops : (refusal : Option Refusal) (fold : FoldState) (to : FoldsTo run done events refusal fold) (before after : OutputsState) (fault : Fault) → Makes {T = Unit {0}} (files_upto run done) (files_upto run (done ++ to.front)) before after (Err fault) → RoundMakes run done events before after (Err (fault_stop fault))
    writing_stops refusal fold to before after Failed made = record {
      some = done ++ to.front;
      are = front_done to.front refusal fold to.ends;
      makes = stops_as {U = Unit {0}} {D = Fault} {E = ToolStop} (Unit {0}) (files_upto run done) (files_upto run (done ++ to.front)) before after Failed WriteFault made;
    }
    writing_stops refusal fold to before after OutOfMemory made = record {
      some = done ++ to.front;
      are = front_done to.front refusal fold to.ends;
      makes = stops_as {U = Unit {0}} {D = Fault} {E = ToolStop} (Unit {0}) (files_upto run done) (files_upto run (done ++ to.front)) before after OutOfMemory NoMemory made;
    }

    -- a round that ends before it has written makes nothing of the files
    pub nothing_written : (before : OutputsState) (stop : ToolStop) → MakesSome run done events before before stop
    nothing_written before stop = record {
      some = done;
      are = earlier_are_done (event_refusal run) done events;
      makes = stops_behind {T = Unit {0}} {U = Unit {0}} {E = ToolStop} ToolStop (files_upto run done) (files_upto run done) before before tt stop (makes_nothing (Unit {0}) ToolStop (files_upto run done) before tt);
    }

    -- so does one that ends in reading
    pub reading_stops : (inputs inputs_now : InputsState) (before : OutputsState) (stop : ToolStop) → CountsRead inputs inputs_now stop → RoundMakes run done events before before (Err stop)
    reading_stops inputs inputs_now before (Refused why) counts = absurd counts
    reading_stops inputs inputs_now before ReadFault counts = nothing_written before ReadFault
    reading_stops inputs inputs_now before WriteFault counts = absurd counts
    reading_stops inputs inputs_now before NoMemory counts = nothing_written before NoMemory

    -- the answer where one of the events is refused
    pub refused_goes : (why : Refusal) (refusal : Option Refusal) → refusal ≡ Some why → (fold : FoldState) (to : FoldsTo run done events refusal fold) → StopsAt (event_refusal run) done events (done ++ to.front) why
    refused_goes why refusal is fold to = subst (λ (found : Option Refusal). FoldEnds run done events to.front found fold) is to.ends

    -- the answer where none is
    pub none_goes : (refusal : Option Refusal) → refusal ≡ None → (fold new : FoldState) (to : FoldsTo run done events refusal fold) → new ≡ record { rows = fold.rows; cells = fold.cells; kept = [] } → GoesOn run done events new
    none_goes refusal is fold new to new_is =
        let ends = subst (λ (found : Option Refusal). FoldEnds run done events to.front found fold) is to.ends in
        record {
          passes = ends.1;
          folded = subst (IsFolded run (done ++ events)) (sym new_is) (record { rows = to.rows; samples = to.samples; stands = ends.2; none_kept = refl });
        }

    pub none_makes : (refusal : Option Refusal) → refusal ≡ None → (fold : FoldState) (to : FoldsTo run done events refusal fold) (before after : OutputsState) → Makes {T = Unit {0}} {E = Fault} (files_upto run done) (files_upto run (done ++ to.front)) before after (Ok tt) → Makes {T = Unit {0}} {E = ToolStop} (files_upto run done) (files_upto run (done ++ events)) before after (Ok tt)
    none_makes refusal is fold to before after made =
        let ends = subst (λ (found : Option Refusal). FoldEnds run done events to.front found fold) is to.ends in
        subst (λ (front : List ℕ). Makes {T = Unit {0}} {E = ToolStop} (files_upto run done) (files_upto run (done ++ front)) before after (Ok tt)) ends.0 (ended (files_upto run done) (files_upto run (done ++ to.front)) before after made)

  -- ---- rounds one behind the other

  -- how far the rounds have come: these events are done, and the others are left
  pub record Going (events rest : List ℕ) (fold : FoldState) (before after : OutputsState) : Type 0 where
    pub done : List ℕ
    pub split : events ≡ done ++ rest
    pub passes : Passes (event_refusal run) [] done
    pub folded : IsFolded run done fold
    pub makes : Makes {T = Unit {0}} {E = ToolStop} (files_upto run []) (files_upto run done) before after (Ok tt)

  -- no round yet
  pub going_first : (events : List ℕ) (fold : FoldState) (before : OutputsState) → IsFolded run [] fold → Going events events fold before before
  going_first events fold before folded = record {
    done = [];
    split = refl;
    passes = none_passes (event_refusal run) [];
    folded = folded;
    makes = makes_nothing (Unit {0}) ToolStop (files_upto run []) before tt;
  }

  module _ (events round later : List ℕ) (fold : FoldState) (before between : OutputsState) (going : Going events (round ++ later) fold before between) where
    -- one round more
    pub going_on : (new : FoldState) (after : OutputsState) → RoundGoes run going.done round new (Ok tt) → RoundMakes run going.done round between after (Ok tt) → Going events later new before after
    going_on new after goes made = record {
      done = going.done ++ round;
      split = going.split ∙ sym (append_assoc going.done round later);
      passes = both_pass (event_refusal run) [] going.done round going.passes goes.passes;
      folded = goes.folded;
      makes = makes_then {T = Unit {0}} {U = Unit {0}} {D = ToolStop} {E = ToolStop} (files_upto run []) (files_upto run going.done) (files_upto run (going.done ++ round)) before between after tt (Ok tt) going.makes made;
    }

    -- the run is refused where a round is
    stops_in_round : (reached : List ℕ) (why : Refusal) → StopsAt (event_refusal run) going.done round reached why → StopsAt (event_refusal run) [] events reached why
    stops_in_round reached why stops =
        subst (λ (all : List ℕ). StopsAt (event_refusal run) [] all reached why) (sym going.split)
        (stops_later (event_refusal run) [] going.done (round ++ later) reached why going.passes (stops_with_more (event_refusal run) going.done round later reached why stops))

    pub round_ends : (new : FoldState) (stop : ToolStop) → RoundGoes run going.done round new (Err stop) → RoundGoes run [] events new (Err stop)
    round_ends new (Refused why) goes = record { reached = goes.reached; stops = stops_in_round goes.reached why goes.stops }
    round_ends new ReadFault goes = tt
    round_ends new WriteFault goes = tt
    round_ends new NoMemory goes = tt

    some_made : (after : OutputsState) (stop : ToolStop) → MakesSome run going.done round between after stop → MakesSome run [] events before after stop
    some_made after stop made = record {
      some = made.some;
      are = subst (λ (all : List ℕ). AreDone (event_refusal run) [] all made.some) (sym going.split)
          (done_behind (event_refusal run) [] going.done (round ++ later) made.some going.passes (done_with_more (event_refusal run) going.done round later made.some made.are));
      makes = makes_then {T = Unit {0}} {U = Unit {0}} {D = ToolStop} {E = ToolStop} (files_upto run []) (files_upto run going.done) (files_upto run made.some) before between after tt (Err stop) going.makes made.makes;
    }

    pub round_ends_files : (after : OutputsState) (stop : ToolStop) → RoundMakes run going.done round between after (Err stop) → RoundMakes run [] events before after (Err stop)
    round_ends_files after (Refused why) made = record {
      reached = made.reached;
      stops = stops_in_round made.reached why made.stops;
      makes = makes_then {T = Unit {0}} {U = Unit {0}} {D = ToolStop} {E = ToolStop} (files_upto run []) (files_upto run going.done) (files_upto run made.reached) before between after tt (Ok tt) going.makes made.makes;
    }
    round_ends_files after ReadFault made = some_made after ReadFault made
    round_ends_files after WriteFault made = some_made after WriteFault made
    round_ends_files after NoMemory made = some_made after NoMemory made

  -- no event is left
  pub all_gone : (events : List ℕ) (fold : FoldState) (before after : OutputsState) (rest : List ℕ) → rest ≡ [] → Going events rest fold before after → RoundGoes run [] events fold (Ok tt) × RoundMakes run [] events before after (Ok tt)
  all_gone events fold before after rest none going =
      let all : going.done ≡ events = sym (append-nil going.done) ∙ ap (λ (left : List ℕ). going.done ++ left) (sym none) ∙ sym going.split in (
        record { passes = subst (Passes (event_refusal run) []) all going.passes; folded = subst (λ (done : List ℕ). IsFolded run done fold) all going.folded },
        subst (λ (done : List ℕ). Makes {T = Unit {0}} {E = ToolStop} (files_upto run []) (files_upto run done) before after (Ok tt)) all going.makes,
      )
