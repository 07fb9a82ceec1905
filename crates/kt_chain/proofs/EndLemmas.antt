-- How a run ends, by what its steps have made.
use Rattle.std.proofs.Common.{◌≡◌, ℕ, List, [], ◌++◌, Option, Some, None, Result, Ok, Err, IfSome, IsSomeAnd, refl, sym, ap, subst, ◌∙◌, append_assoc, append-nil}
use Rattle.std.specs.List.{flat_map}
use Rattle.std.proofs.lemmas.Grind.{flat_map-append}
use Rattle.kt_cell.specs.Losses.{Added}
use Rattle.kt_ends.specs.Ending.{AllMade, IsFront, PartlyMade}
use Rattle.kt_ends.specs.Outcome.{Outcome}
use Rattle.kt_ends.specs.Stops.{fault_stop}
use Rattle.kt_ends.specs.declared.status.Refusal.{Refusal}
use Rattle.kt_ends.specs.declared.status.Status.TheVariants as status
use Rattle.kt_ends.specs.declared.tool_stop.ToolStop.{ToolStop}
use Rattle.kt_ends.specs.declared.tool_stop.ToolStop.TheVariants.{Refused, ReadFault, WriteFault, NoMemory}
use Rattle.kt_block.specs.declared.terms.Terms.{Terms}
use Rattle.kt_files.specs.Endings.{AreEndings}
use Rattle.kt_files.specs.OutputFiles.{output_files, output_name}
use Rattle.kt_files.specs.Parts.{end_text, head_text}
use Rattle.kt_files.specs.declared.file.OutputFile.{OutputFile}
use Rattle.kt_out.specs.NamedFiles.{File, FileMap}
use Rattle.kt_out.specs.OutputFiles.{OutputsState}
use Rattle.kt_out.specs.declared.fault.Fault.{Fault}
use Rattle.kt_out.specs.declared.fault.Fault.TheVariants.{Failed, OutOfMemory}
use Rattle.kt_outputs.specs.Composing.{made_from_nothing, makes_then, stops_as, stops_grown}
use Rattle.kt_outputs.specs.Files.{Makes, files_with}
use Rattle.kt_outputs.specs.Growing.{front_of_front, front_of_longer}
use Rattle.kt_rec.specs.Rows.{Rows}
use Rattle.kt_tables.specs.Lookups.{event_ids}
use Rattle.kt_chain.specs.Events.{RunInput, all_added}
use Rattle.kt_chain.specs.Files.{event_text, files_upto, files_whole, text_upto, text_whole}
use Rattle.kt_chain.specs.Outcome.{chain_outcome, event_refusal, reached_outcome, run_reaches}
use Rattle.kt_chain.specs.Reached.{AreDone, Passes, Reached, StopsAt, all_reached, done_reached, earlier_are_done, stop_reached}
use Rattle.kt_fold.specs.Folds.{FoldState}
use Rattle.kt_chain.specs.Runs.{GoesOn, IsFolded, IsRunOf, MakesSome, RoundGoes, RoundMakes, RunMakes, RunSays, RunShares}
use Rattle.kt_chain.proofs.TextLemmas.{same_files}

module _ (run : RunInput) where
  -- ---- the files of a run, and fronts of them

  -- the text of a file by how far the run came
  abbrev final_text : List ℕ → Option Refusal → OutputFile → List ℕ
  final_text done None file = text_whole run done file
  final_text done (Some why) file = text_upto run done file

  final_files : (done : List ℕ) (refusal : Option Refusal) → (reached_outcome run done refusal).files ≡ files_with output_name (final_text done refusal) (output_files run.rows run.terms.last)
  final_files done None = refl
  final_files done (Some why) = refl

  -- the rows of more events behind those of others
  upto_both : (some more : List ℕ) (file : OutputFile) → text_upto run (some ++ more) file ≡ text_upto run some file ++ flat_map (event_text run file) more
  upto_both some more file =
      ap (λ (text : List ℕ). head_text file ++ text) (flat_map-append (event_text run file) some more)
      ∙ sym (append_assoc (head_text file) (flat_map (event_text run file) some) (flat_map (event_text run file) more))

  front_of_final : (done some more : List ℕ) (refusal : Option Refusal) → done ≡ some ++ more → (file : OutputFile) → IsFront (text_upto run some file) (final_text done refusal file)
  front_of_final done some more refusal is file = by refusal
    where
      upto : IsFront (text_upto run some file) (text_upto run done file)
      upto = record { rest = flat_map (event_text run file) more; is = ap (λ (all : List ℕ). text_upto run all file) is ∙ upto_both some more file }

      by : (why : Option Refusal) → IsFront (text_upto run some file) (final_text done why file)
      by None = front_of_front (text_upto run some file) (text_upto run done file) (text_whole run done file) upto (front_of_longer (text_upto run done file) (end_text run.terms.samples run.rows (all_added run done) file))
      by (Some why) = upto

  -- where a fault or want of memory ended the run, some front of its files was made
  pub ends_in_part : (some : List ℕ) → AreDone (event_refusal run) [] (event_ids run.rows) some → (before after : OutputsState) (stop : ToolStop) → Makes {T = Unit {0}} [] (files_upto run some) before after (Err stop) → IfSome before.written (λ old. IsSomeAnd after.written (λ now. PartlyMade (chain_outcome run).files old now))
  ends_in_part some are before after stop made =
      let done = (run_reaches run).done in
      let refusal = (run_reaches run).refusal in
      let grown : Makes {T = Unit {0}} {E = ToolStop} [] (files_with output_name (final_text done refusal) (output_files run.rows run.terms.last)) before after (Err stop) =
      stops_grown {F = OutputFile} {U = Unit {0}} {D = ToolStop} {E = ToolStop} (Unit {0}) [] output_name (text_upto run some) (final_text done refusal)
      (front_of_final done some (are.more []) refusal (done_reached (event_refusal run) [] (event_ids run.rows) some are)) (output_files run.rows run.terms.last) before after stop stop made in
      subst (λ (wanted : List File). IfSome before.written (λ old. IsSomeAnd after.written (λ now. PartlyMade wanted old now))) (sym (final_files done refusal))
      (made_from_nothing {T = Unit {0}} {E = ToolStop} (files_with output_name (final_text done refusal) (output_files run.rows run.terms.last)) before after (Err stop) grown)

  -- ---- the steps

  -- the heads are the text of files with the rows of no event
  pub begun : (files : List OutputFile) → files ≡ output_files run.rows run.terms.last → (before after : OutputsState) (answer : Result (Unit {0}) Fault) → Makes [] (files_with output_name head_text files) before after answer → Makes [] (files_upto run []) before after answer
  begun files are before after answer made =
      subst (λ (now : List File). Makes [] now before after answer)
      (ap (files_with output_name head_text) are ∙ same_files output_name head_text (text_upto run []) (λ file. sym (append-nil (head_text file))) (output_files run.rows run.terms.last)) made

  -- a fault in beginning
  pub begins_in_part : (before after : OutputsState) (fault : Fault) → Makes {T = Unit {0}} [] (files_upto run []) before after (Err fault) → RunMakes run before after (Err (fault_stop fault))
  begins_in_part before after Failed made = ends_in_part [] (earlier_are_done (event_refusal run) [] (event_ids run.rows)) before after WriteFault (stops_as {U = Unit {0}} {D = Fault} {E = ToolStop} (Unit {0}) [] (files_upto run []) before after Failed WriteFault made)
  begins_in_part before after OutOfMemory made = ends_in_part [] (earlier_are_done (event_refusal run) [] (event_ids run.rows)) before after NoMemory (stops_as {U = Unit {0}} {D = Fault} {E = ToolStop} (Unit {0}) [] (files_upto run []) before after OutOfMemory NoMemory made)

  -- the outcome where an event is refused
  refused_outcome : (reached : List ℕ) (why : Refusal) → StopsAt (event_refusal run) [] (event_ids run.rows) reached why → chain_outcome run ≡ reached_outcome run reached (Some why)
  refused_outcome reached why stops = ap (λ (far : Reached). reached_outcome run far.done far.refusal) (stop_reached (event_refusal run) [] (event_ids run.rows) reached why stops)

  -- the outcome where none is
  done_outcome : Passes (event_refusal run) [] (event_ids run.rows) → chain_outcome run ≡ reached_outcome run (event_ids run.rows) None
  done_outcome passes = ap (λ (far : Reached). reached_outcome run far.done far.refusal) (all_reached (event_refusal run) [] (event_ids run.rows) passes)

  -- what the run says where a round stops it
  pub stop_says : (fold : FoldState) (stop : ToolStop) → RoundGoes run [] (event_ids run.rows) fold (Err stop) → RunSays run (Err stop)
  stop_says fold (Refused why) goes = ap (λ (one : Outcome). one.status) (refused_outcome goes.reached why goes.stops)
  stop_says fold ReadFault goes = tt
  stop_says fold WriteFault goes = tt
  stop_says fold NoMemory goes = tt

  module _ (before between : OutputsState) (heads : Makes {T = Unit {0}} {E = Fault} [] (files_upto run []) before between (Ok tt)) where
    then_some : (after : OutputsState) (stop : ToolStop) → MakesSome run [] (event_ids run.rows) between after stop → IfSome before.written (λ old. IsSomeAnd after.written (λ now. PartlyMade (chain_outcome run).files old now))
    then_some after stop made =
        ends_in_part made.some made.are before after stop
        (makes_then {T = Unit {0}} {U = Unit {0}} {D = Fault} {E = ToolStop} [] (files_upto run []) (files_upto run made.some) before between after tt (Err stop) heads made.makes)

    -- what it makes where a round stops it
    pub stop_makes : (after : OutputsState) (stop : ToolStop) → RoundMakes run [] (event_ids run.rows) between after (Err stop) → RunMakes run before after (Err stop)
    stop_makes after (Refused why) made =
        subst (λ (one : Outcome). IfSome before.written (λ old. IsSomeAnd after.written (λ now. AllMade one.files old now))) (sym (refused_outcome made.reached why made.stops))
        (made_from_nothing {T = Unit {0}} {E = ToolStop} (files_upto run made.reached) before after (Ok tt)
        (makes_then {T = Unit {0}} {U = Unit {0}} {D = Fault} {E = ToolStop} [] (files_upto run []) (files_upto run made.reached) before between after tt (Ok tt) heads made.makes))
    stop_makes after ReadFault made = then_some after ReadFault made
    stop_makes after WriteFault made = then_some after WriteFault made
    stop_makes after NoMemory made = then_some after NoMemory made

    -- ---- all events are done

    module _ (fold : FoldState) (goes : GoesOn run [] (event_ids run.rows) fold) (rounds : OutputsState) (rows_made : Makes {T = Unit {0}} {E = ToolStop} (files_upto run []) (files_upto run (event_ids run.rows)) between rounds (Ok tt)) where
      pub all_says : (chain_outcome run).status ≡ status.Done
      all_says = ap (λ (one : Outcome). one.status) (done_outcome goes.passes)

      -- the ends were written
      whole : (files : List OutputFile) → files ≡ output_files run.rows run.terms.last → fold.cells.periods ≡ fold.rows.periods → (after : OutputsState) (answer : Result (Unit {0}) Fault)
          → ((history : List Added) (text : OutputFile → List ℕ) → AreEndings history fold.rows fold.cells → Makes (files_with output_name text files) (files_with output_name (λ file. text file ++ end_text fold.cells.samples fold.rows history file) files) rounds after answer)
          → Makes [] (files_whole run (event_ids run.rows)) before after answer
      whole files are periods after answer made =
          let added = all_added run (event_ids run.rows) in
          let upto = text_upto run (event_ids run.rows) in
          let longer : OutputFile → List ℕ = λ file. upto file ++ end_text fold.cells.samples fold.rows added file in
          let all : Makes (files_with output_name upto files) (files_with output_name longer files) rounds after answer = made added upto (record { stands = goes.folded.stands; periods = periods }) in
          let same : (file : OutputFile) → longer file ≡ text_whole run (event_ids run.rows) file = λ file.
          ap (λ (more : List ℕ). upto file ++ more)
          (ap (λ (n : ℕ). end_text n fold.rows added file) goes.folded.samples ∙ ap (λ (r : Rows). end_text run.terms.samples r added file) goes.folded.rows) in
          let here : Makes (files_upto run (event_ids run.rows)) (files_whole run (event_ids run.rows)) rounds after answer =
          subst (λ (now : List File). Makes (files_upto run (event_ids run.rows)) now rounds after answer) (same_files output_name longer (text_whole run (event_ids run.rows)) same (output_files run.rows run.terms.last))
          (subst (λ (list : List OutputFile). Makes (files_with output_name upto list) (files_with output_name longer list) rounds after answer) are all) in
          makes_then {T = Unit {0}} {U = Unit {0}} {D = Fault} {E = Fault} [] (files_upto run []) (files_whole run (event_ids run.rows)) before between after tt answer heads
          (makes_then {T = Unit {0}} {U = Unit {0}} {D = ToolStop} {E = Fault} (files_upto run []) (files_upto run (event_ids run.rows)) (files_whole run (event_ids run.rows)) between rounds after tt answer rows_made here)

      module _ (files : List OutputFile) (are : files ≡ output_files run.rows run.terms.last) (periods : fold.cells.periods ≡ fold.rows.periods) (after : OutputsState) where
        pub all_makes : ((history : List Added) (text : OutputFile → List ℕ) → AreEndings history fold.rows fold.cells → Makes {T = Unit {0}} {E = Fault} (files_with output_name text files) (files_with output_name (λ file. text file ++ end_text fold.cells.samples fold.rows history file) files) rounds after (Ok tt)) → RunMakes run before after (Ok tt)
        all_makes made =
            subst (λ (one : Outcome). IfSome before.written (λ old. IsSomeAnd after.written (λ now. AllMade one.files old now))) (sym (done_outcome goes.passes))
            (made_from_nothing {T = Unit {0}} {E = Fault} (files_whole run (event_ids run.rows)) before after (Ok tt) (whole files are periods after (Ok tt) made))

        part : (fault : Fault) → Makes {T = Unit {0}} [] (files_whole run (event_ids run.rows)) before after (Err fault) → IfSome before.written (λ old. IsSomeAnd after.written (λ now. PartlyMade (chain_outcome run).files old now))
        part fault made =
            subst (λ (one : Outcome). IfSome before.written (λ old. IsSomeAnd after.written (λ now. PartlyMade one.files old now))) (sym (done_outcome goes.passes))
            (made_from_nothing {T = Unit {0}} {E = Fault} (files_whole run (event_ids run.rows)) before after (Err fault) made)

        pub part_makes : (fault : Fault) → ((history : List Added) (text : OutputFile → List ℕ) → AreEndings history fold.rows fold.cells → Makes {T = Unit {0}} (files_with output_name text files) (files_with output_name (λ file. text file ++ end_text fold.cells.samples fold.rows history file) files) rounds after (Err fault)) → RunMakes run before after (Err (fault_stop fault))
        part_makes Failed made = part Failed (whole files are periods after (Err Failed) made)
        part_makes OutOfMemory made = part OutOfMemory (whole files are periods after (Err OutOfMemory) made)

  -- no event yet
  pub folds_none : (fold : FoldState) (samples : ℕ) → samples ≡ run.terms.samples → (rows : Rows) → rows ≡ run.rows → fold ≡ record { rows = rows; cells = record { periods = rows.periods; samples = samples; entries = [] }; kept = [] } → IsFolded run [] fold
  folds_none fold samples samples_are rows rows_are is =
      subst (IsFolded run []) (sym is) (record { rows = rows_are; samples = samples_are; stands = record { cells = λ key. refl; count = refl }; none_kept = refl })

-- the fold that a run begins with
pub first_fold : (input : RunInput) (run inside : RunShares) → inside ≡ run → (held : Option FileMap) → IsRunOf held run.terms run.portfolio.rows input → (terms : Terms) → terms ≡ inside.terms → (fold : FoldState)
    → fold ≡ record { rows = inside.portfolio.rows; cells = record { periods = inside.portfolio.rows.periods; samples = terms.samples; entries = [] }; kept = [] } → IsFolded input [] fold
first_fold input run inside view held is terms terms_are fold fold_is =
    folds_none input fold terms.samples (ap (λ (t : Terms). t.samples) (terms_are ∙ ap (λ (one : RunShares). one.terms) view ∙ sym is.terms_are))
    inside.portfolio.rows (ap (λ (one : RunShares). one.portfolio.rows) view ∙ sym is.rows_are) fold_is
