-- How a run ends, by the objects outside.
use Rattle.std.proofs.Common.{◌≡◌, ◌++◌, ℕ, true, List, [], length, Option, Some, None, Result, Ok, Err, IfErr, IfSome, IsSomeAnd, refl, sym, ap, subst, ◌∙◌, append-nil, inr}
use Rattle.std.proofs.lemmas.Bool.{false≢true}
use Rattle.std.specs.Prelude.{unwrap_or}
use Rattle.kt_ends.specs.Ending.{Counted, Gained, NoCount, SinkGains, ToolEnds}
use Rattle.kt_ends.specs.Endings.{ends_for_memory, may_change}
use Rattle.kt_ends.specs.Stops.{end_status}
use Rattle.kt_ends.specs.World.{Finds, World, world}
use Rattle.kt_ends.specs.declared.status.Refusal.{Refusal}
use Rattle.kt_ends.specs.declared.status.Refusal.TheVariants as refusal
use Rattle.kt_ends.specs.declared.status.Status.{Status}
use Rattle.kt_ends.specs.declared.status.Status.TheVariants as status
use Rattle.kt_ends.specs.declared.tool_stop.ToolStop.{ToolStop}
use Rattle.kt_ends.specs.declared.tool_stop.ToolStop.TheVariants.{Refused, ReadFault, WriteFault, NoMemory}
use Rattle.kt_block.specs.declared.terms.Terms.{Terms}
use Rattle.kt_load.specs.EventRows.{HasFootprint, footprint_name}
use Rattle.kt_out.specs.InputFiles.{InputsState}
use Rattle.kt_out.specs.NamedFiles.{FileMap}
use Rattle.kt_out.specs.OutputFiles.{OutputsState}
use Rattle.kt_out.specs.Reading.{SourceState}
use Rattle.kt_out.specs.Writing.{SinkState}
use Rattle.kt_rec.specs.Rows.{Rows}
use Rattle.kt_chain.specs.Events.{RunInput, run_input}
use Rattle.kt_chain.specs.Outcome.{chain_outcome, reached_outcome, run_reaches}
use Rattle.kt_chain.specs.Rounds.{IsEventRefusal, IsRunStop}
use Rattle.kt_chain.specs.Runs.{Counts, IsRunOf, RunMakes, RunSays, chain_uses}

-- a run writes nothing to the sink
no_output : (run : RunInput) (done : List ℕ) (why : Option Refusal) → (reached_outcome run done why).output ≡ []
no_output run done None = refl
no_output run done (Some why) = refl

sink_kept : (taken : Option (List ℕ)) (end : Status) → IfSome taken (λ bytes. Gained [] bytes taken end)
sink_kept None end = tt
sink_kept (Some bytes) end = by end
  where
    all : Some bytes ≡ Some (bytes ++ [])
    all = ap (λ (more : List ℕ). Some more) (sym (append-nil bytes))

    by : (end : Status) → Gained [] bytes (Some bytes) end
    by status.ReadFault = record { front = []; is_front = record { rest = []; is = refl }; gained = all }
    by status.WriteFault = record { front = []; is_front = record { rest = []; is = refl }; gained = all }
    by status.NoMemory = record { front = []; is_front = record { rest = []; is = refl }; gained = all }
    by end = all

module _ (terms : Terms) (rows : Rows) (inputs inputs_now : InputsState) (outputs outputs_now : OutputsState) (source : SourceState) (sink : SinkState) where
  abbrev before : World
  before = world inputs outputs source sink

  abbrev after : World
  after = world inputs_now outputs_now source sink

  -- no fault was counted
  no_count : inputs_now ≡ inputs → outputs_now.faults ≡ outputs.faults → NoCount before after
  no_count same kept = record {
    faults = record { reads = record { inputs = ap (λ (state : InputsState). state.faults) same; source = refl }; writes = record { outputs = kept; sink = refl } };
    misses = ap (λ (state : InputsState). state.misses) same;
  }

  -- a refused event counts nothing
  counted_refused : (why : Refusal) → IsEventRefusal why → NoCount before after → Counted before after (status.Refused why)
  counted_refused (refusal.Missing name) is none = absurd is
  counted_refused why is none = none

  counted_by : (answer : Result (Unit {0}) ToolStop) → Counts inputs inputs_now outputs.faults outputs_now.faults answer → IfErr answer IsRunStop → Counted before after (end_status answer)
  counted_by (Ok done) counts stop = no_count counts.0 counts.1
  counted_by (Err (Refused why)) counts stop = counted_refused why stop (no_count counts.0 counts.1)
  counted_by (Err ReadFault) counts stop = record { rose = inr (counts.0.counted, refl); writes = record { outputs = counts.1; sink = refl }; misses = counts.0.misses }
  counted_by (Err WriteFault) counts stop = record { rose = inr (counts.1, refl); reads = record { inputs = ap (λ (state : InputsState). state.faults) counts.0; source = refl }; misses = ap (λ (state : InputsState). state.misses) counts.0 }
  counted_by (Err NoMemory) counts stop = no_count counts.0 counts.1

  held_by : (answer : Result (Unit {0}) ToolStop) → Counts inputs inputs_now outputs.faults outputs_now.faults answer → inputs_now.held ≡ inputs.held
  held_by (Ok done) counts = ap (λ (state : InputsState). state.held) counts.0
  held_by (Err (Refused why)) counts = ap (λ (state : InputsState). state.held) counts.0
  held_by (Err ReadFault) counts = counts.0.kept
  held_by (Err WriteFault) counts = ap (λ (state : InputsState). state.held) counts.0
  held_by (Err NoMemory) counts = ap (λ (state : InputsState). state.held) counts.0

  -- the footprint's file is there
  is_there : (size : ℕ) (found : Option (List ℕ)) → IsSomeAnd found (λ bytes. length bytes ≡ size) → found ≡ Some (unwrap_or found [])
  is_there size None there = absurd there
  is_there size (Some bytes) there = refl

  -- what these files hold is the run's input
  is_run : HasFootprint inputs.held rows.footprint_size → (files : FileMap) → inputs.held ≡ Some files → IsRunOf inputs.held terms rows (run_input terms rows files)
  is_run has files told = record {
    terms_are = refl;
    rows_are = refl;
    files = files;
    known = told;
    footprint = is_there rows.footprint_size (files footprint_name) (subst (λ (held : Option FileMap). HasFootprint held rows.footprint_size) told has);
  }

  -- a run ends as its outcome says
  pub chain_ends : (answer : Result (Unit {0}) ToolStop) → HasFootprint inputs.held rows.footprint_size
      → ((run : RunInput) → IsRunOf inputs.held terms rows run → RunSays run answer) → ((run : RunInput) → IsRunOf inputs.held terms rows run → RunMakes run outputs outputs_now answer)
      → Counts inputs inputs_now outputs.faults outputs_now.faults answer → IfErr answer IsRunStop
      → ToolEnds chain_uses (λ files bytes. chain_outcome (run_input terms rows files)) before after (end_status answer)
  chain_ends answer has says makes counts stop = record {
    verdict = λ files bytes finds. says (run_input terms rows files) (is_run has files (finds.files_told refl));
    output = λ files bytes finds.
        let run = run_input terms rows files in
        subst (λ (text : List ℕ). SinkGains text sink sink (end_status answer)) (sym (no_output run (run_reaches run).done (run_reaches run).refusal)) (sink_kept sink.taken (end_status answer));
    files = λ files bytes finds. makes (run_input terms rows files) (is_run has files (finds.files_told refl));
    counted = counted_by answer counts stop;
    at_end = λ used. absurd (false≢true used);
    hides_none = λ used. absurd (false≢true used);
    unwritten = λ whole. absurd (false≢true whole);
    kept = record { files = held_by answer counts; inputs = may_change true refl; outputs = may_change true refl; source = λ unused. refl; sink = λ unused. refl };
  }

-- a run that memory is wanting for before anything was done
pub memory_ends : (terms : Terms) (rows : Rows) (inputs : InputsState) (outputs : OutputsState) (source : SourceState) (sink : SinkState) (answer : Result (Unit {0}) ToolStop) (stop : ToolStop) → answer ≡ Err stop → stop ≡ NoMemory
    → ToolEnds chain_uses (λ files bytes. chain_outcome (run_input terms rows files)) (world inputs outputs source sink) (world inputs outputs source sink) (end_status answer)
memory_ends terms rows inputs outputs source sink answer stop is none =
    let here = world inputs outputs source sink in
    subst (λ (one : Result (Unit {0}) ToolStop). ToolEnds chain_uses (λ files bytes. chain_outcome (run_input terms rows files)) here here (end_status one)) (sym (is ∙ ap (λ (s : ToolStop). Err s) none))
    (ends_for_memory (Finds chain_uses here) chain_uses (λ files bytes. chain_outcome (run_input terms rows files)) here here (record { inputs = refl; outputs = refl; sink = refl; reads = refl; source = λ unused. refl }))
