-- How a run of a stage ends, once all that was pending is written.
use Rattle.std.proofs.Common.{◌≡◌, ◌⊎◌, ℕ, Bool, true, false, List, [], ◌∷◌, ◌++◌, Option, Some, None, Result, Ok, Err, refl, sym, ap, ◌∙◌, subst, append-nil, inl, inr}
use Rattle.std.specs.Prelude.{IfSome, IsSomeAnd, OnOk}
use Rattle.kt_out.specs.Counts.{Rose}
use Rattle.kt_out.specs.InputFiles.{InputsState, CountsFault}
use Rattle.kt_out.specs.NamedFiles.{File, FileMap}
use Rattle.kt_out.specs.OutputFiles.{OutputsState}
use Rattle.kt_out.specs.Reading.{SourceState}
use Rattle.kt_out.specs.Writing.{SinkState}
use Rattle.kt_stream.specs.declared.stop.StreamStop.{StreamStop}
use Rattle.kt_ends.specs.Ending.{Made, PartlyMade, NoCount, Counted, CountedRead, CountedWrite, AtEnd}
use Rattle.kt_ends.specs.Hiding.{HidesNone, IsUnrefused, none_failed}
use Rattle.kt_ends.specs.Outcome.{Outcome}
use Rattle.kt_ends.specs.Stops.{end_status, stop_status}
use Rattle.kt_ends.specs.World.{World, world, Finds}
use Rattle.kt_ends.specs.declared.status.Refusal.{Refusal}
use Rattle.kt_ends.specs.declared.status.Refusal.TheVariants as refusal
use Rattle.kt_ends.specs.declared.status.Status.{Status}
use Rattle.kt_ends.specs.declared.status.Status.TheVariants as status
use Rattle.kt_ends.specs.declared.tool_stop.ToolStop.{ToolStop}
use Rattle.kt_ends.specs.declared.tool_stop.ToolStop.TheVariants as stop
use Rattle.kt_loop.specs.Calculation.{Calculation}
use Rattle.kt_loop.specs.Contents.{Contents}
use Rattle.kt_loop.specs.Counts.{CountsRead, CountsWrite, StopCounts}
use Rattle.kt_loop.specs.Given.{Given, Spills}
use Rattle.kt_loop.specs.Outcome.{ended_by, outcome}
use Rattle.kt_loop.specs.Running.{stream_uses, EndsRun, Makes}
use Rattle.kt_loop.specs.Settling.{IsSettled, Settles, IsEnd}

abbrev some_list : List ℕ → Option (List ℕ)
some_list xs = Some xs

-- ---- what is known of something

pub map_some : {A : Type 0} (known : Option A) (P Q : A → Type 0) → ((x : A) → P x → Q x) → IfSome known P → IfSome known Q
map_some None P Q each all = tt
map_some (Some x) P Q each all = each x all

at_some : {A : Type 0} (known : Option A) (P : A → Type 0) (x : A) → known ≡ Some x → IfSome known P → P x
at_some {A = A} known P x is all = let told : IfSome (Some x) P = subst (λ (o : Option A). IfSome o P) is all in told

-- ---- the output

-- nothing is pending
whole_given : (before now : Option (List ℕ)) (pending text : List ℕ) → pending ≡ [] → Given before now pending text → IfSome before (λ taken. now ≡ Some (taken ++ text))
whole_given None now pending text empty given = tt
whole_given (Some taken) now pending text empty given =
    given.gained ∙ ap (λ (xs : List ℕ). Some (taken ++ xs)) (sym (given.whole ∙ ap (λ (xs : List ℕ). given.front ++ xs) empty ∙ append-nil given.front))

module _ (made : Outcome) (before mid now : Option (List ℕ)) (pending pending_now : List ℕ) where
  -- what was pending could not be written
  pub unwritten_end : (T : Type 0) (faults faults_now : ℕ) (end : Status) (why : ToolStop) → IsSettled made before mid pending end → ((before : Option (List ℕ)) (text : List ℕ) → Given before mid pending text → Spills {T = T} before now pending_now text (Err why)) → CountsWrite {T = T} faults faults_now (Err why)
      → IsEnd made before now (stop_status why)
  unwritten_end T faults faults_now end (stop.Refused why) settled spills counts = absurd counts
  unwritten_end T faults faults_now end stop.ReadFault settled spills counts = absurd counts
  unwritten_end T faults faults_now end other settled spills counts = record { verdict = tt; output = spills before made.output settled.given }

  -- the stream was read to its end
  pub done_end : (faults faults_now : ℕ) (result : Result (Unit {0}) ToolStop) → IsSettled made before mid pending status.Done → ((before : Option (List ℕ)) (text : List ℕ) → Given before mid pending text → Spills before now pending_now text result) → OnOk result (pending_now ≡ [])
      → CountsWrite faults faults_now result → IsEnd made before now (end_status result)
  done_end faults faults_now (Ok done) settled spills emptied counts = record { verdict = settled.status; output = whole_given before now pending_now made.output emptied (spills before made.output settled.given) }
  done_end faults faults_now (Err why) settled spills emptied counts = unwritten_end (Unit {0}) faults faults_now status.Done why settled spills counts

  -- it was refused
  pub refused_end : (why : Refusal) → IsSettled made before mid pending (status.Refused why) → ((before : Option (List ℕ)) (text : List ℕ) → Given before mid pending text → Given before now pending_now text) → pending_now ≡ [] → IsEnd made before now (status.Refused why)
  refused_end why settled spills emptied = record { verdict = settled.status; output = whole_given before now pending_now made.output emptied (spills before made.output settled.given) }

-- it stopped otherwise
pub stopped_end : (T : Type 0) (made : Outcome) (before now : Option (List ℕ)) (pending : List ℕ) (why : ToolStop) → ((refused : Refusal) → why ≡ stop.Refused refused → ⊥) → Settles {T = T} made before now pending (Err why) → IsEnd made before now (stop_status why)
stopped_end T made before now pending (stop.Refused why) other settles = absurd (other why refl)
stopped_end T made before now pending why other settles = record { verdict = tt; output = settles }

-- ---- the counts

module _ (inputs inputs_now : InputsState) (outputs : OutputsState) (source source_now : SourceState) (sink sink_mid sink_now : SinkState) where
  abbrev at_first : World
  at_first = world inputs outputs source sink

  abbrev at_last : World
  at_last = world inputs_now outputs source_now sink_now

  none_counted : inputs_now ≡ inputs → source_now.faults ≡ source.faults → sink_now.faults ≡ sink.faults → NoCount at_first at_last
  none_counted same reads faults = record {
    faults = record {
      reads = record { inputs = ap (λ (state : InputsState). state.faults) same; source = reads };
      writes = record { outputs = refl; sink = faults };
    };
    misses = ap (λ (state : InputsState). state.misses) same;
  }

  write_counted : inputs_now ≡ inputs → source_now.faults ≡ source.faults → Rose sink.faults sink_now.faults → CountedWrite at_first at_last
  write_counted same reads rose = record {
    rose = inl (rose, refl);
    reads = record { inputs = ap (λ (state : InputsState). state.faults) same; source = reads };
    misses = ap (λ (state : InputsState). state.misses) same;
  }

  -- writing behind calls that counted nothing
  pub counted_writing : (T : Type 0) (why : ToolStop) → (inputs_now ≡ inputs) × (source_now.faults ≡ source.faults) × (sink_mid.faults ≡ sink.faults) → CountsWrite {T = T} sink_mid.faults sink_now.faults (Err why) → Counted at_first at_last (stop_status why)
  counted_writing T stop.WriteFault none counts = write_counted none.0 none.1 (subst (λ (n : ℕ). Rose n sink_now.faults) none.2 counts)
  counted_writing T stop.NoMemory none counts = none_counted none.0 none.1 (counts ∙ none.2)
  counted_writing T other none counts = absurd counts

  pub counted_done : (result : Result (Unit {0}) ToolStop) → (inputs_now ≡ inputs) × (source_now.faults ≡ source.faults) × (sink_mid.faults ≡ sink.faults) → CountsWrite sink_mid.faults sink_now.faults result → Counted at_first at_last (end_status result)
  counted_done (Ok done) none counts = none_counted none.0 none.1 (counts ∙ none.2)
  counted_done (Err why) none counts = counted_writing (Unit {0}) why none counts

  -- a refusal counted nothing
  pub refused_none : (T : Type 0) (why : Refusal) → CountsRead {T = T} inputs inputs_now source.faults source_now.faults sink.faults sink_mid.faults (Err (stop.Refused why)) → (inputs_now ≡ inputs) × (source_now.faults ≡ source.faults) × (sink_mid.faults ≡ sink.faults)
  refused_none T (refusal.Missing name) counts = absurd counts
  refused_none T why counts = counts

  pub counted_refused : (T : Type 0) (why : Refusal) → CountsRead {T = T} inputs inputs_now source.faults source_now.faults sink.faults sink_mid.faults (Err (stop.Refused why)) → sink_now.faults ≡ sink_mid.faults → Counted at_first at_last (status.Refused why)
  counted_refused T (refusal.Missing name) counts same = absurd counts
  counted_refused T why counts same = none_counted counts.0 counts.1 (same ∙ counts.2)

  fault_counted : ((CountsFault inputs inputs_now × (source_now.faults ≡ source.faults)) ⊎ ((inputs_now ≡ inputs) × Rose source.faults source_now.faults)) × (sink_now.faults ≡ sink.faults) → CountedRead at_first at_last
  fault_counted (inl fault, faults) = record { rose = inr (fault.0.counted, fault.1); writes = record { outputs = refl; sink = faults }; misses = fault.0.misses }
  fault_counted (inr fault, faults) = record { rose = inl (fault.1, ap (λ (state : InputsState). state.faults) fault.0); writes = record { outputs = refl; sink = faults }; misses = ap (λ (state : InputsState). state.misses) fault.0 }

  pub counted_stopped : (T : Type 0) (why : ToolStop) → ((refused : Refusal) → why ≡ stop.Refused refused → ⊥) → CountsRead {T = T} inputs inputs_now source.faults source_now.faults sink.faults sink_now.faults (Err why) → Counted at_first at_last (stop_status why)
  counted_stopped T (stop.Refused why) other counts = absurd (other why refl)
  counted_stopped T stop.ReadFault other counts = fault_counted counts
  counted_stopped T stop.WriteFault other counts = write_counted counts.0 counts.1 counts.2
  counted_stopped T stop.NoMemory other counts = none_counted counts.0 counts.1 counts.2

fault_kept : (inputs inputs_now : InputsState) (reads reads_now faults faults_now : ℕ) → ((CountsFault inputs inputs_now × (reads_now ≡ reads)) ⊎ ((inputs_now ≡ inputs) × Rose reads reads_now)) × (faults_now ≡ faults) → inputs_now.held ≡ inputs.held
fault_kept inputs inputs_now reads reads_now faults faults_now (inl fault, same) = fault.0.kept
fault_kept inputs inputs_now reads reads_now faults faults_now (inr fault, same) = ap (λ (state : InputsState). state.held) fault.0

-- no call changes what the input files hold
pub files_kept : (T : Type 0) (inputs inputs_now : InputsState) (reads reads_now faults faults_now : ℕ) (result : Result T ToolStop) → CountsRead inputs inputs_now reads reads_now faults faults_now result → inputs_now.held ≡ inputs.held
files_kept T inputs inputs_now reads reads_now faults faults_now (Err (stop.Refused (refusal.Missing name))) counts = absurd counts
files_kept T inputs inputs_now reads reads_now faults faults_now (Err stop.ReadFault) counts = fault_kept inputs inputs_now reads reads_now faults faults_now counts
files_kept T inputs inputs_now reads reads_now faults faults_now result counts = ap (λ (state : InputsState). state.held) counts.0

-- ---- the end as a whole

no_files : {H E S : Type 0} (calculation : Calculation H E S Refusal) (head : Option H) (fault : Option StreamStop) (text : List ℕ) (reached : Result S Refusal) → (ended_by calculation head fault text reached).files ≡ []
no_files calculation head fault text (Err why) = refl
no_files calculation head (Some stop) text (Ok state) = refl
no_files calculation head None text (Ok state) = refl

none_partly : (files : FileMap) → PartlyMade [] files files
none_partly files = record { made = []; fronts = tt; holds = λ name. inl refl }

-- where no file is made the output files are as they were
files_as_before : (written : Option FileMap) (end : Status) → IfSome written (λ files. IsSomeAnd written (λ now. Made [] files now end))
files_as_before None end = tt
files_as_before (Some files) status.Done = λ name. refl
files_as_before (Some files) (status.Words why) = λ name. refl
files_as_before (Some files) (status.Refused why) = λ name. refl
files_as_before (Some files) end = none_partly files

abbrev used : Bool
used = true

not_unused : used ≡ false → ⊥
not_unused is = cc

module _ {H E S : Type 0} (calculation : Calculation H E S Refusal) (contents : List ℕ → Contents H E) (stood : S → Type 0) (asks : Bool) (made : FileMap → List ℕ → Outcome) (inputs inputs_now : InputsState) (outputs : OutputsState) (source source_now : SourceState) (sink sink_now : SinkState) (end : Status) where
  hidden_by : (of : FileMap) (last : Status) → ((start : S) → stood start → HidesNone (λ (bytes : List ℕ). outcome calculation start (contents bytes)) source source_now last) → ((bytes : List ℕ) → Makes calculation (contents bytes) stood (made of bytes)) → HidesNone (made of) source source_now last
  hidden_by of status.ReadFault hides told = λ rose byte read rest was is.
      let makes = told (byte ∷ read) in
      subst (λ (o : Outcome). IsUnrefused o.status) (sym makes.is) (hides makes.start makes.stood rose byte read rest was is)
  hidden_by of last hides told = tt

  pub ends_run : ((start : S) → stood start → IfSome source.left (λ bytes. IsEnd (outcome calculation start (contents bytes)) sink.taken sink_now.taken end)) → Counted (world inputs outputs source sink) (world inputs_now outputs source_now sink_now) end
      → AtEnd source.left source_now.left end → ((start : S) → stood start → HidesNone (λ (bytes : List ℕ). outcome calculation start (contents bytes)) source source_now end) → inputs_now.held ≡ inputs.held → EndsRun calculation contents stood asks made (world inputs outputs source sink) (world inputs_now outputs source_now sink_now) end
  ends_run ends counted at_end hides held keeps told =
      let is_end : (files : FileMap) (bytes : List ℕ) → Finds (stream_uses asks) (world inputs outputs source sink) files bytes → IsEnd (made files bytes) sink.taken sink_now.taken end =
      λ files bytes finds.
      let makes = told files bytes (record { files_told = finds.files_told }) in
      subst (λ (o : Outcome). IsEnd o sink.taken sink_now.taken end) (sym makes.is)
      (at_some source.left (λ (xs : List ℕ). IsEnd (outcome calculation makes.start (contents xs)) sink.taken sink_now.taken end) bytes (finds.source_told refl) (ends makes.start makes.stood)) in
      record {
        verdict = λ files bytes finds. (is_end files bytes finds).verdict;
        output = λ files bytes finds. (is_end files bytes finds).output;
        files = λ files bytes finds.
            let makes = told files bytes (record { files_told = finds.files_told }) in
            let none : (made files bytes).files ≡ [] = ap (λ (o : Outcome). o.files) makes.is ∙ no_files calculation (contents bytes).head (contents bytes).fault _ _ in
            subst (λ (wanted : List File). IfSome outputs.written (λ written. IsSomeAnd outputs.written (λ now. Made wanted written now end))) (sym none) (files_as_before outputs.written end);
        counted = counted;
        at_end = λ uses. at_end;
        hides_none = λ uses by_record files bytes finds. hidden_by files end hides (λ read. told files read (record { files_told = finds.files_told }));
        unwritten = λ whole. absurd (not_unused (sym whole));
        kept = record { files = held; inputs = keeps; outputs = λ unused. refl; source = λ unused. absurd (not_unused unused); sink = λ unused. absurd (not_unused unused) };
      }

-- a stop that is answered hides what the loop hid: it read on behind none that refuses
pub hidden_stop : (hidden : List ℕ → Outcome) (inputs inputs_now : InputsState) (source source_now : SourceState) (faults faults_now : ℕ) (why answer : ToolStop) → StopCounts inputs inputs_now source.faults source_now.faults faults faults_now why
    → (why ≡ stop.ReadFault → answer ≡ stop.ReadFault) → HidesNone hidden source source_now (stop_status why) → HidesNone hidden source source_now (stop_status answer)
hidden_stop hidden inputs inputs_now source source_now faults faults_now (stop.Refused (refusal.Missing name)) answer counts same hides = absurd counts
hidden_stop hidden inputs inputs_now source source_now faults faults_now stop.ReadFault answer counts same hides = subst (λ (one : ToolStop). HidesNone hidden source source_now (stop_status one)) (sym (same refl)) hides
hidden_stop hidden inputs inputs_now source source_now faults faults_now why answer counts same hides = none_failed hidden source source_now (stop_status answer) counts.1

-- a run that did not end with Done promises nothing of the rest of the source
pub stop_at_end : (left now : Option (List ℕ)) (why : ToolStop) → AtEnd left now (stop_status why)
stop_at_end left now (stop.Refused why) = tt
stop_at_end left now other = tt

pub done_at_end : (left now : Option (List ℕ)) (result : Result (Unit {0}) ToolStop) → AtEnd left now status.Done → AtEnd left now (end_status result)
done_at_end left now (Ok done) at_end = at_end
done_at_end left now (Err why) at_end = stop_at_end left now why
