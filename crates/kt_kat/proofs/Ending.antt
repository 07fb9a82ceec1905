-- How `kat` ends.
use Rattle.std.proofs.Common.{◌≡◌, ◌⊎◌, ℕ, List, [], ◌∷◌, Option, Some, None, Result, Ok, Err, refl, sym, ap, ◌∙◌, subst, inl, inr}
use Rattle.std.specs.Prelude.{IfSome}
use Rattle.std.proofs.lemmas.Bool.{false≢true}
use Rattle.kt_out.specs.Counts.{Rose}
use Rattle.kt_out.specs.InputFiles.{InputsState, CountsFault}
use Rattle.kt_out.specs.declared.fault.Fault.{Fault}
use Rattle.kt_out.specs.declared.fault.Fault.TheVariants.{Failed, OutOfMemory}
use Rattle.kt_out.specs.NamedFiles.{FileMap}
use Rattle.kt_out.specs.OutputFiles.{OutputsState}
use Rattle.kt_out.specs.Reading.{SourceState}
use Rattle.kt_out.specs.Writing.{SinkState}
use Rattle.kt_stream.specs.declared.kind.Shape.{Shape}
use Rattle.kt_stream.specs.Stream.{Form}
use Rattle.kt_ends.specs.Ending.{NoFault, NoCount, Counted, ToolEnds}
use Rattle.kt_ends.specs.Endings.{UnderWay, makes_none, nothing, ends_for_memory, ends_missing, ends_refused, ends_unread_files}
use Rattle.kt_ends.specs.Outcome.{Outcome}
use Rattle.kt_ends.specs.Stops.{stop_status}
use Rattle.kt_ends.specs.World.{Finds, world}
use Rattle.kt_ends.specs.declared.status.Refusal.{Refusal}
use Rattle.kt_ends.specs.declared.status.Refusal.TheVariants as refusal
use Rattle.kt_ends.specs.declared.status.Status.{Status}
use Rattle.kt_ends.specs.declared.status.Status.TheVariants as status
use Rattle.kt_ends.specs.declared.tool_stop.ToolStop.{ToolStop}
use Rattle.kt_ends.specs.declared.tool_stop.ToolStop.TheVariants as stop
use Rattle.kt_loop.specs.InputFile.{file_bytes}
use Rattle.kt_loop.specs.Settling.{IsEnd}
use Rattle.kt_kat.specs.Files.{files_of}
use Rattle.kt_kat.specs.Found.{AreFound, TellsRefusal, Looked, LooksInto}
use Rattle.kt_kat.specs.Stops.{unread_stop}
use Rattle.kt_kat.specs.FileKinds.{kind_at_front, kind_of_files}
use Rattle.kt_kat.specs.Joining.{joined_files}
use Rattle.kt_kat.specs.declared.front.FileKind.{FileKind}
use Rattle.kt_kat.specs.declared.front.FileKind.TheVariants.{Plain, Cdf, Gul, Loss, Summary}
use Rattle.kt_kat.specs.Outcome.{together, by_files, kat_outcome, kat_uses}
use Rattle.kt_kat.proofs.OneByOne.{next_file}

-- ---- counts

-- input files that hold the same and counted nothing are as they were
same_inputs : (now before : InputsState) → now.held ≡ before.held → now.faults ≡ before.faults → now.misses ≡ before.misses → now ≡ before
same_inputs now before held faults misses =
    ap (λ (h : Option FileMap). record { held = h; faults = now.faults; misses = now.misses }) held
    ∙ ap (λ (n : ℕ). record { held = before.held; faults = n; misses = now.misses }) faults
    ∙ ap (λ (n : ℕ). record { held = before.held; faults = before.faults; misses = n }) misses

-- objects of which nothing is known
abbrev some_outputs : OutputsState
some_outputs = record { written = None; faults = 0 }

abbrev some_source : SourceState
some_source = record { left = None; faults = 0 }

-- what calls that are done leave of the input files, behind others that counted nothing
pub inputs_kept : (before mid now : InputsState) (sink sink_now : SinkState) → mid ≡ before → now.held ≡ mid.held → ((outputs : OutputsState) (source : SourceState) → NoCount (world mid outputs source sink) (world now outputs source sink_now)) → now ≡ before
inputs_kept before mid now sink sink_now same held none =
    let one = none some_outputs some_source in
    same_inputs now mid held one.faults.reads.inputs one.misses ∙ same

-- and of the sink's count
pub faults_kept : (mid now : InputsState) (sink sink_mid sink_now : SinkState) → sink_mid.faults ≡ sink.faults → ((outputs : OutputsState) (source : SourceState) → NoCount (world mid outputs source sink_mid) (world now outputs source sink_now)) → sink_now.faults ≡ sink.faults
faults_kept mid now sink sink_mid sink_now same none = (none some_outputs some_source).faults.writes.sink ∙ same

module _ (before now : InputsState) (outputs : OutputsState) (source : SourceState) (sink sink_mid sink_now : SinkState) (same : sink_mid.faults ≡ sink.faults) where
  no_fault : NoFault (world before outputs source sink_mid) (world now outputs source sink_now) → NoFault (world before outputs source sink) (world now outputs source sink_now)
  no_fault none = record { reads = record { inputs = none.reads.inputs; source = none.reads.source }; writes = record { outputs = none.writes.outputs; sink = none.writes.sink ∙ same } }

  no_count : NoCount (world before outputs source sink_mid) (world now outputs source sink_now) → NoCount (world before outputs source sink) (world now outputs source sink_now)
  no_count none = record { faults = no_fault none.faults; misses = none.misses }

  write_rose : (Rose sink_mid.faults sink_now.faults × (outputs.faults ≡ outputs.faults)) ⊎ (Rose outputs.faults outputs.faults × (sink_now.faults ≡ sink_mid.faults)) → (Rose sink.faults sink_now.faults × (outputs.faults ≡ outputs.faults)) ⊎ (Rose outputs.faults outputs.faults × (sink_now.faults ≡ sink.faults))
  write_rose (inl rose) = inl (subst (λ (n : ℕ). Rose n sink_now.faults) same rose.0, rose.1)
  write_rose (inr rose) = inr (rose.0, rose.1 ∙ same)

  on_from : (end : Status) → Counted (world before outputs source sink_mid) (world now outputs source sink_now) end → Counted (world before outputs source sink) (world now outputs source sink_now) end
  on_from (status.Refused (refusal.Missing name)) counted = record { faults = no_fault counted.faults; missed = counted.missed }
  on_from status.ReadFault counted = record { rose = counted.rose; writes = record { outputs = counted.writes.outputs; sink = counted.writes.sink ∙ same }; misses = counted.misses }
  on_from status.WriteFault counted = record { rose = write_rose counted.rose; reads = record { inputs = counted.reads.inputs; source = counted.reads.source }; misses = counted.misses }
  on_from end counted = no_count counted

-- what was counted behind calls that counted nothing was counted in all
pub counted_from : (before mid now : InputsState) (outputs : OutputsState) (source : SourceState) (sink sink_mid sink_now : SinkState) (end : Status) → mid ≡ before → sink_mid.faults ≡ sink.faults → Counted (world mid outputs source sink_mid) (world now outputs source sink_now) end → Counted (world before outputs source sink) (world now outputs source sink_now) end
counted_from before mid now outputs source sink sink_mid sink_now end same same_faults counted =
    on_from before now outputs source sink sink_mid sink_now same_faults end (subst (λ (state : InputsState). Counted (world state outputs source sink_mid) (world now outputs source sink_now) end) same counted)

-- nothing was counted where nothing was done
pub counted_none : (before now : InputsState) (outputs : OutputsState) (source : SourceState) (sink sink_now : SinkState) → now ≡ before → sink_now.faults ≡ sink.faults → NoCount (world before outputs source sink) (world now outputs source sink_now)
counted_none before now outputs source sink sink_now same same_faults = record {
  faults = record { reads = record { inputs = ap (λ (state : InputsState). state.faults) same; source = refl }; writes = record { outputs = refl; sink = same_faults } };
  misses = ap (λ (state : InputsState). state.misses) same;
}

-- ---- the files that a run makes: none

joined_none : {E : Type 0} (form : Form E) (shape : Shape) (contents : List (List ℕ)) → (joined_files form shape contents).files ≡ []
joined_none form shape [] = refl
joined_none form shape (bytes ∷ rest) = refl

together_none : (kind : FileKind) (contents : List (List ℕ)) → (together kind contents).files ≡ []
together_none Plain contents = refl
together_none Cdf contents = joined_none _ _ contents
together_none Gul contents = joined_none _ _ contents
together_none Loss contents = joined_none _ _ contents
together_none Summary contents = joined_none _ _ contents

outcome_none : (found : Result (List (List ℕ)) Refusal) → (by_files found).files ≡ []
outcome_none (Ok contents) = together_none (kind_of_files contents) contents
outcome_none (Err why) = refl

-- ---- the kind of all files

-- that of the first is that of all
pub kind_is : (kind : FileKind) (files : FileMap) (name : List ℕ) (later contents : List (List ℕ)) → files_of (name ∷ later) files ≡ Ok contents → IfSome (files name) (λ bytes. kind ≡ kind_at_front bytes) → kind ≡ kind_of_files contents
kind_is kind files name later contents found is =
    let one = next_file files name later contents found in
    let told : IfSome (Some one.bytes) (λ bytes. kind ≡ kind_at_front bytes) = subst (λ (held : Option (List ℕ)). IfSome held (λ bytes. kind ≡ kind_at_front bytes)) one.held is in
    told ∙ ap kind_of_files (sym one.is)

-- what is made of files that were found is the outcome
pub ended_found : (held : Option FileMap) (names : List (List ℕ)) (name : List ℕ) (later : List (List ℕ)) (sizes : List ℕ) (kind : FileKind) (before now : Option (List ℕ)) (end : Status) → names ≡ name ∷ later → IfSome held (λ files. AreFound names files sizes) → IfSome (file_bytes held name) (λ bytes. kind ≡ kind_at_front bytes) → IfSome held (λ files. (contents : List (List ℕ)) → files_of names files ≡ Ok contents → IsEnd (together kind contents) before now end) → IfSome held (λ files. IsEnd (kat_outcome names files) before now end)
ended_found None names name later sizes kind before now end named all is ended = tt
ended_found (Some files) names name later sizes kind before now end named all is ended =
    let own : kind ≡ kind_of_files all.contents = kind_is kind files name later all.contents (subst (λ (n : List (List ℕ)). files_of n files ≡ Ok all.contents) named all.found) is in
    subst (λ (found : Result (List (List ℕ)) Refusal). IsEnd (by_files found) before now end) (sym all.found)
    (subst (λ (k : FileKind). IsEnd (together k all.contents) before now end) own (ended all.contents all.found))

-- ---- the end as a whole

module _ (names : List (List ℕ)) (before now : InputsState) (outputs : OutputsState) (source : SourceState) (sink sink_now : SinkState) where
  abbrev found : FileMap → List ℕ → Type 0
  found = Finds kat_uses (world before outputs source sink)

  abbrev made : FileMap → List ℕ → Outcome
  made files bytes = kat_outcome names files

  -- files were found, and what is made of them was made
  pub ends_together : (end : Status) → IfSome before.held (λ files. IsEnd (kat_outcome names files) sink.taken sink_now.taken end) → Counted (world before outputs source sink) (world now outputs source sink_now) end → now.held ≡ before.held → ToolEnds kat_uses made (world before outputs source sink) (world now outputs source sink_now) end
  ends_together end ended counted held =
      let told : (files : FileMap) (bytes : List ℕ) → found files bytes → IsEnd (kat_outcome names files) sink.taken sink_now.taken end =
      λ files bytes finds. subst (λ (known : Option FileMap). IfSome known (λ files. IsEnd (kat_outcome names files) sink.taken sink_now.taken end)) (finds.files_told refl) ended in
      record {
        verdict = λ files bytes finds. (told files bytes finds).verdict;
        output = λ files bytes finds. (told files bytes finds).output;
        files = λ files bytes finds. makes_none (kat_outcome names files).files end outputs outputs (outcome_none (files_of names files)) refl;
        counted = counted;
        at_end = λ used. absurd (false≢true used);
        hides_none = λ used. absurd (false≢true used);
        unwritten = λ whole. absurd (false≢true whole);
        kept = record { files = held; inputs = λ unused. absurd (false≢true (sym unused)); outputs = λ unused. refl; source = λ unused. refl; sink = λ unused. absurd (false≢true (sym unused)) };
      }

module _ (names : List (List ℕ)) (before now : InputsState) (outputs : OutputsState) (source : SourceState) (sink : SinkState) where
  way : now ≡ before → UnderWay kat_uses (world before outputs source sink) (world now outputs source sink)
  way same = record { inputs = same; outputs = refl; sink = refl; reads = refl; source = λ unused. refl }

  refused_is : (why : Refusal) → IfSome before.held (λ files. files_of names files ≡ Err why) → (files : FileMap) (bytes : List ℕ) → Finds kat_uses (world before outputs source sink) files bytes → kat_outcome names files ≡ nothing (status.Refused why)
  refused_is why tells files bytes finds =
      let told : files_of names files ≡ Err why = subst (λ (known : Option FileMap). IfSome known (λ files. files_of names files ≡ Err why)) (finds.files_told refl) tells in
      ap by_files told

  -- a file was not found
  pub ends_unfound : (T : Type 0) (why : ToolStop) → IfSome before.held (λ files. TellsRefusal (files_of names files) why) → Looked {T = T} before now (Err why) → ToolEnds kat_uses (λ files bytes. kat_outcome names files) (world before outputs source sink) (world now outputs source sink) (stop_status why)
  ends_unfound T (stop.Refused (refusal.Missing name)) tells looked = ends_missing _ kat_uses _ _ _ name refl looked refl refl refl (refused_is (refusal.Missing name) tells)
  ends_unfound T (stop.Refused why) tells looked = ends_refused _ kat_uses _ _ _ why (λ missing. missing) (way looked) (refused_is why tells)
  ends_unfound T stop.ReadFault tells looked = ends_unread_files _ kat_uses _ _ _ refl looked refl refl refl
  ends_unfound T stop.WriteFault tells looked = absurd looked
  ends_unfound T stop.NoMemory tells looked = ends_for_memory _ kat_uses _ _ _ (way looked)

  -- the first file could not be looked into
  ends_unread : CountsFault before now → ToolEnds kat_uses (λ files bytes. kat_outcome names files) (world before outputs source sink) (world now outputs source sink) status.ReadFault
  ends_unread failed = ends_unread_files _ kat_uses _ _ _ refl failed refl refl refl

  ends_wanting : now ≡ before → ToolEnds kat_uses (λ files bytes. kat_outcome names files) (world before outputs source sink) (world now outputs source sink) status.NoMemory
  ends_wanting same = ends_for_memory _ kat_uses _ _ _ (way same)

  -- whatever the fault of the look was
  pub ends_unseen : (T : Type 0) (fault : Fault) → LooksInto {T = T} before now (Err fault) → ToolEnds kat_uses (λ files bytes. kat_outcome names files) (world before outputs source sink) (world now outputs source sink) (stop_status (unread_stop fault))
  ends_unseen T Failed looked = ends_unread looked
  ends_unseen T OutOfMemory looked = ends_wanting looked
