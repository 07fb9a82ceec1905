-- The ends to which a tool comes that writes once, behind all that it reads, or not at all.
-- The rules: docs/REFUSALS.md, "Statuses".
use Rattle.std.proofs.Common.{subst, sym, ap, ◌∙◌, refl, inl, inr}
use Rattle.std.proofs.lemmas.Bool.{false≢true}
use Rattle.std.proofs.lemmas.List.{append-nil, take-append-drop}
use Rattle.std.specs.Prelude.{◌≡◌, ℕ, Bool, true, false, List, [], ◌∷◌, ◌++◌, take, drop, Option, Some, None, IfSome, IsSomeAnd, Result, Ok, Err}
use Rattle.kt_out.specs.Counts.{Rose}
use Rattle.kt_out.specs.InputFiles.{InputsState, CountsFault, CountsMiss}
use Rattle.kt_out.specs.NamedFiles.{File, FileMap}
use Rattle.kt_out.specs.OutputFiles.{OutputsState}
use Rattle.kt_out.specs.Reading.{SourceState}
use Rattle.kt_out.specs.Writing.{SinkState, Gains, GainsFront, WritesAll}
use Rattle.kt_out.specs.declared.fault.Fault.{Fault}
use Rattle.kt_out.specs.declared.fault.Fault.TheVariants.{Failed, OutOfMemory}
use Rattle.kt_ends.specs.Ending.{AtEnd, BySettled, Verdict, SinkGains, FilesMade, GainedFront, IsMissing, IsRefusal, Made, PartlyMade, NoCount, KeepsReads, KeepsWrites, Counted, Ended}
use Rattle.kt_ends.specs.Hiding.{HidesNone, IsUnrefused, none_failed}
use Rattle.kt_ends.specs.Outcome.{Outcome}
use Rattle.kt_ends.specs.Stops.{fault_stop, stop_status}
use Rattle.kt_ends.specs.World.{World, Uses, Keeps, KeepsOthers}
use Rattle.kt_ends.specs.declared.status.Refusal.{Refusal}
use Rattle.kt_ends.specs.declared.status.Refusal.TheVariants as refusal
use Rattle.kt_ends.specs.declared.status.Status.{Status}
use Rattle.kt_ends.specs.declared.status.Status.TheVariants as status
use Rattle.kt_words.specs.declared.stop.WordStop.{WordStop}

-- an outcome without output and files
abbrev pub nothing : Status → Outcome
nothing end = record { status = end; output = []; files = [] }

-- a run is under way: it has read of what it uses, and nothing is written and no fault counted so far
pub record UnderWay (uses : Uses) (before now : World) : Type 0 where
  pub inputs : now.inputs ≡ before.inputs
  pub outputs : now.outputs ≡ before.outputs
  pub sink : now.sink ≡ before.sink
  pub reads : now.source.faults ≡ before.source.faults
  pub source : Keeps uses.source before.source now.source

-- ---- nothing is written

-- the outcome is this end without output and files, where the run is settled
abbrev pub ComesToNothing : Outcome → Status → Type 0
ComesToNothing outcome end = BySettled end (outcome ≡ nothing end) (Unit {0})

says_end : (outcome : Outcome) (end : Status) → ComesToNothing outcome end → Verdict outcome.status end
says_end outcome status.ReadFault is = tt
says_end outcome status.WriteFault is = tt
says_end outcome status.NoMemory is = tt
says_end outcome end is = ap (λ (one : Outcome). one.status) is

-- nothing was gained, a front of any output
no_output : (output : List ℕ) (taken now : Option (List ℕ)) → now ≡ taken → IfSome taken (λ before. GainedFront output before now)
no_output output None now same = tt
no_output output (Some before) now same = record { front = []; is_front = record { rest = output; is = refl }; gained = same ∙ ap (λ (bytes : List ℕ). Some bytes) (sym (append-nil before)) }

-- nothing was gained where there is no output
all_of_none : (output : List ℕ) (taken now : Option (List ℕ)) → output ≡ [] → now ≡ taken → IfSome taken (λ before. now ≡ Some (before ++ output))
all_of_none output None now is same = tt
all_of_none output (Some before) now is same = same ∙ ap (λ (bytes : List ℕ). Some bytes) (sym (append-nil before) ∙ ap (λ (text : List ℕ). before ++ text) (sym is))

gains_nothing : (outcome : Outcome) (end : Status) (before now : SinkState) → ComesToNothing outcome end → now.taken ≡ before.taken → SinkGains outcome.output before now end
gains_nothing outcome status.ReadFault before now is same = no_output outcome.output before.taken now.taken same
gains_nothing outcome status.WriteFault before now is same = no_output outcome.output before.taken now.taken same
gains_nothing outcome status.NoMemory before now is same = no_output outcome.output before.taken now.taken same
gains_nothing outcome end before now is same = all_of_none outcome.output before.taken now.taken (ap (λ (one : Outcome). one.output) is) same

-- no file was made, a front of any list of files
no_file : (wanted : List File) (files : FileMap) → PartlyMade wanted files files
no_file wanted files = record { made = []; fronts = tt; holds = λ name. inl refl }

no_files : (end : Status) (files : FileMap) → Made [] files files end
no_files status.ReadFault files = no_file [] files
no_files status.WriteFault files = no_file [] files
no_files status.NoMemory files = no_file [] files
no_files end files = λ name. refl

-- where no file is wanted none was made
pub makes_none : (wanted : List File) (end : Status) (before now : OutputsState) → wanted ≡ [] → now.written ≡ before.written → FilesMade wanted before now end
makes_none wanted end before now is same = subst (λ (files : List File). FilesMade files before now end) (sym is) (by_files before.written now.written same)
  where
    by_files : (written after : Option FileMap) → after ≡ written → IfSome written (λ files. IsSomeAnd after (λ now. Made [] files now end))
    by_files None after same = tt
    by_files (Some files) after same = subst (λ (known : Option FileMap). IsSomeAnd known (λ now. Made [] files now end)) (sym same) (no_files end files)

makes_front : (wanted : List File) (written now : Option FileMap) → now ≡ written → IfSome written (λ files. IsSomeAnd now (λ after. PartlyMade wanted files after))
makes_front wanted None now same = tt
makes_front wanted (Some files) now same = subst (λ (known : Option FileMap). IsSomeAnd known (λ after. PartlyMade wanted files after)) (sym same) (no_file wanted files)

makes_nothing : (outcome : Outcome) (end : Status) (before now : OutputsState) → ComesToNothing outcome end → now.written ≡ before.written → FilesMade outcome.files before now end
makes_nothing outcome status.ReadFault before now is same = makes_front outcome.files before.written now.written same
makes_nothing outcome status.WriteFault before now is same = makes_front outcome.files before.written now.written same
makes_nothing outcome status.NoMemory before now is same = makes_front outcome.files before.written now.written same
makes_nothing outcome end before now is same = makes_none outcome.files end before now (ap (λ (one : Outcome). one.files) is) same

-- what is used may change
pub may_change : {H : Type 0} {before now : H} (uses : Bool) → uses ≡ true → Keeps uses before now
may_change uses used unused = absurd (false≢true (sym unused ∙ used))

-- no write was counted where neither of the two was touched
kept_writes : (before now : World) → now.outputs ≡ before.outputs → now.sink ≡ before.sink → KeepsWrites before now
kept_writes before now outputs sink = record { outputs = ap (λ (state : OutputsState). state.faults) outputs; sink = ap (λ (state : SinkState). state.faults) sink }

module _ (found : FileMap → List ℕ → Type 0) (uses : Uses) (made : FileMap → List ℕ → Outcome) (before now : World) where
  -- a run ends that has written nothing
  ends_empty : (end : Status) → ((files : FileMap) (source : List ℕ) → found files source → ComesToNothing (made files source) end) → now.outputs ≡ before.outputs → now.sink ≡ before.sink → Counted before now end → (uses.source ≡ true → AtEnd before.source.left now.source.left end) → (uses.whole ≡ false → (read : List ℕ → Outcome) → HidesNone read before.source now.source end) → KeepsOthers uses before now → Ended found uses made before now end
  ends_empty end is outputs sink counted at_end hides kept = record {
    verdict = λ files source finds. says_end (made files source) end (is files source finds);
    output = λ files source finds. gains_nothing (made files source) end before.sink now.sink (is files source finds) (ap (λ (state : SinkState). state.taken) sink);
    files = λ files source finds. makes_nothing (made files source) end before.outputs now.outputs (is files source finds) (ap (λ (state : OutputsState). state.written) outputs);
    counted = counted;
    at_end = at_end;
    hides_none = λ used by_record files source finds. hides by_record (made files);
    unwritten = λ whole files source finds refused. sink;
    kept = kept;
  }

  -- what a run that is under way keeps
  keeps_others : UnderWay uses before now → KeepsOthers uses before now
  keeps_others way = record {
    files = ap (λ (state : InputsState). state.held) way.inputs;
    inputs = λ unused. way.inputs;
    outputs = λ unused. way.outputs;
    source = way.source;
    sink = λ unused. way.sink;
  }

  -- no count rose in it
  no_count : UnderWay uses before now → NoCount before now
  no_count way = record {
    faults = record { reads = record { inputs = ap (λ (state : InputsState). state.faults) way.inputs; source = way.reads }; writes = kept_writes before now way.outputs way.sink };
    misses = ap (λ (state : InputsState). state.misses) way.inputs;
  }

  -- it ends for want of memory
  pub ends_for_memory : UnderWay uses before now → Ended found uses made before now status.NoMemory
  ends_for_memory way = ends_empty status.NoMemory (λ files source finds. tt) way.outputs way.sink (no_count way) (λ used. tt) (λ by_record read. tt) (keeps_others way)

  -- its words are faulty
  pub ends_words : (stop : WordStop) → UnderWay uses before now → ((files : FileMap) (source : List ℕ) → found files source → made files source ≡ nothing (status.Words stop)) → Ended found uses made before now (status.Words stop)
  ends_words stop way is = ends_empty (status.Words stop) is way.outputs way.sink (no_count way) (λ used. tt) (λ by_record read. tt) (keeps_others way)

  -- a refusal for another reason than a missing file counts nothing
  counted_other : (why : Refusal) → (IsMissing (status.Refused why) → ⊥) → NoCount before now → Counted before now (status.Refused why)
  counted_other (refusal.Missing name) other none = absurd (other tt)
  counted_other why other none = none

  -- it is refused, and not for a missing file
  pub ends_refused : (why : Refusal) → (IsMissing (status.Refused why) → ⊥) → UnderWay uses before now → ((files : FileMap) (source : List ℕ) → found files source → made files source ≡ nothing (status.Refused why)) → Ended found uses made before now (status.Refused why)
  ends_refused why other way is = ends_empty (status.Refused why) is way.outputs way.sink (counted_other why other (no_count way)) (λ used. tt) (λ by_record read. tt) (keeps_others way)

  -- ---- a fault or a miss ends it

  -- a file is missing: the input files counted a miss, and all else is as it was
  pub ends_missing : (name : List ℕ) → uses.inputs ≡ true → CountsMiss before.inputs now.inputs → now.outputs ≡ before.outputs → now.source ≡ before.source → now.sink ≡ before.sink → ((files : FileMap) (source : List ℕ) → found files source → made files source ≡ nothing (status.Refused (refusal.Missing name))) → Ended found uses made before now (status.Refused (refusal.Missing name))
  ends_missing name used missed outputs source sink is =
      ends_empty (status.Refused (refusal.Missing name)) is outputs sink
      (record { faults = record { reads = record { inputs = missed.faults; source = ap (λ (state : SourceState). state.faults) source }; writes = kept_writes before now outputs sink }; missed = missed.counted })
      (λ read. tt)
      (λ by_record read. tt)
      (record { files = missed.kept; inputs = may_change uses.inputs used; outputs = λ unused. outputs; source = λ unused. source; sink = λ unused. sink })

  -- a read of the input files failed, and all else is as it was
  pub ends_unread_files : uses.inputs ≡ true → CountsFault before.inputs now.inputs → now.outputs ≡ before.outputs → now.source ≡ before.source → now.sink ≡ before.sink → Ended found uses made before now status.ReadFault
  ends_unread_files used failed outputs source sink =
      ends_empty status.ReadFault (λ files bytes finds. tt) outputs sink
      (record { rose = inr (failed.counted, ap (λ (state : SourceState). state.faults) source); writes = kept_writes before now outputs sink; misses = failed.misses })
      (λ read. tt)
      (λ by_record read. none_failed read before.source now.source status.ReadFault (ap (λ (state : SourceState). state.faults) source))
      (record { files = failed.kept; inputs = may_change uses.inputs used; outputs = λ unused. outputs; source = λ unused. source; sink = λ unused. sink })

  -- a read of the source failed that is read to its end first, so before anything was written
  pub ends_unread_source : uses.source ≡ true → uses.whole ≡ true → Rose before.source.faults now.source.faults → now.inputs ≡ before.inputs → now.outputs ≡ before.outputs → now.sink ≡ before.sink → Ended found uses made before now status.ReadFault
  ends_unread_source used whole failed inputs outputs sink =
      ends_empty status.ReadFault (λ files bytes finds. tt) outputs sink
      (record { rose = inl (failed, ap (λ (state : InputsState). state.faults) inputs); writes = kept_writes before now outputs sink; misses = ap (λ (state : InputsState). state.misses) inputs })
      (λ read. tt)
      (λ by_record. absurd (false≢true (sym by_record ∙ whole)))
      (record { files = ap (λ (state : InputsState). state.held) inputs; inputs = λ unused. inputs; outputs = λ unused. outputs; source = may_change uses.source used; sink = λ unused. sink })

-- ---- what was made of the input is written

-- all is read, and no fault was counted so far: what is left is one text to be written
pub record AllRead (uses : Uses) (before now : World) : Type 0 where
  pub inputs : now.inputs ≡ before.inputs
  pub outputs : now.outputs ≡ before.outputs
  pub reads : now.source.faults ≡ before.source.faults
  pub source : Keeps uses.source before.source now.source
  pub at_end : uses.source ≡ true → IfSome before.source.left (λ bytes. now.source.left ≡ Some [])
  pub sink : uses.sink ≡ true

-- such a text is the outcome's output
abbrev pub writes_text : List ℕ → Outcome
writes_text text = record { status = status.Done; output = text; files = [] }

-- how a run ends by the answer of its writes
abbrev pub written_status : {T : Type 0} → Result T Fault → Status
written_status (Ok done) = status.Done
written_status (Err fault) = stop_status (fault_stop fault)

all_written : (text : List ℕ) (taken now : Option (List ℕ)) → Gains taken now text → IfSome taken (λ before. now ≡ Some (before ++ text))
all_written text None now gains = tt
all_written text (Some before) now gains = gains

front_written : (text : List ℕ) (taken now : Option (List ℕ)) → GainsFront taken now text → IfSome taken (λ before. GainedFront text before now)
front_written text None now gains = tt
front_written text (Some before) now gains = record { front = take gains.length_taken text; is_front = record { rest = drop gains.length_taken text; is = sym (take-append-drop gains.length_taken text) }; gained = gains.gained }

module _ (found : FileMap → List ℕ → Type 0) (uses : Uses) (made : FileMap → List ℕ → Outcome) (before now : World) (text : List ℕ) (way : AllRead uses before now) (is : (files : FileMap) (source : List ℕ) → found files source → made files source ≡ writes_text text) where
  kept_reads : KeepsReads before now
  kept_reads = record { inputs = ap (λ (state : InputsState). state.faults) way.inputs; source = way.reads }

  -- the sink alone was written, of an outcome that is this text
  ends_writing : (end : Status) → Verdict status.Done end → SinkGains text before.sink now.sink end → Counted before now end → (uses.source ≡ true → AtEnd before.source.left now.source.left end) → Ended found uses made before now end
  ends_writing end verdict gained counted at_end = record {
    verdict = λ files source finds. subst (λ (outcome : Outcome). Verdict outcome.status end) (sym (is files source finds)) verdict;
    output = λ files source finds. subst (λ (outcome : Outcome). SinkGains outcome.output before.sink now.sink end) (sym (is files source finds)) gained;
    files = λ files source finds. makes_none (made files source).files end before.outputs now.outputs (ap (λ (outcome : Outcome). outcome.files) (is files source finds)) (ap (λ (state : OutputsState). state.written) way.outputs);
    counted = counted;
    at_end = at_end;
    hides_none = λ used by_record files source finds. none_failed (made files) before.source now.source end way.reads;
    unwritten = λ whole files source finds refused. absurd (subst (λ (outcome : Outcome). IsRefusal outcome.status) (is files source finds) refused);
    kept = record { files = ap (λ (state : InputsState). state.held) way.inputs; inputs = λ unused. way.inputs; outputs = λ unused. way.outputs; source = way.source; sink = may_change uses.sink way.sink };
  }

  written_none : now.sink.faults ≡ before.sink.faults → NoCount before now
  written_none same = record { faults = record { reads = kept_reads; writes = record { outputs = ap (λ (state : OutputsState). state.faults) way.outputs; sink = same } }; misses = ap (λ (state : InputsState). state.misses) way.inputs }

  by_answer : {T : Type 0} (answer : Result T Fault) → WritesAll before.sink now.sink text answer → Ended found uses made before now (written_status answer)
  by_answer (Ok done) wrote = ends_writing status.Done refl (all_written text before.sink.taken now.sink.taken wrote.moved) (written_none wrote.counted) way.at_end
  by_answer (Err Failed) wrote =
      ends_writing status.WriteFault tt (front_written text before.sink.taken now.sink.taken wrote.front)
      (record { rose = inl (wrote.counted, ap (λ (state : OutputsState). state.faults) way.outputs); reads = kept_reads; misses = ap (λ (state : InputsState). state.misses) way.inputs })
      (λ read. tt)
  by_answer (Err OutOfMemory) wrote = ends_writing status.NoMemory tt (front_written text before.sink.taken now.sink.taken wrote.front) (written_none wrote.counted) (λ read. tt)

-- a write of the text has ended the run
pub ends_written : {T : Type 0} (found : FileMap → List ℕ → Type 0) (uses : Uses) (made : FileMap → List ℕ → Outcome) (before now : World) (text : List ℕ) (answer : Result T Fault) → AllRead uses before now → WritesAll before.sink now.sink text answer → ((files : FileMap) (source : List ℕ) → found files source → made files source ≡ writes_text text) → Ended found uses made before now (written_status answer)
ends_written found uses made before now text answer way wrote is = by_answer found uses made before now text way is answer wrote

-- ---- the same end, said of another outcome

hidden_as : (made made_now : List ℕ → Outcome) (before now : SourceState) (end : Status) → ((bytes : List ℕ) → made bytes ≡ made_now bytes) → HidesNone made before now end → HidesNone made_now before now end
hidden_as made made_now before now status.ReadFault same hides = λ rose byte read rest was is. subst (λ (outcome : Outcome). IsUnrefused outcome.status) (same (byte ∷ read)) (hides rose byte read rest was is)
hidden_as made made_now before now end same hides = tt

-- where what is found and what is made of it are the same, so is the end
pub ends_as : (found found_now : FileMap → List ℕ → Type 0) (uses : Uses) (made made_now : FileMap → List ℕ → Outcome) (before now : World) (end : Status) → ((files : FileMap) (source : List ℕ) → found_now files source → found files source × ((bytes : List ℕ) → made files bytes ≡ made_now files bytes)) → Ended found uses made before now end → Ended found_now uses made_now before now end
ends_as found found_now uses made made_now before now end same ended = record {
  verdict = λ files bytes finds. let one = same files bytes finds in subst (λ (outcome : Outcome). Verdict outcome.status end) (one.1 bytes) (ended.verdict files bytes one.0);
  output = λ files bytes finds. let one = same files bytes finds in subst (λ (outcome : Outcome). SinkGains outcome.output before.sink now.sink end) (one.1 bytes) (ended.output files bytes one.0);
  files = λ files bytes finds. let one = same files bytes finds in subst (λ (outcome : Outcome). FilesMade outcome.files before.outputs now.outputs end) (one.1 bytes) (ended.files files bytes one.0);
  counted = ended.counted;
  at_end = ended.at_end;
  hides_none = λ used by_record files source finds. let one = same files source finds in hidden_as (made files) (made_now files) before.source now.source end one.1 (ended.hides_none used by_record files source one.0);
  unwritten = λ whole files source finds refused. let one = same files source finds in ended.unwritten whole files source one.0 (subst (λ (outcome : Outcome). IsRefusal outcome.status) (sym (one.1 source)) refused);
  kept = ended.kept;
}
