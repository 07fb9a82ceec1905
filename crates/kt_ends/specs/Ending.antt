-- How a run ends, by its status: what it says, what it has written, and which faults were counted.
-- The rules: docs/REFUSALS.md, "Statuses".
use Rattle.std.specs.Prelude.{◌≡◌, ◌⊎◌, ℕ, true, false, List, [], ◌∷◌, ◌++◌, Option, Some, None, Result, IfSome, IsSomeAnd}
use Rattle.std.specs.Option.{option_or}
use Rattle.kt_out.specs.Counts.{Rose}
use Rattle.kt_out.specs.InputFiles.{InputsState}
use Rattle.kt_out.specs.NamedFiles.{File, FileMap, bytes_of}
use Rattle.kt_out.specs.OutputFiles.{OutputsState}
use Rattle.kt_out.specs.Reading.{SourceState}
use Rattle.kt_out.specs.Writing.{SinkState}
use Rattle.kt_ends.specs.Hiding.{HidesNone}
use Rattle.kt_ends.specs.Outcome.{Outcome}
use Rattle.kt_ends.specs.Stops.{end_status}
use Rattle.kt_ends.specs.World.{World, Uses, Finds, KeepsOthers, world}
use Rattle.kt_ends.specs.declared.status.Refusal.TheVariants as refusal
use Rattle.kt_ends.specs.declared.status.Status.{Status}
use Rattle.kt_ends.specs.declared.status.Status.TheVariants as status
use Rattle.kt_ends.specs.declared.tool_stop.ToolStop.{ToolStop}

-- what holds of a settled run, which is done or refused, and what of one that a fault or want of memory has ended
abbrev pub BySettled : Status → Type 0 → Type 0 → Type 0
BySettled status.ReadFault settled ended = ended
BySettled status.WriteFault settled ended = ended
BySettled status.NoMemory settled ended = ended
BySettled answer settled ended = settled

-- ---- what the status says

-- what is said of a status where it speaks of the words and the input: nothing of a fault or of want of memory
abbrev pub Verdict : Status → Status → Type 0
Verdict wanted end = BySettled end (wanted ≡ end) (Unit {0})

-- a run that was refused because a file is missing
abbrev pub IsMissing : Status → Type 0
IsMissing (status.Refused (refusal.Missing name)) = Unit {0}
IsMissing end = ⊥

-- a run that was refused, whatever for
abbrev pub IsRefusal : Status → Type 0
IsRefusal (status.Refused why) = Unit {0}
IsRefusal end = ⊥

-- ---- what the sink has gained

-- some bytes are a front of others
pub record IsFront (front whole : List ℕ) : Type 0 where
  pub rest : List ℕ
  pub is : whole ≡ front ++ rest

-- some front of the output was gained
pub record GainedFront (output taken : List ℕ) (now : Option (List ℕ)) : Type 0 where
  pub front : List ℕ
  pub is_front : IsFront front output
  pub gained : now ≡ Some (taken ++ front)

-- the output was gained; after a fault or for want of memory some front of it
abbrev pub Gained : List ℕ → List ℕ → Option (List ℕ) → Status → Type 0
Gained output taken now end = BySettled end (now ≡ Some (taken ++ output)) (GainedFront output taken now)

-- the same of a sink, where it tells what it has taken
abbrev pub SinkGains : List ℕ → SinkState → SinkState → Status → Type 0
SinkGains output before after end = IfSome before.taken (λ taken. Gained output taken after.taken end)

-- ---- what the output files hold

-- what names stand for once these files were made
abbrev pub made_over : List File → FileMap → FileMap
made_over made files name = option_or (bytes_of made name) (files name)

-- these files were made: a front of the list of those that are wanted, each with some front of its text
abbrev pub AreFronts : List File → List File → Type 0
AreFronts [] wanted = Unit {0}
AreFronts (one ∷ more) [] = ⊥
AreFronts (one ∷ more) (want ∷ rest) = (one.name ≡ want.name) × IsFront one.bytes want.bytes × AreFronts more rest

-- the name that would be made next
abbrev pub next_name : List File → List File → Option (List ℕ)
next_name [] [] = None
next_name [] (want ∷ rest) = Some want.name
next_name (one ∷ more) [] = None
next_name (one ∷ more) (want ∷ rest) = next_name more rest

-- a front of the files was made, each with a front of its text; the next name may stand for no bytes, where its making failed; every other name is as before
pub record PartlyMade (wanted : List File) (files now : FileMap) : Type 0 where
  pub made : List File
  pub fronts : AreFronts made wanted
  pub holds : (name : List ℕ) → (now name ≡ made_over made files name) ⊎ ((next_name made wanted ≡ Some name) × (now name ≡ Some []))

-- each name of the wanted files stands for its text, and every other name is as before
abbrev pub AllMade : List File → FileMap → FileMap → Type 0
AllMade wanted files now = (name : List ℕ) → now name ≡ made_over wanted files name

-- the files were made; after a fault or for want of memory some of them
abbrev pub Made : List File → FileMap → FileMap → Status → Type 0
Made wanted files now end = BySettled end (AllMade wanted files now) (PartlyMade wanted files now)

-- the same of output files, where they tell what they hold
abbrev pub FilesMade : List File → OutputsState → OutputsState → Status → Type 0
FilesMade wanted before after end = IfSome before.written (λ files. IsSomeAnd after.written (λ now. Made wanted files now end))

-- ---- which faults were counted

-- no count of faults rose but maybe that of the source or of the input files
pub record KeepsWrites (before after : World) : Type 0 where
  pub outputs : after.outputs.faults ≡ before.outputs.faults
  pub sink : after.sink.faults ≡ before.sink.faults

pub record KeepsReads (before after : World) : Type 0 where
  pub inputs : after.inputs.faults ≡ before.inputs.faults
  pub source : after.source.faults ≡ before.source.faults

-- no count of faults rose
pub record NoFault (before after : World) : Type 0 where
  pub reads : KeepsReads before after
  pub writes : KeepsWrites before after

-- no count rose, nor that of misses
pub record NoCount (before after : World) : Type 0 where
  pub faults : NoFault before after
  pub misses : after.inputs.misses ≡ before.inputs.misses

-- a miss was counted, and no fault
pub record CountedMiss (before after : World) : Type 0 where
  pub faults : NoFault before after
  pub missed : Rose before.inputs.misses after.inputs.misses

-- one of two counts rose, and the other did not
abbrev pub OneRose : ℕ → ℕ → ℕ → ℕ → Type 0
OneRose one one_now other other_now = (Rose one one_now × (other_now ≡ other)) ⊎ (Rose other other_now × (one_now ≡ one))

-- a fault of the source or of the input files was counted, and no other
pub record CountedRead (before after : World) : Type 0 where
  pub rose : OneRose before.source.faults after.source.faults before.inputs.faults after.inputs.faults
  pub writes : KeepsWrites before after
  pub misses : after.inputs.misses ≡ before.inputs.misses

-- a fault of the sink or of the output files was counted, and no other
pub record CountedWrite (before after : World) : Type 0 where
  pub rose : OneRose before.sink.faults after.sink.faults before.outputs.faults after.outputs.faults
  pub reads : KeepsReads before after
  pub misses : after.inputs.misses ≡ before.inputs.misses

-- the counts by the status: a fault or a miss was counted exactly where it is answered
abbrev pub Counted : World → World → Status → Type 0
Counted before after (status.Refused (refusal.Missing name)) = CountedMiss before after
Counted before after status.ReadFault = CountedRead before after
Counted before after status.WriteFault = CountedWrite before after
Counted before after end = NoCount before after

-- ---- the end as a whole

-- a run that is done has read a source that it uses to its end
abbrev pub AtEnd : Option (List ℕ) → Option (List ℕ) → Status → Type 0
AtEnd left now status.Done = IfSome left (λ bytes. now ≡ Some [])
AtEnd left now end = Unit {0}

-- How a run ends that finds these files and bytes and makes this outcome of them, by the objects outside before and after it.
pub record Ended (found : FileMap → List ℕ → Type 0) (uses : Uses) (made : FileMap → List ℕ → Outcome) (before after : World) (end : Status) : Type 0 where
  pub verdict : (files : FileMap) (source : List ℕ) → found files source → Verdict (made files source).status end
  pub output : (files : FileMap) (source : List ℕ) → found files source → SinkGains (made files source).output before.sink after.sink end
  pub files : (files : FileMap) (source : List ℕ) → found files source → FilesMade (made files source).files before.outputs after.outputs end
  pub counted : Counted before after end
  pub at_end : uses.source ≡ true → AtEnd before.source.left after.source.left end
  pub hides_none : uses.source ≡ true → uses.whole ≡ false → (files : FileMap) (source : List ℕ) → found files source → HidesNone (made files) before.source after.source end
  pub unwritten : uses.whole ≡ true → (files : FileMap) (source : List ℕ) → found files source → IsRefusal (made files source).status → after.sink ≡ before.sink
  pub kept : KeepsOthers uses before after

-- how a tool ends that finds what the objects that it uses tell
abbrev pub ToolEnds : Uses → (FileMap → List ℕ → Outcome) → World → World → Status → Type 0
ToolEnds uses made before after end = Ended (Finds uses before) uses made before after end

-- how a tool ends that touches the source and the sink alone: whatever files there are, they are as they were
abbrev pub StreamToolEnds : Uses → (FileMap → List ℕ → Outcome) → SourceState → SourceState → SinkState → SinkState → Result (Unit {0}) ToolStop → Type 0
StreamToolEnds uses made source source_now sink sink_now result =
    (inputs : InputsState) (outputs : OutputsState) → ToolEnds uses made (world inputs outputs source sink) (world inputs outputs source_now sink_now) (end_status result)
