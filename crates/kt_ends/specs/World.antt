-- The objects outside, as contracts see them, and those of them that a command uses.
-- The rules: docs/REFUSALS.md, "Statuses".
use Rattle.std.specs.Prelude.{◌≡◌, ℕ, Bool, true, false, List, Some}
use Rattle.kt_out.specs.InputFiles.{InputsState}
use Rattle.kt_out.specs.NamedFiles.{FileMap}
use Rattle.kt_out.specs.OutputFiles.{OutputsState}
use Rattle.kt_out.specs.Reading.{SourceState}
use Rattle.kt_out.specs.Writing.{SinkState}

-- the input files, the output files, the source and the sink
pub record World : Type 0 where
  pub inputs : InputsState
  pub outputs : OutputsState
  pub source : SourceState
  pub sink : SinkState

abbrev pub world : InputsState → OutputsState → SourceState → SinkState → World
world inputs outputs source sink = record { inputs = inputs; outputs = outputs; source = source; sink = sink }

-- the objects that a command uses, and whether it reads its source to the end before it judges it, or record by record
pub record Uses : Type 0 where
  pub inputs : Bool
  pub outputs : Bool
  pub source : Bool
  pub whole : Bool
  pub sink : Bool

-- a command finds these files and these bytes of the source: where it uses them, they are what the objects tell
pub record Finds (uses : Uses) (before : World) (files : FileMap) (source : List ℕ) : Type 0 where
  pub files_told : uses.inputs ≡ true → before.inputs.held ≡ Some files
  pub source_told : uses.source ≡ true → before.source.left ≡ Some source

-- it finds these files, whatever the source gives
pub record FindsFiles (uses : Uses) (before : World) (files : FileMap) : Type 0 where
  pub files_told : uses.inputs ≡ true → before.inputs.held ≡ Some files

-- what is not used is as it was
abbrev pub Keeps : {H : Type 0} → Bool → H → H → Type 0
Keeps uses before after = uses ≡ false → after ≡ before

-- what a command does not use is as it was, and no call changes what the input files hold
pub record KeepsOthers (uses : Uses) (before after : World) : Type 0 where
  pub files : after.inputs.held ≡ before.inputs.held
  pub inputs : Keeps uses.inputs before.inputs after.inputs
  pub outputs : Keeps uses.outputs before.outputs after.outputs
  pub source : Keeps uses.source before.source after.source
  pub sink : Keeps uses.sink before.sink after.sink
