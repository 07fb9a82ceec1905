-- What contracts see of the objects in memory, and in which of their calls they fail.
-- The rule: docs/ARCHITECTURE.md, "The outside".
use Rattle.std.specs.Prelude.{◌≡◌, ◌⊎◌, ℕ, ◌-◌, List, [], ◌∷◌, ◌++◌, length, min, Bool, if◌then◌else◌, Option, None, Some, Result, Ok, Err}
use Rattle.kt_out.specs.declared.fault.Absent.{Absent}
use Rattle.kt_out.specs.declared.fault.Fault.{Fault}
use Rattle.kt_out.specs.declared.input_call.InputCall.{InputCall}
use Rattle.kt_kept_files.specs.Calls.{CallsSoFar, fails_next, after_call, after_pass}
use Rattle.kt_kept_files.specs.Counts.{one_more}
use Rattle.kt_kept_files.specs.NamedFiles.{File, bytes_of}
use Rattle.kt_out.specs.OutputFiles.{OutputsState}
use Rattle.kt_out.specs.Reading.{SourceState}
use Rattle.kt_out.specs.Writing.{SinkState}

-- a source in memory: the bytes left, and its calls
pub record MemorySource : Type 0 where
  pub left : List ℕ
  pub calls : CallsSoFar

-- a sink in memory: the bytes taken, and its calls
pub record MemorySink : Type 0 where
  pub taken : List ℕ
  pub calls : CallsSoFar

-- input files in memory: the files, and the count of calls that asked for a name that is not held
pub record SureFiles : Type 0 where
  pub files : List File
  pub misses : ℕ

-- input files in memory that fail when told: the files, the count of calls that asked for a name that is not held, the calls, and the
-- reads that have moved bytes, with what they asked for
pub record MemoryInputs : Type 0 where
  pub files : List File
  pub misses : ℕ
  pub calls : CallsSoFar
  pub reads : List InputCall

-- output files in memory that fail when told: the files, and the calls
pub record MemoryOutputs : Type 0 where
  pub files : List File
  pub calls : CallsSoFar

-- such a source as each source is seen
abbrev pub source_state : MemorySource → SourceState
source_state source = record { left = Some source.left; faults = source.calls.failed }

-- such a sink as each sink is seen
abbrev pub sink_state : MemorySink → SinkState
sink_state sink = record { taken = Some sink.taken; faults = sink.calls.failed }

-- such output files as all output files are seen
abbrev pub outputs_state : MemoryOutputs → OutputsState
outputs_state outputs = record { written = Some (bytes_of outputs.files); faults = outputs.calls.failed }

-- a source in memory that never fails, with these bytes left
abbrev pub sure_source_state : List ℕ → SourceState
sure_source_state left = record { left = Some left; faults = 0 }

-- a sink in memory that never fails, with these bytes taken
abbrev pub sure_sink_state : List ℕ → SinkState
sure_sink_state taken = record { taken = Some taken; faults = 0 }

-- the size of what a name stands for: Missing where it stands for nothing, else Failed in a call that is to fail
abbrev pub size_or_fault : Option (List ℕ) → Bool → Result ℕ Absent
size_or_fault None fails = Err Absent.Missing
size_or_fault (Some bytes) fails = if fails then Err Absent.Failed else Ok (length bytes)

-- the input files after a name was looked up: whether it is held says which count the call may raise
abbrev pub after_look_up : MemoryInputs → Option (List ℕ) → MemoryInputs
after_look_up inputs None = record inputs { misses = one_more inputs.misses; calls = after_pass inputs.calls }
after_look_up inputs (Some bytes) = record inputs { calls = after_call inputs.calls }

-- the input files after a call for the size of a name: a miss is a call, and no fault
abbrev pub after_size : MemoryInputs → List ℕ → MemoryInputs
after_size inputs name = after_look_up inputs (bytes_of inputs.files name)

-- the length of what a name stands for, 0 where it is not held
abbrev pub length_of : Option (List ℕ) → ℕ
length_of None = 0
length_of (Some bytes) = length bytes

-- how many bytes a read from a place on gives: as many as there is room for and as lie behind the place, and at most so many
abbrev pub read_or_fault : Option (List ℕ) → ℕ → ℕ → CallsSoFar → Result ℕ Fault
read_or_fault held at room calls = if fails_next calls then Err Fault.Failed else Ok (min room (min (length_of held - at) calls.most))

-- a read answers so; or, where it is not to fail, it may find no memory to keep the call
abbrev pub IsReadOrMemory : Result ℕ Fault → Result ℕ Fault → Type 0
IsReadOrMemory (Ok n) answer = (answer ≡ Ok n) ⊎ (answer ≡ Err Fault.OutOfMemory)
IsReadOrMemory (Err fault) answer = answer ≡ Err fault

-- the input files after a read of so many bytes of a name from a place on has answered: it is kept where it has moved bytes
abbrev pub after_read : MemoryInputs → List ℕ → ℕ → ℕ → Result ℕ Fault → MemoryInputs
after_read inputs name at room (Ok n) = record inputs { calls = after_call inputs.calls; reads = inputs.reads ++ record { name = name; at = at; len = room } ∷ [] }
after_read inputs name at room (Err fault) = record inputs { calls = after_call inputs.calls }
