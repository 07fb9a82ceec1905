-- Input files as contracts see them, and what their calls answer and count.
-- The rule: docs/ARCHITECTURE.md, "The outside".
use Rattle.std.specs.Prelude.{◌≡◌, ℕ, ◌-◌, ◌<◌, ◌≤◌, List, ◌++◌, length, take, drop, ⊤, Option, None, Some, Result, Ok, Err}
use Rattle.kt_out.specs.declared.fault.Absent.{Absent}
use Rattle.kt_out.specs.declared.fault.Absent.TheVariants.{Failed, Missing, OutOfMemory}
use Rattle.kt_out.specs.declared.fault.Fault.{Fault}
use Rattle.kt_kept_files.specs.Counts.{one_more, Rose}
use Rattle.kt_kept_files.specs.NamedFiles.{FileMap}

-- what each name stands for, where it is known, how many calls have failed, and how many have asked for a name that is not held
pub record InputsState : Type 0 where
  pub held : Option FileMap
  pub faults : ℕ
  pub misses : ℕ

-- a call failed: that was counted, and nothing else
pub record CountsFault (before after : InputsState) : Type 0 where
  pub kept : after.held ≡ before.held
  pub counted : Rose before.faults after.faults
  pub misses : after.misses ≡ before.misses

-- a call asked for a name that is not held: that was counted, and nothing else
pub record CountsMiss (before after : InputsState) : Type 0 where
  pub kept : after.held ≡ before.held
  pub counted : Rose before.misses after.misses
  pub faults : after.faults ≡ before.faults

-- what a call for a size leaves: a count rose exactly by its answer
abbrev pub AfterSize : InputsState → InputsState → Result ℕ Absent → Type 0
AfterSize before after (Ok n) = after ≡ before
AfterSize before after (Err Failed) = CountsFault before after
AfterSize before after (Err Missing) = CountsMiss before after
AfterSize before after (Err OutOfMemory) = after ≡ before

-- what a read leaves: the count of faults rose exactly by its answer
abbrev pub AfterRead : InputsState → InputsState → Result ℕ Fault → Type 0
AfterRead before after (Ok n) = after ≡ before
AfterRead before after (Err Fault.Failed) = CountsFault before after
AfterRead before after (Err Fault.OutOfMemory) = after ≡ before

-- the size of what a name stands for: its length, and Missing exactly where it stands for nothing
abbrev pub IsSizeOf : Option (List ℕ) → Result ℕ Absent → Type 0
IsSizeOf None (Ok n) = ⊥
IsSizeOf None (Err Failed) = ⊥
IsSizeOf None (Err Missing) = ⊤
IsSizeOf None (Err OutOfMemory) = ⊤
IsSizeOf (Some bytes) (Ok n) = n ≡ length bytes
IsSizeOf (Some bytes) (Err Failed) = ⊤
IsSizeOf (Some bytes) (Err Missing) = ⊥
IsSizeOf (Some bytes) (Err OutOfMemory) = ⊤

-- what a call for the size of a name answered
abbrev pub FindsSize : Option FileMap → List ℕ → Result ℕ Absent → Type 0
FindsSize None name answer = ⊤
FindsSize (Some files) name answer = IsSizeOf (files name) answer

-- a place lies below the length of what a name stands for
abbrev pub LiesIn : Option (List ℕ) → ℕ → Type 0
LiesIn None at = ⊥
LiesIn (Some bytes) at = at < length bytes

-- a place lies in the file of a name
abbrev pub InFile : Option FileMap → List ℕ → ℕ → Type 0
InFile None name at = ⊤
InFile (Some files) name at = LiesIn (files name) at

-- a read gave n bytes from a place on, at least one, into the front of the room
pub record GivesFrom (bytes : List ℕ) (at : ℕ) (room filled : List ℕ) (n : ℕ) : Type 0 where
  pub some : 0 < n
  pub fits : n ≤ length room
  pub was_there : n ≤ length bytes - at
  pub filled_by : filled ≡ take n (drop at bytes) ++ drop n room

-- what a read from a place on did to the buffer
abbrev pub ReadsFrom : {E : Type 0} → Option (List ℕ) → ℕ → List ℕ → List ℕ → Result ℕ E → Type 0
ReadsFrom None at room filled (Ok n) = ⊥
ReadsFrom (Some bytes) at room filled (Ok n) = GivesFrom bytes at room filled n
ReadsFrom held at room filled (Err fault) = ⊤

-- what a read of a name from a place on did: the buffer before and after it, and its answer
abbrev pub ReadsAt : {E : Type 0} → Option FileMap → List ℕ → ℕ → List ℕ → List ℕ → Result ℕ E → Type 0
ReadsAt None name at room filled answer = ⊤
ReadsAt (Some files) name at room filled answer = ReadsFrom (files name) at room filled answer

-- the counts of real input files: how many calls have failed, and how many have asked for a file that is not there
pub record FileCounts : Type 0 where
  pub faults : ℕ
  pub misses : ℕ

-- one more fault
abbrev pub with_fault : FileCounts → FileCounts
with_fault counts = record { faults = one_more counts.faults; misses = counts.misses }

-- one more miss
abbrev pub with_miss : FileCounts → FileCounts
with_miss counts = record { faults = counts.faults; misses = one_more counts.misses }

-- such files as all input files are seen: what they hold is not known
abbrev pub real_files : FileCounts → InputsState
real_files counts = record { held = None; faults = counts.faults; misses = counts.misses }

-- the counts after a call for a size has answered
abbrev pub after_size_answer : FileCounts → Result ℕ Absent → FileCounts
after_size_answer counts (Ok n) = counts
after_size_answer counts (Err Failed) = with_fault counts
after_size_answer counts (Err Missing) = with_miss counts
after_size_answer counts (Err OutOfMemory) = counts

-- the counts after a read has answered
abbrev pub after_read_answer : FileCounts → Result ℕ Fault → FileCounts
after_read_answer counts (Ok n) = counts
after_read_answer counts (Err Fault.Failed) = with_fault counts
after_read_answer counts (Err Fault.OutOfMemory) = counts
