-- Output files as contracts see them, and what their calls leave.
-- The rule: docs/ARCHITECTURE.md, "The outside".
use Rattle.std.specs.Prelude.{◌≡◌, ◌⊎◌, ℕ, List, [], ◌++◌, take, Option, None, Some, Result, Ok, Err, IsSomeAnd}
use Rattle.kt_kept_files.specs.Counts.{one_more, Rose}
use Rattle.kt_kept_files.specs.NamedFiles.{FileMap}
pub use Rattle.kt_kept_files.specs.NamedFiles.{Sets, written_so_far}
use Rattle.kt_out.specs.declared.fault.Fault.{Fault}
use Rattle.kt_out.specs.declared.fault.Fault.TheVariants.{Failed, OutOfMemory}

-- what each name stands for, where it is known, and how many calls have failed
pub record OutputsState : Type 0 where
  pub written : Option FileMap
  pub faults : ℕ

-- what a call leaves of the count of faults: it rose exactly where the call failed
abbrev pub CountsOutput : {T : Type 0} → ℕ → ℕ → Result T Fault → Type 0
CountsOutput before now (Ok done) = now ≡ before
CountsOutput before now (Err Failed) = Rose before now
CountsOutput before now (Err OutOfMemory) = now ≡ before

-- every name stands for what it stood for
abbrev pub SameFiles : FileMap → FileMap → Type 0
SameFiles files now = (name : List ℕ) → now name ≡ files name

-- what the making of an empty file did: the files before and after it, the name, and the answer
abbrev pub Creates : {T E : Type 0} → Option FileMap → Option FileMap → List ℕ → Result T E → Type 0
Creates None now name answer = now ≡ None
Creates (Some files) now name (Ok done) = IsSomeAnd now (Sets files name [])
Creates (Some files) now name (Err fault) = IsSomeAnd now (λ after. SameFiles files after ⊎ Sets files name [] after)

-- what an append did: the files before and after it, the name, the piece, and the answer
abbrev pub Appends : {E : Type 0} → Option FileMap → Option FileMap → List ℕ → List ℕ → Result ℕ E → Type 0
Appends None now name piece answer = now ≡ None
Appends (Some files) now name piece (Ok n) = IsSomeAnd now (Sets files name (written_so_far files name ++ take n piece))
Appends (Some files) now name piece (Err fault) = IsSomeAnd now (SameFiles files)

-- real output files with this count of faults, as all output files are seen: what they hold is not known
abbrev pub real_outputs : ℕ → OutputsState
real_outputs faults = record { written = None; faults = faults }

-- the count of faults after a call has answered
abbrev pub after_output_answer : {T : Type 0} → ℕ → Result T Fault → ℕ
after_output_answer faults (Ok done) = faults
after_output_answer faults (Err Failed) = one_more faults
after_output_answer faults (Err OutOfMemory) = faults
