-- The appending of the texts of a group of files of a list.
-- The rules: docs/REFUSALS.md, "Statuses".
use Rattle.std.specs.Prelude.{ℕ, List, Result, Ok, Err}
use Rattle.kt_out.specs.OutputFiles.{OutputsState}
use Rattle.kt_out.specs.declared.fault.Fault.{Fault}
use Rattle.kt_outputs.specs.Files.{Makes, files_with}
use Rattle.kt_outputs.specs.Texts.{files_midway, lengthened_by}

-- the files before a place have gained their texts, and the others have the old ones
abbrev pub MadeUpTo : {F : Type 0} → (F → List ℕ) → (F → List ℕ) → (F → List ℕ) → List F → ℕ → OutputsState → OutputsState → Type 0
MadeUpTo name text more files place begun now = Makes {T = Unit {0}} {E = Fault} (files_with name text files) (files_midway name (lengthened_by text more) text place files) begun now (Ok tt)

-- what the appending of such texts makes: the files before a place have gained theirs; after a refusal a front of the files has
abbrev pub GroupMakes : {F : Type 0} → (F → List ℕ) → (F → List ℕ) → (F → List ℕ) → List F → ℕ → OutputsState → OutputsState → Result (Unit {0}) Fault → Type 0
GroupMakes name text more files behind begun after (Ok done) = MadeUpTo name text more files behind begun after
GroupMakes name text more files behind begun after (Err fault) = Makes {T = Unit {0}} (files_with name text files) (files_with name (lengthened_by text more) files) begun after (Err fault)
