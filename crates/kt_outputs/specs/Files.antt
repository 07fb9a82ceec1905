-- Output files of a list, each with its name and its text, and what calls make of them.
-- The rules: docs/REFUSALS.md, "Statuses".
use Rattle.std.specs.Prelude.{ℕ, List, map, Result, Ok, Err, IfSome, IsSomeAnd}
use Rattle.kt_out.specs.NamedFiles.{File, FileMap}
use Rattle.kt_out.specs.OutputFiles.{OutputsState}
use Rattle.kt_ends.specs.Ending.{AllMade, PartlyMade}

-- a file with this name and this text
abbrev pub file_with : List ℕ → List ℕ → File
file_with name text = record { name = name; bytes = text }

-- the files of a list, each with its name and its text
abbrev pub files_with : {F : Type 0} → (F → List ℕ) → (F → List ℕ) → List F → List File
files_with name text files = map (λ file. file_with (name file) (text file)) files

-- what names stand for by the answer: the wanted files; after a refusal a front of them, each with a front of its text
abbrev pub MadeBy : {T E : Type 0} → List File → FileMap → FileMap → Result T E → Type 0
MadeBy wanted start now (Ok done) = AllMade wanted start now
MadeBy wanted start now (Err fault) = PartlyMade wanted start now

-- What calls made of output files, where these tell what they hold: where the held files stood over what was there at the start,
-- the wanted ones stand so now; after a refusal some of them.
pub record Makes {T E : Type 0} (held wanted : List File) (before after : OutputsState) (answer : Result T E) : Type 0 where
  pub files : (start : FileMap) → IfSome before.written (λ old. AllMade held start old → IsSomeAnd after.written (λ now. MadeBy wanted start now answer))
