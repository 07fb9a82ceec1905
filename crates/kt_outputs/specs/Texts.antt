-- The text that a file gains, in pieces.
-- The rules: docs/REFUSALS.md, "Statuses".
use Rattle.std.specs.Prelude.{ℕ, List, [], ◌++◌, take, drop}
use Rattle.std.specs.List.{flat_map}
use Rattle.kt_out.specs.NamedFiles.{File}
use Rattle.kt_outputs.specs.Files.{files_with}

-- the pieces of a text, one behind the other
abbrev pub joined : List (List ℕ) → List ℕ
joined pieces = flat_map (λ piece. piece) pieces

-- the whole text that a file gains of texts that are told by this
abbrev pub text_of : {B S F : Type 0} → (B → S → F → List (List ℕ)) → B → S → F → List ℕ
text_of pieces_of start texts file = joined (pieces_of start texts file)

-- no text for any file
abbrev pub no_text : {F : Type 0} → F → List ℕ
no_text file = []

-- each file has another text behind its own
abbrev pub lengthened_by : {F : Type 0} → (F → List ℕ) → (F → List ℕ) → F → List ℕ
lengthened_by text more file = text file ++ more file

-- the first files of a list have their new texts, and the others the old ones
abbrev pub files_midway : {F : Type 0} → (F → List ℕ) → (F → List ℕ) → (F → List ℕ) → ℕ → List F → List File
files_midway name new old place files = files_with name new (take place files) ++ files_with name old (drop place files)
