-- The names of files among the words of a call.
-- The rules: docs/COMMANDS.md, "Words".
use Rattle.std.specs.Prelude.{◌≡◌, ◌≤◌, ◌<◌, ℕ, List, [], ◌∷◌, length, drop, All}

-- all words but the first, which is the tool: of a tool without options they are its plain words
abbrev pub file_names : List (List ℕ) → List (List ℕ)
file_names words = drop 1 words

-- a word begins with `-`
abbrev pub BeginsWithDash : List ℕ → Type 0
BeginsWithDash [] = ⊥
BeginsWithDash (letter ∷ letters) = letter ≡ 45

-- a word may be the name of a file: at most 255 bytes, of which there may be none, and the first is not `-`
abbrev pub IsFileName : List ℕ → Type 0
IsFileName word = (length word ≤ 255) × (BeginsWithDash word → ⊥)

-- one or more names of files
abbrev pub AreFileNames : List (List ℕ) → Type 0
AreFileNames names = (0 < length names) × All IsFileName names
