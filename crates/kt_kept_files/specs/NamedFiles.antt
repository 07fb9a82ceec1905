-- Files by name: a map from names to bytes, and a list of named files in the order in which they came.
-- The rule: docs/ARCHITECTURE.md, "The outside".
use Rattle.std.specs.Prelude.{◌≡◌, ◌≢◌, ℕ, ◌<◌, List, [], ◌∷◌, length, slice_index_or, true, false, if◌then◌else◌, Option, None, Some, unwrap_or}
use Rattle.std.specs.Str.{bytes_eq}

-- what each name stands for, and None where it is not held
abbrev pub FileMap : Type 0
FileMap = List ℕ → Option (List ℕ)

-- a name and the bytes that it stands for
pub record File : Type 0 where
  pub name : List ℕ
  pub bytes : List ℕ

-- a name stands for these bytes now, and every other name for what it stood for
pub record Sets (files : FileMap) (name bytes : List ℕ) (now : FileMap) : Type 0 where
  pub this_name : now name ≡ Some bytes
  pub other_names : (other : List ℕ) → other ≢ name → now other ≡ files other

-- what a name stands for once its file is written on: nothing where it is not held
abbrev pub written_so_far : FileMap → List ℕ → List ℕ
written_so_far files name = unwrap_or (files name) []

-- the bytes of the first file with a name
abbrev pub bytes_of : List File → FileMap
bytes_of [] name = None
bytes_of (file ∷ files) name = if bytes_eq file.name name then Some file.bytes else bytes_of files name

-- the files after a name was made to stand for some bytes: in its place, or behind all others where it is new
abbrev pub with_file : List File → List ℕ → List ℕ → List File
with_file [] name bytes = record { name = name; bytes = bytes } ∷ []
with_file (file ∷ files) name bytes = if bytes_eq file.name name then record { name = file.name; bytes = bytes } ∷ files else file ∷ with_file files name bytes

-- no two files have one name
abbrev pub HaveDistinctNames : List File → Type 0
HaveDistinctNames [] = Unit {0}
HaveDistinctNames (file ∷ files) = (bytes_of files file.name ≡ None) × HaveDistinctNames files

-- no file has this name
abbrev pub IsNewName : List File → List ℕ → Type 0
IsNewName files name = (k : ℕ) (file : File) → k < length files → bytes_eq (slice_index_or files k file).name name ≡ false

-- the file at place i is the first with this name
pub record IsPlaceOf (files : List File) (name : List ℕ) (i : ℕ) : Type 0 where
  pub in_range : i < length files
  pub has_name : (file : File) → bytes_eq (slice_index_or files i file).name name ≡ true
  pub is_first : (k : ℕ) (file : File) → k < i → bytes_eq (slice_index_or files k file).name name ≡ false
