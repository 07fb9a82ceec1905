-- Named files that are streams of one kind with one header.
-- The rules: docs/COMMANDS.md, "kat".
use Rattle.std.specs.Prelude.{◌≡◌, ◌≤◌, ℕ, List, [], ◌∷◌, length, Option, Some}
use Rattle.kt_out.specs.NamedFiles.{FileMap}
use Rattle.kt_stream.specs.Grammar.{Spells}
use Rattle.kt_stream.specs.Stream.{Form}
use Rattle.kt_stream.specs.declared.kind.Head.{Head}
use Rattle.kt_stream.specs.declared.kind.Shape.{Shape}
use Rattle.kt_kat.specs.Files.{file_limit}

-- what a name stands for is a stream of this header and these records, of no more bytes than a file may have
pub record IsStreamFile (E : Type 0) (form : Form E) (Good : Shape → ℕ → E → Type 0) (shape : Shape) (head : Head) (held : Option (List ℕ)) (entries : List E) : Type 0 where
  pub bytes : List ℕ
  pub found : held ≡ Some bytes
  pub within : length bytes ≤ file_limit
  pub spells : Spells E form Good shape bytes head entries

-- each name stands for such a stream, of its records
abbrev pub AreStreamFiles : (E : Type 0) → Form E → (Shape → ℕ → E → Type 0) → Shape → Head → FileMap → List (List ℕ) → List (List E) → Type 0
AreStreamFiles E form Good shape head files [] [] = Unit {0}
AreStreamFiles E form Good shape head files [] (entries ∷ streams) = ⊥
AreStreamFiles E form Good shape head files (name ∷ names) [] = ⊥
AreStreamFiles E form Good shape head files (name ∷ names) (entries ∷ streams) = IsStreamFile E form Good shape head (files name) entries × AreStreamFiles E form Good shape head files names streams
