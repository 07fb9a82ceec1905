-- What files are by the first byte of the first.
-- The rules: docs/COMMANDS.md, "kat".
use Rattle.std.specs.Prelude.{ℕ, List, [], ◌∷◌, ◌==◌, if◌then◌else◌}
use Rattle.kt_kat.specs.declared.front.FileKind.{FileKind}
use Rattle.kt_kat.specs.declared.front.FileKind.TheVariants.{Plain, Cdf, Gul, Loss, Summary}

-- what a file is whose first byte this is: a stream where it is below 4
abbrev pub kind_by : ℕ → FileKind
kind_by byte = if byte == 0 then Cdf else (if byte == 1 then Gul else (if byte == 2 then Loss else (if byte == 3 then Summary else Plain)))

-- what a file is: no stream where it is empty
abbrev pub kind_at_front : List ℕ → FileKind
kind_at_front [] = Plain
kind_at_front (byte ∷ bytes) = kind_by byte

-- what all files are: that which the first is
abbrev pub kind_of_files : List (List ℕ) → FileKind
kind_of_files [] = Plain
kind_of_files (first ∷ files) = kind_at_front first
