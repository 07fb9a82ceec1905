-- A named input file as it is read, from its front to its end.
-- The rules: docs/STREAMS.md, "Tools over streams".
use Rattle.std.specs.Prelude.{◌≡◌, ℕ, List, length, drop, Option, Some, None, IsSomeAnd}
use Rattle.kt_out.specs.NamedFiles.{FileMap}

-- the bytes of a named file, where the input files are known and there is one
abbrev pub file_bytes : Option FileMap → List ℕ → Option (List ℕ)
file_bytes None name = None
file_bytes (Some files) name = files name

-- there is a file of this name and it has so many bytes, where the input files are known
abbrev pub IsSized : Option FileMap → List ℕ → ℕ → Type 0
IsSized None name size = Unit {0}
IsSized (Some files) name size = IsSomeAnd (files name) (λ bytes. size ≡ length bytes)

-- the bytes of a file from a place on, where they are known
abbrev pub left_from : Option (List ℕ) → ℕ → Option (List ℕ)
left_from None at = None
left_from (Some bytes) at = Some (drop at bytes)
