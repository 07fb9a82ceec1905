-- The grammar of a stream: which bytes are a header and records.
-- The rules: docs/STREAMS.md, "Headers" and "Records".
use Rattle.std.specs.Prelude.{◌≡◌, ℕ, ◌+◌, ◌≤◌, List, [], ◌∷◌, ◌++◌, length, Some}
use Rattle.std.specs.List.{AllByRecursion}
use Rattle.kt_stream.specs.declared.entry.Placed.{Placed}
use Rattle.kt_stream.specs.declared.kind.Head.{Head}
use Rattle.kt_stream.specs.declared.kind.Shape.{Shape}
use Rattle.kt_stream.specs.Header.{IsHead, header_bytes, header_size}
use Rattle.kt_stream.specs.Stream.{Form, Stream, Whole, stream_of, stream_limit}

-- records stand one after the other
unfoldable pub records_bytes : {E : Type 0} → Form E → List E → List ℕ
records_bytes form [] = []
records_bytes form (entry ∷ entries) = form.bytes entry ++ records_bytes form entries

-- These bytes are exactly this header with these records behind it.
pub record Spells (E : Type 0) (form : Form E) (Good : Shape → ℕ → E → Type 0) (shape : Shape) (bytes : List ℕ) (head : Head) (entries : List E) : Type 0 where
  pub in_range : IsHead shape.kind head
  pub each : AllByRecursion (Good shape head.samples) entries
  pub written : bytes ≡ header_bytes shape.kind head ++ records_bytes form entries
  pub within : length bytes ≤ stream_limit

-- records with their places, the first of them at this byte of the stream
abbrev pub placed_from : {E : Type 0} → Form E → ℕ → List E → List (Placed E)
placed_from form at [] = []
placed_from form at (entry ∷ entries) = record { at = at; entry = entry } ∷ placed_from form (at + length (form.bytes entry)) entries

-- records without their places
abbrev pub entries_of : {E : Type 0} → List (Placed E) → List E
entries_of [] = []
entries_of (placed ∷ rest) = placed.entry ∷ entries_of rest

-- the stream of this header and these records
abbrev pub spelled : {E : Type 0} → Form E → Shape → Head → List E → Stream E
spelled form shape head entries = record { head = Some head; entries = placed_from form (header_size shape.kind) entries; end = Whole }

-- Some header and records are spelled by the bytes, and these are read of them.
pub record IsSpelled (E : Type 0) (form : Form E) (Good : Shape → ℕ → E → Type 0) (shape : Shape) (bytes : List ℕ) : Type 0 where
  pub head : Head
  pub entries : List E
  pub spells : Spells E form Good shape bytes head entries
  pub read : stream_of form shape bytes ≡ spelled form shape head entries
