-- The ids of events, as the records of a stream without a header.
-- The rules: docs/STREAMS.md, "Event ids".
use Rattle.std.specs.Prelude.{ℕ, List, [], ◌∷◌, slice_index}
use Rattle.byteorder.specs.Endian.{little_bytes}
use Rattle.kt_stream.specs.declared.event_id.EventId.{EventId}
use Rattle.kt_stream.specs.declared.kind.Shape.{Shape}
use Rattle.kt_stream.specs.declared.kind.StreamKind.TheVariants.{Events}
use Rattle.kt_stream.specs.declared.read.Misfit.{Misfit}
use Rattle.kt_stream.specs.declared.read.Read.{Read}
use Rattle.kt_stream.specs.declared.read.Read.TheVariants.{Got}
use Rattle.kt_stream.specs.Pairs.{id_field}
use Rattle.kt_stream.specs.Read.{◌>>=◌, Field, fields_in}
use Rattle.kt_stream.specs.Stream.{Form}

-- the one field
abbrev pub event_fields : List (Field Misfit)
event_fields = id_field ∷ []

-- the id of these values
abbrev pub event_of : List ℕ → EventId
event_of values = record { event = slice_index values 0 }

-- an id at the front of the bytes
abbrev pub event_in : List ℕ → ℕ → Read EventId Misfit
event_in bytes at = fields_in event_fields [] bytes at >>= λ values. Got (event_of values)

-- an id is four bytes, the lowest first
abbrev pub event_bytes : EventId → List ℕ
event_bytes entry = little_bytes 4 entry.event

-- how ids of events are read and written
abbrev pub event_form : Form EventId
event_form = record { unit = λ shape samples bytes at. event_in bytes at; bytes = event_bytes }

-- what a reader of them is told
abbrev pub event_shape : Shape
event_shape = record { kind = Events; bins = 0 }
