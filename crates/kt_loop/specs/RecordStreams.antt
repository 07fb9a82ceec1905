-- What a stream of records holds, as the loop uses it.
-- The rules: docs/STREAMS.md, "Readers".
use Rattle.std.specs.Prelude.{ℕ, List}
use Rattle.std.specs.List.{flat_map}
use Rattle.kt_stream.specs.declared.entry.Placed.{Placed}
use Rattle.kt_stream.specs.declared.kind.Head.{Head}
use Rattle.kt_stream.specs.declared.kind.Shape.{Shape}
use Rattle.kt_stream.specs.Stream.{Form, stream_of, fault_of}
use Rattle.kt_loop.specs.Calculation.{Calculation, Course, course_of}
use Rattle.kt_loop.specs.Contents.{Contents}

-- the header, the records and the first fault of a stream, by how its records are read and what the reader was told
abbrev pub contents_of : {E : Type 0} → Form E → Shape → List ℕ → Contents Head E
contents_of form shape bytes = record { head = (stream_of form shape bytes).head; entries = (stream_of form shape bytes).entries; fault = fault_of form shape bytes }

-- the bytes of records, one after the other
abbrev pub records_text : {E : Type 0} → Form E → List (Placed E) → List ℕ
records_text form entries = flat_map (λ placed. form.bytes placed.entry) entries

-- the course of a calculation over the records of a stream, from a state on
abbrev pub course_over : {E S R : Type 0} → Calculation Head E S R → Form E → Shape → S → List ℕ → Course S R
course_over calculation form shape start bytes = course_of calculation start (stream_of form shape bytes).head (stream_of form shape bytes).entries
