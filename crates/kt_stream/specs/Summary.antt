-- The records of a summary stream.
-- The rules: docs/STREAMS.md, "Records".
use Rattle.std.specs.Prelude.{ℕ, ◌≤◌, List, [], ◌∷◌, ◌++◌, slice_index}
use Rattle.byteorder.specs.Endian.{little_bytes}
use Rattle.kt_stream.specs.declared.entry.Pair.{Pair}
use Rattle.kt_stream.specs.declared.entry.SummaryRecord.{SummaryRecord}
use Rattle.kt_stream.specs.declared.kind.Shape.{Shape}
use Rattle.kt_stream.specs.declared.kind.StreamKind.TheVariants.{Summary}
use Rattle.kt_stream.specs.declared.read.Misfit.{Misfit}
use Rattle.kt_stream.specs.declared.read.Read.{Read}
use Rattle.kt_stream.specs.declared.read.Read.TheVariants.{Got}
use Rattle.kt_stream.specs.declared.stop.RecordCause.TheVariants.{Exposure}
use Rattle.kt_stream.specs.declared.summary.SummaryFront.{SummaryFront}
use Rattle.kt_stream.specs.Read.{◌>>=◌, between, Field, fields_in}
use Rattle.kt_stream.specs.Pairs.{misfit, id_field, pair_record, IsId, ArePairs, pairs_bytes}
use Rattle.kt_stream.specs.Stream.{Form, Stream, stream_of}

-- an exposure is at most 10^14 cents
abbrev pub exposure_field : Field Misfit
exposure_field = record { width = 8; judge = λ before at x. between 0 100000000000000 (misfit at Exposure) x }

-- the fields in front of the pairs: the event, the summary id and its exposure
abbrev pub summary_fields : List (Field Misfit)
summary_fields = id_field ∷ id_field ∷ exposure_field ∷ []

-- a record of these values and pairs
abbrev pub summary_record : List ℕ → List Pair → SummaryRecord
summary_record values pairs = record { event = slice_index values 0; summary = slice_index values 1; exposure = slice_index values 2; pairs = pairs }

-- the fields in front of the pairs
abbrev pub front_of : List ℕ → SummaryFront
front_of values = record { event = slice_index values 0; summary = slice_index values 1; exposure = slice_index values 2 }

-- these fields, read from the front of the bytes
abbrev pub front_in : List ℕ → ℕ → Read SummaryFront Misfit
front_in bytes at = fields_in summary_fields [] bytes at >>= λ values. Got (front_of values)

-- a summary record
unfoldable pub summary_in : ℕ → List ℕ → ℕ → Read SummaryRecord Misfit
summary_in samples bytes at = pair_record summary_fields summary_record samples bytes at

-- a record is its two ids, its exposure and its pairs
unfoldable pub summary_bytes : SummaryRecord → List ℕ
summary_bytes entry = little_bytes 4 entry.event ++ (little_bytes 4 entry.summary ++ (little_bytes 8 entry.exposure ++ pairs_bytes entry.pairs))

-- how the records of a summary stream are read and written
abbrev pub summary_form : Form SummaryRecord
summary_form = record { unit = λ shape samples bytes at. summary_in samples bytes at; bytes = summary_bytes }

-- what a reader of a summary stream is told
abbrev pub summary_shape : Shape
summary_shape = record { kind = Summary; bins = 0 }

-- a record of a stream with so many samples
pub record IsSummary (samples : ℕ) (entry : SummaryRecord) : Type 0 where
  pub event : IsId entry.event
  pub summary : IsId entry.summary
  -- an exposure is at most 10^14 cents
  pub exposure : entry.exposure ≤ 100000000000000
  pub pairs : ArePairs samples entry.pairs
