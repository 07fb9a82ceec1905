-- The records of a stream of ground-up losses, or of losses after terms.
-- The rules: docs/STREAMS.md, "Records".
use Rattle.std.specs.Prelude.{ℕ, List, [], ◌∷◌, ◌++◌, slice_index}
use Rattle.byteorder.specs.Endian.{little_bytes}
use Rattle.kt_stream.specs.declared.entry.LossRecord.{LossRecord}
use Rattle.kt_stream.specs.declared.entry.Pair.{Pair}
use Rattle.kt_stream.specs.declared.kind.Shape.{Shape}
use Rattle.kt_stream.specs.declared.kind.StreamKind.{StreamKind}
use Rattle.kt_stream.specs.declared.kind.StreamKind.TheVariants.{Gul, Loss}
use Rattle.kt_stream.specs.declared.loss.LossFront.{LossFront}
use Rattle.kt_stream.specs.declared.read.Misfit.{Misfit}
use Rattle.kt_stream.specs.declared.read.Read.{Read}
use Rattle.kt_stream.specs.declared.read.Read.TheVariants.{Got}
use Rattle.kt_stream.specs.Read.{◌>>=◌, Field, fields_in}
use Rattle.kt_stream.specs.Pairs.{id_field, pair_record, IsId, ArePairs, pairs_bytes}
use Rattle.kt_stream.specs.Stream.{Form, Stream, stream_of}

-- the fields in front of the pairs: the event and the id
abbrev pub loss_fields : List (Field Misfit)
loss_fields = id_field ∷ id_field ∷ []

-- a record of these values and pairs
abbrev pub loss_record : List ℕ → List Pair → LossRecord
loss_record values pairs = record { event = slice_index values 0; id = slice_index values 1; pairs = pairs }

-- the fields in front of the pairs
abbrev pub loss_front : List ℕ → LossFront
loss_front values = record { event = slice_index values 0; id = slice_index values 1 }

-- these fields, read from the front of the bytes
abbrev pub loss_front_in : List ℕ → ℕ → Read LossFront Misfit
loss_front_in bytes at = fields_in loss_fields [] bytes at >>= λ values. Got (loss_front values)

-- a record of losses
unfoldable pub loss_in : ℕ → List ℕ → ℕ → Read LossRecord Misfit
loss_in samples bytes at = pair_record loss_fields loss_record samples bytes at

-- a record is its two ids and its pairs
unfoldable pub loss_bytes : LossRecord → List ℕ
loss_bytes entry = little_bytes 4 entry.event ++ (little_bytes 4 entry.id ++ pairs_bytes entry.pairs)

-- how the records of a stream of losses are read and written
abbrev pub loss_form : Form LossRecord
loss_form = record { unit = λ shape samples bytes at. loss_in samples bytes at; bytes = loss_bytes }

-- the two kinds of stream that have these records
abbrev pub IsLossKind : StreamKind → Type 0
IsLossKind Gul = Unit {0}
IsLossKind Loss = Unit {0}
IsLossKind kind = ⊥

-- what a reader of a stream of losses is told
abbrev pub loss_shape : StreamKind → Shape
loss_shape kind = record { kind = kind; bins = 0 }

-- a record of a stream with so many samples
pub record IsLoss (samples : ℕ) (entry : LossRecord) : Type 0 where
  pub event : IsId entry.event
  pub id : IsId entry.id
  pub pairs : ArePairs samples entry.pairs
