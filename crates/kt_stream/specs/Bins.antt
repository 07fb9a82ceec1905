-- The bins of a damage distribution, and the records of a stream of distributions.
-- The rules: docs/STREAMS.md, "Distributions".
use Rattle.std.specs.Prelude.{ℕ, zero, suc, ◌+◌, ◌≤◌, List, [], ◌∷◌, ◌++◌, length, drop, min, slice_index}
use Rattle.byteorder.specs.Endian.{little_bytes}
use Rattle.kt_stream.specs.declared.cdf.CdfFront.{CdfFront}
use Rattle.kt_stream.specs.declared.entry.Bin.{Bin}
use Rattle.kt_stream.specs.declared.entry.Cdf.{Cdf}
use Rattle.kt_stream.specs.declared.kind.Shape.{Shape}
use Rattle.kt_stream.specs.declared.kind.StreamKind.TheVariants as kind
use Rattle.kt_stream.specs.declared.read.Misfit.{Misfit}
use Rattle.kt_stream.specs.declared.read.Read.{Read}
use Rattle.kt_stream.specs.declared.read.Read.TheVariants.{Got}
use Rattle.kt_stream.specs.declared.stop.RecordCause.TheVariants.{Bins, Prob, Mean}
use Rattle.kt_stream.specs.Read.{◌>>=◌, between, Field, fields_in}
use Rattle.kt_stream.specs.Pairs.{misfit, id_field, in_front, IsId}
use Rattle.kt_stream.specs.Stream.{Form, Stream, stream_of}

-- the least probability that a bin may have, by the number of bins behind it and the probability before it: in the last bin it is above the one before
abbrev pub lowest : ℕ → ℕ → ℕ
lowest zero before = before + 1
lowest (suc left) before = before

-- the fields of a bin: its cumulative probability and its mean
abbrev pub bin_fields : ℕ → ℕ → List (Field Misfit)
bin_fields left before =
    record { width = 8; judge = λ values at x. between (lowest left before) 1002001000000 (misfit at Prob) x }
    ∷ record { width = 4; judge = λ values at x. between 0 1000000 (misfit at Mean) x }
    ∷ []

-- a bin of these values
abbrev pub bin_of : List ℕ → Bin
bin_of values = record { prob_to = slice_index values 0; mean = slice_index values 1 }

-- a bin, with so many bins behind it
unfoldable pub bin_in : ℕ → ℕ → List ℕ → ℕ → Read Bin Misfit
bin_in left before bytes at = fields_in (bin_fields left before) [] bytes at >>= λ values. Got (bin_of values)

-- so many bins, the first of them behind a probability
unfoldable pub bins_in : ℕ → ℕ → List ℕ → ℕ → Read (List Bin) Misfit
bins_in zero before bytes at = Got []
bins_in (suc left) before bytes at = bin_in left before bytes at >>= λ b. in_front (b ∷ []) (bins_in left b.prob_to (drop 12 bytes) (at + 12))

-- the fields in front of the bins, of which there may be so many: the event, the area peril, the vulnerability and the number of bins
abbrev pub cdf_fields : ℕ → List (Field Misfit)
cdf_fields most = id_field ∷ id_field ∷ id_field ∷ record { width = 4; judge = λ before at x. between 1 (min most 1000) (misfit at Bins) x } ∷ []

-- these fields
abbrev pub cdf_front : List ℕ → CdfFront
cdf_front values = record { event = slice_index values 0; areaperil = slice_index values 1; vulnerability = slice_index values 2; bins = slice_index values 3 }

-- these fields, read from the front of the bytes
abbrev pub cdf_front_in : ℕ → List ℕ → ℕ → Read CdfFront Misfit
cdf_front_in most bytes at = fields_in (cdf_fields most) [] bytes at >>= λ values. Got (cdf_front values)

-- a distribution of these fields and bins
abbrev pub cdf_of : CdfFront → List Bin → Cdf
cdf_of front bins = record { event = front.event; areaperil = front.areaperil; vulnerability = front.vulnerability; bins = bins }

-- a distribution, of at most so many bins
unfoldable pub cdf_in : ℕ → List ℕ → ℕ → Read Cdf Misfit
cdf_in most bytes at = cdf_front_in most bytes at >>= λ front. bins_in front.bins 0 (drop 16 bytes) (at + 16) >>= λ bins. Got (cdf_of front bins)

-- ---- which there are

-- bins behind a probability: none is below the one before, the last is above it, and each is in its ranges
abbrev pub AreBins : ℕ → List Bin → Type 0
AreBins before [] = Unit {0}
AreBins before (b ∷ bins) = (lowest (length bins) before ≤ b.prob_to) × (b.prob_to ≤ 1002001000000) × (b.mean ≤ 1000000) × AreBins b.prob_to bins

-- a distribution of at most so many bins, and of at most 1,000
pub record IsCdf (most : ℕ) (cdf : Cdf) : Type 0 where
  pub event : IsId cdf.event
  pub areaperil : IsId cdf.areaperil
  pub vulnerability : IsId cdf.vulnerability
  pub some : 1 ≤ length cdf.bins
  pub few : length cdf.bins ≤ min most 1000
  pub bins : AreBins 0 cdf.bins

-- ---- how they are written

-- a bin is its probability in eight bytes and its mean in four, each with the lowest byte first
unfoldable pub bin_bytes : Bin → List ℕ
bin_bytes b = little_bytes 8 b.prob_to ++ little_bytes 4 b.mean

-- bins stand one after the other
unfoldable pub bins_bytes : List Bin → List ℕ
bins_bytes [] = []
bins_bytes (b ∷ bins) = bin_bytes b ++ bins_bytes bins

-- a distribution is its three ids, the number of its bins, and the bins
unfoldable pub cdf_bytes : Cdf → List ℕ
cdf_bytes cdf = little_bytes 4 cdf.event ++ (little_bytes 4 cdf.areaperil ++ (little_bytes 4 cdf.vulnerability ++ (little_bytes 4 (length cdf.bins) ++ bins_bytes cdf.bins)))

-- how the records of a stream of distributions are read and written
abbrev pub cdf_form : Form Cdf
cdf_form = record { unit = λ shape samples bytes at. cdf_in shape.bins bytes at; bytes = cdf_bytes }

-- what a reader of a stream of distributions is told
abbrev pub cdf_shape : ℕ → Shape
cdf_shape bins = record { kind = kind.Cdf; bins = bins }
