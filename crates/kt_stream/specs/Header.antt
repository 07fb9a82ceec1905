-- The header at the front of a stream of each kind.
-- The rules: docs/STREAMS.md, "Headers".
use Rattle.std.specs.Prelude.{◌≡◌, ℕ, ◌≤◌, ◌/◌, ◌%◌, List, [], ◌∷◌, ◌++◌, Option, Some, None, ◌==◌, if◌then◌else◌, slice_index}
use Rattle.byteorder.specs.Endian.{little_bytes}
use Rattle.kt_stream.specs.declared.kind.Head.{Head}
use Rattle.kt_stream.specs.declared.kind.StreamKind.{StreamKind}
use Rattle.kt_stream.specs.declared.kind.StreamKind.TheVariants.{Cdf, Gul, Loss, Summary, Events}
use Rattle.kt_stream.specs.declared.read.HeaderFault.{HeaderFault}
use Rattle.kt_stream.specs.declared.read.HeaderFault.TheVariants.{NotProfile, WrongStream, BadSamples, BadSet}
use Rattle.kt_stream.specs.declared.read.Read.{Read}
use Rattle.kt_stream.specs.declared.read.Read.TheVariants.{Got}
use Rattle.kt_stream.specs.Read.{◌>>=◌, between, Field, fields_in, width_of}

-- the first byte of a stream of this kind; one that no stream has, where the kind has no header
abbrev pub id_of : StreamKind → ℕ
id_of Cdf = 0
id_of Gul = 1
id_of Loss = 2
id_of Summary = 3
id_of Events = 255

-- what is wrong with the first four bytes as a number: its upper three bytes are the type 101, highest first, and the lowest is the kind
abbrev pub mark_judge : StreamKind → ℕ → Option HeaderFault
mark_judge kind word = if word / 256 == 6619136 then (if word % 256 == id_of kind then None else Some (WrongStream (word % 256))) else Some NotProfile

-- the kind and the type
abbrev pub mark_field : StreamKind → Field HeaderFault
mark_field kind = record { width = 4; judge = λ before at x. mark_judge kind x }

-- the number of samples
abbrev pub samples_field : Field HeaderFault
samples_field = record { width = 4; judge = λ before at x. between 1 1000 (BadSamples x) x }

-- the summary set
abbrev pub set_field : Field HeaderFault
set_field = record { width = 4; judge = λ before at x. between 1 9 (BadSet x) x }

-- the fields of the header of a kind
abbrev pub header_fields : StreamKind → List (Field HeaderFault)
header_fields Cdf = mark_field Cdf ∷ []
header_fields Gul = mark_field Gul ∷ samples_field ∷ []
header_fields Loss = mark_field Loss ∷ samples_field ∷ []
header_fields Summary = mark_field Summary ∷ samples_field ∷ set_field ∷ []
header_fields Events = []

-- the bytes of the header of a kind
abbrev pub header_size : StreamKind → ℕ
header_size kind = width_of (header_fields kind)

-- a header of these values, 0 where there is none
abbrev pub head_of : List ℕ → Head
head_of values = record { samples = slice_index values 1; set = slice_index values 2 }

-- the header of a stream of a kind
abbrev pub header_in : StreamKind → List ℕ → Read Head HeaderFault
header_in kind bytes = fields_in (header_fields kind) [] bytes 0 >>= λ values. Got (head_of values)

-- a header has 1 to 1,000 samples where its kind has samples, and a set from 1 to 9 where its kind has one, and 0 else
abbrev pub IsHead : StreamKind → Head → Type 0
IsHead Cdf head = (head.samples ≡ 0) × (head.set ≡ 0)
IsHead Gul head = (1 ≤ head.samples) × (head.samples ≤ 1000) × (head.set ≡ 0)
IsHead Loss head = (1 ≤ head.samples) × (head.samples ≤ 1000) × (head.set ≡ 0)
IsHead Summary head = (1 ≤ head.samples) × (head.samples ≤ 1000) × (1 ≤ head.set) × (head.set ≤ 9)
IsHead Events head = (head.samples ≡ 0) × (head.set ≡ 0)

-- the fields of a header behind the kind and the type
abbrev pub head_bytes : StreamKind → Head → List ℕ
head_bytes Cdf head = []
head_bytes Gul head = little_bytes 4 head.samples
head_bytes Loss head = little_bytes 4 head.samples
head_bytes Summary head = little_bytes 4 head.samples ++ little_bytes 4 head.set
head_bytes Events head = []

-- a stream's kind, and the type 101 with its highest byte first
abbrev pub mark_bytes : StreamKind → List ℕ
mark_bytes Events = []
mark_bytes kind = id_of kind ∷ 0 ∷ 0 ∷ 101 ∷ []

-- a header is the stream's kind, its type, and its fields
abbrev pub header_bytes : StreamKind → Head → List ℕ
header_bytes kind head = mark_bytes kind ++ head_bytes kind head

-- the header that a reader has before the first byte: only where the kind has none to be read
abbrev pub first_head : StreamKind → Option Head
first_head Cdf = None
first_head Gul = None
first_head Loss = None
first_head Summary = None
first_head Events = Some (record { samples = 0; set = 0 })
