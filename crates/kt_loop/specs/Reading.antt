-- What a reader of a stream says of the bytes that it was given.
-- The rules: docs/STREAMS.md, "Readers".
use Rattle.std.specs.Prelude.{◌≡◌, ◌≤◌, ◌^◌, List, ◌++◌, ℕ, length, Option, Some, None}
use Rattle.kt_stream.specs.Reader.{Reading, Represents, IsRested, EndsOpen, held, refused}
use Rattle.kt_stream.specs.Stream.{Form, stream_of, fault_of}
use Rattle.kt_stream.specs.declared.entry.Placed.{Placed}
use Rattle.kt_stream.specs.declared.kind.Shape.{Shape}
use Rattle.kt_stream.specs.declared.stop.StreamStop.{StreamStop}
use Rattle.kt_loop.specs.Contents.{IsOpenEnd, IsRefused}
use Rattle.kt_loop.specs.RecordStreams.{contents_of, records_text}

-- The reader reads streams of this shape, was given these bytes, and these records were read from it.
pub record StandsFor (E : Type 0) (form : Form E) (shape : Shape) (fed : List ℕ) (taken : List (Placed E)) (reading : Reading E) : Type 0 where
  pub told : reading.shape ≡ shape
  pub represents : Represents E form fed taken reading

-- all records were read of the bytes that the reader was given
abbrev pub StandsBehind : (E : Type 0) → Form E → Shape → List ℕ → Reading E → Type 0
StandsBehind E form shape fed reading = StandsFor E form shape fed (stream_of form shape fed).entries reading

-- a reader stands behind some bytes
pub record Stood (E : Type 0) (form : Form E) (reading : Reading E) : Type 0 where
  pub fed : List ℕ
  pub stands : StandsBehind E form reading.shape fed reading

-- ---- reading all that is whole

-- nothing refuses the stream behind its records, or this does
abbrev pub RestsBy : {E : Type 0} → Form E → Reading E → Option StreamStop → Reading E → Type 0
RestsBy form old None new = (fed : List ℕ) (taken : List (Placed _)) → Represents _ form fed taken old → EndsOpen _ form fed new
RestsBy form old (Some why) new = (fed : List ℕ) (taken : List (Placed _)) → Represents _ form fed taken old → (more : List ℕ) → stream_of form new.shape (fed ++ more) ≡ refused new.head (taken ++ held form old) why

-- all records were read that were still to be read
pub record ReadsAll {E : Type 0} (form : Form E) (old : Reading E) (why : Option StreamStop) (new : Reading E) : Type 0 where
  pub shape : new.shape ≡ old.shape
  pub head : new.head ≡ old.head
  pub passed : new.passed ≡ old.passed ++ records_text form (held form old)
  pub stands : (fed : List ℕ) (taken : List (Placed E)) → Represents E form fed taken old → Represents E form fed (taken ++ held form old) new
  pub rests : IsRested E form new
  pub by : RestsBy form old why new

-- nothing is wrong with the bytes but where they end; a stream has at most 2^40
pub record GoesOn {E : Type 0} (form : Form E) (shape : Shape) (fed : List ℕ) : Type 0 where
  pub within : length fed ≤ 2 ^ 40
  pub unrefused : IsOpenEnd (fault_of form shape fed)

-- what is known of bytes of which all records were read, where nothing refuses the stream, or where this does
abbrev pub IsJudged : {E : Type 0} → Form E → Shape → List ℕ → Option StreamStop → Type 0
IsJudged form shape fed None = GoesOn form shape fed
IsJudged form shape fed (Some stop) = IsRefused (contents_of form shape) fed stop
