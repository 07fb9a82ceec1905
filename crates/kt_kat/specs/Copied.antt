-- What is written of a file that is a stream, piece by piece, and how far it came.
-- The rules: docs/COMMANDS.md, "kat".
use Rattle.std.specs.Prelude.{◌≡◌, ℕ, Bool, true, false, List, [], ◌++◌, Option, Some, None, IfSome, Result, Ok, Err}
use Rattle.kt_out.specs.Writing.{SinkState, WritesBytes, FailsWithin, EndsWithin}
use Rattle.kt_stream.specs.declared.entry.Placed.{Placed}
use Rattle.kt_stream.specs.declared.kind.Head.{Head}
use Rattle.kt_stream.specs.declared.kind.Shape.{Shape}
use Rattle.kt_stream.specs.declared.kind.StreamKind.{StreamKind}
use Rattle.kt_stream.specs.declared.stop.StreamStop.{StreamStop}
use Rattle.kt_stream.specs.Reader.{Reading, Represents, held}
use Rattle.kt_stream.specs.Stream.{Form, stream_of}
use Rattle.kt_ends.specs.Stops.{stop_status}
use Rattle.kt_ends.specs.declared.status.Refusal.{Refusal}
use Rattle.kt_ends.specs.declared.status.Refusal.TheVariants.{File, HeaderDiffers}
use Rattle.kt_ends.specs.declared.tool_stop.ToolStop.{ToolStop}
use Rattle.kt_ends.specs.declared.tool_stop.ToolStop.TheVariants as stop
use Rattle.kt_loop.specs.Reading.{ReadsAll}
use Rattle.kt_loop.specs.RecordStreams.{contents_of, records_text}
use Rattle.kt_loop.specs.Settling.{IsEnd}
use Rattle.kt_kat.specs.Joining.{differs, heading_of, joined}

-- what is written of a file with these records: its header where it is the first, and the records
abbrev pub copied_text : {E : Type 0} → Form E → StreamKind → Option Head → Option Head → List (Placed E) → List ℕ
copied_text form kind first None entries = []
copied_text form kind first (Some head) entries = heading_of kind first head ++ records_text form entries

-- the header is that of the files before, if there are any
abbrev pub Agrees : Option Head → Option Head → Type 0
Agrees first None = Unit {0}
Agrees first (Some head) = differs first head ≡ false

-- the sink has taken this text behind what it had, where that is known
abbrev pub HasGained : Option (List ℕ) → Option (List ℕ) → List ℕ → Type 0
HasGained before now text = IfSome before (λ taken. now ≡ Some (taken ++ text))

-- the reader was given these bytes of a file, it read all records of them, and what they give is written
pub record IsCopied {E : Type 0} (form : Form E) (shape : Shape) (first : Option Head) (fed : List ℕ) (reading : Reading E) (before now : Option (List ℕ)) : Type 0 where
  pub told : reading.shape ≡ shape
  pub stands : Represents E form fed (stream_of form shape fed).entries reading
  pub agrees : Agrees first (stream_of form shape fed).head
  pub written : HasGained before now (copied_text form shape.kind first (stream_of form shape fed).head (stream_of form shape fed).entries)

-- whatever bytes follow these in the file of this number, what it gives ends so
abbrev pub StopsIn : {E : Type 0} → Form E → Shape → Option Head → ℕ → List ℕ → Option (List ℕ) → Option (List ℕ) → ToolStop → Type 0
StopsIn form shape first number fed before now why = (more : List ℕ) → IsEnd (joined form shape.kind first number (contents_of form shape (fed ++ more))) before now (stop_status why)

-- what a piece that comes behind others comes to
abbrev pub Copies : {E T : Type 0} → Form E → Shape → Option Head → ℕ → List ℕ → Reading E → Option (List ℕ) → Option (List ℕ) → Result T ToolStop → Type 0
Copies form shape first number fed new before now (Ok done) = IsCopied form shape first fed new before now
Copies form shape first number fed new before now (Err why) = StopsIn form shape first number fed before now why

-- ---- the steps of a piece

-- a text is written, or some front of it
abbrev pub Written : {T : Type 0} → SinkState → SinkState → List ℕ → Result T ToolStop → Type 0
Written before after text (Ok done) = WritesBytes before after text
Written before after text (Err (stop.Refused why)) = ⊥
Written before after text (Err stop.ReadFault) = ⊥
Written before after text (Err stop.WriteFault) = FailsWithin before after text
Written before after text (Err stop.NoMemory) = EndsWithin before after text

-- a header is written where it is that of the first file, and refused where it is another
abbrev pub Opens : {T : Type 0} → StreamKind → Option Head → ℕ → Head → SinkState → SinkState → Result T ToolStop → Type 0
Opens kind first number head before after (Err (stop.Refused why)) = (differs first head ≡ true) × (why ≡ HeaderDiffers number) × (after ≡ before)
Opens kind first number head before after end = (differs first head ≡ false) × Written before after (heading_of kind first head) end

-- the same where the header is whole now and was not before; else nothing is done
abbrev pub OpensFile : {T : Type 0} → StreamKind → Option Head → ℕ → Bool → Option Head → SinkState → SinkState → Result T ToolStop → Type 0
OpensFile kind first number false (Some head) before after end = Opens kind first number head before after end
OpensFile kind first number was head before after (Ok done) = after ≡ before
OpensFile kind first number was head before after (Err why) = ⊥

-- the stream is refused behind its records, which are written
pub record StopsBehind {E : Type 0} (form : Form E) (number : ℕ) (old : Reading E) (before after : SinkState) (refusal : Refusal) (new : Reading E) : Type 0 where
  pub why : StreamStop
  pub refusal-is : refusal ≡ File number why
  pub reads : ReadsAll form old (Some why) new
  pub written : WritesBytes before after (records_text form (held form old))

-- all records that are still to be read are read and written, and what refuses the stream behind them refuses the file
abbrev pub CopiesRecords : {E T : Type 0} → Form E → ℕ → Reading E → SinkState → SinkState → Reading E → Result T ToolStop → Type 0
CopiesRecords form number old before after new (Ok done) = ReadsAll form old None new × WritesBytes before after (records_text form (held form old))
CopiesRecords form number old before after new (Err (stop.Refused refusal)) = StopsBehind form number old before after refusal new
CopiesRecords form number old before after new end = Written before after (records_text form (held form old)) end
