-- A whole stream: its header, its records with their places, and how it ends.
-- The rules: docs/STREAMS.md, "Readers" and "What is refused".
use Rattle.std.specs.Prelude.{◌≡◌, ℕ, zero, suc, ◌+◌, ◌≤◌, ◌<◌, List, [], ◌∷◌, ◌++◌, length, take, drop, Option, Some, None, nat_le, if◌then◌else◌, slice_index}
use Rattle.kt_stream.specs.declared.entry.Placed.{Placed}
use Rattle.kt_stream.specs.declared.kind.Head.{Head}
use Rattle.kt_stream.specs.declared.kind.Shape.{Shape}
use Rattle.kt_stream.specs.declared.read.HeaderFault.{HeaderFault}
use Rattle.kt_stream.specs.declared.read.Misfit.{Misfit}
use Rattle.kt_stream.specs.declared.read.Read.{Read}
use Rattle.kt_stream.specs.declared.read.Read.TheVariants.{Got, Short, Wrong}
use Rattle.kt_stream.specs.declared.stop.StreamStop.{StreamStop}
use Rattle.kt_stream.specs.declared.stop.StreamStop.TheVariants.{TooLong, Cut}
use Rattle.kt_stream.specs.Header.{header_in, header_size}
use Rattle.kt_stream.specs.Read.{ReadsAs}
use Rattle.kt_stream.specs.Stop.{header_stop, record_stop}

-- How the records of a kind are read and written.
pub record Form (E : Type 0) : Type 0 where
  -- the record at the front of the bytes, by what the reader was told, the number of samples and the byte at which the bytes stand
  pub unit : Shape → ℕ → List ℕ → ℕ → Read E Misfit
  -- the bytes of a record
  pub bytes : E → List ℕ

-- what reading a record into a value comes to: it holds the record and the answer is how many bytes that has, or the record is short or wrong
abbrev pub ReadsInto : {E : Type 0} → Form E → Read E Misfit → E → Read ℕ Misfit → Type 0
ReadsInto form unit new read = ReadsAs (λ e. length (form.bytes e)) unit new read

-- how reading ends: behind a whole record, inside a header or record, or refused
pub data End : Type 0 where
  Whole : End
  Partial : End
  Refused : StreamStop → End

-- the records of one kind of stream from some byte on, and how they end
pub record Walk (E : Type 0) : Type 0 where
  pub entries : List (Placed E)
  pub end : End

-- where the bytes end behind a record there is nothing more
abbrev pub at_border : List ℕ → End
at_border [] = Whole
at_border (b ∷ bytes) = Partial

-- records in front of those after them
abbrev pub with_entries : {E : Type 0} → List (Placed E) → Walk E → Walk E
with_entries front w = record { entries = front ++ w.entries; end = w.end }

-- one record and what comes after it, or how the records end
abbrev pub step : {E : Type 0} → Read E Misfit → List ℕ → ℕ → (E → Walk E) → Walk E
step (Got e) bytes at next = with_entries (record { at = at; entry = e } ∷ []) (next e)
step Short bytes at next = record { entries = []; end = at_border bytes }
step (Wrong m) bytes at next = record { entries = []; end = Refused (record_stop m) }

-- the records of a kind, with what the reader was told and the number of samples, in so many steps at the most
unfoldable pub walk : {E : Type 0} → Form E → Shape → ℕ → ℕ → List ℕ → ℕ → Walk E
walk form shape samples zero bytes at = record { entries = []; end = at_border bytes }
walk form shape samples (suc n) bytes at =
    step (form.unit shape samples bytes at) bytes at (λ e. walk form shape samples n (drop (length (form.bytes e)) bytes) (at + length (form.bytes e)))

-- all records in the bytes, which stand at a byte of the stream: each takes a byte at least
abbrev pub records_in : {E : Type 0} → Form E → Shape → ℕ → List ℕ → ℕ → Walk E
records_in form shape samples bytes at = walk form shape samples (suc (length bytes)) bytes at

-- a stream as it is read
pub record Stream (E : Type 0) : Type 0 where
  pub head : Option Head
  pub entries : List (Placed E)
  pub end : End

-- a header with the records after it
abbrev pub with_head : {E : Type 0} → Head → Walk E → Stream E
with_head h w = record { head = Some h; entries = w.entries; end = w.end }

-- records in front of those of a stream
abbrev pub after : {E : Type 0} → List (Placed E) → Stream E → Stream E
after front s = record { head = s.head; entries = front ++ s.entries; end = s.end }

-- what follows a header that was read, or was short or wrong
abbrev pub headed : {E : Type 0} → Form E → Shape → Read Head HeaderFault → ℕ → List ℕ → Stream E
headed form shape (Got h) start bytes = with_head h (records_in form shape h.samples (drop (header_size shape.kind) bytes) (start + header_size shape.kind))
headed form shape Short start bytes = record { head = None; entries = []; end = Partial }
headed form shape (Wrong fault) start bytes = record { head = None; entries = []; end = Refused (header_stop fault) }

-- what is read from a byte of the stream on, at which the header stands, or what comes behind a header
unfoldable pub reads_on : {E : Type 0} → Form E → Shape → Option Head → ℕ → List ℕ → Stream E
reads_on form shape None start bytes = headed form shape (header_in shape.kind bytes) start bytes
reads_on form shape (Some h) start bytes = with_head h (records_in form shape h.samples bytes start)

-- the most bytes that a stream may have
abbrev pub stream_limit : ℕ
stream_limit = 1099511627776

-- what is not refused before is refused for its length
abbrev pub too_long : End → End
too_long Whole = Refused TooLong
too_long Partial = Refused TooLong
too_long (Refused stop) = Refused stop

-- a stream of which more bytes came than it may have
abbrev pub overlong : {E : Type 0} → Stream E → Stream E
overlong s = record { head = s.head; entries = s.entries; end = too_long s.end }

-- what is read of bytes of which there may be so many
unfoldable pub within_room : {E : Type 0} → ℕ → (List ℕ → Stream E) → List ℕ → Stream E
within_room room read bytes = if nat_le (length bytes) room then read bytes else overlong (read (take room bytes))

-- A stream, by how its records are read and what the reader was told.
abbrev pub stream_of : {E : Type 0} → Form E → Shape → List ℕ → Stream E
stream_of form shape bytes = within_room stream_limit (reads_on form shape None 0) bytes

-- what refuses a stream, whatever bytes follow
abbrev pub refusal : End → Option StreamStop
refusal Whole = None
refusal Partial = None
refusal (Refused stop) = Some stop

-- what refuses a stream that ends here, after so many bytes
abbrev pub fault_at : ℕ → End → Option StreamStop
fault_at bytes Whole = None
fault_at bytes Partial = Some (Cut bytes)
fault_at bytes (Refused stop) = Some stop

-- the first fault of a stream, if it has one
abbrev pub fault_of : {E : Type 0} → Form E → Shape → List ℕ → Option StreamStop
fault_of form shape bytes = fault_at (length bytes) (stream_of form shape bytes).end

-- ---- what a kind of record owes

-- each byte is below 256
abbrev pub AreBytes : List ℕ → Type 0
AreBytes bytes = (place : ℕ) → slice_index bytes place < 256

-- the second reading gives what the first gave, unless that was short
abbrev pub Kept : {A W : Type 0} → Read A W → Read A W → Type 0
Kept (Got x) now = now ≡ Got x
Kept Short now = Unit {0}
Kept (Wrong m) now = now ≡ Wrong m

-- What holds of how the records of a kind are read and written, where `Good` says which records there are with so many samples.
pub record IsLawful (E : Type 0) (form : Form E) (Good : Shape → ℕ → E → Type 0) : Type 0 where
  -- what was read does not change by bytes that follow
  pub steady : (shape : Shape) (samples : ℕ) (bytes more : List ℕ) (at : ℕ) → Kept (form.unit shape samples bytes at) (form.unit shape samples (bytes ++ more) at)
  -- a record that was read has its bytes, and one at least
  pub sized : (shape : Shape) (samples : ℕ) (bytes : List ℕ) (at : ℕ) (e : E) → form.unit shape samples bytes at ≡ Got e → (1 ≤ length (form.bytes e)) × (length (form.bytes e) ≤ length bytes)
  -- where there are no bytes there is no record
  pub nothing : (shape : Shape) (samples at : ℕ) → form.unit shape samples [] at ≡ Short
  -- a record that was read is in its ranges
  pub good : (shape : Shape) (samples : ℕ) (bytes : List ℕ) (at : ℕ) (e : E) → samples ≤ 1000 → form.unit shape samples bytes at ≡ Got e → Good shape samples e
  -- a record in its ranges is read as it was written, at any place and whatever follows it
  pub back : (shape : Shape) (samples : ℕ) (e : E) (rest : List ℕ) (at : ℕ) → samples ≤ 1000 → Good shape samples e → form.unit shape samples (form.bytes e ++ rest) at ≡ Got e
  -- a record that was read is written as it stood in the bytes
  pub written : (shape : Shape) (samples : ℕ) (bytes : List ℕ) (at : ℕ) (e : E) → samples ≤ 1000 → AreBytes bytes → form.unit shape samples bytes at ≡ Got e → bytes ≡ form.bytes e ++ drop (length (form.bytes e)) bytes
