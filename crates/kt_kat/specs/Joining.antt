-- One stream of the streams in several files.
-- The rules: docs/COMMANDS.md, "kat".
use Rattle.std.specs.Prelude.{ℕ, Bool, false, List, [], ◌++◌, Option, Some, None, not, ◌==◌, ◌&&◌, if◌then◌else◌}
use Rattle.kt_stream.specs.declared.entry.Placed.{Placed}
use Rattle.kt_stream.specs.declared.kind.Head.{Head}
use Rattle.kt_stream.specs.declared.kind.Shape.{Shape}
use Rattle.kt_stream.specs.declared.kind.StreamKind.{StreamKind}
use Rattle.kt_stream.specs.declared.stop.StreamStop.{StreamStop}
use Rattle.kt_stream.specs.Header.{header_bytes}
use Rattle.kt_stream.specs.Stream.{Form}
use Rattle.kt_ends.specs.Outcome.{Outcome}
use Rattle.kt_ends.specs.declared.status.Refusal.TheVariants.{File, HeaderDiffers}
use Rattle.kt_ends.specs.declared.status.Status.{Status}
use Rattle.kt_ends.specs.declared.status.Status.TheVariants.{Done, Refused}
use Rattle.kt_loop.specs.Contents.{Contents}
use Rattle.kt_loop.specs.Outcome.{gives}
use Rattle.kt_loop.specs.RecordStreams.{contents_of, records_text}
use Rattle.kt_kat.specs.Files.{file_by_file}

-- two headers are the same
abbrev pub same_head : Head → Head → Bool
same_head one other = (one.samples == other.samples) && (one.set == other.set)

-- a header differs from that of the first file
abbrev pub differs : Option Head → Head → Bool
differs None head = false
differs (Some first) head = not (same_head first head)

-- the header is written once
abbrev pub heading_of : StreamKind → Option Head → Head → List ℕ
heading_of kind None head = header_bytes kind head
heading_of kind (Some first) head = []

-- the status of the file of this number, by the first fault of its stream, if any
abbrev pub file_status : ℕ → Option StreamStop → Status
file_status number None = Done
file_status number (Some stop) = Refused (File number stop)

-- what a file gives that has this header: it is refused where the header differs from that of the files before, else there are its records
abbrev pub joined_from : {E : Type 0} → Form E → StreamKind → Option Head → ℕ → Head → List (Placed E) → Option StreamStop → Outcome
joined_from form kind first number head entries fault =
    if differs first head then gives (Refused (HeaderDiffers number)) []
    else gives (file_status number fault) (heading_of kind first head ++ records_text form entries)

abbrev pub joined_by : {E : Type 0} → Form E → StreamKind → Option Head → ℕ → Option Head → List (Placed E) → Option StreamStop → Outcome
joined_by form kind first number None entries fault = gives (file_status number fault) []
joined_by form kind first number (Some head) entries fault = joined_from form kind first number head entries fault

-- what a file of this number gives that holds this, behind files with this header, if there were any
abbrev pub joined : {E : Type 0} → Form E → StreamKind → Option Head → ℕ → Contents Head E → Outcome
joined form kind first number contents = joined_by form kind first number contents.head contents.entries contents.fault

-- the header of the first file, once it was read
abbrev pub or_head : Option Head → Option Head → Option Head
or_head None head = head
or_head (Some first) head = Some first

-- one stream of the streams in these files, of the kind and with the most bins that the shape says
abbrev pub joined_files : {E : Type 0} → Form E → Shape → List (List ℕ) → Outcome
joined_files form shape files =
    file_by_file (λ first number bytes. joined form shape.kind first number (contents_of form shape bytes)) (λ first bytes. or_head first (contents_of form shape bytes).head) None 1 files
