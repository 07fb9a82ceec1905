-- Files that are streams of one kind with one header are joined to the one stream of all their records: lemmas.
-- The rules: docs/COMMANDS.md, "kat".
use Rattle.std.proofs.Common.{◌≡◌, ◌≤◌, ℕ, ◌+◌, Bool, true, ◌&&◌, not, List, [], ◌∷◌, ◌++◌, length, map, Option, None, Some, Result, Ok, Err, refl, sym, ap, ap₂, ◌∙◌, append_assoc, flat_map, if◌then◌else◌, eq-eqb, le-leb, arith}
use Rattle.kt_out.specs.NamedFiles.{FileMap}
use Rattle.kt_stream.specs.Bins.{cdf_form, cdf_shape}
use Rattle.kt_stream.specs.Grammar.{placed_from, records_bytes}
use Rattle.kt_stream.specs.Header.{header_bytes, header_size}
use Rattle.kt_stream.specs.Losses.{loss_form, loss_shape}
use Rattle.kt_stream.specs.Stream.{Form}
use Rattle.kt_stream.specs.Summary.{summary_form, summary_shape}
use Rattle.kt_stream.specs.declared.kind.Head.{Head}
use Rattle.kt_stream.specs.declared.kind.Shape.{Shape}
use Rattle.kt_stream.specs.declared.kind.StreamKind.TheVariants.{Gul, Loss}
use Rattle.kt_ends.specs.Outcome.{Outcome}
use Rattle.kt_ends.specs.declared.status.Refusal.{Refusal}
use Rattle.kt_ends.specs.declared.status.Refusal.TheVariants.{HeaderDiffers, TooLarge}
use Rattle.kt_ends.specs.declared.status.Status.TheVariants.{Done, Refused}
use Rattle.kt_loop.specs.Contents.{Contents}
use Rattle.kt_loop.specs.EventStreams.{ReadsBack, bytes_joined, contents_read, whole_contents}
use Rattle.kt_loop.specs.Outcome.{gives}
use Rattle.kt_loop.specs.RecordStreams.{contents_of, records_text}
use Rattle.kt_kat.specs.FileKinds.{kind_of_files}
use Rattle.kt_kat.specs.Files.{and_files, file_by_file, file_limit, files_of, found_file, one_then}
use Rattle.kt_kat.specs.Joining.{joined, joined_files, or_head, same_head}
use Rattle.kt_kat.specs.Outcome.{by_files, kat_outcome, together}
use Rattle.kt_kat.specs.StreamFiles.{AreStreamFiles, IsStreamFile}

-- the bytes of the stream of this header and these records
abbrev pub stream_text : {E : Type 0} → Form E → Shape → Head → List E → List ℕ
stream_text form shape head entries = header_bytes shape.kind head ++ records_bytes form entries

-- ---- the files are found

file_found : (name bytes : List ℕ) → length bytes ≤ file_limit → found_file name (Some bytes) ≡ Ok bytes
file_found name bytes within = ap (λ (few : Bool). if few then Ok bytes else Err (TooLarge name)) (le-leb (length bytes) file_limit within)

module _ {E : Type 0} (form : Form E) (Good : Shape → ℕ → E → Type 0) (shape : Shape) (head : Head) where
  one_found : (name : List ℕ) (held : Option (List ℕ)) (entries : List E) → IsStreamFile E form Good shape head held entries → found_file name held ≡ Ok (stream_text form shape head entries)
  one_found name held entries is = ap (found_file name) is.found ∙ file_found name is.bytes is.within ∙ ap (λ (bytes : List ℕ). Ok bytes) is.spells.written

  -- the bytes of all streams
  abbrev pub stream_texts : List (List E) → List (List ℕ)
  stream_texts streams = map (stream_text form shape head) streams

  pub streams_found : (files : FileMap) (names : List (List ℕ)) (streams : List (List E)) → AreStreamFiles E form Good shape head files names streams → files_of names files ≡ Ok (stream_texts streams)
  streams_found files [] [] are = refl
  streams_found files [] (entries ∷ streams) are = absurd are
  streams_found files (name ∷ names) [] are = absurd are
  streams_found files (name ∷ names) (entries ∷ streams) are = ap₂ (λ (one : Result (List ℕ) Refusal) (more : Result (List (List ℕ)) Refusal). and_files one more) (one_found name (files name) entries are.0) (streams_found files names streams are.1)

  -- ---- what each gives

  -- each of the streams is read as its header and its records
  abbrev AreRead : List (List E) → Type 0
  AreRead [] = Unit {0}
  AreRead (entries ∷ streams) = (contents_of form shape (stream_text form shape head entries) ≡ whole_contents form shape head entries) × AreRead streams

  are_read : ReadsBack E form Good → (files : FileMap) (names : List (List ℕ)) (streams : List (List E)) → AreStreamFiles E form Good shape head files names streams → AreRead streams
  are_read reads files [] [] are = tt
  are_read reads files [] (entries ∷ streams) are = absurd are
  are_read reads files (name ∷ names) [] are = absurd are
  are_read reads files (name ∷ names) (entries ∷ streams) are = (one_read entries are.0, are_read reads files names streams are.1)
    where
      one_read : (one : List E) → IsStreamFile E form Good shape head (files name) one → contents_of form shape (stream_text form shape head one) ≡ whole_contents form shape head one
      one_read one is = ap (contents_of form shape) (sym is.spells.written) ∙ contents_read form shape is.bytes head one (reads shape is.bytes head one is.spells)

  text_placed : (at : ℕ) (entries : List E) → records_text form (placed_from form at entries) ≡ records_bytes form entries
  unfolding records_bytes
  text_placed at [] = refl
  text_placed at (entry ∷ entries) = ap (λ (later : List ℕ). form.bytes entry ++ later) (text_placed (at + length (form.bytes entry)) entries)

  head_same : same_head head head ≡ true
  head_same = ap₂ (λ (a b : Bool). a && b) (eq-eqb head.samples head.samples refl) (eq-eqb head.set head.set refl)

  -- the first stream gives its header and its records
  first_gives : (number : ℕ) (entries : List E) → joined form shape.kind None number (whole_contents form shape head entries) ≡ gives Done (stream_text form shape head entries)
  first_gives number entries = ap (λ (text : List ℕ). gives Done (header_bytes shape.kind head ++ text)) (text_placed (header_size shape.kind) entries)

  -- a later one its records alone
  later_gives : (number : ℕ) (entries : List E) → joined form shape.kind (Some head) number (whole_contents form shape head entries) ≡ gives Done (records_bytes form entries)
  later_gives number entries =
      ap (λ (same : Bool). if not same then gives (Refused (HeaderDiffers number)) [] else gives Done (records_text form (placed_from form (header_size shape.kind) entries))) head_same
      ∙ ap (gives Done) (text_placed (header_size shape.kind) entries)

  -- ---- what all give

  abbrev file_gives : Option Head → ℕ → List ℕ → Outcome
  file_gives first number bytes = joined form shape.kind first number (contents_of form shape bytes)

  abbrev head_behind : Option Head → List ℕ → Option Head
  head_behind first bytes = or_head first (contents_of form shape bytes).head

  later_join : (number : ℕ) (streams : List (List E)) → AreRead streams → file_by_file file_gives head_behind (Some head) number (stream_texts streams) ≡ gives Done (records_bytes form (flat_map (λ (entries : List E). entries) streams))
  unfolding records_bytes
  later_join number [] are = refl
  later_join number (entries ∷ streams) are =
      ap₂ one_then
      (ap (joined form shape.kind (Some head) number) are.0 ∙ later_gives number entries)
      (later_join (number + 1) streams are.1)
      ∙ ap (gives Done) (sym (bytes_joined form entries (flat_map (λ (entries : List E). entries) streams)))

  pub streams_join : (entries : List E) (streams : List (List E)) → AreRead (entries ∷ streams) → joined_files form shape (stream_texts (entries ∷ streams)) ≡ gives Done (stream_text form shape head (flat_map (λ (entries : List E). entries) (entries ∷ streams)))
  streams_join entries streams are =
      ap₂ one_then
      (ap (joined form shape.kind None 1) are.0 ∙ first_gives 1 entries)
      (ap (λ (first : Option Head). file_by_file file_gives head_behind first 2 (stream_texts streams)) (ap (λ (contents : Contents Head E). contents.head) are.0) ∙ later_join 2 streams are.1)
      ∙ ap (gives Done)
      (append_assoc (header_bytes shape.kind head) (records_bytes form entries) (records_bytes form (flat_map (λ (entries : List E). entries) streams))
      ∙ ap (λ (text : List ℕ). header_bytes shape.kind head ++ text) (sym (bytes_joined form entries (flat_map (λ (entries : List E). entries) streams))))

-- ---- what `kat` gives

-- the files of streams of one kind with one header are one stream, where `kat` joins what begins so as streams of that kind
abbrev pub JoinsAs : {E : Type 0} → Form E → Shape → Head → Type 0
JoinsAs {E} form shape head = (entries : List E) (files : List (List ℕ)) → together (kind_of_files (stream_text form shape head entries ∷ files)) (stream_text form shape head entries ∷ files) ≡ joined_files form shape (stream_text form shape head entries ∷ files)

-- `kat` makes of files of these streams the one stream of all their records
abbrev pub KatJoins : (E : Type 0) → Form E → (Shape → ℕ → E → Type 0) → Shape → Head → Type 0
KatJoins E form Good shape head = (files : FileMap) (names : List (List ℕ)) (streams : List (List E)) → 1 ≤ length streams → AreStreamFiles E form Good shape head files names streams
    → kat_outcome names files ≡ gives Done (stream_text form shape head (flat_map (λ (entries : List E). entries) streams))

pub kat_joins : {E : Type 0} (form : Form E) (Good : Shape → ℕ → E → Type 0) (shape : Shape) (head : Head) → ReadsBack E form Good → JoinsAs form shape head → KatJoins E form Good shape head
kat_joins form Good shape head reads joins files names [] some are = absurd (omega (arith, some))
kat_joins form Good shape head reads joins files names (entries ∷ streams) some are =
    ap by_files (streams_found form Good shape head files names (entries ∷ streams) are)
    ∙ joins entries (stream_texts form Good shape head streams)
    ∙ streams_join form Good shape head entries streams (are_read form Good shape head reads files names (entries ∷ streams) are)

-- by the first byte of each kind
pub cdfs_join : (head : Head) → JoinsAs cdf_form (cdf_shape 1000) head
cdfs_join head entries files = refl

pub ground_up_joins : (head : Head) → JoinsAs loss_form (loss_shape Gul) head
ground_up_joins head entries files = refl

pub losses_join : (head : Head) → JoinsAs loss_form (loss_shape Loss) head
losses_join head entries files = refl

pub summaries_join : (head : Head) → JoinsAs summary_form summary_shape head
summaries_join head entries files = refl
