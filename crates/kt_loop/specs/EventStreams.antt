-- Streams that hold the records of events one after the other, as bytes.
-- The rules: docs/STREAMS.md, "Records" and "Runs".
use Rattle.std.proofs.Common.{◌≡◌, ℕ, ◌≤◌, List, [], ◌∷◌, ◌++◌, length, Some, None, refl, sym, ap, ◌∙◌, append_assoc, length-append, flat_map, arith}
use Rattle.std.specs.List.{AllByRecursion}
use Rattle.std.proofs.lemmas.Grind.{flat_map-append}
use Rattle.kt_stream.specs.Grammar.{Spells, placed_from, records_bytes, spelled}
use Rattle.kt_stream.specs.Header.{IsHead, header_bytes, header_size}
use Rattle.kt_stream.specs.Stream.{Form, Stream, fault_at, stream_limit, stream_of}
use Rattle.kt_stream.specs.declared.kind.Head.{Head}
use Rattle.kt_stream.specs.declared.kind.Shape.{Shape}
use Rattle.kt_loop.specs.Contents.{Contents}
use Rattle.kt_loop.specs.ListLaws.{IsStretch, all_of_events, all_stretch}
use Rattle.kt_loop.specs.RecordStreams.{contents_of}

-- the bytes of a stream: its header, and the records of these events one after the other
abbrev pub stream_bytes : {E : Type 0} → Form E → Shape → Head → (ℕ → List E) → List ℕ → List ℕ
stream_bytes form shape head of events = header_bytes shape.kind head ++ records_bytes form (flat_map of events)

-- what is written as a stream of this kind is read back
abbrev pub ReadsBack : (E : Type 0) → Form E → (Shape → ℕ → E → Type 0) → Type 0
ReadsBack E form Good = (shape : Shape) (bytes : List ℕ) (head : Head) (entries : List E) → Spells E form Good shape bytes head entries → stream_of form shape bytes ≡ spelled form shape head entries

-- a stream of these events may be: its header and its records are in their ranges, and it is not too long
pub record FitsStream (E : Type 0) (form : Form E) (Good : Shape → ℕ → E → Type 0) (shape : Shape) (head : Head) (of : ℕ → List E) (events : List ℕ) : Type 0 where
  pub in_range : IsHead shape.kind head
  pub each : AllByRecursion (λ (event : ℕ). AllByRecursion (Good shape head.samples) (of event)) events
  pub within : length (stream_bytes form shape head of events) ≤ stream_limit

module _ {E : Type 0} (form : Form E) where
  -- ---- the bytes of records one after the other

  pub bytes_joined : (xs ys : List E) → records_bytes form (xs ++ ys) ≡ records_bytes form xs ++ records_bytes form ys
  unfolding records_bytes
  bytes_joined [] ys = refl
  bytes_joined (x ∷ xs) ys = ap (λ (later : List ℕ). form.bytes x ++ later) (bytes_joined xs ys) ∙ sym (append_assoc (form.bytes x) (records_bytes form xs) (records_bytes form ys))

  -- they are the bytes of each
  pub bytes_flat : (xs : List E) → records_bytes form xs ≡ flat_map form.bytes xs
  unfolding records_bytes
  bytes_flat [] = refl
  bytes_flat (x ∷ xs) = ap (λ (later : List ℕ). form.bytes x ++ later) (bytes_flat xs)

  -- those of all events are what each event gives
  pub bytes_of_events : (of : ℕ → List E) (events : List ℕ) → records_bytes form (flat_map of events) ≡ flat_map (λ (event : ℕ). flat_map form.bytes (of event)) events
  unfolding records_bytes
  bytes_of_events of [] = refl
  bytes_of_events of (event ∷ later) =
      bytes_joined (of event) (flat_map of later)
      ∙ ap (λ (xs : List ℕ). xs ++ records_bytes form (flat_map of later)) (bytes_flat (of event))
      ∙ ap (λ (xs : List ℕ). flat_map form.bytes (of event) ++ xs) (bytes_of_events of later)

  -- a part has no more bytes than the whole
  fewer_bytes : (front part back : List E) → length (records_bytes form part) ≤ length (records_bytes form (front ++ (part ++ back)))
  fewer_bytes front part back =
      let joined = ap length (bytes_joined front (part ++ back) ∙ ap (λ (xs : List ℕ). records_bytes form front ++ xs) (bytes_joined part back)) in
      let outer = length-append (records_bytes form front) (records_bytes form part ++ records_bytes form back) in
      let inner = length-append (records_bytes form part) (records_bytes form back) in
      omega (arith, joined, outer, inner)

  -- ---- what is read of a stream

  abbrev contents_by : ℕ → Stream E → Contents Head E
  contents_by size stream = record { head = stream.head; entries = stream.entries; fault = fault_at size stream.end }

  -- the header and the records with their places, without a fault
  abbrev pub whole_contents : Shape → Head → List E → Contents Head E
  whole_contents shape head entries = record { head = Some head; entries = placed_from form (header_size shape.kind) entries; fault = None }

  pub contents_read : (shape : Shape) (bytes : List ℕ) (head : Head) (entries : List E) → stream_of form shape bytes ≡ spelled form shape head entries → contents_of form shape bytes ≡ whole_contents shape head entries
  contents_read shape bytes head entries is = ap (contents_by (length bytes)) is

  module _ (Good : Shape → ℕ → E → Type 0) (shape : Shape) (head : Head) (of : ℕ → List E) (events : List ℕ) (fits : FitsStream E form Good shape head of events) (part : List ℕ) (stretch : IsStretch part events) where
    events_are : flat_map of events ≡ flat_map of stretch.front ++ (flat_map of part ++ flat_map of stretch.back)
    events_are =
        ap (flat_map of) stretch.is ∙ flat_map-append of stretch.front (part ++ stretch.back) ∙ ap (λ (xs : List E). flat_map of stretch.front ++ xs) (flat_map-append of part stretch.back)

    part_within : length (stream_bytes form shape head of part) ≤ stream_limit
    part_within =
        let fewer = fewer_bytes (flat_map of stretch.front) (flat_map of part) (flat_map of stretch.back) in
        let same = ap (λ (xs : List E). length (records_bytes form xs)) events_are in
        let whole = length-append (header_bytes shape.kind head) (records_bytes form (flat_map of events)) in
        let mine = length-append (header_bytes shape.kind head) (records_bytes form (flat_map of part)) in
        let limit = fits.within in
        omega (arith, fewer, same, whole, mine, limit)

    -- a stretch of the events is a stream where all events are
    pub fits_stretch : FitsStream E form Good shape head of part
    fits_stretch = record {
      in_range = fits.in_range;
      each = all_stretch (λ (event : ℕ). AllByRecursion (Good shape head.samples) (of event)) part events stretch fits.each;
      within = part_within;
    }

    pub spells_stretch : Spells E form Good shape (stream_bytes form shape head of part) head (flat_map of part)
    spells_stretch = record {
      in_range = fits.in_range;
      each = all_of_events (Good shape head.samples) of part fits_stretch.each;
      written = refl;
      within = part_within;
    }

    -- and it is read as such
    pub stretch_is_read : ReadsBack E form Good → contents_of form shape (stream_bytes form shape head of part) ≡ whole_contents shape head (flat_map of part)
    stretch_is_read reads = contents_read shape (stream_bytes form shape head of part) head (flat_map of part) (reads shape (stream_bytes form shape head of part) head (flat_map of part) spells_stretch)
