-- Reading all records of a stream that are whole, and what is known of the bytes by it.
use Rattle.std.proofs.Common.{◌≡◌, ℕ, List, [], ◌∷◌, ◌++◌, length, Option, Some, None, sym, ap, ◌∙◌, subst, append_assoc, append-nil}
use Rattle.std.proofs.lemmas.Grind.{flat_map-append}
use Rattle.kt_stream.specs.declared.entry.Placed.{Placed}
use Rattle.kt_stream.specs.declared.kind.Head.{Head}
use Rattle.kt_stream.specs.declared.kind.Shape.{Shape}
use Rattle.kt_stream.specs.declared.stop.StreamStop.{StreamStop}
use Rattle.kt_stream.specs.Reader.{Reading, Represents, Extends, AdvancesOne, AdvancesToRest, AdvancesToStop, IsPlaced, held, refused, rest_end}
use Rattle.kt_stream.specs.Stream.{Form, Stream, End, stream_of, fault_at}
use Rattle.kt_loop.specs.Contents.{Contents, IsOpenEnd, IsRefused}
use Rattle.kt_loop.specs.Reading.{GoesOn, IsJudged, ReadsAll, StandsBehind, StandsFor, Stood}
use Rattle.kt_loop.specs.RecordStreams.{contents_of, records_text}

module _ {E : Type 0} (form : Form E) where
  -- ---- one record after the other

  -- these records were read of those that were still to be read
  pub record HasPassed (old now : Reading E) : Type 0 where
    pub done : List (Placed E)
    pub shape : now.shape ≡ old.shape
    pub head : now.head ≡ old.head
    pub left : held form old ≡ done ++ held form now
    pub passed : now.passed ≡ old.passed ++ records_text form done
    pub stands : (fed : List ℕ) (taken : List (Placed E)) → Represents E form fed taken old → Represents E form fed (taken ++ done) now

  module _ (old now new : Reading E) (had : HasPassed old now) where
    pub passed_one : {Good : Shape → ℕ → E → Type 0} → AdvancesOne E form Good now new → HasPassed old new
    passed_one one =
        let row : List (Placed E) = new.row ∷ [] in
        record {
          done = had.done ++ row;
          shape = one.shape ∙ had.shape;
          head = one.head ∙ had.head;
          left = had.left ∙ ap (λ (later : List (Placed E)). had.done ++ later) one.first ∙ sym (append_assoc had.done row (held form new));
          passed = one.passed ∙ ap (λ (xs : List ℕ). xs ++ form.bytes new.row.entry) had.passed ∙ append_assoc old.passed (records_text form had.done) (form.bytes new.row.entry)
              ∙ ap (λ (xs : List ℕ). old.passed ++ xs) (ap (λ (xs : List ℕ). records_text form had.done ++ xs) (sym (append-nil (form.bytes new.row.entry))) ∙ sym (flat_map-append (λ (placed : Placed E). form.bytes placed.entry) had.done row));
          stands = λ fed taken stands. subst (λ (read : List (Placed E)). Represents E form fed read new) (append_assoc taken had.done row) (one.stands fed (taken ++ had.done) (had.stands fed taken stands));
        }

    -- none is left
    all_done : held form now ≡ [] → had.done ≡ held form old
    all_done none = sym (had.left ∙ ap (λ (later : List (Placed E)). had.done ++ later) none ∙ append-nil had.done)

    pub passed_rest : AdvancesToRest E form now new → ReadsAll form old None new
    passed_rest rest =
        let all = all_done rest.none in
        record {
          shape = rest.shape ∙ had.shape;
          head = rest.head ∙ had.head;
          passed = rest.passed ∙ had.passed ∙ ap (λ (read : List (Placed E)). old.passed ++ records_text form read) all;
          stands = λ fed taken stands. subst (λ (read : List (Placed E)). Represents E form fed (taken ++ read) new) all (rest.stands fed (taken ++ had.done) (had.stands fed taken stands));
          rests = rest.rests;
          by = λ fed taken stands. rest.ends fed (taken ++ had.done) (had.stands fed taken stands);
        }

    pub passed_stop : (why : StreamStop) → AdvancesToStop E form now why new → ReadsAll form old (Some why) new
    passed_stop why ended =
        let all = all_done ended.none in
        record {
          shape = ended.shape ∙ had.shape;
          head = ended.head ∙ had.head;
          passed = ended.passed ∙ had.passed ∙ ap (λ (read : List (Placed E)). old.passed ++ records_text form read) all;
          stands = λ fed taken stands. subst (λ (read : List (Placed E)). Represents E form fed (taken ++ read) new) all (ended.stands fed (taken ++ had.done) (had.stands fed taken stands));
          rests = ended.rests;
          by = λ fed taken stands more. ended.refuses fed (taken ++ had.done) (had.stands fed taken stands) more ∙ ap (λ (read : List (Placed E)). refused new.head (taken ++ read) why) all;
        }

  -- ---- what is known of the bytes

  -- of bytes that end where nothing refuses them, the end alone is wrong
  open_end : (n : ℕ) (head : Option Head) (pending : List ℕ) → IsOpenEnd (fault_at n (rest_end head pending))
  open_end n None pending = tt
  open_end n (Some head) [] = tt
  open_end n (Some head) (byte ∷ pending) = tt

  abbrev contents_as : Stream E → Option StreamStop → Contents Head E
  contents_as stream fault = record { head = stream.head; entries = stream.entries; fault = fault }

  -- the stream is refused so whatever follows, and so is what it holds
  refused_so : (shape : Shape) (fed : List ℕ) (header : Option Head) (taken : List (Placed E)) (stop : StreamStop) → ((more : List ℕ) → stream_of form shape (fed ++ more) ≡ refused header taken stop) → IsRefused (contents_of form shape) fed stop
  refused_so shape fed header taken stop refuses more =
      ap (λ (stream : Stream E). contents_as stream (fault_at (length (fed ++ more)) stream.end)) (refuses more)
      ∙ ap (λ (stream : Stream E). contents_as stream (Some stop)) (sym (refuses []) ∙ ap (stream_of form shape) (append-nil fed))

  module _ (shape : Shape) (fed : List ℕ) (taken : List (Placed E)) (old : Reading E) (stands : StandsFor E form shape fed taken old) where
    -- the reader has the header of the bytes
    pub head_is : old.head ≡ (stream_of form shape fed).head
    head_is = stands.represents.head ∙ ap (λ (told : Shape). (stream_of form told fed).head) stands.told

    -- what was read and what is still to be read is what the bytes hold
    pub records_are : (stream_of form shape fed).entries ≡ taken ++ held form old
    records_are = ap (λ (told : Shape). (stream_of form told fed).entries) (sym stands.told) ∙ sym stands.represents.records

    pub fed_so : (piece : List ℕ) (new : Reading E) → Extends E form old piece new → new.shape ≡ old.shape → StandsFor E form shape (fed ++ piece) taken new
    fed_so piece new extends same = record { told = same ∙ stands.told; represents = extends fed taken stands.represents }

    -- behind all of them
    pub behind_all : (why : Option StreamStop) (new : Reading E) → ReadsAll form old why new → StandsBehind E form shape fed new
    behind_all why new reads = record {
      told = reads.shape ∙ stands.told;
      represents = subst (λ (read : List (Placed E)). Represents E form fed read new) (sym records_are) (reads.stands fed taken stands.represents);
    }

    pub judged_so : (why : Option StreamStop) (new : Reading E) → ReadsAll form old why new → IsJudged form shape fed why
    judged_so None new reads =
        let ends = reads.by fed taken stands.represents in
        let unrefused : IsOpenEnd (fault_at (length fed) (stream_of form new.shape fed).end) = subst (λ (end : End). IsOpenEnd (fault_at (length fed) end)) (sym ends.end) (open_end (length fed) new.head new.pending) in
        subst (λ (told : Shape). GoesOn form told fed) (reads.shape ∙ stands.told) (record { within = ends.within; unrefused = unrefused })
    judged_so (Some stop) new reads = subst (λ (told : Shape). IsRefused (contents_of form told) fed stop) (reads.shape ∙ stands.told) (refused_so new.shape fed new.head (taken ++ held form old) stop (reads.by fed taken stands.represents))

-- a record that was read is one of the streams of the shape that the reader was told
pub placed_on : {E : Type 0} (form : Form E) (Good : Shape → ℕ → E → Type 0) (shape : Shape) (head : Head) (now new : Reading E) (placed : Placed E) → AdvancesOne E form Good now new → now.shape ≡ shape → now.head ≡ Some head → placed ≡ new.row → IsPlaced E form Good shape head placed
placed_on {E} form Good shape head now new placed one told known is =
    subst (λ (row : Placed E). IsPlaced E form Good shape head row) (sym is) (subst (λ (s : Shape). IsPlaced E form Good s head new.row) told (one.fits head known))

-- a reader that stands behind bytes of a shape stands behind them by its own
pub stood_by : {E : Type 0} (form : Form E) (shape : Shape) (reading : Reading E) (fed : List ℕ) → StandsBehind E form shape fed reading → Stood E form reading
stood_by {E} form shape reading fed stands = subst (λ (told : Shape). StandsBehind E form told fed reading → Stood E form reading) stands.told (λ own. record { fed = fed; stands = own }) stands
