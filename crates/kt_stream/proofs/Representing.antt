-- A reader stands for the bytes that it was given, piece by piece.
use Rattle.std.proofs.Common.{◌≡◌, ℕ, ◌+◌, ◌-◌, ◌≤◌, List, [], ◌++◌, length, take, drop, Option, Some, None, refl, sym, ap, ◌∙◌, append_assoc, arith, inl, inr}
use Rattle.std.specs.Prelude.{IfSome}
use Rattle.std.proofs.lemmas.Bool.{cases_lt}
use Rattle.std.proofs.lemmas.List.{length-append, length-drop, append-nil, drop-append-le, take_all}
use Rattle.std.proofs.Math.Seq.{take-add}
use Rattle.kt_stream.specs.declared.entry.Placed.{Placed}
use Rattle.kt_stream.specs.declared.kind.Head.{Head}
use Rattle.kt_stream.specs.declared.kind.Shape.{Shape}
use Rattle.kt_stream.specs.declared.kind.StreamKind.{StreamKind}
use Rattle.kt_stream.specs.declared.kind.StreamKind.TheVariants.{Cdf, Events}
use Rattle.kt_stream.specs.declared.read.HeaderFault.{HeaderFault}
use Rattle.kt_stream.specs.declared.read.Read.TheVariants.{Got, Short, Wrong}
use Rattle.kt_stream.specs.declared.stop.StreamStop.{StreamStop}
use Rattle.kt_stream.specs.Header.{IsHead, first_head, header_in, header_size}
use Rattle.kt_stream.specs.Stop.{header_stop}
use Rattle.kt_stream.specs.Stream.{Form, Stream, Walk, Whole, walk, records_in, after, reads_on, overlong, within_room, stream_of, stream_limit}
use Rattle.kt_stream.specs.Reader.{Reading, refused, goes_on, stream_from, held, rest_end, IsAt, Represents, IsDry, WaitsBy, Extends, IsFilled, piece_in}
use Rattle.kt_stream.proofs.Cases.{kept_got, kept_wrong}
use Rattle.kt_stream.proofs.Heading.{header_kept, header_got}
use Rattle.kt_stream.proofs.Room.{room_within, room_beyond, room_length, room_steps, room_stops}

-- a reader that goes on
abbrev pub running : {E : Type 0} → Shape → Option Head → Placed E → List ℕ → ℕ → List ℕ → Reading E
running shape head row passed start pending = record { shape = shape; head = head; row = row; passed = passed; stop = None; start = start; pending = pending }

-- a reader that was stopped
abbrev pub stopped : {E : Type 0} → Shape → Option Head → Placed E → List ℕ → StreamStop → ℕ → List ℕ → Reading E
stopped shape head row passed stop start pending = record { shape = shape; head = head; row = row; passed = passed; stop = Some stop; start = start; pending = pending }

-- records in front of others in front of a stream
pub after_after : {E : Type 0} (front back : List (Placed E)) (s : Stream E) → after front (after back s) ≡ after (front ++ back) s
after_after {E} front back s = ap (λ (es : List (Placed E)). record { head = s.head; entries = es; end = s.end }) (sym (append_assoc front back s.entries))

-- ---- what a reader holds

-- what is read from where a reader stands has its header, and the records that it holds
pub record Faces (E : Type 0) (form : Form E) (r : Reading E) : Type 0 where
  pub head : (stream_from form r []).head ≡ r.head
  pub records : (stream_from form r []).entries ≡ held form r

headed_goes : {E : Type 0} (form : Form E) (shape : Shape) (h : Head) (start room : ℕ) (bytes : List ℕ) → (within_room room (reads_on form shape (Some h) start) bytes).head ≡ Some h
unfolding within_room reads_on
headed_goes form shape h start room bytes = elim (cases_lt room (length bytes)) [
  | inl beyond ↦ rw (room_beyond room (reads_on form shape (Some h) start) bytes beyond) refl
  | inr fits ↦ rw (room_within room (reads_on form shape (Some h) start) bytes fits) refl
]

-- a stream without a header and records
record IsBare {E : Type 0} (s : Stream E) : Type 0 where
  pub head : s.head ≡ None
  pub records : s.entries ≡ []

waits_bare : {E : Type 0} (form : Form E) (shape : Shape) (start : ℕ) (bytes : List ℕ) → header_in shape.kind bytes ≡ Short → IsBare (reads_on form shape None start bytes)
unfolding reads_on
waits_bare form shape start bytes is = rw is (record { head = refl; records = refl })

overlong_bare : {E : Type 0} (s : Stream E) → IsBare s → IsBare (overlong s)
overlong_bare s bare = record { head = bare.head; records = bare.records }

goes_bare : {E : Type 0} (form : Form E) (shape : Shape) (start room : ℕ) (bytes : List ℕ) → header_in shape.kind (take room bytes) ≡ Short → IsBare (within_room room (reads_on form shape None start) bytes)
goes_bare form shape start room bytes is = elim (cases_lt room (length bytes)) [
  | inl beyond ↦ rw (room_beyond room (reads_on form shape None start) bytes beyond) (overlong_bare (reads_on form shape None start (take room bytes)) (waits_bare form shape start (take room bytes) is))
  | inr fits ↦ rw (room_within room (reads_on form shape None start) bytes fits) (waits_bare form shape start bytes (rw (take_all room bytes fits) at is))
]

pub faces : {E : Type 0} (form : Form E) (shape : Shape) (head : Option Head) (row : Placed E) (passed : List ℕ) (stop : Option StreamStop) (start : ℕ) (pending : List ℕ) → WaitsBy stop head shape start pending
    → Faces E form (record { shape = shape; head = head; row = row; passed = passed; stop = stop; start = start; pending = pending })
faces form shape head row passed (Some stop) start pending waits = record { head = refl; records = refl }
faces form shape (Some h) row passed None start pending waits = record { head = headed_goes form shape h start (stream_limit - start) (pending ++ []); records = refl }
faces form shape None row passed None start pending waits =
    let bare = goes_bare form shape start (stream_limit - start) (pending ++ []) (rw (append-nil pending) waits) in
    record { head = bare.head; records = bare.records }

-- ---- a piece

-- the reader stands for the bytes with the piece behind them
pub extends_by : {E : Type 0} (form : Form E) (old : Reading E) (piece : List ℕ) (new : Reading E) → new.shape ≡ old.shape → ((more : List ℕ) → stream_from form old (piece ++ more) ≡ stream_from form new more) → Faces E form new
    → ((n : ℕ) → IsAt old.stop (old.start + length old.pending) n → IsAt new.stop (new.start + length new.pending) (n + length piece)) → Extends E form old piece new
extends_by {E} form old piece new shape onward faced place = λ bytes taken rep.
    let goes : (more : List ℕ) → stream_of form new.shape ((bytes ++ piece) ++ more) ≡ after taken (stream_from form new more) = λ more.
    ap (λ (s : Shape). stream_of form s ((bytes ++ piece) ++ more)) shape ∙ ap (stream_of form old.shape) (append_assoc bytes piece more) ∙ rep.onward (piece ++ more) ∙ ap (after taken) (onward more) in
    let now : stream_of form new.shape (bytes ++ piece) ≡ after taken (stream_from form new []) = ap (stream_of form new.shape) (sym (append-nil (bytes ++ piece))) ∙ goes [] in
    record {
      head = sym (ap (λ (s : Stream E). s.head) now ∙ faced.head);
      records = ap (λ (es : List (Placed E)). taken ++ es) (sym faced.records) ∙ sym (ap (λ (s : Stream E). s.entries) now);
      onward = goes;
      place = rw (length-append bytes piece) (place (length bytes) rep.place);
    }

-- what is pending and the piece behind it, in a block
pub filled_is : (pending block : List ℕ) (upto : ℕ) → IsFilled pending block upto → take upto block ≡ pending ++ piece_in pending block upto
filled_is pending block upto filled =
    let size = length pending in
    let parts : upto ≡ size + (upto - size) = omega (arith, filled.behind) in
    ap (λ (n : ℕ). take n block) parts ∙ take-add size (upto - size) block ∙ ap (λ (xs : List ℕ). xs ++ take (upto - size) (drop size block)) filled.front

longer : (start : ℕ) (pending piece now : List ℕ) → now ≡ pending ++ piece → (n : ℕ) → start + length pending ≡ n → start + length now ≡ n + length piece
longer start pending piece now is n at-place = omega (arith, ap length is, length-append pending piece, at-place)

joined : (pending piece now more : List ℕ) → now ≡ pending ++ piece → pending ++ (piece ++ more) ≡ now ++ more
joined pending piece now more is = sym (append_assoc pending piece more) ∙ ap (λ (xs : List ℕ). xs ++ more) (sym is)

-- the piece stands behind what is pending
pub joined_extends : {E : Type 0} (form : Form E) (shape : Shape) (head : Option Head) (row : Placed E) (before passed : List ℕ) (start : ℕ) (pending piece now : List ℕ) → now ≡ pending ++ piece → WaitsBy None head shape start now
    → Extends E form (running shape head row before start pending) piece (running shape head row passed start now)
joined_extends form shape head row before passed start pending piece now is waits =
    extends_by form (running shape head row before start pending) piece (running shape head row passed start now) refl
    (λ more. ap (goes_on form shape head start) (joined pending piece now more is)) (faces form shape head row passed None start now waits) (longer start pending piece now is)

header_on : {E : Type 0} (form : Form E) (shape : Shape) (h : Head) (start : ℕ) (bytes more : List ℕ) → header_in shape.kind bytes ≡ Got h
    → reads_on form shape None start (bytes ++ more) ≡ after [] (reads_on form shape (Some h) (start + header_size shape.kind) (drop (header_size shape.kind) bytes ++ more))
unfolding reads_on
header_on form shape h start bytes more is =
    rw (kept_got (header_in shape.kind bytes) _ h is (header_kept shape.kind bytes more), drop-append-le (header_size shape.kind) bytes more (header_got shape.kind bytes h is).long) refl

-- a header that was read
pub record Opens (kind : StreamKind) (h : Head) (start : ℕ) (bytes : List ℕ) : Type 0 where
  pub good : IsHead kind h
  pub long : header_size kind ≤ length bytes
  pub within : start + header_size kind ≤ stream_limit

pub header_opens : (kind : StreamKind) (h : Head) (start : ℕ) (bytes : List ℕ) → start ≤ stream_limit → header_in kind (take (stream_limit - start) bytes) ≡ Got h → Opens kind h start bytes
header_opens kind h start bytes some is =
    let read = header_got kind (take (stream_limit - start) bytes) h is in
    let room = room_length (stream_limit - start) bytes in
    record { good = read.good; long = omega (arith, read.long, room.1); within = omega (arith, read.long, room.0) }

-- the header is whole now
pub header_extends : {E : Type 0} (form : Form E) (shape : Shape) (h : Head) (row : Placed E) (before passed : List ℕ) (start : ℕ) (pending piece now : List ℕ) → now ≡ pending ++ piece → start ≤ stream_limit → header_in shape.kind (take (stream_limit - start) now) ≡ Got h
    → Extends E form (running shape None row before start pending) piece (running shape (Some h) row passed (start + header_size shape.kind) (drop (header_size shape.kind) now))
header_extends {E} form shape h row before passed start pending piece now now-is some is =
    let size = header_size shape.kind in
    let room = stream_limit - start in
    let opens = header_opens shape.kind h start now some is in
    let left : room - size ≡ stream_limit - (start + size) = omega arith in
    extends_by form (running shape None row before start pending) piece (running shape (Some h) row passed (start + size) (drop size now)) refl
    (λ more.
    ap (goes_on form shape None start) (joined pending piece now more now-is)
    ∙ room_steps room size (reads_on form shape None start) (reads_on form shape (Some h) (start + size)) now [] more (header_got shape.kind (take room now) h is).long (λ more. header_on form shape h start (take room now) more is)
    ∙ ap (λ (n : ℕ). within_room n (reads_on form shape (Some h) (start + size)) (drop size now ++ more)) left)
    (faces form shape (Some h) row passed None (start + size) (drop size now) tt)
    (λ n at-place. omega (arith, length-drop size now, opens.long, longer start pending piece now now-is n at-place))

header_ends : {E : Type 0} (form : Form E) (shape : Shape) (fault : HeaderFault) (start : ℕ) (bytes more : List ℕ) → header_in shape.kind bytes ≡ Wrong fault → reads_on form shape None start (bytes ++ more) ≡ refused None [] (header_stop fault)
unfolding reads_on
header_ends form shape fault start bytes more is = rw (kept_wrong (header_in shape.kind bytes) _ fault is (header_kept shape.kind bytes more)) refl

-- the header is wrong
pub wrong_extends : {E : Type 0} (form : Form E) (shape : Shape) (fault : HeaderFault) (row : Placed E) (before passed : List ℕ) (start : ℕ) (pending piece now : List ℕ) → now ≡ pending ++ piece → header_in shape.kind (take (stream_limit - start) now) ≡ Wrong fault
    → Extends E form (running shape None row before start pending) piece (stopped shape None row passed (header_stop fault) start now)
wrong_extends form shape fault row before passed start pending piece now now-is is =
    let room = stream_limit - start in
    extends_by form (running shape None row before start pending) piece (stopped shape None row passed (header_stop fault) start now) refl
    (λ more.
    ap (goes_on form shape None start) (joined pending piece now more now-is)
    ∙ room_stops room (reads_on form shape None start) now more None [] (header_stop fault) (λ more. header_ends form shape fault start (take room now) more is))
    (faces form shape None row passed (Some (header_stop fault)) start now tt) (λ n at-place. tt)

-- ---- before the first byte

first_onward : {E : Type 0} (form : Form E) (kind : StreamKind) (bins : ℕ) (more : List ℕ) → stream_of form (record { kind = kind; bins = bins }) more ≡ goes_on form (record { kind = kind; bins = bins }) (first_head kind) 0 more
unfolding within_room reads_on
first_onward form Cdf bins more = refl
first_onward form kind bins more = refl

-- what is pending is too short for a header, where there is one to be read
first_waits : (kind : StreamKind) (bins : ℕ) → WaitsBy None (first_head kind) (record { kind = kind; bins = bins }) 0 []
first_waits Events bins = tt
first_waits kind bins = refl

-- no record stands in no bytes
no_record : {E : Type 0} (form : Form E) (shape : Shape) → form.unit shape 0 [] 0 ≡ Short → records_in form shape 0 [] 0 ≡ record { entries = []; end = Whole }
unfolding walk
no_record form shape short = rw short refl

first_rests : {E : Type 0} (form : Form E) (kind : StreamKind) (bins : ℕ) → ((shape : Shape) (samples at : ℕ) → form.unit shape samples [] at ≡ Short)
    → reads_on form (record { kind = kind; bins = bins }) (first_head kind) 0 [] ≡ record { head = first_head kind; entries = []; end = rest_end (first_head kind) [] }
unfolding reads_on
first_rests {E} form Events bins nothing = ap (λ (w : Walk E). record { head = first_head Events; entries = w.entries; end = w.end }) (no_record form (record { kind = Events; bins = bins }) (nothing (record { kind = Events; bins = bins }) 0 0))
first_rests form kind bins nothing = refl

-- a reader that was given nothing
pub fresh : {E : Type 0} (form : Form E) (shape : Shape) (row : Placed E) (passed : List ℕ) → Represents E form [] [] (running shape (first_head shape.kind) row passed 0 [])
fresh {E} form shape row passed =
    let faced = faces form shape (first_head shape.kind) row passed None 0 [] (first_waits shape.kind shape.bins) in
    let now : stream_of form shape [] ≡ goes_on form shape (first_head shape.kind) 0 [] = first_onward form shape.kind shape.bins [] in
    record {
      head = sym (ap (λ (s : Stream E). s.head) now ∙ faced.head);
      records = sym (ap (λ (s : Stream E). s.entries) now ∙ faced.records);
      onward = λ more. first_onward form shape.kind shape.bins more;
      place = refl;
    }

-- it holds no record
pub fresh_dry : {E : Type 0} (form : Form E) (shape : Shape) (row : Placed E) (passed : List ℕ) → ((shape : Shape) (samples at : ℕ) → form.unit shape samples [] at ≡ Short) → IsDry E form (running shape (first_head shape.kind) row passed 0 [])
fresh_dry form shape row passed nothing = record { within = omega arith; rests = first_rests form shape.kind shape.bins nothing }

first_good : (kind : StreamKind) → IfSome (first_head kind) (λ head. IsHead kind head)
first_good Events = (refl, refl)
first_good kind = tt
