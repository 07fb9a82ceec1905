-- What a reader of a stream holds, and which bytes it stands for.
-- The rules: docs/STREAMS.md, "Readers".
use Rattle.std.specs.Prelude.{◌≡◌, ℕ, ◌+◌, ◌-◌, ◌≤◌, List, [], ◌∷◌, ◌++◌, length, take, drop, Option, Some, None, Result, Ok, Err, IfSome}
use Rattle.kt_stream.specs.declared.entry.Placed.{Placed}
use Rattle.kt_stream.specs.declared.kind.Head.{Head}
use Rattle.kt_stream.specs.declared.kind.Shape.{Shape}
use Rattle.kt_stream.specs.declared.read.Read.TheVariants.{Short}
use Rattle.kt_stream.specs.declared.reader.Next.{Next}
use Rattle.kt_stream.specs.declared.reader.Next.TheVariants as next
use Rattle.kt_stream.specs.declared.stop.StreamStop.{StreamStop}
use Rattle.kt_stream.specs.Header.{IsHead, header_in}
use Rattle.kt_stream.specs.Stream.{Form, End, Partial, Refused, Stream, after, reads_on, within_room, stream_of, stream_limit, fault_of, at_border}

-- What a reader of records of one kind holds.
pub record Reading (E : Type 0) : Type 0 where
  -- what it was told of its stream
  pub shape : Shape
  -- the header, once it is whole and good
  pub head : Option Head
  -- the record that was read last
  pub row : Placed E
  -- the bytes of the records that were read since the last piece came
  pub passed : List ℕ
  -- what refused the stream
  pub stop : Option StreamStop
  -- the byte of the stream at which the header or the record that is read next begins
  pub start : ℕ
  -- the bytes from there on, so far
  pub pending : List ℕ

-- a stream of which the header and records are known, and what refuses it
abbrev pub refused : {E : Type 0} → Option Head → List (Placed E) → StreamStop → Stream E
refused head entries stop = record { head = head; entries = entries; end = Refused stop }

-- what is read of the bytes from a byte of the stream on, within the limit
abbrev pub goes_on : {E : Type 0} → Form E → Shape → Option Head → ℕ → List ℕ → Stream E
goes_on form shape head start bytes = within_room (stream_limit - start) (reads_on form shape head start) bytes

-- what comes of more bytes, by what refused the stream
abbrev pub stream_by : {E : Type 0} → Option StreamStop → Form E → Reading E → List ℕ → Stream E
stream_by None form r more = goes_on form r.shape r.head r.start (r.pending ++ more)
stream_by (Some stop) form r more = refused r.head [] stop

-- What is read from where a reader stands, with more bytes.
abbrev pub stream_from : {E : Type 0} → Form E → Reading E → List ℕ → Stream E
stream_from form r more = stream_by r.stop form r more

-- records, where nothing refused the stream and there is a header
abbrev pub held_by : {E : Type 0} → Option StreamStop → Option Head → List (Placed E) → List (Placed E)
held_by None (Some h) entries = entries
held_by None None entries = []
held_by (Some stop) head entries = []

-- the whole records that the reader has not read yet
abbrev pub held : {E : Type 0} → Form E → Reading E → List (Placed E)
held form r = held_by r.stop r.head (stream_from form r []).entries

-- how what is pending ends
abbrev pub rest_end : Option Head → List ℕ → End
rest_end None pending = Partial
rest_end (Some h) pending = at_border pending

-- where the reader is, while nothing refused the stream
abbrev pub IsAt : Option StreamStop → ℕ → ℕ → Type 0
IsAt None place bytes = place ≡ bytes
IsAt (Some stop) place bytes = Unit {0}

-- The reader was given these bytes, in whatever pieces, and these records were read from it.
pub record Represents (E : Type 0) (form : Form E) (bytes : List ℕ) (taken : List (Placed E)) (r : Reading E) : Type 0 where
  -- it has the header of the bytes
  pub head : r.head ≡ (stream_of form r.shape bytes).head
  -- what was read and what is held are the records of the bytes
  pub records : taken ++ held form r ≡ (stream_of form r.shape bytes).entries
  -- and it goes on as the bytes do
  pub onward : (more : List ℕ) → stream_of form r.shape (bytes ++ more) ≡ after taken (stream_from form r more)
  -- what is pending ends where the bytes end
  pub place : IsAt r.stop (r.start + length r.pending) (length bytes)

-- what is pending holds no whole record, and is within the limit
pub record IsDry (E : Type 0) (form : Form E) (r : Reading E) : Type 0 where
  pub within : r.start + length r.pending ≤ stream_limit
  pub rests : reads_on form r.shape r.head r.start r.pending ≡ record { head = r.head; entries = []; end = rest_end r.head r.pending }

-- the same, where nothing refused the stream
abbrev pub IsRestedBy : Option StreamStop → (E : Type 0) → Form E → Reading E → Type 0
IsRestedBy None E form r = IsDry E form r
IsRestedBy (Some stop) E form r = Unit {0}

-- All whole records were read, and what refuses the bytes is known.
abbrev pub IsRested : (E : Type 0) → Form E → Reading E → Type 0
IsRested E form r = IsRestedBy r.stop E form r

-- no whole record stands at the front of what is pending within the limit
abbrev pub HoldsNone : (E : Type 0) → Form E → Reading E → Type 0
HoldsNone E form r =
    reads_on form r.shape r.head r.start (take (stream_limit - r.start) r.pending) ≡ record { head = r.head; entries = []; end = rest_end r.head (take (stream_limit - r.start) r.pending) }

-- ---- what holds of every reader

-- where there is no header yet, what is pending is too short for one
abbrev pub WaitsBy : Option StreamStop → Option Head → Shape → ℕ → List ℕ → Type 0
WaitsBy None None shape start pending = header_in shape.kind (take (stream_limit - start) pending) ≡ Short
WaitsBy None (Some h) shape start pending = Unit {0}
WaitsBy (Some stop) head shape start pending = Unit {0}

-- What holds of a reader whatever it was given.
pub record IsReader (E : Type 0) (r : Reading E) : Type 0 where
  pub head : IfSome r.head (λ head. IsHead r.shape.kind head)
  pub start : r.start ≤ stream_limit
  pub waits : WaitsBy r.stop r.head r.shape r.start r.pending

-- ---- what a call does to a reader

-- the reader stands for the bytes with the piece behind them, for all bytes for which it stood
abbrev pub Extends : (E : Type 0) → Form E → Reading E → List ℕ → Reading E → Type 0
Extends E form old piece new = (bytes : List ℕ) (taken : List (Placed E)) → Represents E form bytes taken old → Represents E form (bytes ++ piece) taken new

-- a block begins with what is pending, and its bytes up to a place are the stream's
pub record IsFilled (pending block : List ℕ) (upto : ℕ) : Type 0 where
  pub front : take (length pending) block ≡ pending
  pub behind : length pending ≤ upto
  pub within : upto ≤ length block

-- the piece of the stream in such a block
abbrev pub piece_in : List ℕ → List ℕ → ℕ → List ℕ
piece_in pending block upto = take (upto - length pending) (drop (length pending) block)

-- a record of a stream with this header is in its ranges, and its bytes are within the limit
pub record IsPlaced (E : Type 0) (form : Form E) (Good : Shape → ℕ → E → Type 0) (shape : Shape) (head : Head) (placed : Placed E) : Type 0 where
  pub good : Good shape head.samples placed.entry
  pub within : placed.at + length (form.bytes placed.entry) ≤ stream_limit

-- the next record was read
pub record AdvancesOne (E : Type 0) (form : Form E) (Good : Shape → ℕ → E → Type 0) (old new : Reading E) : Type 0 where
  pub shape : new.shape ≡ old.shape
  pub head : new.head ≡ old.head
  pub first : held form old ≡ new.row ∷ held form new
  pub passed : new.passed ≡ old.passed ++ form.bytes new.row.entry
  pub stands : (bytes : List ℕ) (taken : List (Placed E)) → Represents E form bytes taken old → Represents E form bytes (taken ++ new.row ∷ []) new
  pub fits : (head : Head) → old.head ≡ Some head → IsPlaced E form Good old.shape head new.row

-- Nothing was read: the reader stands where it stood, for the same bytes. Of the record that was read last nothing is said.
pub record Stays (E : Type 0) (form : Form E) (old new : Reading E) : Type 0 where
  pub shape : new.shape ≡ old.shape
  pub head : new.head ≡ old.head
  pub passed : new.passed ≡ old.passed
  pub stop : new.stop ≡ old.stop
  pub start : new.start ≡ old.start
  pub pending : new.pending ≡ old.pending
  pub left : held form new ≡ held form old
  pub stands : (bytes : List ℕ) (taken : List (Placed E)) → Represents E form bytes taken old → Represents E form bytes taken new

-- the bytes for which a reader stands are within the limit, and end where and as it stands
pub record EndsOpen (E : Type 0) (form : Form E) (bytes : List ℕ) (r : Reading E) : Type 0 where
  pub within : length bytes ≤ stream_limit
  pub end : (stream_of form r.shape bytes).end ≡ rest_end r.head r.pending

-- no whole record was left, and nothing refuses the stream
pub record AdvancesToRest (E : Type 0) (form : Form E) (old new : Reading E) : Type 0 where
  pub shape : new.shape ≡ old.shape
  pub head : new.head ≡ old.head
  pub none : held form old ≡ []
  pub passed : new.passed ≡ old.passed
  pub running : new.stop ≡ None
  pub rests : IsRested E form new
  pub stands : (bytes : List ℕ) (taken : List (Placed E)) → Represents E form bytes taken old → Represents E form bytes taken new
  pub ends : (bytes : List ℕ) (taken : List (Placed E)) → Represents E form bytes taken old → EndsOpen E form bytes new

-- no whole record was left, and this refuses the stream, whatever follows
pub record AdvancesToStop (E : Type 0) (form : Form E) (old : Reading E) (stop : StreamStop) (new : Reading E) : Type 0 where
  pub shape : new.shape ≡ old.shape
  pub head : new.head ≡ old.head
  pub none : held form old ≡ []
  pub passed : new.passed ≡ old.passed
  pub stopped : new.stop ≡ Some stop
  pub rests : IsRested E form new
  pub stands : (bytes : List ℕ) (taken : List (Placed E)) → Represents E form bytes taken old → Represents E form bytes taken new
  pub refuses : (bytes : List ℕ) (taken : List (Placed E)) → Represents E form bytes taken old → (more : List ℕ) → stream_of form new.shape (bytes ++ more) ≡ refused new.head taken stop

-- What asking for the next record does.
abbrev pub Advances : (E : Type 0) → Form E → (Shape → ℕ → E → Type 0) → Reading E → Next → Reading E → Type 0
Advances E form Good old next.Record new = AdvancesOne E form Good old new
Advances E form Good old next.Rest new = AdvancesToRest E form old new
Advances E form Good old (next.Stop stop) new = AdvancesToStop E form old stop new

-- the bytes for which the reader stands have this first fault, if any
abbrev pub Ends : (E : Type 0) → Form E → Reading E → Option StreamStop → Type 0
Ends E form r fault = (bytes : List ℕ) (taken : List (Placed E)) → Represents E form bytes taken r → fault_of form r.shape bytes ≡ fault

-- What finishing answers: Ok where the bytes have no fault, and else their first one.
abbrev pub Finishes : (E : Type 0) → Form E → Reading E → Result (Unit {0}) StreamStop → Type 0
Finishes E form r (Ok done) = Ends E form r None
Finishes E form r (Err stop) = Ends E form r (Some stop)
