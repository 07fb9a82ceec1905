-- What asking a reader for the next record comes to, and what its end is.
use Rattle.std.proofs.Common.{◌≡◌, ℕ, ◌+◌, ◌-◌, ◌≤◌, ◌<◌, List, [], ◌∷◌, ◌++◌, length, take, drop, Option, Some, None, refl, sym, ap, subst, ◌∙◌, append_assoc, arith}
use Rattle.std.proofs.lemmas.List.{length-append, length-drop, append-nil, drop-append-le, take_all, take-append-le, take_at, take-append-drop, drop-drop}
use Rattle.std.proofs.Math.Seq.{take-add}
use Rattle.kt_stream.specs.declared.entry.Placed.{Placed}
use Rattle.kt_stream.specs.declared.kind.Head.{Head}
use Rattle.kt_stream.specs.declared.kind.Shape.{Shape}
use Rattle.kt_stream.specs.declared.read.Misfit.{Misfit}
use Rattle.kt_stream.specs.declared.read.Read.TheVariants.{Got, Short, Wrong}
use Rattle.kt_stream.specs.declared.reader.Next.{Next}
use Rattle.kt_stream.specs.declared.reader.Next.TheVariants as next
use Rattle.kt_stream.specs.declared.stop.StreamStop.{StreamStop}
use Rattle.kt_stream.specs.declared.stop.StreamStop.TheVariants.{TooLong}
use Rattle.kt_stream.specs.Header.{IsHead, header_in}
use Rattle.kt_stream.specs.Stop.{record_stop}
use Rattle.kt_stream.specs.Stream.{Form, Stream, End, Refused, after, reads_on, overlong, too_long, within_room, with_head, stream_of, stream_limit, fault_at, AreBytes, IsLawful}
use Rattle.kt_stream.specs.Reader.{Reading, refused, goes_on, held, rest_end, Represents, IsDry, HoldsNone, IsPlaced, AdvancesOne, EndsOpen, AdvancesToRest, AdvancesToStop, Advances, Stays, Ends}
use Rattle.kt_stream.proofs.Cases.{some_is, kept_got, kept_wrong}
use Rattle.kt_stream.proofs.Heading.{few_samples}
use Rattle.kt_stream.proofs.Representing.{running, stopped, after_after}
use Rattle.kt_stream.proofs.Room.{room_within, room_beyond, room_length, room_steps, room_stops}
use Rattle.kt_stream.proofs.Walking.{records_step, records_wrong, records_short}

-- ---- a record

record_on : {E : Type 0} {Good : Shape → ℕ → E → Type 0} (form : Form E) (shape : Shape) (h : Head) (start : ℕ) (bytes more : List ℕ) (e : E) → IsLawful E form Good → form.unit shape h.samples bytes start ≡ Got e
    → reads_on form shape (Some h) start (bytes ++ more) ≡ after (record { at = start; entry = e } ∷ []) (reads_on form shape (Some h) (start + length (form.bytes e)) (drop (length (form.bytes e)) bytes ++ more))
unfolding reads_on
record_on form shape h start bytes more e lawful is =
    let same = kept_got (form.unit shape h.samples bytes start) _ e is (lawful.steady shape h.samples bytes more start) in
    ap (with_head h) (records_step form shape h.samples (bytes ++ more) start e lawful same)
    ∙ rw (drop-append-le (length (form.bytes e)) bytes more (lawful.sized shape h.samples bytes start e is).1) refl

-- how far the record reaches
pub record Reaches (start size : ℕ) (bytes : List ℕ) : Type 0 where
  pub within : start + size ≤ stream_limit
  pub long : size ≤ length bytes

pub record_reaches : {E : Type 0} {Good : Shape → ℕ → E → Type 0} (form : Form E) (shape : Shape) (samples start size : ℕ) (bytes : List ℕ) (e : E) → IsLawful E form Good → start ≤ stream_limit
    → form.unit shape samples (take (stream_limit - start) bytes) start ≡ Got e → size ≡ length (form.bytes e) → Reaches start size bytes
record_reaches form shape samples start size bytes e lawful some is size-is =
    let sized = lawful.sized shape samples (take (stream_limit - start) bytes) start e is in
    let room = room_length (stream_limit - start) bytes in
    record { within = omega (arith, sized.1, room.0, size-is); long = omega (arith, sized.1, room.1, size-is) }

onward_one : {E : Type 0} {Good : Shape → ℕ → E → Type 0} (form : Form E) (shape : Shape) (h : Head) (start : ℕ) (pending more : List ℕ) (e : E) → IsLawful E form Good → form.unit shape h.samples (take (stream_limit - start) pending) start ≡ Got e
    → goes_on form shape (Some h) start (pending ++ more)
    ≡ after (record { at = start; entry = e } ∷ []) (goes_on form shape (Some h) (start + length (form.bytes e)) (drop (length (form.bytes e)) pending ++ more))
onward_one {E} form shape h start pending more e lawful is =
    let size = length (form.bytes e) in
    let room = stream_limit - start in
    let left : room - size ≡ stream_limit - (start + size) = omega arith in
    let one : List (Placed E) = record { at = start; entry = e } ∷ [] in
    room_steps room size (reads_on form shape (Some h) start) (reads_on form shape (Some h) (start + size)) pending one more (lawful.sized shape h.samples (take room pending) start e is).1
    (λ more. record_on form shape h start (take room pending) more e lawful is)
    ∙ ap (λ (n : ℕ). after one (within_room n (reads_on form shape (Some h) (start + size)) (drop size pending ++ more))) left

-- what was passed, with so many bytes more
pub passed_more : (from used size : ℕ) (block : List ℕ) → from ≤ used → take (used + size - from) (drop from block) ≡ take (used - from) (drop from block) ++ take size (drop used block)
passed_more from used size block below =
    let parts : used + size - from ≡ (used - from) + size = omega arith in
    let at : from + (used - from) ≡ used = omega arith in
    ap (λ (n : ℕ). take n (drop from block)) parts ∙ take-add (used - from) size (drop from block)
    ∙ ap (λ (xs : List ℕ). take (used - from) (drop from block) ++ take size xs) (drop-drop (used - from) from block ∙ ap (λ (n : ℕ). drop n block) at)

-- the bytes of the record are those in which it stands
record_stands : {E : Type 0} {Good : Shape → ℕ → E → Type 0} (form : Form E) (shape : Shape) (samples start size : ℕ) (pending : List ℕ) (e : E) → IsLawful E form Good → samples ≤ 1000
    → form.unit shape samples (take (stream_limit - start) pending) start ≡ Got e → size ≡ length (form.bytes e) → AreBytes (take (stream_limit - start) pending) → take size pending ≡ form.bytes e
record_stands form shape samples start size pending e lawful few is size-is are =
    let room = stream_limit - start in
    let bytes = take room pending in
    let sized = lawful.sized shape samples bytes start e is in
    ap (take size) (sym (take-append-drop room pending)) ∙ take-append-le size bytes (drop room pending) (omega (arith, sized.1, size-is))
    ∙ ap (take size) (lawful.written shape samples bytes start e few are is) ∙ take_at (form.bytes e) (drop (length (form.bytes e)) bytes) size (sym size-is)

-- the next record was read
pub advances_one : {E : Type 0} {Good : Shape → ℕ → E → Type 0} (form : Form E) (shape : Shape) (h : Head) (row : Placed E) (passed : List ℕ) (start size : ℕ) (pending : List ℕ) (e : E) → IsLawful E form Good → IsHead shape.kind h → start ≤ stream_limit
    → form.unit shape h.samples (take (stream_limit - start) pending) start ≡ Got e → size ≡ length (form.bytes e) → (passed_now : List ℕ) → passed_now ≡ passed ++ take size pending → AreBytes (take (stream_limit - start) pending)
    → AdvancesOne E form Good (running shape (Some h) row passed start pending) (running shape (Some h) (record { at = start; entry = e }) passed_now (start + size) (drop size pending))
advances_one {E} {Good} form shape h row passed start size pending e lawful good some is size-is passed_now passed-is are =
    let placed : Placed E = record { at = start; entry = e } in
    let reach = record_reaches form shape h.samples start size pending e lawful some is size-is in
    let onward : (more : List ℕ) → goes_on form shape (Some h) start (pending ++ more) ≡ after (placed ∷ []) (goes_on form shape (Some h) (start + size) (drop size pending ++ more)) =
    λ more. rw size-is (onward_one form shape h start pending more e lawful is) in
    record {
      shape = refl;
      head = refl;
      first = ap (λ (s : Stream E). s.entries) (onward []);
      passed = passed-is ∙ ap (λ (xs : List ℕ). passed ++ xs) (record_stands form shape h.samples start size pending e lawful (few_samples shape.kind h good) is size-is are);
      stands = λ bytes taken rep. record {
        head = rep.head;
        records = append_assoc taken (placed ∷ []) _ ∙ ap (λ (s : Stream E). taken ++ s.entries) (sym (onward [])) ∙ rep.records;
        onward = λ more. rep.onward more ∙ ap (after taken) (onward more) ∙ after_after taken (placed ∷ []) _;
        place = omega (arith, rep.place, length-drop size pending, reach.long);
      };
      fits = λ head has. subst (λ (x : Head). IsPlaced E form Good shape x placed) {x = h} (some_is h head has) (record {
        good = lawful.good shape h.samples (take (stream_limit - start) pending) start e (few_samples shape.kind h good) is;
        within = omega (arith, reach.within, size-is);
      });
    }

-- ---- a refusal

none_held : {E : Type 0} (form : Form E) (shape : Shape) (head : Option Head) (row : Placed E) (passed : List ℕ) (start : ℕ) (pending : List ℕ) → (goes_on form shape head start (pending ++ [])).entries ≡ [] → held form (running shape head row passed start pending) ≡ []
none_held form shape None row passed start pending none = refl
none_held form shape (Some h) row passed start pending none = none

-- a reader that goes on is refused
pub advances_stop : {E : Type 0} (form : Form E) (shape : Shape) (head : Option Head) (row other : Placed E) (passed : List ℕ) (start : ℕ) (pending : List ℕ) (stop : StreamStop)
    → ((more : List ℕ) → goes_on form shape head start (pending ++ more) ≡ refused head [] stop) → AdvancesToStop E form (running shape head row passed start pending) stop (stopped shape head other passed stop start pending)
advances_stop {E} form shape head row other passed start pending stop onward =
    let empty = none_held form shape head row passed start pending (ap (λ (s : Stream E). s.entries) (onward [])) in
    record {
      shape = refl;
      head = refl;
      none = empty;
      passed = refl;
      stopped = refl;
      rests = tt;
      stands = λ bytes taken rep. record {
        head = rep.head;
        records = ap (λ (es : List (Placed E)). taken ++ es) (sym empty) ∙ rep.records;
        onward = λ more. rep.onward more ∙ ap (after taken) (onward more);
        place = tt;
      };
      refuses = λ bytes taken rep more. rep.onward more ∙ ap (after taken) (onward more) ∙ ap (λ (es : List (Placed E)). refused head es stop) (append-nil taken);
    }

-- a record is wrong
pub advances_wrong : {E : Type 0} {Good : Shape → ℕ → E → Type 0} (form : Form E) (shape : Shape) (h : Head) (row other : Placed E) (passed : List ℕ) (start : ℕ) (pending : List ℕ) (m : Misfit) → IsLawful E form Good
    → form.unit shape h.samples (take (stream_limit - start) pending) start ≡ Wrong m → AdvancesToStop E form (running shape (Some h) row passed start pending) (record_stop m) (stopped shape (Some h) other passed (record_stop m) start pending)
unfolding reads_on
advances_wrong form shape h row other passed start pending m lawful is =
    let room = stream_limit - start in
    advances_stop form shape (Some h) row other passed start pending (record_stop m) (λ more. room_stops room (reads_on form shape (Some h) start) pending more (Some h) [] (record_stop m) (λ more.
    let same = kept_wrong (form.unit shape h.samples (take room pending) start) _ m is (lawful.steady shape h.samples (take room pending) more start) in
    ap (with_head h) (records_wrong form shape h.samples (take room pending ++ more) start m same)))

-- ---- no whole record is left

-- a record is short
pub short_none : {E : Type 0} (form : Form E) (shape : Shape) (h : Head) (row : Placed E) (passed : List ℕ) (start : ℕ) (pending : List ℕ) → form.unit shape h.samples (take (stream_limit - start) pending) start ≡ Short
    → HoldsNone E form (running shape (Some h) row passed start pending)
unfolding reads_on
short_none form shape h row passed start pending is = ap (with_head h) (records_short form shape h.samples (take (stream_limit - start) pending) start is)

-- there is no header
pub waits_none : {E : Type 0} (form : Form E) (shape : Shape) (row : Placed E) (passed : List ℕ) (start : ℕ) (pending : List ℕ) → header_in shape.kind (take (stream_limit - start) pending) ≡ Short → HoldsNone E form (running shape None row passed start pending)
unfolding reads_on
waits_none form shape row passed start pending is = rw is refl

rests_too_long : (head : Option Head) (pending : List ℕ) → too_long (rest_end head pending) ≡ Refused TooLong
rests_too_long None pending = refl
rests_too_long (Some h) [] = refl
rests_too_long (Some h) (b ∷ pending) = refl

-- more came than a stream may have
pub too_long_stop : {E : Type 0} (form : Form E) (shape : Shape) (head : Option Head) (row : Placed E) (passed : List ℕ) (start : ℕ) (pending : List ℕ) → HoldsNone E form (running shape head row passed start pending) → stream_limit - start < length pending
    → AdvancesToStop E form (running shape head row passed start pending) TooLong (stopped shape head row passed TooLong start pending)
too_long_stop {E} form shape head row passed start pending none beyond =
    let room = stream_limit - start in
    let read = reads_on form shape head start in
    advances_stop form shape head row row passed start pending TooLong (λ more.
    room_beyond room read (pending ++ more) (omega (arith, length-append pending more))
    ∙ ap (λ (xs : List ℕ). overlong (read xs)) (take-append-le room pending more (omega arith))
    ∙ ap overlong none
    ∙ ap (λ (e : End). record { head = head; entries = []; end = e }) (rests_too_long head (take room pending)))

-- what is read of a reader that holds no whole record
dry_now : {E : Type 0} (form : Form E) (shape : Shape) (head : Option Head) (row : Placed E) (passed : List ℕ) (start : ℕ) (pending : List ℕ) → IsDry E form (running shape head row passed start pending)
    → goes_on form shape head start (pending ++ []) ≡ record { head = head; entries = []; end = rest_end head pending }
dry_now form shape head row passed start pending dry =
    ap (goes_on form shape head start) (append-nil pending) ∙ room_within (stream_limit - start) (reads_on form shape head start) pending (omega (arith, dry.within)) ∙ dry.rests

-- the bytes end as the reader stands
pub dry_ends : {E : Type 0} (form : Form E) (shape : Shape) (head : Option Head) (row : Placed E) (passed : List ℕ) (start : ℕ) (pending bytes : List ℕ) (taken : List (Placed E)) → IsDry E form (running shape head row passed start pending)
    → Represents E form bytes taken (running shape head row passed start pending) → EndsOpen E form bytes (running shape head row passed start pending)
dry_ends {E} form shape head row passed start pending bytes taken dry rep = record {
  within = omega (arith, dry.within, rep.place);
  end = ap (λ (xs : List ℕ). (stream_of form shape xs).end) (sym (append-nil bytes)) ∙ ap (λ (s : Stream E). s.end) (rep.onward []) ∙ ap (λ (s : Stream E). s.end) (dry_now form shape head row passed start pending dry);
}

-- more bytes are needed
pub needs_more : {E : Type 0} (form : Form E) (shape : Shape) (head : Option Head) (row : Placed E) (passed : List ℕ) (start : ℕ) (pending : List ℕ) → HoldsNone E form (running shape head row passed start pending) → start ≤ stream_limit → length pending ≤ stream_limit - start
    → AdvancesToRest E form (running shape head row passed start pending) (running shape head row passed start pending)
needs_more {E} form shape head row passed start pending none some fits =
    let whole : take (stream_limit - start) pending ≡ pending = take_all (stream_limit - start) pending fits in
    let dry : IsDry E form (running shape head row passed start pending) = record { within = omega arith; rests = rw whole at none } in
    record {
      shape = refl;
      head = refl;
      passed = refl;
      none = none_held form shape head row passed start pending (ap (λ (s : Stream E). s.entries) (dry_now form shape head row passed start pending dry));
      running = refl;
      rests = dry;
      stands = λ bytes taken rep. rep;
      ends = λ bytes taken rep. dry_ends form shape head row passed start pending bytes taken dry rep;
    }

-- ---- the record that was read last does not matter

other_row : {E : Type 0} (form : Form E) (shape : Shape) (head : Option Head) (row other : Placed E) (passed : List ℕ) (start : ℕ) (pending bytes : List ℕ) (taken : List (Placed E)) → Represents E form bytes taken (running shape head row passed start pending)
    → Represents E form bytes taken (running shape head other passed start pending)
other_row form shape head row other passed start pending bytes taken rep = record { head = rep.head; records = rep.records; onward = rep.onward; place = rep.place }

-- nothing was read
pub stays_row : {E : Type 0} (form : Form E) (shape : Shape) (head : Option Head) (row other : Placed E) (passed : List ℕ) (start : ℕ) (pending : List ℕ) → Stays E form (running shape head row passed start pending) (running shape head other passed start pending)
stays_row form shape head row other passed start pending = record {
  shape = refl;
  head = refl;
  passed = refl;
  stop = refl;
  start = refl;
  pending = refl;
  left = refl;
  stands = λ bytes taken rep. other_row form shape head row other passed start pending bytes taken rep;
}

pub advances_row : {E : Type 0} (Good : Shape → ℕ → E → Type 0) (form : Form E) (shape : Shape) (head : Option Head) (row other : Placed E) (passed : List ℕ) (start : ℕ) (pending : List ℕ) (answer : Next) (new : Reading E)
    → Advances E form Good (running shape head other passed start pending) answer new → Advances E form Good (running shape head row passed start pending) answer new
advances_row Good form shape head row other passed start pending next.Record new one = record {
  shape = one.shape;
  head = one.head;
  first = one.first;
  passed = one.passed;
  stands = λ bytes taken rep. one.stands bytes taken (other_row form shape head row other passed start pending bytes taken rep);
  fits = one.fits;
}
advances_row Good form shape head row other passed start pending next.Rest new rest = record {
  shape = rest.shape;
  head = rest.head;
  none = rest.none;
  passed = rest.passed;
  running = rest.running;
  rests = rest.rests;
  stands = λ bytes taken rep. rest.stands bytes taken (other_row form shape head row other passed start pending bytes taken rep);
  ends = λ bytes taken rep. rest.ends bytes taken (other_row form shape head row other passed start pending bytes taken rep);
}
advances_row Good form shape head row other passed start pending (next.Stop by) new ended = record {
  shape = ended.shape;
  head = ended.head;
  none = ended.none;
  passed = ended.passed;
  stopped = ended.stopped;
  rests = ended.rests;
  stands = λ bytes taken rep. ended.stands bytes taken (other_row form shape head row other passed start pending bytes taken rep);
  refuses = λ bytes taken rep. ended.refuses bytes taken (other_row form shape head row other passed start pending bytes taken rep);
}

-- ---- the end of the stream

-- the bytes of a reader that goes on are cut off where it is inside a header or a record
pub open_ends : {E : Type 0} (form : Form E) (shape : Shape) (head : Option Head) (row : Placed E) (passed : List ℕ) (start : ℕ) (pending : List ℕ) (fault : Option StreamStop) → IsDry E form (running shape head row passed start pending)
    → fault ≡ fault_at (start + length pending) (rest_end head pending) → Ends E form (running shape head row passed start pending) fault
open_ends form shape head row passed start pending fault dry is = λ bytes taken rep.
    ap (fault_at (length bytes)) (dry_ends form shape head row passed start pending bytes taken dry rep).end ∙ ap (λ (n : ℕ). fault_at n (rest_end head pending)) (sym rep.place) ∙ sym is
