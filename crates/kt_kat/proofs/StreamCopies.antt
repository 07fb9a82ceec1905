-- What is written of a file that is a stream, piece by piece, is what it gives.
use Rattle.std.proofs.Common.{◌≡◌, ℕ, Bool, true, false, List, [], ◌++◌, take, drop, Option, Some, None, Result, Ok, Err, refl, sym, ap, ◌∙◌, append_assoc, append-nil, ◌+◌, length, subst}
use Rattle.std.specs.Prelude.{IfSome, if◌then◌else◌}
use Rattle.std.specs.Option.{is_some}
use Rattle.std.proofs.lemmas.Grind.{flat_map-append}
use Rattle.std.proofs.lemmas.Bool.{false≢true}
use Rattle.std.proofs.lemmas.List.{take-append-drop}
use Rattle.kt_out.specs.Reading.{GivesKnown}
use Rattle.kt_out.specs.Writing.{SinkState, Gains, GainsFront}
use Rattle.kt_out.specs.declared.fault.Fault.{Fault}
use Rattle.kt_out.specs.declared.fault.Fault.TheVariants.{Failed, OutOfMemory}
use Rattle.kt_stream.specs.declared.entry.Placed.{Placed}
use Rattle.kt_stream.specs.declared.kind.Head.{Head}
use Rattle.kt_stream.specs.declared.kind.Shape.{Shape}
use Rattle.kt_stream.specs.declared.stop.StreamStop.{StreamStop}
use Rattle.kt_stream.specs.Growth.{GrowsTo}
use Rattle.kt_stream.specs.Reader.{Reading, Represents, held, held_by, refused, stream_from}
use Rattle.kt_stream.specs.Stream.{Form, Stream, stream_of, fault_of, fault_at}
use Rattle.kt_ends.specs.Ending.{IsFront, GainedFront}
use Rattle.kt_ends.specs.Outcome.{Outcome}
use Rattle.kt_ends.specs.Stops.{stop_status}
use Rattle.kt_ends.specs.declared.status.Refusal.TheVariants.{File, HeaderDiffers}
use Rattle.kt_ends.specs.declared.status.Status.{Status}
use Rattle.kt_ends.specs.declared.status.Status.TheVariants as status
use Rattle.kt_ends.specs.declared.tool_stop.ToolStop.{ToolStop}
use Rattle.kt_ends.specs.declared.tool_stop.ToolStop.TheVariants as stop
use Rattle.kt_loop.specs.InputFile.{left_from}
use Rattle.kt_loop.specs.Outcome.{gives}
use Rattle.kt_loop.specs.Reading.{ReadsAll}
use Rattle.kt_loop.specs.RecordStreams.{contents_of, records_text}
use Rattle.kt_loop.specs.Settling.{IsEnd}
use Rattle.kt_kat.specs.Copied.{Agrees, Copies, CopiesRecords, HasGained, IsCopied, Opens, OpensFile, StopsIn, copied_text}
use Rattle.kt_kat.specs.Joining.{differs, file_status, heading_of, joined, joined_by}
use Rattle.kt_kat.specs.Stops.{unread_stop}
use Rattle.kt_kat.proofs.Copying.{piece_is, taken_on}

-- ---- what the sink has gained

-- one text behind another
pub gained_more : (before mid now : Option (List ℕ)) (text piece : List ℕ) → HasGained before mid text → Gains mid now piece → HasGained before now (text ++ piece)
gained_more None mid now text piece had gains = tt
gained_more (Some taken) mid now text piece had gains =
    let told : now ≡ Some ((taken ++ text) ++ piece) = subst (λ (o : Option (List ℕ)). Gains o now piece) had gains in
    told ∙ ap (λ (xs : List ℕ). Some xs) (append_assoc taken text piece)

-- a text that is a front of an output
front_gained : (before now : Option (List ℕ)) (text output : List ℕ) → HasGained before now text → IsFront text output → IfSome before (λ taken. GainedFront output taken now)
front_gained None now text output had front = tt
front_gained (Some taken) now text output had front = record { front = text; is_front = front; gained = had }

-- some front of one text behind another
part_gained : (before mid now : Option (List ℕ)) (text piece output : List ℕ) → HasGained before mid text → GainsFront mid now piece → IsFront (text ++ piece) output → IfSome before (λ taken. GainedFront output taken now)
part_gained None mid now text piece output had gains front = tt
part_gained (Some taken) mid now text piece output had gains front =
    let k : ℕ = gains.length_taken in
    let told : now ≡ Some ((taken ++ text) ++ take k piece) = subst (λ (o : Option (List ℕ)). Gains o now (take k piece)) had gains.gained in
    record {
      front = text ++ take k piece;
      is_front = record {
        rest = drop k piece ++ front.rest;
        is = front.is ∙ ap (λ (xs : List ℕ). (text ++ xs) ++ front.rest) (sym (take-append-drop k piece)) ∙ ap (λ (xs : List ℕ). xs ++ front.rest) (sym (append_assoc text (take k piece) (drop k piece))) ∙ append_assoc (text ++ take k piece) (drop k piece) front.rest;
      };
      gained = told ∙ ap (λ (xs : List ℕ). Some xs) (append_assoc taken text (take k piece));
    }

-- a reader without a header holds no record
none_by : {E : Type 0} (why : Option StreamStop) (entries : List (Placed E)) → held_by why None entries ≡ []
none_by None entries = refl
none_by (Some why) entries = refl

no_head_held : {E : Type 0} (form : Form E) (r : Reading E) → r.head ≡ None → held form r ≡ []
no_head_held form r none = ap (λ (head : Option Head). held_by r.stop head (stream_from form r []).entries) none ∙ none_by r.stop (stream_from form r []).entries

-- ---- what a file gives

module _ {E : Type 0} (form : Form E) (shape : Shape) (first : Option Head) (number : ℕ) where
  abbrev of_bytes : List ℕ → Stream E
  of_bytes bytes = stream_of form shape bytes

  abbrev text : Option Head → List (Placed E) → List ℕ
  text head entries = copied_text form shape.kind first head entries

  abbrev made : List ℕ → Outcome
  made bytes = joined form shape.kind first number (contents_of form shape bytes)

  -- what a file gives whose header agrees
  joined_is : (head : Option Head) (entries : List (Placed E)) (fault : Option StreamStop) → Agrees first head → joined_by form shape.kind first number head entries fault ≡ gives (file_status number fault) (text head entries)
  joined_is None entries fault agrees = refl
  joined_is (Some head) entries fault agrees =
      ap (λ (other : Bool). if other then gives (status.Refused (HeaderDiffers number)) [] else gives (file_status number fault) (heading_of shape.kind first head ++ records_text form entries)) agrees

  -- more records
  text_more : (head : Head) (entries later : List (Placed E)) → text (Some head) (entries ++ later) ≡ text (Some head) entries ++ records_text form later
  text_more head entries later =
      ap (λ (xs : List ℕ). heading_of shape.kind first head ++ xs) (flat_map-append (λ (placed : Placed E). form.bytes placed.entry) entries later)
      ∙ sym (append_assoc (heading_of shape.kind first head) (records_text form entries) (records_text form later))

  -- what is written of the front of a file is a front of what it gives
  grown_front : (head : Option Head) (entries later : List (Placed E)) (now : Stream E) (fault : Option StreamStop) → Agrees first head → ((h : Head) → head ≡ Some h → now.head ≡ Some h) → now.entries ≡ entries ++ later
      → IsFront (text head entries) (joined_by form shape.kind first number now.head now.entries fault).output
  grown_front None entries later now fault agrees heads is = record { rest = (joined_by form shape.kind first number now.head now.entries fault).output; is = refl }
  grown_front (Some h) entries later now fault agrees heads is = record {
    rest = records_text form later;
    is = ap (λ (head : Option Head). (joined_by form shape.kind first number head now.entries fault).output) (heads h refl) ∙ ap (λ (o : Outcome). o.output) (joined_is (Some h) now.entries fault agrees) ∙ ap (text (Some h)) is ∙ text_more h entries later;
  }

  module _ (grows : (bytes more : List ℕ) → GrowsTo E (of_bytes bytes) (of_bytes (bytes ++ more))) where
    front_of : (fed more : List ℕ) → Agrees first (of_bytes fed).head → IsFront (text (of_bytes fed).head (of_bytes fed).entries) (made (fed ++ more)).output
    front_of fed more agrees =
        let grown = grows fed more in
        grown_front (of_bytes fed).head (of_bytes fed).entries grown.entries.0 (of_bytes (fed ++ more)) (fault_of form shape (fed ++ more)) agrees grown.head grown.entries.1

    -- a read failed, or no memory was there
    pub stops_unread : (fault : Fault) (fed : List ℕ) (r : Reading E) (before now : Option (List ℕ)) → IsCopied form shape first fed r before now → StopsIn form shape first number fed before now (unread_stop fault)
    stops_unread Failed fed r before now copied more = record { verdict = tt; output = front_gained before now _ (made (fed ++ more)).output copied.written (front_of fed more copied.agrees) }
    stops_unread OutOfMemory fed r before now copied more = record { verdict = tt; output = front_gained before now _ (made (fed ++ more)).output copied.written (front_of fed more copied.agrees) }

    -- ---- the header

    -- the reader was given these bytes of a file, it read these records, and its header and they are written
    pub record IsOpened (fed : List ℕ) (taken : List (Placed E)) (before now : Option (List ℕ)) (r : Reading E) : Type 0 where
      pub told : r.shape ≡ shape
      pub stands : Represents E form fed taken r
      pub agrees : Agrees first r.head
      pub written : HasGained before now (text r.head taken)

    made_headed : (fed more : List ℕ) (h : Head) → (of_bytes fed).head ≡ Some h → made (fed ++ more) ≡ joined_by form shape.kind first number (Some h) (of_bytes (fed ++ more)).entries (fault_of form shape (fed ++ more))
    made_headed fed more h is = ap (λ (head : Option Head). joined_by form shape.kind first number head (of_bytes (fed ++ more)).entries (fault_of form shape (fed ++ more))) ((grows fed more).head h is)

    heading_front : (fed more : List ℕ) (h : Head) → (of_bytes fed).head ≡ Some h → differs first h ≡ false → IsFront ([] ++ heading_of shape.kind first h) (made (fed ++ more)).output
    heading_front fed more h is same = record {
      rest = records_text form (of_bytes (fed ++ more)).entries;
      is = ap (λ (o : Outcome). o.output) (made_headed fed more h is ∙ joined_is (Some h) (of_bytes (fed ++ more)).entries (fault_of form shape (fed ++ more)) same);
    }

    open_stops : (fed : List ℕ) (before : Option (List ℕ)) (mid now : SinkState) (h : Head) (why : ToolStop) → HasGained before mid.taken [] → (of_bytes fed).head ≡ Some h → Opens {T = Unit {0}} shape.kind first number h mid now (Err why) → StopsIn form shape first number fed before now.taken why
    open_stops fed before mid now h (stop.Refused why) had is opens more =
        subst (λ (o : Outcome). IsEnd o before now.taken (status.Refused why)) (sym (made_headed fed more h is ∙ ap (λ (other : Bool). if other then gives (status.Refused (HeaderDiffers number)) [] else gives (file_status number (fault_of form shape (fed ++ more))) (text (Some h) (of_bytes (fed ++ more)).entries)) opens.0))
        (record { verdict = ap (λ w. status.Refused w) (sym opens.1); output = subst (λ (s : SinkState). HasGained before s.taken []) (sym opens.2) had })
    open_stops fed before mid now h stop.ReadFault had is opens more = absurd opens.1
    open_stops fed before mid now h stop.WriteFault had is opens more = record { verdict = tt; output = part_gained before mid.taken now.taken [] (heading_of shape.kind first h) (made (fed ++ more)).output had opens.1.front (heading_front fed more h is opens.0) }
    open_stops fed before mid now h stop.NoMemory had is opens more = record { verdict = tt; output = part_gained before mid.taken now.taken [] (heading_of shape.kind first h) (made (fed ++ more)).output had opens.1.front (heading_front fed more h is opens.0) }

    -- the header is whole now, or was before
    open_done : (was : Bool) (old head : Option Head) (taken : List (Placed E)) (before : Option (List ℕ)) (mid now : SinkState) → was ≡ is_some old → ((h : Head) → old ≡ Some h → head ≡ Some h) → (old ≡ None → taken ≡ []) → Agrees first old → HasGained before mid.taken (text old taken)
        → OpensFile {T = Unit {0}} shape.kind first number was head mid now (Ok tt) → Agrees first head × HasGained before now.taken (text head taken)
    open_done false (Some h) head taken before mid now is stays none agrees had opens = absurd (false≢true is)
    open_done true None head taken before mid now is stays none agrees had opens = absurd (false≢true (sym is))
    open_done true (Some h) head taken before mid now is stays none agrees had opens =
        subst (λ (other : Option Head). Agrees first other × HasGained before now.taken (text other taken)) (sym (stays h refl)) (agrees, subst (λ (s : SinkState). HasGained before s.taken (text (Some h) taken)) (sym opens) had)
    open_done false None None taken before mid now is stays none agrees had opens = (tt, subst (λ (s : SinkState). HasGained before s.taken []) (sym opens) had)
    open_done false None (Some h) taken before mid now is stays none agrees had opens =
        let whole : text (Some h) taken ≡ heading_of shape.kind first h = ap (text (Some h)) (none refl) ∙ append-nil (heading_of shape.kind first h) in
        (opens.0, subst (λ (xs : List ℕ). HasGained before now.taken xs) (sym whole) (gained_more before mid.taken now.taken [] (heading_of shape.kind first h) had opens.1.moved))

    -- the header is refused, or could not be written
    open_fails : (was : Bool) (old head : Option Head) (fed : List ℕ) (taken : List (Placed E)) (before : Option (List ℕ)) (mid now : SinkState) (why : ToolStop) → was ≡ is_some old → (of_bytes fed).head ≡ head → HasGained before mid.taken (text old taken)
        → OpensFile {T = Unit {0}} shape.kind first number was head mid now (Err why) → StopsIn form shape first number fed before now.taken why
    open_fails true old head fed taken before mid now why is heads had opens = absurd opens
    open_fails false old None fed taken before mid now why is heads had opens = absurd opens
    open_fails false None (Some h) fed taken before mid now why is heads had opens = open_stops fed before mid now h why had heads opens
    open_fails false (Some other) (Some h) fed taken before mid now why is heads had opens = absurd (false≢true is)

    -- ---- a piece

    module _ (fed piece : List ℕ) (old mid : Reading E) (before : Option (List ℕ)) (sink sink_mid : SinkState) (was : Bool) (copied : IsCopied form shape first fed old before sink.taken) (extends : Represents E form (fed ++ piece) (of_bytes fed).entries mid) (same : mid.shape ≡ old.shape) (was-is : was ≡ is_some old.head) where
      old_head : old.head ≡ (of_bytes fed).head
      old_head = subst (λ (s : Shape). old.head ≡ (stream_of form s fed).head) copied.told copied.stands.head

      mid_head : mid.head ≡ (of_bytes (fed ++ piece)).head
      mid_head = subst (λ (s : Shape). mid.head ≡ (stream_of form s (fed ++ piece)).head) (same ∙ copied.told) extends.head

      old_written : HasGained before sink.taken (text old.head (of_bytes fed).entries)
      old_written = subst (λ (head : Option Head). HasGained before sink.taken (text head (of_bytes fed).entries)) (sym old_head) copied.written

      pub piece_stops : (why : ToolStop) → OpensFile {T = Unit {0}} shape.kind first number was mid.head sink sink_mid (Err why) → StopsIn form shape first number (fed ++ piece) before sink_mid.taken why
      piece_stops why opens = open_fails was old.head mid.head (fed ++ piece) (of_bytes fed).entries before sink sink_mid why was-is (sym mid_head) old_written opens

      pub piece_opens : ((of_bytes fed).head ≡ None → (of_bytes fed).entries ≡ []) → OpensFile {T = Unit {0}} shape.kind first number was mid.head sink sink_mid (Ok tt) → IsOpened (fed ++ piece) (of_bytes fed).entries before sink_mid.taken mid
      piece_opens none opens =
          let done = open_done was old.head mid.head (of_bytes fed).entries before sink sink_mid was-is (λ h is. mid_head ∙ (grows fed piece).head h (sym old_head ∙ is)) (λ is. none (sym old_head ∙ is)) (subst (Agrees first) (sym old_head) copied.agrees) old_written opens in
          record { told = same ∙ copied.told; stands = extends; agrees = done.0; written = done.1 }

    -- ---- the records

    text_behind : (head : Option Head) (entries later : List (Placed E)) → (head ≡ None → later ≡ []) → text head entries ++ records_text form later ≡ text head (entries ++ later)
    text_behind None entries later none = ap (records_text form) (none refl)
    text_behind (Some h) entries later none = sym (text_more h entries later)

    module _ (fed : List ℕ) (taken : List (Placed E)) (before : Option (List ℕ)) (sink sink_now : SinkState) (old new : Reading E) (opened : IsOpened fed taken before sink.taken old) where
      head_is : old.head ≡ (of_bytes fed).head
      head_is = subst (λ (s : Shape). old.head ≡ (stream_of form s fed).head) opened.told opened.stands.head

      entries_are : taken ++ held form old ≡ (of_bytes fed).entries
      entries_are = subst (λ (s : Shape). taken ++ held form old ≡ (stream_of form s fed).entries) opened.told opened.stands.records

      all_text : text old.head taken ++ records_text form (held form old) ≡ text old.head (taken ++ held form old)
      all_text = text_behind old.head taken (held form old) (no_head_held form old)

      whole_text : text old.head taken ++ records_text form (held form old) ≡ text (of_bytes fed).head (of_bytes fed).entries
      whole_text = all_text ∙ ap (text old.head) entries_are ∙ ap (λ (head : Option Head). text head (of_bytes fed).entries) head_is

      piece_front : (more : List ℕ) → IsFront (text old.head taken ++ records_text form (held form old)) (made (fed ++ more)).output
      piece_front more = subst (λ (xs : List ℕ). IsFront xs (made (fed ++ more)).output) (sym whole_text) (front_of fed more (subst (Agrees first) head_is opened.agrees))

      records_refused : (why : StreamStop) → ReadsAll form old (Some why) new → (more : List ℕ) → made (fed ++ more) ≡ gives (status.Refused (File number why)) (text old.head (taken ++ held form old))
      records_refused why reads more =
          let all : of_bytes (fed ++ more) ≡ refused old.head (taken ++ held form old) why = subst (λ (s : Shape). stream_of form s (fed ++ more) ≡ refused old.head (taken ++ held form old) why) (reads.shape ∙ opened.told)
          (reads.by fed taken opened.stands more ∙ ap (λ (head : Option Head). refused head (taken ++ held form old) why) reads.head) in
          ap (λ (s : Stream E). joined_by form shape.kind first number s.head s.entries (fault_at (length (fed ++ more)) s.end)) all ∙ joined_is old.head (taken ++ held form old) (Some why) opened.agrees

      pub records_copied : (result : Result (Unit {0}) ToolStop) → CopiesRecords form number old sink sink_now new result → Copies form shape first number fed new before sink_now.taken result
      records_copied (Ok done) copies = record {
        told = copies.0.shape ∙ opened.told;
        stands = subst (λ (entries : List (Placed E)). Represents E form fed entries new) entries_are (copies.0.stands fed taken opened.stands);
        agrees = subst (Agrees first) head_is opened.agrees;
        written = subst (λ (xs : List ℕ). HasGained before sink_now.taken xs) whole_text (gained_more before sink.taken sink_now.taken _ _ opened.written copies.1.moved);
      }
      records_copied (Err (stop.Refused refusal)) copies = λ more.
          subst (λ (o : Outcome). IsEnd o before sink_now.taken (status.Refused refusal)) (sym (records_refused copies.why copies.reads more))
          (record { verdict = ap (λ w. status.Refused w) (sym copies.refusal-is); output = subst (λ (xs : List ℕ). HasGained before sink_now.taken xs) all_text (gained_more before sink.taken sink_now.taken _ _ opened.written copies.written.moved) })
      records_copied (Err stop.ReadFault) copies = λ more. absurd copies
      records_copied (Err stop.WriteFault) copies = λ more. record { verdict = tt; output = part_gained before sink.taken sink_now.taken _ _ (made (fed ++ more)).output opened.written copies.front (piece_front more) }
      records_copied (Err stop.NoMemory) copies = λ more. record { verdict = tt; output = part_gained before sink.taken sink_now.taken _ _ (made (fed ++ more)).output opened.written copies.front (piece_front more) }

-- ---- a file whose bytes may be known

module _ {E : Type 0} (form : Form E) (shape : Shape) (first : Option Head) (number : ℕ) (before now : Option (List ℕ)) where
  abbrev pub IsCopiedTo : Option (List ℕ) → ℕ → Reading E → Option (List ℕ) → Type 0
  IsCopiedTo left at r now = IfSome left (λ bytes. IsCopied form shape first (take at bytes) r before now)

  abbrev pub EndsFile : Option (List ℕ) → Status → Type 0
  EndsFile left end = IfSome left (λ bytes. IsEnd (joined form shape.kind first number (contents_of form shape bytes)) before now end)

  -- a piece of it
  pub file_copies : (left next : Option (List ℕ)) (at n : ℕ) (room filled piece : List ℕ) (old new : Reading E) (mid : Option (List ℕ)) (result : Result (Unit {0}) ToolStop) → IsCopiedTo left at old mid → GivesKnown (left_from left at) next room filled n → piece ≡ take n filled
      → ((fed : List ℕ) → IsCopied form shape first fed old before mid → Copies form shape first number (fed ++ piece) new before now result) → IfSome left (λ bytes. Copies form shape first number (take (at + n) bytes) new before now result)
  file_copies None next at n room filled piece old new mid result copied gives is turns = tt
  file_copies (Some bytes) next at n room filled piece old new mid result copied gives is turns =
      subst (λ (fed : List ℕ). Copies form shape first number fed new before now result) (ap (λ (xs : List ℕ). take at bytes ++ xs) (piece_is bytes next room filled piece at n gives is) ∙ taken_on at n bytes) (turns (take at bytes) copied)

  -- it ends so whatever bytes follow
  pub file_stops : (left : Option (List ℕ)) (at : ℕ) (why : ToolStop) → IfSome left (λ bytes. StopsIn form shape first number (take at bytes) before now why) → EndsFile left (stop_status why)
  file_stops None at why stops = tt
  file_stops (Some bytes) at why stops = subst (λ (whole : List ℕ). IsEnd (joined form shape.kind first number (contents_of form shape whole)) before now (stop_status why)) (take-append-drop at bytes) (stops (drop at bytes))

  pub file_unread : ((bytes more : List ℕ) → GrowsTo E (stream_of form shape bytes) (stream_of form shape (bytes ++ more))) → (fault : Fault) (left : Option (List ℕ)) (at : ℕ) (r : Reading E) → IsCopiedTo left at r now → EndsFile left (stop_status (unread_stop fault))
  file_unread grows fault None at r copied = tt
  file_unread grows fault (Some bytes) at r copied = file_stops (Some bytes) at (unread_stop fault) (stops_unread form shape first number grows fault (take at bytes) r before now copied)
