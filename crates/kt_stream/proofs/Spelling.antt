-- What is written as a stream is read back, and what is read as one without a fault is written so.
use Rattle.std.proofs.Common.{◌≡◌, ℕ, zero, suc, ◌+◌, ◌≤◌, ◌<◌, List, [], ◌∷◌, ◌++◌, length, take, drop, None, refl, sym, ap, ◌∙◌, arith, inl, inr}
use Rattle.std.proofs.lemmas.Bool.{cases_lt}
use Rattle.std.proofs.lemmas.List.{drop_at}
use Rattle.std.specs.List.{AllByRecursion}
use Rattle.kt_stream.specs.declared.kind.Head.{Head}
use Rattle.kt_stream.specs.declared.kind.Shape.{Shape}
use Rattle.kt_stream.specs.declared.read.HeaderFault.{HeaderFault}
use Rattle.kt_stream.specs.declared.read.Misfit.{Misfit}
use Rattle.kt_stream.specs.declared.read.Read.{Read}
use Rattle.kt_stream.specs.declared.read.Read.TheVariants.{Got, Short, Wrong}
use Rattle.kt_stream.specs.Header.{IsHead, header_in, header_bytes, header_size}
use Rattle.kt_stream.specs.Stream.{Form, Walk, Whole, Partial, Refused, End, Stream, AreBytes, IsLawful, at_border, with_entries, with_head, step, walk, records_in, headed, reads_on, too_long, stream_of, stream_limit, fault_at, fault_of}
use Rattle.kt_stream.specs.Grammar.{records_bytes, Spells, placed_from, entries_of, spelled, IsSpelled}
use Rattle.kt_stream.proofs.Cases.{some_is}
use Rattle.kt_stream.proofs.Fields.{bytes_behind}
use Rattle.kt_stream.proofs.Heading.{header_got, header_back, header_length, few_samples}
use Rattle.kt_stream.proofs.Walking.{records_step, records_short, fewer}
use Rattle.kt_stream.proofs.Room.{room_within, room_beyond}

-- ---- from values to bytes

-- records are read back, one after the other
records_back : {E : Type 0} {Good : Shape → ℕ → E → Type 0} (form : Form E) (shape : Shape) (samples : ℕ) (entries : List E) (at : ℕ) → IsLawful E form Good → samples ≤ 1000 → AllByRecursion (Good shape samples) entries
    → records_in form shape samples (records_bytes form entries) at ≡ record { entries = placed_from form at entries; end = Whole }
unfolding records_bytes
records_back form shape samples [] at lawful few each = records_short form shape samples [] at (lawful.nothing shape samples at)
records_back form shape samples (entry ∷ entries) at lawful few each =
    let size = length (form.bytes entry) in
    let rest = records_bytes form entries in
    records_step form shape samples (form.bytes entry ++ rest) at entry lawful (lawful.back shape samples entry rest at few each.0)
    ∙ ap (λ (xs : List ℕ). with_entries (record { at = at; entry = entry } ∷ []) (records_in form shape samples xs (at + size))) (drop_at (form.bytes entry) rest size refl)
    ∙ ap (with_entries (record { at = at; entry = entry } ∷ [])) (records_back form shape samples entries (at + size) lawful few each.1)

-- a header and the records behind it are read back
reads_back : {E : Type 0} {Good : Shape → ℕ → E → Type 0} (form : Form E) (shape : Shape) (head : Head) (entries : List E) → IsLawful E form Good → IsHead shape.kind head → AllByRecursion (Good shape head.samples) entries
    → reads_on form shape None 0 (header_bytes shape.kind head ++ records_bytes form entries) ≡ spelled form shape head entries
unfolding reads_on
reads_back form shape head entries lawful is each =
    let bytes = header_bytes shape.kind head ++ records_bytes form entries in
    let size = header_size shape.kind in
    ap (λ (r : Read Head HeaderFault). headed form shape r 0 bytes) (header_back shape.kind head (records_bytes form entries) is)
    ∙ ap (λ (xs : List ℕ). with_head head (records_in form shape head.samples xs (0 + size))) (drop_at (header_bytes shape.kind head) (records_bytes form entries) size (header_length shape.kind head))
    ∙ ap (with_head head) (records_back form shape head.samples entries (0 + size) lawful (few_samples shape.kind head is) each ∙ rw (zero_more size) refl)
  where
    zero_more : (n : ℕ) → 0 + n ≡ n
    zero_more n = omega arith

-- what is spelled is read
pub spelled_back : {E : Type 0} {Good : Shape → ℕ → E → Type 0} (form : Form E) (shape : Shape) (bytes : List ℕ) (head : Head) (entries : List E) → IsLawful E form Good → Spells E form Good shape bytes head entries
    → stream_of form shape bytes ≡ spelled form shape head entries
spelled_back form shape bytes head entries lawful spells =
    room_within stream_limit (reads_on form shape None 0) bytes spells.within ∙ ap (reads_on form shape None 0) spells.written ∙ reads_back form shape head entries lawful spells.in_range spells.each

entries_placed : {E : Type 0} (form : Form E) (at : ℕ) (entries : List E) → entries_of (placed_from form at entries) ≡ entries
entries_placed form at [] = refl
entries_placed {E} form at (entry ∷ entries) = ap (λ (es : List E). entry ∷ es) (entries_placed form (at + length (form.bytes entry)) entries)

-- the records that are spelled are those that are read, places aside
entries_back : {E : Type 0} {Good : Shape → ℕ → E → Type 0} (form : Form E) (shape : Shape) (bytes : List ℕ) (head : Head) (entries : List E) → IsLawful E form Good → Spells E form Good shape bytes head entries
    → entries_of (stream_of form shape bytes).entries ≡ entries
entries_back {E} form shape bytes head entries lawful spells = ap (λ (s : Stream E). entries_of s.entries) (spelled_back form shape bytes head entries lawful spells) ∙ entries_placed form (header_size shape.kind) entries

-- what is spelled by the same bytes is the same
pub spelled_once : {E : Type 0} {Good : Shape → ℕ → E → Type 0} (form : Form E) (shape : Shape) (bytes : List ℕ) (head other_head : Head) (entries other_entries : List E) → IsLawful E form Good
    → Spells E form Good shape bytes head entries → Spells E form Good shape bytes other_head other_entries → (head ≡ other_head) × (entries ≡ other_entries)
spelled_once {E} form shape bytes head other_head entries other_entries lawful first second =
    let same : spelled form shape head entries ≡ spelled form shape other_head other_entries = sym (spelled_back form shape bytes head entries lawful first) ∙ spelled_back form shape bytes other_head other_entries lawful second in
    (some_is head other_head (ap (λ (s : Stream E). s.head) same), sym (entries_back form shape bytes head entries lawful first) ∙ entries_back form shape bytes other_head other_entries lawful second)

-- a stream of records behind others has the records of both
pub spelled_both : {E : Type 0} {Good : Shape → ℕ → E → Type 0} (form : Form E) (shape : Shape) (bytes first_bytes last_bytes : List ℕ) (head : Head) (first last : List E) → IsLawful E form Good
    → Spells E form Good shape bytes head (first ++ last) → Spells E form Good shape first_bytes head first → Spells E form Good shape last_bytes head last
    → entries_of (stream_of form shape bytes).entries ≡ entries_of (stream_of form shape first_bytes).entries ++ entries_of (stream_of form shape last_bytes).entries
spelled_both form shape bytes first_bytes last_bytes head first last lawful both one other =
    rw (entries_back form shape bytes head (first ++ last) lawful both, entries_back form shape first_bytes head first lawful one, entries_back form shape last_bytes head last lawful other) refl

-- ---- from bytes to values

-- the bytes are records and nothing else
record AreRecords (E : Type 0) (form : Form E) (Good : Shape → ℕ → E → Type 0) (shape : Shape) (samples : ℕ) (bytes : List ℕ) : Type 0 where
  pub entries : List E
  pub each : AllByRecursion (Good shape samples) entries
  pub written : bytes ≡ records_bytes form entries

nothing_left : (bytes : List ℕ) → at_border bytes ≡ Whole → bytes ≡ []
nothing_left [] is = refl
nothing_left (b ∷ bytes) is = absurd cc

no_records : {E : Type 0} {Good : Shape → ℕ → E → Type 0} (form : Form E) (shape : Shape) (samples : ℕ) (bytes : List ℕ) → bytes ≡ [] → AreRecords E form Good shape samples bytes
unfolding records_bytes
no_records form shape samples bytes is = record { entries = []; each = tt; written = is }

more_records : {E : Type 0} {Good : Shape → ℕ → E → Type 0} (form : Form E) (shape : Shape) (samples : ℕ) (bytes rest : List ℕ) (entry : E) → Good shape samples entry → bytes ≡ form.bytes entry ++ rest → AreRecords E form Good shape samples rest
    → AreRecords E form Good shape samples bytes
unfolding records_bytes
more_records form shape samples bytes rest entry fits is more = record {
  entries = entry ∷ more.entries;
  each = (fits, more.each);
  written = is ∙ ap (λ (xs : List ℕ). form.bytes entry ++ xs) more.written;
}

step_written : {E : Type 0} {Good : Shape → ℕ → E → Type 0} (form : Form E) (shape : Shape) (samples : ℕ) (r : Read E Misfit) (bytes : List ℕ) (at : ℕ) (next : E → Walk E) → (step r bytes at next).end ≡ Whole
    → ((e : E) → r ≡ Got e → (next e).end ≡ Whole → AreRecords E form Good shape samples bytes) → AreRecords E form Good shape samples bytes
step_written form shape samples (Got e) bytes at next whole onward = onward e refl whole
step_written form shape samples Short bytes at next whole onward = no_records form shape samples bytes (nothing_left bytes whole)
step_written form shape samples (Wrong m) bytes at next whole onward = absurd cc

walk_written : {E : Type 0} {Good : Shape → ℕ → E → Type 0} (form : Form E) (shape : Shape) (samples n : ℕ) (bytes : List ℕ) (at : ℕ) → IsLawful E form Good → samples ≤ 1000 → AreBytes bytes → length bytes < n
    → (walk form shape samples n bytes at).end ≡ Whole → AreRecords E form Good shape samples bytes
unfolding walk
walk_written form shape samples zero bytes at lawful few are enough whole = absurd (omega arith)
walk_written form shape samples (suc n) bytes at lawful few are enough whole =
    step_written form shape samples (form.unit shape samples bytes at) bytes at _ whole (λ e is end.
    let size = length (form.bytes e) in
    more_records form shape samples bytes (drop size bytes) e (lawful.good shape samples bytes at e few is) (lawful.written shape samples bytes at e few are is)
    (walk_written form shape samples n (drop size bytes) (at + size) lawful few (bytes_behind size bytes are) (omega (arith, fewer form shape samples bytes at e lawful is)) end))

-- what is known of bytes that end behind a record
headed_written : {E : Type 0} (form : Form E) (shape : Shape) (r : Read Head HeaderFault) (bytes : List ℕ) → (headed form shape r 0 bytes).end ≡ Whole
    → (h : Head) × (r ≡ Got h) × ((records_in form shape h.samples (drop (header_size shape.kind) bytes) (0 + header_size shape.kind)).end ≡ Whole)
headed_written form shape (Got h) bytes whole = (h, refl, whole)
headed_written form shape Short bytes whole = absurd cc
headed_written form shape (Wrong m) bytes whole = absurd cc

reads_written : {E : Type 0} {Good : Shape → ℕ → E → Type 0} (form : Form E) (shape : Shape) (bytes : List ℕ) → IsLawful E form Good → AreBytes bytes → length bytes ≤ stream_limit → (reads_on form shape None 0 bytes).end ≡ Whole
    → (head : Head) × (entries : List E) × Spells E form Good shape bytes head entries
unfolding reads_on
reads_written form shape bytes lawful are within whole =
    let size = header_size shape.kind in
    let known = headed_written form shape (header_in shape.kind bytes) bytes whole in
    let h = known.0 in
    let read = header_got shape.kind bytes h known.1 in
    let rest = walk_written form shape h.samples (suc (length (drop size bytes))) (drop size bytes) (0 + size) lawful (few_samples shape.kind h read.good) (bytes_behind size bytes are) (omega arith) known.2 in (
      h,
      rest.entries,
      record {
        in_range = read.good;
        each = rest.each;
        written = read.written are ∙ ap (λ (xs : List ℕ). header_bytes shape.kind h ++ xs) rest.written;
        within = within;
      },
    )

too_long_refused : (end : End) → too_long end ≡ Whole → ⊥
too_long_refused Whole is = cc
too_long_refused Partial is = cc
too_long_refused (Refused stop) is = cc

faultless_whole : (n : ℕ) (end : End) → fault_at n end ≡ None → end ≡ Whole
faultless_whole n Whole is = refl
faultless_whole n Partial is = absurd cc
faultless_whole n (Refused stop) is = absurd cc

-- what is read without a fault is spelled
pub faultless_written : {E : Type 0} {Good : Shape → ℕ → E → Type 0} (form : Form E) (shape : Shape) (bytes : List ℕ) → IsLawful E form Good → AreBytes bytes → fault_of form shape bytes ≡ None → IsSpelled E form Good shape bytes
faultless_written form shape bytes lawful are faultless =
    let read = reads_on form shape None 0 in
    let whole = faultless_whole (length bytes) (stream_of form shape bytes).end faultless in
    elim (cases_lt stream_limit (length bytes)) [
      | inl beyond ↦ absurd (too_long_refused (read (take stream_limit bytes)).end (rw (room_beyond stream_limit read bytes beyond) at whole))
      | inr within ↦
          let found = reads_written form shape bytes lawful are within (rw (room_within stream_limit read bytes within) at whole) in
          record { head = found.0; entries = found.1; spells = found.2; read = spelled_back form shape bytes found.0 found.1 lawful found.2 }
    ]
