-- The header of a stream, whatever bytes follow, as it is read, and as it is read back.
use Rattle.std.proofs.Common.{◌≡◌, ℕ, ◌+◌, ◌*◌, ◌/◌, ◌%◌, ◌≤◌, eqb, List, [], ◌∷◌, ◌++◌, length, drop, None, refl, sym, ap, subst, ◌∙◌, append_assoc, arith, inl, inr}
use Rattle.std.proofs.lemmas.Bool.{cases_Bool, eqb-true}
use Rattle.byteorder.specs.Endian.{little_bytes}
use Rattle.kt_stream.specs.declared.kind.Head.{Head}
use Rattle.kt_stream.specs.declared.kind.StreamKind.{StreamKind}
use Rattle.kt_stream.specs.declared.kind.StreamKind.TheVariants.{Cdf, Gul, Loss, Summary, Events}
use Rattle.kt_stream.specs.declared.read.HeaderFault.{HeaderFault}
use Rattle.kt_stream.specs.declared.read.HeaderFault.TheVariants.{NotProfile, WrongStream, BadSamples, BadSet}
use Rattle.kt_stream.specs.declared.read.Read.TheVariants.{Got}
use Rattle.kt_stream.specs.Read.{fields_in, fields_then, AreJudged, AreSmall}
use Rattle.kt_stream.specs.Header.{id_of, mark_judge, header_fields, header_size, head_of, header_in, IsHead, header_bytes}
use Rattle.kt_stream.specs.Stream.{Kept, AreBytes}
use Rattle.kt_stream.proofs.Cases.{got_is, some_is_none, bind_got, kept_then}
use Rattle.kt_stream.proofs.Fields.{between_bounds, between_none, AreWide, fields_kept, fields_got, fields_back}

-- a header keeps what it is, whatever bytes follow
pub header_kept : (kind : StreamKind) (bytes more : List ℕ) → Kept (header_in kind bytes) (header_in kind (bytes ++ more))
header_kept kind bytes more = kept_then (fields_in (header_fields kind) [] bytes 0) (fields_in (header_fields kind) [] (bytes ++ more) 0) _ _ (fields_kept (header_fields kind) [] bytes more 0) (λ values e. refl)

-- the kind and the type as a number
abbrev mark_of : StreamKind → ℕ
mark_of kind = id_of kind + 256 * 6619136

mark_is : (kind : StreamKind) (word : ℕ) → mark_judge kind word ≡ None → word ≡ mark_of kind
mark_is kind word e = elim (cases_Bool (eqb (word / 256) 6619136)) [
  | inl profile ↦ elim (cases_Bool (eqb (word % 256) (id_of kind))) [
    | inl same ↦ omega (arith, eqb-true _ _ profile, eqb-true _ _ same)
    | inr other ↦ absurd (some_is_none (WrongStream (word % 256)) (rw (profile, other) at e))
  ]
  | inr other ↦ absurd (some_is_none NotProfile (rw other at e))
]

-- the values of the fields of a header
abbrev values_of : StreamKind → Head → List ℕ
values_of Cdf head = mark_of Cdf ∷ []
values_of Summary head = mark_of Summary ∷ head.samples ∷ head.set ∷ []
values_of Events head = []
values_of kind head = mark_of kind ∷ head.samples ∷ []

-- the values of a header that was read
record ValuesRead (kind : StreamKind) (values : List ℕ) : Type 0 where
  pub good : IsHead kind (head_of values)
  pub are : values ≡ values_of kind (head_of values)

mark_alone : (kind : StreamKind) (word : ℕ) (rest : List ℕ) → mark_judge kind word ≡ None → word ∷ rest ≡ mark_of kind ∷ rest
mark_alone kind word rest e = ap (λ (w : ℕ). w ∷ rest) (mark_is kind word e)

values_read : (kind : StreamKind) (values : List ℕ) → AreJudged (header_fields kind) [] 0 values → ValuesRead kind values
values_read Cdf [] judged = absurd judged
values_read Cdf (mark ∷ []) judged = record { good = (refl, refl); are = mark_alone Cdf mark [] judged.0 }
values_read Cdf (mark ∷ other ∷ values) judged = absurd judged.1
values_read Events [] judged = record { good = (refl, refl); are = refl }
values_read Events (other ∷ values) judged = absurd judged
values_read Summary [] judged = absurd judged
values_read Summary (mark ∷ []) judged = absurd judged.1
values_read Summary (mark ∷ samples ∷ []) judged = absurd judged.1.1
values_read Summary (mark ∷ samples ∷ set ∷ []) judged =
    let bounds = between_bounds 1 1000 (BadSamples samples) samples judged.1.0 in
    let sets = between_bounds 1 9 (BadSet set) set judged.1.1.0 in
    record { good = (bounds.0, bounds.1, sets.0, sets.1); are = mark_alone Summary mark (samples ∷ set ∷ []) judged.0 }
values_read Summary (mark ∷ samples ∷ set ∷ other ∷ values) judged = absurd judged.1.1.1
values_read kind [] judged = absurd judged
values_read kind (mark ∷ []) judged = absurd judged.1
values_read kind (mark ∷ samples ∷ []) judged =
    let bounds = between_bounds 1 1000 (BadSamples samples) samples judged.1.0 in
    record { good = (bounds.0, bounds.1, refl); are = mark_alone kind mark (samples ∷ []) judged.0 }
values_read kind (mark ∷ samples ∷ other ∷ values) judged = absurd judged.1.1

all_wide : (kind : StreamKind) → AreWide (header_fields kind)
all_wide Cdf = (inl refl, tt)
all_wide Summary = (inl refl, (inl refl, (inl refl, tt)))
all_wide Events = tt
all_wide kind = (inl refl, (inl refl, tt))

-- a header is written as its fields are
values_bytes : (kind : StreamKind) (head : Head) (rest : List ℕ) → fields_then (header_fields kind) (values_of kind head) rest ≡ header_bytes kind head ++ rest
values_bytes Summary head rest =
    ap (λ (xs : List ℕ). little_bytes 4 (mark_of Summary) ++ xs) (sym (append_assoc (little_bytes 4 head.samples) (little_bytes 4 head.set) rest))
values_bytes kind head rest = refl

-- what is known of a header that was read
pub record HeaderRead (kind : StreamKind) (bytes : List ℕ) (head : Head) : Type 0 where
  pub long : header_size kind ≤ length bytes
  pub good : IsHead kind head
  pub written : AreBytes bytes → bytes ≡ header_bytes kind head ++ drop (header_size kind) bytes

-- what is known of a header that was read
pub header_got : (kind : StreamKind) (bytes : List ℕ) (head : Head) → header_in kind bytes ≡ Got head → HeaderRead kind bytes head
header_got kind bytes head e =
    let first = bind_got (fields_in (header_fields kind) [] bytes 0) (λ values. Got (head_of values)) head e in
    let known = fields_got (header_fields kind) [] bytes 0 first.0 first.1 in
    let is : head_of known.values ≡ head = ap head_of (sym known.out_is) ∙ got_is {W = HeaderFault} (head_of first.0) head first.2 in
    let read = values_read kind known.values known.judged in
    record {
      long = known.long;
      good = subst (IsHead kind) {x = head_of known.values} is read.good;
      written = λ are.
          known.written are (all_wide kind)
          ∙ ap (λ (values : List ℕ). fields_then (header_fields kind) values (drop (header_size kind) bytes)) (read.are ∙ ap (values_of kind) is)
          ∙ values_bytes kind head (drop (header_size kind) bytes);
    }

-- a stream has at most 1,000 samples
pub few_samples : (kind : StreamKind) (head : Head) → IsHead kind head → head.samples ≤ 1000
few_samples Cdf head is = omega (arith, is.0)
few_samples Events head is = omega (arith, is.0)
few_samples kind head is = is.1

values_judged : (kind : StreamKind) (head : Head) → IsHead kind head → AreJudged (header_fields kind) [] 0 (values_of kind head)
values_judged Cdf head is = (refl, tt)
values_judged Events head is = tt
values_judged Summary head is =
    (refl, (between_none 1 1000 (BadSamples head.samples) head.samples is.0 is.1, (between_none 1 9 (BadSet head.set) head.set is.2 is.3, tt)))
values_judged kind head is = (refl, (between_none 1 1000 (BadSamples head.samples) head.samples is.0 is.1, tt))

values_small : (kind : StreamKind) (head : Head) → IsHead kind head → AreSmall (header_fields kind) (values_of kind head)
values_small Cdf head is = (omega arith, tt)
values_small Events head is = tt
values_small Summary head is = (omega arith, (omega (arith, is.1), (omega (arith, is.3), tt)))
values_small kind head is = (omega arith, (omega (arith, is.1), tt))

head_back : (kind : StreamKind) (head : Head) → IsHead kind head → head_of (values_of kind head) ≡ head
head_back Gul head is = ap (λ (set : ℕ). record { samples = head.samples; set = set }) (sym is.2)
head_back Loss head is = ap (λ (set : ℕ). record { samples = head.samples; set = set }) (sym is.2)
head_back Summary head is = refl
head_back kind head is = ap (λ (n : ℕ). record { samples = n; set = 0 }) (sym is.0) ∙ ap (λ (n : ℕ). record { samples = head.samples; set = n }) (sym is.1)

-- a header is read back
pub header_back : (kind : StreamKind) (head : Head) (rest : List ℕ) → IsHead kind head → header_in kind (header_bytes kind head ++ rest) ≡ Got head
header_back kind head rest is =
    rw (← values_bytes kind head rest, fields_back (header_fields kind) [] (values_of kind head) rest 0 (values_judged kind head is) (values_small kind head is), head_back kind head is) refl

-- the bytes of a header
pub header_length : (kind : StreamKind) (head : Head) → length (header_bytes kind head) ≡ header_size kind
header_length Cdf head = refl
header_length kind head = refl
