-- Fields that stand one after the other: whatever follows them, as they are written, and as they are read back.
use Rattle.std.proofs.Common.{◌≡◌, ℕ, ◌+◌, ◌≤◌, ◌<◌, ◌^◌, true, leb, List, [], ◌∷◌, ◌++◌, length, take, drop, None, refl, sym, ap, ◌∙◌, append_assoc, arith, inl, inr, ◌⊎◌, ◌&&◌}
use Rattle.std.proofs.lemmas.Bool.{leb-true, le-leb, cases_Bool, cases_lt, and_parts}
use Rattle.std.proofs.lemmas.List.{length-append, drop-append-le, length-drop, append-nil, drop_at, drop-drop, length-take-le, take-append-drop, get_or-drop, get_or-take, get_or_past}
use Rattle.std.proofs.lemmas.Nat.{le_bytes_4, le_bytes_8}
use Rattle.std.specs.Int.{w32, w64, from_le_bytes}
use Rattle.byteorder.specs.Endian.{little_bytes}
use Rattle.byteorder.specs.Numbers.{little_from-append, little_from-take, little_number-reads_back, length-bytes_low_first}
use Rattle.kt_stream.specs.declared.read.Read.TheVariants.{Got}
use Rattle.kt_stream.specs.Read.{number_of, number, accepted, between, Field, field, fields_in, width_of, fields_then, AreJudged, AreSmall}
use Rattle.kt_stream.specs.Stream.{Kept, AreBytes}
use Rattle.kt_stream.proofs.Cases.{got_is, short_not_got, some_is_none, bind_got, accepted_is, kept_same, kept_then}

-- ---- bounds

-- a value with which nothing is wrong lies between the bounds
pub between_bounds : {W : Type 0} (low high : ℕ) (wrong : W) (x : ℕ) → between low high wrong x ≡ None → (low ≤ x) × (x ≤ high)
between_bounds low high wrong x e = elim (cases_Bool (leb low x && leb x high)) [
  | inl fits ↦ let both = and_parts _ _ fits in (leb-true _ _ both.0, leb-true _ _ both.1)
  | inr past ↦ absurd (some_is_none wrong (rw past at e))
]

-- nothing is wrong with a value between the bounds
pub between_none : {W : Type 0} (low high : ℕ) (wrong : W) (x : ℕ) → low ≤ x → x ≤ high → between low high wrong x ≡ None
between_none low high wrong x least most = rw (le-leb low x least, le-leb x high most) refl

-- ---- numbers

-- a number that was read had its bytes, and is theirs
number_got : {W : Type 0} (n : ℕ) (bytes : List ℕ) (x : ℕ) → number {W = W} n bytes ≡ Got x → (n ≤ length bytes) × (x ≡ number_of n bytes)
number_got {W} n bytes x e = elim (cases_Bool (leb n (length bytes))) [
  | inl fits ↦ (leb-true _ _ fits, sym (got_is {W = W} (number_of n bytes) x (rw fits at e)))
  | inr past ↦ absurd (short_not_got {W = W} x (rw past at e))
]

-- a number is kept
number_kept : (W : Type 0) (n : ℕ) (bytes more : List ℕ) → Kept (number {W = W} n bytes) (number n (bytes ++ more))
unfolding number_of
number_kept W n bytes more = elim (cases_Bool (leb n (length bytes))) [
  | inl fits ↦
      let le = leb-true n (length bytes) fits in
      let also : leb n (length (bytes ++ more)) ≡ true = le-leb _ _ (omega (arith, length-append bytes more)) in
      rw (fits, also, little_from-append n bytes more le) refl
  | inr past ↦ rw past tt
]

-- what is left of bytes is bytes
pub bytes_behind : (n : ℕ) (bytes : List ℕ) → AreBytes bytes → AreBytes (drop n bytes)
bytes_behind n bytes are = λ place. rw (get_or-drop n bytes place 0) (are (n + place))

bytes_before : (n : ℕ) (bytes : List ℕ) → n ≤ length bytes → AreBytes bytes → AreBytes (take n bytes)
bytes_before n bytes long are = λ place. elim (cases_lt place n) [
  | inl within ↦ rw (get_or-take n bytes place 0 within) (are place)
  | inr past ↦ rw (get_or_past (take n bytes) place 0 (omega (arith, length-take-le n bytes long))) (omega arith)
]

four_number : (bytes : List ℕ) → number_of 4 bytes ≡ from_le_bytes w32 bytes
unfolding number_of
four_number bytes = omega arith

eight_number : (bytes : List ℕ) → number_of 8 bytes ≡ from_le_bytes w64 bytes
unfolding number_of
eight_number bytes = omega arith

number_before : (n : ℕ) (bytes : List ℕ) → number_of n (take n bytes) ≡ number_of n bytes
unfolding number_of
number_before n bytes = little_from-take 0 n n bytes (omega arith)

-- the widths of fields, of which the bytes are known by their number
abbrev pub IsWide : ℕ → Type 0
IsWide n = (n ≡ 4) ⊎ (n ≡ 8)

-- the first bytes are those of their number
first_bytes : (n : ℕ) (bytes : List ℕ) → IsWide n → AreBytes bytes → n ≤ length bytes → little_bytes n (number_of n bytes) ≡ take n bytes
first_bytes n bytes (inl four) are long =
    let long-4 : 4 ≤ length bytes = rw four at long in
    rw four (le_bytes_4 (take 4 bytes) (number_of 4 bytes) (length-take-le 4 bytes long-4) (bytes_before 4 bytes long-4 are) (sym (number_before 4 bytes) ∙ four_number (take 4 bytes)))
first_bytes n bytes (inr eight) are long =
    let long-8 : 8 ≤ length bytes = rw eight at long in
    rw eight (le_bytes_8 (take 8 bytes) (number_of 8 bytes) (length-take-le 8 bytes long-8) (bytes_before 8 bytes long-8 are) (sym (number_before 8 bytes) ∙ eight_number (take 8 bytes)))

number_written : (n : ℕ) (bytes : List ℕ) → IsWide n → AreBytes bytes → n ≤ length bytes → bytes ≡ little_bytes n (number_of n bytes) ++ drop n bytes
number_written n bytes wide are long = sym (ap (λ (xs : List ℕ). xs ++ drop n bytes) (first_bytes n bytes wide are long) ∙ take-append-drop n bytes)

-- behind a number stands what was written behind it
pub behind_number : (n x : ℕ) (rest : List ℕ) → drop n (little_bytes n x ++ rest) ≡ rest
behind_number n x rest = drop_at (little_bytes n x) rest n (length-bytes_low_first 0 n x)

number_back : {W : Type 0} (n x : ℕ) (rest : List ℕ) → x < 256 ^ n → number {W = W} n (little_bytes n x ++ rest) ≡ Got x
unfolding number_of
number_back n x rest small =
    let long : n ≤ length (little_bytes n x ++ rest) = omega (arith, length-append (little_bytes n x) rest, length-bytes_low_first 0 n x) in
    rw (le-leb n (length (little_bytes n x ++ rest)) long, little_number-reads_back n x rest small) refl

-- ---- fields

-- what is known of a field that was read
pub record FieldRead (W : Type 0) (f : Field W) (before bytes : List ℕ) (at x : ℕ) : Type 0 where
  pub long : f.width ≤ length bytes
  pub value : x ≡ number_of f.width bytes
  pub good : f.judge before at x ≡ None

-- what is known of a field that was read
pub field_got : {W : Type 0} (f : Field W) (before bytes : List ℕ) (at x : ℕ) → field f before bytes at ≡ Got x → FieldRead W f before bytes at x
field_got f before bytes at x e =
    let first = bind_got (number f.width bytes) (λ y. accepted y (f.judge before at y)) x e in
    let same = accepted_is first.0 x (f.judge before at first.0) first.2 in
    let known = number_got f.width bytes first.0 first.1 in
    record {
      long = known.0;
      value = sym same.0 ∙ known.1;
      good = ap (f.judge before at) (sym same.0) ∙ same.1;
    }

field_kept : {W : Type 0} (f : Field W) (before bytes more : List ℕ) (at : ℕ) → Kept (field f before bytes at) (field f before (bytes ++ more) at)
field_kept {W} f before bytes more at =
    kept_then (number f.width bytes) (number f.width (bytes ++ more)) _ _ (number_kept W f.width bytes more) (λ x e. kept_same (accepted x (f.judge before at x)))

-- fields keep what they are, whatever bytes follow
pub fields_kept : {W : Type 0} (fields : List (Field W)) (before bytes more : List ℕ) (at : ℕ) → Kept (fields_in fields before bytes at) (fields_in fields before (bytes ++ more) at)
fields_kept [] before bytes more at = refl
fields_kept (f ∷ fields) before bytes more at =
    kept_then (field f before bytes at) (field f before (bytes ++ more) at) _ _ (field_kept f before bytes more at) (λ x e.
    rw (drop-append-le f.width bytes more (field_got f before bytes at x e).long) (fields_kept fields (before ++ x ∷ []) (drop f.width bytes) more (at + f.width)))

-- each of the fields has four bytes or eight
abbrev pub AreWide : {W : Type 0} → List (Field W) → Type 0
AreWide [] = Unit {0}
AreWide (f ∷ fields) = IsWide f.width × AreWide fields

-- what is known of fields that were read
pub record FieldsRead (W : Type 0) (fields : List (Field W)) (before bytes : List ℕ) (at : ℕ) (out : List ℕ) : Type 0 where
  pub values : List ℕ
  pub out_is : out ≡ before ++ values
  pub judged : AreJudged fields before at values
  pub long : width_of fields ≤ length bytes
  pub written : AreBytes bytes → AreWide fields → bytes ≡ fields_then fields values (drop (width_of fields) bytes)

-- what is known of fields that were read
pub fields_got : {W : Type 0} (fields : List (Field W)) (before bytes : List ℕ) (at : ℕ) (out : List ℕ) → fields_in fields before bytes at ≡ Got out → FieldsRead W fields before bytes at out
fields_got {W} [] before bytes at out e = record {
  values = [];
  out_is = sym (append-nil before ∙ got_is {W = W} before out e);
  judged = tt;
  long = omega arith;
  written = λ are wide. refl;
}
fields_got (f ∷ fields) before bytes at out e =
    let first = bind_got (field f before bytes at) (λ x. fields_in fields (before ++ x ∷ []) (drop f.width bytes) (at + f.width)) out e in
    let known = field_got f before bytes at first.0 first.1 in
    let next = fields_got fields (before ++ first.0 ∷ []) (drop f.width bytes) (at + f.width) out first.2 in
    record {
      values = first.0 ∷ next.values;
      out_is = next.out_is ∙ append_assoc before (first.0 ∷ []) next.values;
      judged = (known.good, next.judged);
      long = omega (arith, next.long, length-drop f.width bytes, known.long);
      written = λ are wide.
          number_written f.width bytes wide.0 are known.long
          ∙ ap (λ (x : ℕ). little_bytes f.width x ++ drop f.width bytes) (sym known.value)
          ∙ ap (λ (xs : List ℕ). little_bytes f.width first.0 ++ xs) (next.written (bytes_behind f.width bytes are) wide.1 ∙ ap (fields_then fields next.values) (drop-drop (width_of fields) f.width bytes));
    }

-- fields are read back as they were written
pub fields_back : {W : Type 0} (fields : List (Field W)) (before values rest : List ℕ) (at : ℕ) → AreJudged fields before at values → AreSmall fields values → fields_in fields before (fields_then fields values rest) at ≡ Got (before ++ values)
fields_back [] before [] rest at judged small = rw (append-nil before) refl
fields_back [] before (x ∷ values) rest at judged small = absurd judged
fields_back (f ∷ fields) before [] rest at judged small = absurd judged
fields_back (f ∷ fields) before (x ∷ values) rest at judged small =
    let onward = fields_back fields (before ++ x ∷ []) values rest (at + f.width) judged.1 small.1 in
    rw (number_back f.width x (fields_then fields values rest) small.0, judged.0, behind_number f.width x (fields_then fields values rest), onward, append_assoc before (x ∷ []) values) refl

-- behind the fields stands what was written behind them
pub behind_fields : {W : Type 0} (fields : List (Field W)) (before values rest : List ℕ) (at : ℕ) → AreJudged fields before at values → drop (width_of fields) (fields_then fields values rest) ≡ rest
behind_fields [] before values rest at judged = refl
behind_fields (f ∷ fields) before [] rest at judged = absurd judged
behind_fields (f ∷ fields) before (x ∷ values) rest at judged =
    sym (drop-drop (width_of fields) f.width (little_bytes f.width x ++ fields_then fields values rest))
    ∙ ap (drop (width_of fields)) (behind_number f.width x (fields_then fields values rest)) ∙ behind_fields fields (before ++ x ∷ []) values rest (at + f.width) judged.1

-- the bytes that were written
pub fields_length : {W : Type 0} (fields : List (Field W)) (before values rest : List ℕ) (at : ℕ) → AreJudged fields before at values → length (fields_then fields values rest) ≡ width_of fields + length rest
fields_length [] before values rest at judged = omega arith
fields_length (f ∷ fields) before [] rest at judged = absurd judged
fields_length (f ∷ fields) before (x ∷ values) rest at judged =
    omega (arith, length-append (little_bytes f.width x) (fields_then fields values rest), length-bytes_low_first 0 f.width x, fields_length fields (before ++ x ∷ []) values rest (at + f.width) judged.1)
