-- Values in the range of their kind.
use Rattle.std.proofs.Common.{◌≡◌, ℕ, zero, suc, ◌^◌, ◌<◌, ◌≤◌, Bool, true, false, List, [], ◌∷◌, length, refl, inl, inr, ◌⊎◌, arith, subst}
use Rattle.std.specs.Prelude.{Ok, if◌then◌else◌}
use Rattle.std.proofs.lemmas.Bool.Decides.{nat_tests}
use Rattle.std.proofs.lemmas.List.{append-nil}
use Rattle.byteorder.specs.Endian.{little_number, little_bytes}
use Rattle.byteorder.specs.Numbers.{length-bytes_low_first, little_number-reads_back}
use Rattle.kt_rec.specs.Kinds.{under, width, is_ppm, highest, within, known_rule, in_range}
use Rattle.kt_cells.specs.Reading.{and_then-ok, rule_after}
use Rattle.kt_cells.specs.Ranges.{IsRow, FitsBytes}
use Rattle.kt_cells.specs.Records.{field_value}
use Rattle.kt_rec.specs.Kinds.{decimals}
use Rattle.kt_cells.specs.Texts.{number_in, or_cause, text_value}
use Rattle.kt_rec.specs.declared.kind.Kind.{Kind}
use Rattle.kt_rec.specs.declared.kind.Kind.TheVariants as kind
use Rattle.kt_cells.proofs.RangeLemmas.{ReadsInRange}

-- a value within bounds is the value
pub within-ok : (least most value x : ℕ) → within least most value ≡ Ok x → (value ≡ x) × (x ≤ most)
within-ok least most value x good = (grind (arith, nat_tests), grind (arith, nat_tests))

-- and so is a rule
known_rule-ok : (value x : ℕ) → known_rule value ≡ Ok x → (value ≡ x) × (x ≤ 100)
known_rule-ok value x good = (grind (arith, nat_tests), grind (arith, nat_tests))

-- a value in range is the value, and not above the greatest
pub in_range-ok : (k : Kind) (value x : ℕ) → in_range k value ≡ Ok x → (value ≡ x) × (x ≤ highest k)
unfolding in_range
in_range-ok kind.Rule value x good = known_rule-ok value x good
in_range-ok k value x good = within-ok _ _ value x good

-- the value of a field is in range
pub field_value-range : ReadsInRange field_value
field_value-range k cell value good =
    let found = in_range-ok k (little_number (length cell) cell) value good in
    subst (λ (x : ℕ). in_range k x ≡ Ok value) found.0 good

-- the value of a text is in range
pub text_value-range : ReadsInRange text_value
unfolding text_value
text_value-range k text value good =
    let found = and_then-ok (or_cause (number_in (decimals k) text)) (in_range k) value good in
    subst (λ (x : ℕ). in_range k x ≡ Ok value) (in_range-ok k found.0 value found.2).0 found.2

-- an amount or parts per million fit eight bytes
term-fits : (b : Bool) → highest (if b then kind.Ppm else kind.Amount) < 256 ^ 8
term-fits true = omega arith
term-fits false = omega arith

-- what holds of every kind: its values fit their bytes and are no amount above the limit, it takes four to eight bytes, and it is
-- written with no, two or six decimals
pub record KindFacts (rule : ℕ) (k : Kind) : Type 0 where
  pub fits : highest (under rule k) < 256 ^ width k
  pub most : highest k ≤ 10 ^ 17
  pub narrow : 4 ≤ width k
  pub wide : width k ≤ 8
  pub scale : (decimals k ≡ 0) ⊎ ((decimals k ≡ 2) ⊎ (decimals k ≡ 6))

pub kind-facts : (rule : ℕ) (k : Kind) → KindFacts rule k
kind-facts rule kind.Tiv = record { fits = omega arith; most = omega arith; narrow = omega arith; wide = omega arith; scale = inr (inl refl) }
kind-facts rule kind.Amount = record { fits = omega arith; most = omega arith; narrow = omega arith; wide = omega arith; scale = inr (inl refl) }
kind-facts rule (kind.Term t) = record { fits = term-fits (is_ppm t rule); most = omega arith; narrow = omega arith; wide = omega arith; scale = inr (inl refl) }
kind-facts rule kind.Ppm = record { fits = omega arith; most = omega arith; narrow = omega arith; wide = omega arith; scale = inr (inr refl) }
kind-facts rule k = record { fits = omega arith; most = omega arith; narrow = omega arith; wide = omega arith; scale = inl refl }

-- the bytes of a value are read back
pub number-read_back : (rule : ℕ) (k : Kind) (value : ℕ) → in_range (under rule k) value ≡ Ok value → field_value (under rule k) (little_bytes (width k) value) ≡ Ok value
number-read_back rule k value range =
    let small : value < 256 ^ width k = omega (arith, (in_range-ok (under rule k) value value range).1, (kind-facts rule k).fits) in
    rw (length-bytes_low_first 0 (width k) value, rw append-nil at (little_number-reads_back (width k) value [] small)) range

-- the values of a row in range fit their bytes
pub IsRow-fits : (rule : ℕ) (kinds : List Kind) (values : List ℕ) → IsRow rule kinds values → FitsBytes kinds values
unfolding IsRow
IsRow-fits rule [] values range column within = absurd (omega arith)
IsRow-fits rule (kind ∷ kinds) [] range column within = absurd range
IsRow-fits rule (kind ∷ kinds) (value ∷ values) range zero within = omega (arith, (in_range-ok (under rule kind) value value range.0).1, (kind-facts rule kind).fits)
IsRow-fits rule (kind ∷ kinds) (value ∷ values) range (suc column) within = IsRow-fits (rule_after rule kind value) kinds values range.1 column (omega arith)
