-- Rows of numbers that are in the ranges of their kinds are rows in range.
use Rattle.std.proofs.Common.{◌≡◌, ◌≤◌, ℕ, List, [], ◌∷◌, map, suc, Ok, arith, ◌^◌, Bool, true, false}
use Rattle.std.specs.Prelude.{All, if◌then◌else◌}
use Rattle.std.proofs.lemmas.Bool.Decides.{nat_tests}
use Rattle.std.proofs.lemmas.List.Elements.{All-nil, All-cons}
use Rattle.kt_rec.specs.Ranges.{IsTerm, is_rule_number}
use Rattle.kt_rec.specs.Kinds.{in_range, within, under, is_ppm, lowest, highest}
use Rattle.kt_cells.specs.Ranges.{IsRow, AreRows}
use Rattle.kt_cells.specs.Reading.{rule_after}
use Rattle.kt_rec.specs.declared.kind.Kind.{Kind}
use Rattle.kt_rec.specs.declared.kind.Kind.TheVariants as kind
use Rattle.kt_load.specs.Typed.{column}

-- the bounds of a value that lies within them
pub record AreBounds (least most value : ℕ) : Type 0 where
  pub above : least ≤ value
  pub below : value ≤ most

-- a value that is within bounds
pub bounds : (least most value : ℕ) → within least most value ≡ Ok value → AreBounds least most value
bounds least most value is = grind (arith, nat_tests)

-- what a value of a kind is, by the rule that stands before it
abbrev pub IsOfKind : ℕ → Kind → ℕ → Type 0
IsOfKind rule kind.Rule value = is_rule_number value ≡ true
IsOfKind rule (kind.Term t) value = IsTerm (is_ppm t rule) value
IsOfKind rule k value = AreBounds (lowest k) (highest k) value

-- a term is an amount or parts per million
is_term : (value : ℕ) (part : Bool) → in_range (if part then kind.Ppm else kind.Amount) value ≡ Ok value → IsTerm part value
unfolding in_range
is_term value true is = (bounds 0 1000000 value is).below
is_term value false is = (bounds 0 (10 ^ 17) value is).below

-- a value that is in the range of its kind is one
of_kind : (rule : ℕ) (k : Kind) (value : ℕ) → in_range (under rule k) value ≡ Ok value → IsOfKind rule k value
unfolding in_range
of_kind rule kind.Rule value is = grind (arith, nat_tests)
of_kind rule (kind.Term t) value is = is_term value (is_ppm t rule) is
of_kind rule k value is = bounds (lowest k) (highest k) value is

-- the values of the columns are those of their kinds
abbrev pub AreOfKinds : ℕ → List Kind → (ℕ → ℕ) → Type 0
AreOfKinds rule [] at = Unit {0}
AreOfKinds rule (k ∷ kinds) at = IsOfKind rule k (at 0) × AreOfKinds (rule_after rule k (at 0)) kinds (λ place. at (suc place))

-- so are the values of a row in range
row_of_kinds : (rule : ℕ) (kinds : List Kind) (values : List ℕ) → IsRow rule kinds values → AreOfKinds rule kinds (λ place. column place values)
unfolding IsRow
row_of_kinds rule [] values row = tt
row_of_kinds rule (k ∷ kinds) [] row = absurd row
row_of_kinds rule (k ∷ kinds) (value ∷ values) row = (of_kind rule k value row.0, row_of_kinds (rule_after rule k value) kinds values row.1)

-- rows made of rows of numbers in range
pub all_made : {A : Type 0} (kinds : List Kind) (of : List ℕ → A) (P : A → Type 0) → ((values : List ℕ) → AreOfKinds 0 kinds (λ place. column place values) → P (of values)) → (rows : List (List ℕ)) → AreRows kinds rows → All P (map of rows)
unfolding AreRows
all_made kinds of P each [] are = All-nil P
all_made kinds of P each (row ∷ rows) are = All-cons P (of row) (map of rows) (each row (row_of_kinds 0 kinds row are.0)) (all_made kinds of P each rows are.1)
