-- All checks in their order, and the first refusal.
-- The rules: docs/CHECKS.md, "When a check is made", "Order".
use Rattle.std.specs.Prelude.{◌≡◌, ℕ, ◌-◌, ◌++◌, nat_lt, cond, false, List, [], ◌∷◌, slice_index_or, Option, Some, None, Result, Ok, Err}
use Rattle.kt_rec.specs.Places.{row_count}
use Rattle.kt_rec.specs.Rows.{Rows}
use Rattle.kt_rec.specs.TableNames.{IsTableId}
use Rattle.kt_rec.specs.TableSet.{is_in}
use Rattle.kt_rec.specs.declared.table.TableId.{TableId}
pub use Rattle.kt_keys.specs.declared.need.Need.{Need}
pub use Rattle.kt_keys.specs.declared.need.Refusal.{Refusal}
pub use Rattle.kt_keys.specs.declared.need.CheckStop.{CheckStop}
pub use Rattle.kt_keys.specs.declared.need.CheckStop.TheVariants.{Check}
use Rattle.kt_keys.specs.Refusals.{first_of, over_stages}
use Rattle.kt_keys.specs.KeyChecks.{key_checks, output_check}
use Rattle.kt_keys.specs.NameChecks.{coverage_check, damage_check, profile_check, output_unit_check, summary_checks}
use Rattle.kt_checks.specs.TableChecks.{limit_checks, value_check, bin_check, probability_check, place_check, empty_checks, period_check, damage_size_check}
use Rattle.kt_checks.specs.ProgrammeChecks.{source_check, target_check, terms_check}
use Rattle.kt_checks.specs.OutputChecks.{missing_output_check}
use Rattle.kt_checks.specs.SummaryChecks.{sample_checks, summary_size_check}

-- what the checks 1 to 10 refuse
unfoldable pub table_checks : Rows → Need → List (Option Refusal)
table_checks rows need =
    limit_checks rows need
    ∷ key_checks rows need
    ∷ output_check rows need
    ∷ coverage_check rows need
    ∷ value_check rows need
    ∷ bin_check rows need
    ∷ damage_check rows need
    ∷ probability_check rows need
    ∷ place_check rows need
    ∷ empty_checks rows need
    ∷ []

-- what the checks 11 to 16 refuse, 11 to 14 over the base and then the stages
unfoldable pub programme_checks : Rows → Need → List (Option Refusal)
programme_checks rows need =
    over_stages (source_check rows need) 10
    ∷ over_stages (target_check rows need) 10
    ∷ over_stages (terms_check rows need) 10
    ∷ over_stages (profile_check rows need) 10
    ∷ output_unit_check rows need
    ∷ missing_output_check rows need
    ∷ []

-- what the checks 18 and 19 refuse, where the samples are known
abbrev pub known_samples : Need → Option Refusal → Option Refusal
known_samples need found = cond (nat_lt 0 need.samples) found None

-- what the checks 17 to 21 refuse
unfoldable pub size_checks : Rows → Need → List (Option Refusal)
size_checks rows need =
    summary_checks rows need
    ∷ known_samples need (sample_checks rows need need.samples)
    ∷ known_samples need (summary_size_check rows need need.samples)
    ∷ period_check rows need
    ∷ damage_size_check rows need
    ∷ []

-- what each check refuses first, in their order
abbrev pub checks_of : Rows → Need → List (Option Refusal)
checks_of rows need = table_checks rows need ++ (programme_checks rows need ++ size_checks rows need)

-- the first refusal: by the check's number, then by the table, then by the row
unfoldable pub first_refusal : Rows → Need → Option Refusal
first_refusal rows need = first_of (checks_of rows need)

-- what the checks 18 and 19 refuse first, for a number of samples
unfoldable pub samples_refusal : Rows → Need → ℕ → Option Refusal
samples_refusal rows need samples = first_of (sample_checks rows need samples ∷ summary_size_check rows need samples ∷ [])

-- the answer to a first refusal
abbrev pub answer_of : Option Refusal → Result (Unit {0}) CheckStop
answer_of None = Ok tt
answer_of (Some refusal) = Err (Check refusal.number refusal.table refusal.row)

-- no check refuses the tables
pub record IsValid (rows : Rows) (need : Need) : Type 0 where
  pub none : first_refusal rows need ≡ None

-- a table that is not needed has no row
abbrev pub HasOnlyNeeded : Rows → Need → Type 0
HasOnlyNeeded rows need = (id : TableId) → IsTableId id → is_in need.loaded id ≡ false → row_count rows id ≡ 0

-- the check with a number refuses no table
pub record KeepsCheck (number : ℕ) (rows : Rows) (need : Need) : Type 0 where
  pub none : slice_index_or (checks_of rows need) (number - 1) None ≡ None

-- the checks 18 and 19 refuse no table for a number of samples
pub record KeepsSamples (rows : Rows) (need : Need) (samples : ℕ) : Type 0 where
  pub none : samples_refusal rows need samples ≡ None

-- the same need with another allocation rule
abbrev pub with_rule : Need → ℕ → Need
with_rule need rule = record need { rule = rule }
