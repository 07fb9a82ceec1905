-- The rows of the footprint of an event: which are refused, and the first of them.
-- The rules: docs/CHECKS.md, "Footprint rows of an event".
use Rattle.std.specs.Prelude.{ℕ, ◌+◌, ◌&&◌, ◌||◌, Bool, cond, nat_eq, nat_lt, List, [], ◌∷◌, ◌++◌, length, Option, None, Some, option_map}
use Rattle.std.specs.List.{list_any, sum_by}
use Rattle.std.specs.Option.{option_or}
use Rattle.kt_rec.specs.declared.hazard.FootRow.{FootRow}
use Rattle.kt_rec.specs.declared.foot_rows.ModelStop.{ModelStop}
use Rattle.kt_rec.specs.declared.foot_rows.ModelStop.TheVariants as stop
use Rattle.kt_rec.specs.declared.foot_rows.RowCause.{RowCause}
use Rattle.kt_rec.specs.declared.foot_rows.RowCause.TheVariants as cause

-- the probabilities of an areaperil together, in parts per million
abbrev pub areaperil_total : List FootRow → ℕ → ℕ
areaperil_total rows areaperil = sum_by (λ row. cond (nat_eq row.areaperil areaperil) row.prob 0) rows

-- whether a row is of an areaperil and an intensity
abbrev pub is_at : ℕ → ℕ → FootRow → Bool
is_at areaperil intensity row = nat_eq row.areaperil areaperil && nat_eq row.intensity intensity

-- why the fields of a row are refused: of several causes the first
abbrev pub field_cause : FootRow → Option RowCause
field_cause row =
    cond (nat_lt row.areaperil 1 || nat_lt 2147483647 row.areaperil) (Some cause.Areaperil)
    (cond (nat_lt row.intensity 1 || nat_lt 10000 row.intensity) (Some cause.Intensity)
    (cond (nat_lt 1000000 row.prob) (Some cause.Prob) None))

-- why a row is refused behind earlier ones: of several causes the first
abbrev pub row_cause : List FootRow → FootRow → Option RowCause
row_cause earlier row =
    option_or (field_cause row)
    (cond (list_any (is_at row.areaperil row.intensity) earlier) (Some cause.Twice)
    (cond (nat_lt 1001000 (areaperil_total (earlier ++ row ∷ []) row.areaperil)) (Some cause.Sum) None))

-- the first refused of these rows, which stand behind earlier ones, with its cause; rows are counted from 1
abbrev pub refused_after : List FootRow → List FootRow → Option ModelStop
refused_after earlier [] = None
refused_after earlier (row ∷ rows) =
    option_or (option_map (λ why. stop.Row (length earlier + 1) why) (row_cause earlier row)) (refused_after (earlier ++ row ∷ []) rows)

-- the first refused row with its cause
abbrev pub first_refused_row : List FootRow → Option ModelStop
first_refused_row rows = refused_after [] rows
