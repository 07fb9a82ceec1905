-- The two types of rows that a summary record gives.
-- The rules: docs/OUTPUTS.md, "Event loss table".
use Rattle.std.specs.Prelude.{ℕ}
use Rattle.kt_elt.specs.declared.row_type.RowType.{RowType}
use Rattle.kt_elt.specs.declared.row_type.RowType.TheVariants.{Analytical, Sample}

-- 1 for what was computed from the distributions, 2 for the samples
abbrev pub type_number : RowType → ℕ
type_number Analytical = 1
type_number Sample = 2
