-- The financial rows of the base and of each stage are in their ranges.
-- The rule: docs/TABLES.md, "Columns".
use Rattle.std.specs.Prelude.{◌≡◌, ℕ, Bool, true, false, nat_lt, length, refl, All}
use Rattle.std.proofs.Common.{sym, subst, arith}
use Rattle.std.proofs.lemmas.Bool.{ltb-true, ltb-false}
use Rattle.std.proofs.lemmas.List.{get_or_past}
use Rattle.kt_rec.specs.Ranges.{AreFinancial}
use Rattle.kt_rec.specs.Rows.{Rows, financial_at, no_financial_rows}

-- also where there is no such stage
pub financial_ranges : (rows : Rows) → All AreFinancial rows.financial → (stage : ℕ) → AreFinancial (financial_at rows stage)
financial_ranges rows all stage = by (nat_lt stage (length rows.financial)) refl
  where
    by : (inside : Bool) → nat_lt stage (length rows.financial) ≡ inside → AreFinancial (financial_at rows stage)
    by true is = all stage no_financial_rows (ltb-true stage (length rows.financial) is)
    by false is =
        subst AreFinancial (sym (get_or_past rows.financial stage no_financial_rows (ltb-false stage (length rows.financial) is)))
        (record { programme = λ k d inside. absurd (omega arith); policytc = λ k d inside. absurd (omega arith); profile = λ k d inside. absurd (omega arith) })
