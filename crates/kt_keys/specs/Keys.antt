-- The financial tables of a stage, and the keys of rows.
-- The rule: docs/CHECKS.md, "Keys".
use Rattle.std.specs.Prelude.{ℕ, ◌&&◌, nat_eq, Bool, List, [], slice_index_or}
use Rattle.kt_rec.specs.declared.financial.FmProgramme.{FmProgramme}
use Rattle.kt_rec.specs.declared.financial.FmPolicytc.{FmPolicytc}
use Rattle.kt_rec.specs.declared.financial.FmProfile.{FmProfile}
use Rattle.kt_rec.specs.Rows.{FinancialRows, Rows}

-- no rows of the three financial tables
abbrev pub no_financial : FinancialRows
no_financial = record { programme = []; policytc = []; profile = [] }

-- the rows of the financial tables of the base, at 0, or of a stage
abbrev pub financial_of : Rows → ℕ → FinancialRows
financial_of rows stage = slice_index_or rows.financial stage no_financial

-- the rows of `fm_programme` of the base, at 0, or of a stage
abbrev pub programme_of : Rows → ℕ → List FmProgramme
programme_of rows stage = (financial_of rows stage).programme

-- the rows of `fm_policytc` of the base, at 0, or of a stage
abbrev pub policytc_of : Rows → ℕ → List FmPolicytc
policytc_of rows stage = (financial_of rows stage).policytc

-- the rows of `fm_profile` of the base, at 0, or of a stage
abbrev pub profile_of : Rows → ℕ → List FmProfile
profile_of rows stage = (financial_of rows stage).profile

-- the two pairs have the same parts
abbrev pub same_pair : ℕ × ℕ → ℕ × ℕ → Bool
same_pair one other = nat_eq one.0 other.0 && nat_eq one.1 other.1

-- the two triples have the same parts
abbrev pub same_triple : ℕ × ℕ × ℕ → ℕ × ℕ × ℕ → Bool
same_triple one other = nat_eq one.0 other.0 && nat_eq one.1 other.1 && nat_eq one.2 other.2
