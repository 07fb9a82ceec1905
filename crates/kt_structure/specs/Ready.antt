-- What the tables of a programme keep, so that it can be made.
-- The rule: docs/FINANCIAL_MODULE.md, "Levels".
use Rattle.std.specs.Prelude.{◌≡◌, ℕ, ◌≤◌, ◌<◌, true, max, List, [], ◌∷◌, length, All, slice_index_or}
use Rattle.std.specs.List.{fold}
use Rattle.std.proofs.Common.{arith}
use Rattle.std.proofs.lemmas.List.Elements.{recursion_from_All}
use Rattle.kt_rec.specs.Ranges.{IsCoverage, IsFmProgramme, IsFmPolicytc, IsFmProfile}
use Rattle.kt_rec.specs.Rows.{Rows}
use Rattle.kt_rec.specs.declared.financial.FmProgramme.{FmProgramme}
use Rattle.kt_rec.specs.declared.table.Table.TheVariants as table
use Rattle.kt_keys.specs.Keys.{programme_of, policytc_of, profile_of as profiles_of}
use Rattle.kt_keys.specs.Refusals.{is_loaded}
use Rattle.kt_keys.specs.Units.{top_level}
use Rattle.kt_checks.specs.FinancialRanges.{financial_ranges}
use Rattle.kt_rules.specs.Profiles.{IsProfile, profile_of}
use Rattle.kt_rules.specs.RuleLaws.{profile_of-is}
use Rattle.kt_tables.specs.Portfolio.{PortfolioRows, IsPortfolio}
use Rattle.kt_tables.specs.PortfolioLaws.{coverages_distinct, coverages_within, keys_kept, sizes_kept}
use Rattle.kt_structure.specs.ProgrammeLaws.{HasTree}

-- the rows make a tree, and are in their ranges
pub record IsReady (rows : Rows) (stage : ℕ) : Type 0 where
  pub has : HasTree rows stage
  pub programme : All IsFmProgramme (programme_of rows stage)
  pub policytc : All IsFmPolicytc (policytc_of rows stage)
  pub profiles : All IsFmProfile (profiles_of rows stage)
  pub coverages : All IsCoverage rows.coverages
  pub few : length rows.coverages ≤ 100000

-- a programme with a row has a level
has-level : (programme : List FmProgramme) → All IsFmProgramme programme → 0 < length programme → 0 < top_level programme
has-level [] ranges some = absurd (omega arith)
has-level (row ∷ programme) ranges some =
    let level = ranges 0 row (omega arith) in
    let least = level.level_id.least in
    let most = up programme (max 0 row.level_id) in
    omega arith
  where
    up : (rest : List FmProgramme) (greatest : ℕ) → greatest ≤ fold (λ g r. max g r.level_id) greatest rest
    up [] greatest = omega arith
    up (next ∷ rest) greatest = let more = up rest (max greatest next.level_id) in omega arith

-- the tables of a loaded programme of a portfolio are ready
pub ready : (portfolio : PortfolioRows) → IsPortfolio portfolio → (stage : ℕ) → stage < 10 → is_loaded portfolio.need stage table.FmProgramme ≡ true → IsReady portfolio.rows stage
ready portfolio valid stage below loaded =
    let ranges = financial_ranges portfolio.rows valid.in_range.financial stage in
    let sizes = sizes_kept portfolio valid in
    record {
      has = record {
        levels = has-level (programme_of portfolio.rows stage) ranges.programme (sizes.programmes stage below loaded);
        sources = ((keys_kept portfolio valid).financial stage below).programme;
        profiles = recursion_from_All (λ row. IsProfile (profile_of row)) (profiles_of portfolio.rows stage) (λ k d inside. profile_of-is (slice_index_or (profiles_of portfolio.rows stage) k d) (ranges.profile k d inside));
        coverages = coverages_distinct portfolio valid;
        values = sizes.values;
      };
      programme = ranges.programme;
      policytc = ranges.policytc;
      profiles = ranges.profile;
      coverages = valid.in_range.coverages;
      few = coverages_within portfolio valid;
    }
