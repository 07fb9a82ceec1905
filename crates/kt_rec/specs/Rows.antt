-- The rows of all tables as lists.
-- The rules: docs/TABLES.md.
use Rattle.std.specs.Prelude.{ℕ, List, [], map, replicate, slice_index_or}
use Rattle.kt_rec.specs.declared.exposure.Coverage.{Coverage}
use Rattle.kt_rec.specs.declared.exposure.Item.{Item}
use Rattle.kt_rec.specs.declared.financial.FmPolicytc.{FmPolicytc}
use Rattle.kt_rec.specs.declared.financial.FmProfile.{FmProfile}
use Rattle.kt_rec.specs.declared.financial.FmProgramme.{FmProgramme}
use Rattle.kt_rec.specs.declared.financial.FmXref.{FmXref}
use Rattle.kt_rec.specs.declared.hazard.DamageBin.{DamageBin}
use Rattle.kt_rec.specs.declared.hazard.Event.{Event}
use Rattle.kt_rec.specs.declared.hazard.FootprintIdx.{FootprintIdx}
use Rattle.kt_rec.specs.declared.hazard.Random.{Random}
use Rattle.kt_rec.specs.declared.hazard.Vulnerability.{Vulnerability}
use Rattle.kt_rec.specs.declared.periods.Occurrence.{Occurrence}
use Rattle.kt_rec.specs.declared.periods.ReturnPeriod.{ReturnPeriod}
use Rattle.kt_rec.specs.declared.summary.FmSummaryXref.{FmSummaryXref}
use Rattle.kt_rec.specs.declared.summary.GulSummaryXref.{GulSummaryXref}
use Rattle.kt_rec.specs.declared.tables.FinancialTables.{FinancialTables}
use Rattle.kt_rec.specs.declared.tables.Tables.{Tables}

-- the rows of the three financial tables of the base or of a stage
pub record FinancialRows : Type 0 where
  pub programme : List FmProgramme
  pub policytc : List FmPolicytc
  pub profile : List FmProfile

-- the rows of all tables, the number of periods, and the size of the footprint file in bytes
pub record Rows : Type 0 where
  pub events : List Event
  pub items : List Item
  pub coverages : List Coverage
  pub footprint_idx : List FootprintIdx
  pub vulnerability : List Vulnerability
  pub damage_bin_dict : List DamageBin
  pub random : List Random
  pub fm_xref : List FmXref
  pub gulsummaryxref : List GulSummaryXref
  pub fmsummaryxref : List FmSummaryXref
  pub occurrence : List Occurrence
  pub returnperiods : List ReturnPeriod
  pub financial : List FinancialRows
  pub periods : ℕ
  pub footprint_size : ℕ

-- the rows of three financial tables
abbrev pub financial_rows : FinancialTables → FinancialRows
financial_rows tables = record { programme = tables.programme.items; policytc = tables.policytc.items; profile = tables.profile.items }

-- the rows of the tables
abbrev pub rows_of : Tables → Rows
rows_of tables = record {
  events = tables.events.items;
  items = tables.items.items;
  coverages = tables.coverages.items;
  footprint_idx = tables.footprint_idx.items;
  vulnerability = tables.vulnerability.items;
  damage_bin_dict = tables.damage_bin_dict.items;
  random = tables.random.items;
  fm_xref = tables.fm_xref.items;
  gulsummaryxref = tables.gulsummaryxref.items;
  fmsummaryxref = tables.fmsummaryxref.items;
  occurrence = tables.occurrence.items;
  returnperiods = tables.returnperiods.items;
  financial = map financial_rows tables.financial;
  periods = tables.periods;
  footprint_size = tables.footprint_size;
}

-- no rows in any of the three
abbrev pub no_financial_rows : FinancialRows
no_financial_rows = record { programme = []; policytc = []; profile = [] }

-- no rows in any table
abbrev pub no_rows : Rows
no_rows = record {
  events = [];
  items = [];
  coverages = [];
  footprint_idx = [];
  vulnerability = [];
  damage_bin_dict = [];
  random = [];
  fm_xref = [];
  gulsummaryxref = [];
  fmsummaryxref = [];
  occurrence = [];
  returnperiods = [];
  financial = replicate 10 no_financial_rows;
  periods = 0;
  footprint_size = 0;
}

-- the rows of the three financial tables of the base, at 0, or of a stage
abbrev pub financial_at : Rows → ℕ → FinancialRows
financial_at rows stage = slice_index_or rows.financial stage no_financial_rows
