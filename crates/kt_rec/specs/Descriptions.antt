-- What each table is: its number, name and file, its header, the most rows, and its columns.
-- The rules: docs/TABLES.md, "Tables", "Columns"; docs/CHECKS.md, "Sizes", "Keys".
use Rattle.std.specs.Prelude.{◌≡◌, ℕ, Bool, true, false, List, [], ◌∷◌, codes, map}
use Rattle.kt_rec.specs.Lines.{line}
use Rattle.kt_rec.specs.declared.descriptions.Described.{Described}
use Rattle.kt_rec.specs.declared.kind.Kind.{Kind}
use Rattle.kt_rec.specs.declared.kind.Kind.TheVariants as kind
use Rattle.kt_rec.specs.declared.kind.Term.TheVariants as term
use Rattle.kt_rec.specs.declared.table.Table.{Table}
use Rattle.kt_rec.specs.declared.table.Table.TheVariants as table

-- a column
pub record Column : Type 0 where
  pub name : List ℕ
  pub kind : Kind

-- all that is said of a table: its header, where its file has one, ends with a number from the least extra to the most; no two of
-- its rows may have the same in all columns of the key, which are counted from 0
pub record Description : Type 0 where
  pub number : ℕ
  pub name : List ℕ
  pub file : List ℕ
  pub header : Bool
  pub least_extra : ℕ
  pub most_extra : ℕ
  pub most_rows : ℕ
  pub columns : List Column
  pub key : List ℕ

-- a column of this name and kind
abbrev pub column : List ℕ → Kind → Column
column name kind = record { name = name; kind = kind }

-- each table
abbrev pub description : Table → Description
description table.Events = record {
  number = 1;
  name = codes "events";
  file = codes "input/events.bin";
  header = false;
  least_extra = 0;
  most_extra = 0;
  most_rows = 1000000;
  columns = column (codes "event_id") kind.Id ∷ [];
  key = 0 ∷ [];
}
description table.Items = record {
  number = 2;
  name = codes "items";
  file = codes "input/items.bin";
  header = false;
  least_extra = 0;
  most_extra = 0;
  most_rows = 100000;
  columns = column (codes "item_id") kind.Id ∷ column (codes "coverage_id") kind.Id ∷ column (codes "areaperil_id") kind.Id ∷ column (codes "vulnerability_id") kind.Id ∷ column (codes "group_id") kind.Id ∷ [];
  key = 0 ∷ [];
}
description table.Coverages = record {
  number = 3;
  name = codes "coverages";
  file = codes "input/coverages.bin";
  header = true;
  least_extra = 0;
  most_extra = 0;
  most_rows = 100000;
  columns = column (codes "coverage_id") kind.Id ∷ column (codes "tiv") kind.Tiv ∷ [];
  key = 0 ∷ [];
}
description table.Footprint = record {
  number = 4;
  name = codes "footprint";
  file = codes "static/footprint.bin";
  header = true;
  least_extra = 0;
  most_extra = 0;
  most_rows = 0;
  columns = column (codes "event_id") kind.Id ∷ column (codes "areaperil_id") kind.Id ∷ column (codes "intensity_bin_id") kind.IntensityBin ∷ column (codes "prob") kind.Ppm ∷ [];
  key = [];
}
description table.FootprintIdx = record {
  number = 5;
  name = codes "footprint_idx";
  file = codes "static/footprint.idx";
  header = false;
  least_extra = 0;
  most_extra = 0;
  most_rows = 1000000;
  columns = column (codes "event_id") kind.Id ∷ column (codes "offset") kind.Offset ∷ column (codes "size") kind.Offset ∷ [];
  key = 0 ∷ [];
}
description table.Vulnerability = record {
  number = 6;
  name = codes "vulnerability";
  file = codes "static/vulnerability.bin";
  header = true;
  least_extra = 0;
  most_extra = 0;
  most_rows = 10000000;
  columns = column (codes "vulnerability_id") kind.Id ∷ column (codes "intensity_bin_id") kind.IntensityBin ∷ column (codes "damage_bin_id") kind.DamageBin ∷ column (codes "prob") kind.Ppm ∷ [];
  key = 0 ∷ 1 ∷ 2 ∷ [];
}
description table.DamageBinDict = record {
  number = 7;
  name = codes "damage_bin_dict";
  file = codes "static/damage_bin_dict.bin";
  header = true;
  least_extra = 0;
  most_extra = 0;
  most_rows = 1000;
  columns = column (codes "bin_index") kind.DamageBin ∷ column (codes "bin_from") kind.Ppm ∷ column (codes "bin_to") kind.Ppm ∷ column (codes "interpolation") kind.Ppm ∷ column (codes "interval_type") kind.Count ∷ [];
  key = [];
}
description table.Random = record {
  number = 8;
  name = codes "random";
  file = codes "static/random.bin";
  header = true;
  least_extra = 0;
  most_extra = 0;
  most_rows = 10000000;
  columns = column (codes "random") kind.Ppm ∷ [];
  key = [];
}
description table.FmProgramme = record {
  number = 9;
  name = codes "fm_programme";
  file = codes "input/fm_programme.bin";
  header = false;
  least_extra = 0;
  most_extra = 0;
  most_rows = 1200000;
  columns = column (codes "from_agg_id") kind.Id ∷ column (codes "level_id") kind.Level ∷ column (codes "to_agg_id") kind.Id ∷ [];
  key = 0 ∷ 1 ∷ [];
}
description table.FmPolicytc = record {
  number = 10;
  name = codes "fm_policytc";
  file = codes "input/fm_policytc.bin";
  header = false;
  least_extra = 0;
  most_extra = 0;
  most_rows = 1200000;
  columns = column (codes "layer_id") kind.Layer ∷ column (codes "level_id") kind.Level ∷ column (codes "agg_id") kind.Id ∷ column (codes "policytc_id") kind.Id ∷ [];
  key = 0 ∷ 1 ∷ 2 ∷ [];
}
description table.FmProfile = record {
  number = 11;
  name = codes "fm_profile";
  file = codes "input/fm_profile.bin";
  header = true;
  least_extra = 0;
  most_extra = 0;
  most_rows = 1000000;
  columns = column (codes "policytc_id") kind.Id ∷ column (codes "calcrule_id") kind.Rule ∷ column (codes "deductible1") (kind.Term term.Deductible) ∷ column (codes "deductible2") kind.Amount ∷ column (codes "deductible3") kind.Amount ∷ column (codes "attachment1") kind.Amount ∷ column (codes "limit1") (kind.Term term.Limit) ∷ column (codes "share1") kind.Ppm ∷ column (codes "share2") kind.Ppm ∷ column (codes "share3") kind.Ppm ∷ [];
  key = 0 ∷ [];
}
description table.FmXref = record {
  number = 12;
  name = codes "fm_xref";
  file = codes "input/fm_xref.bin";
  header = false;
  least_extra = 0;
  most_extra = 0;
  most_rows = 100000;
  columns = column (codes "output_id") kind.Id ∷ column (codes "agg_id") kind.Id ∷ column (codes "layer_id") kind.Layer ∷ [];
  key = 0 ∷ [];
}
description table.GulSummaryXref = record {
  number = 13;
  name = codes "gulsummaryxref";
  file = codes "input/gulsummaryxref.bin";
  header = false;
  least_extra = 0;
  most_extra = 0;
  most_rows = 900000;
  columns = column (codes "item_id") kind.Id ∷ column (codes "summary_id") kind.Id ∷ column (codes "summaryset_id") kind.SummarySet ∷ [];
  key = 0 ∷ 2 ∷ [];
}
description table.FmSummaryXref = record {
  number = 14;
  name = codes "fmsummaryxref";
  file = codes "input/fmsummaryxref.bin";
  header = false;
  least_extra = 0;
  most_extra = 0;
  most_rows = 900000;
  columns = column (codes "output_id") kind.Id ∷ column (codes "summary_id") kind.Id ∷ column (codes "summaryset_id") kind.SummarySet ∷ [];
  key = 0 ∷ 2 ∷ [];
}
description table.Occurrence = record {
  number = 15;
  name = codes "occurrence";
  file = codes "input/occurrence.bin";
  header = true;
  least_extra = 1;
  most_extra = 100000;
  most_rows = 1000000;
  columns = column (codes "event_id") kind.Id ∷ column (codes "period_no") kind.Id ∷ column (codes "occ_year") kind.Count ∷ column (codes "occ_month") kind.Count ∷ column (codes "occ_day") kind.Count ∷ [];
  key = [];
}
description table.ReturnPeriods = record {
  number = 16;
  name = codes "returnperiods";
  file = codes "input/returnperiods.bin";
  header = false;
  least_extra = 0;
  most_extra = 0;
  most_rows = 1000;
  columns = column (codes "return_period") kind.Id ∷ [];
  key = 0 ∷ [];
}

-- the names of columns
abbrev pub names_in : List Column → List (List ℕ)
names_in columns = map (λ column. column.name) columns

-- their kinds
abbrev pub kinds_in : List Column → List Kind
kinds_in columns = map (λ column. column.kind) columns

-- what the code says of a table is its description
pub record Describes (t : Table) (is : Described) : Type 0 where
  pub name_is : is.name.now ≡ (description t).name
  pub file_is : is.file.now ≡ (description t).file
  pub heading_is : is.heading.now ≡ line (names_in (description t).columns)
  pub header_is : is.header ≡ (description t).header
  pub least_is : is.least_extra ≡ (description t).least_extra
  pub most_is : is.most_extra ≡ (description t).most_extra
  pub rows_are : is.most_rows ≡ (description t).most_rows
  pub kinds_are : is.kinds.now ≡ kinds_in (description t).columns
  pub key_is : is.key.now ≡ (description t).key

-- all tables by number
abbrev pub tables : List Table
tables = table.Events ∷ table.Items ∷ table.Coverages ∷ table.Footprint ∷ table.FootprintIdx ∷ table.Vulnerability ∷ table.DamageBinDict ∷ table.Random ∷ table.FmProgramme ∷ table.FmPolicytc ∷ table.FmProfile ∷ table.FmXref ∷ table.GulSummaryXref ∷ table.FmSummaryXref ∷ table.Occurrence ∷ table.ReturnPeriods ∷ []
