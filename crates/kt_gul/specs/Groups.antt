-- The struck items of an event, coverage by coverage.
-- The rule: docs/CALCULATION.md, "Coverage cut".
use Rattle.std.specs.Prelude.{◌≡◌, ◌≢◌, ℕ, ◌<◌, ◌≤◌, Bool, List, ◌++◌, length, map, take, slice_index_or}
use Rattle.std.specs.List.{filter_map, flat_map}
use Rattle.kt_rec.specs.Rows.{Rows}
use Rattle.kt_stream.specs.declared.entry.Cdf.{Cdf}
use Rattle.kt_stream.specs.declared.entry.LossRecord.{LossRecord}
use Rattle.kt_gul.specs.declared.struck.StruckItem.{StruckItem}
use Rattle.kt_gul.specs.GroundUp.{item_record}
use Rattle.kt_gul.specs.StruckItems.{item_of}

-- the items from a place up to another are of a coverage, and the next, if there is one, is of another
pub record IsGroupEnd (struck : List StruckItem) (start coverage last : ℕ) : Type 0 where
  pub after : start < last
  pub within : last ≤ length struck
  pub together : (k : ℕ) (d : StruckItem) → start ≤ k → k < last → (slice_index_or struck k d).item.coverage_id ≡ coverage
  pub other : (d : StruckItem) → last < length struck → (slice_index_or struck last d).item.coverage_id ≢ coverage

-- the records of the first struck items are made, as pieces behind others, and none of the other items is of their coverages
pub record AreDone {A : Type 0} (spelled : LossRecord → List A) (rows : Rows) (samples : ℕ) (cut : Bool) (event : ℕ) (cdfs : List Cdf) (struck : List StruckItem) (start : ℕ) (first pieces : List A) : Type 0 where
  pub within : start ≤ length struck
  pub pieces_are : pieces ≡ first ++ flat_map spelled (filter_map (item_record rows samples cut event cdfs) (map item_of (take start struck)))
  pub apart : (k j : ℕ) (d : StruckItem) → k < start → start ≤ j → j < length struck → (slice_index_or struck k d).item.coverage_id < (slice_index_or struck j d).item.coverage_id
