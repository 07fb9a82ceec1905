-- What a portfolio keeps beside its rows, for the lookups.
-- The rule: docs/TABLES.md, "Lookups".
use Rattle.std.specs.Prelude.{◌≡◌, ℕ, ◌*◌, ◌+◌, ◌^◌, nat_eq, List, Vec, map, Option, None, Some, unwrap_or}
use Rattle.std.specs.List.{IsDistinct, filter, list_any}
use Rattle.std.specs.List.Sorted.{IsPermutation, IsNonDecreasingBy}
use Rattle.std.specs.Map.{lookup}
use Rattle.std.specs.HashMap.{HashMap, get}
use Rattle.std.specs.HashSet.{contains}
use Rattle.kt_rec.specs.Rows.{Rows, rows_of}
use Rattle.kt_keys.specs.Keys.{same_pair}
use Rattle.kt_keys.specs.UnitTable.{value_of}
use Rattle.kt_keys.specs.declared.unit_table.UnitTable.{UnitTable}
use Rattle.kt_checks.specs.TableChecks.{tiv_of}
use Rattle.kt_exposure.specs.Exposure.{AddsUp}
use Rattle.kt_checks.specs.SummaryChecks.{CountsSummaries}
use Rattle.kt_tables.specs.Portfolio.{IsPortfolio}
use Rattle.kt_tables.specs.Lookups.{event_ids, item_pairs, return_periods_of, summary_rows, place_in, exposure_of}
use Rattle.kt_tables.specs.SetRows.{unit_key}
use Rattle.kt_tables.specs.declared.place.Place.{Place}
use Rattle.kt_rec.specs.declared.perspective.Perspective.{Perspective}
use Rattle.kt_rec.specs.declared.perspective.Perspective.TheVariants.{Gul, Il}
use Rattle.kt_rec.specs.declared.exposure.Item.{Item}
use Rattle.kt_rec.specs.declared.hazard.Vulnerability.{Vulnerability}
use Rattle.kt_rec.specs.declared.periods.Occurrence.{Occurrence}
use Rattle.kt_tables.specs.declared.lookups.Lookups.{Lookups}
use Rattle.kt_tables.specs.declared.lookups.hazard.HazardLookups.{HazardLookups}
use Rattle.kt_tables.specs.declared.lookups.items.ItemLookups.{ItemLookups}
use Rattle.kt_tables.specs.declared.lookups.periods.PeriodLookups.{PeriodLookups}
use Rattle.kt_tables.specs.declared.lookups.summaries.SummaryLookups.{SummaryLookups}
use Rattle.kt_exposure.specs.declared.exposure.SummaryUnit.{SummaryUnit}
use Rattle.kt_tables.specs.declared.summaries.Summaries.{Summaries}
use Rattle.kt_tables.specs.declared.summaries.UnitSummary.{UnitSummary}
use Rattle.kt_tables.specs.declared.portfolio.Portfolio.TheInside.{Inside}

-- the summary of a unit in a set, by a row
abbrev pub unit_summary : SummaryUnit → UnitSummary
unit_summary row = record { set = row.set; unit = row.unit; summary = row.summary }

-- the summaries of ids are those of their rows
pub record AreSummaries (rows : List SummaryUnit) (summaries : Summaries) : Type 0 where
  pub sets : (set : ℕ) → contains nat_eq summaries.sets set ≡ list_any (nat_eq set) (map (λ row. row.set) rows)
  pub by_id : (key : ℕ) → filter (λ row. nat_eq (unit_key row) key) summaries.by_id ≡ filter (λ row. nat_eq (unit_key row) key) (map unit_summary rows)

-- the insured value of each coverage is that of its first row
abbrev pub AreTivs : Rows → UnitTable ℕ → Type 0
AreTivs rows tivs = (coverage : ℕ) → value_of tivs (0, coverage) ≡ lookup (nat_eq coverage) (map (λ row. (row.coverage_id, row.tiv)) rows.coverages)

-- the rows of each event are those of the occurrence table, in table order
abbrev pub AreOccurrences : Rows → List Occurrence → Type 0
AreOccurrences rows occurrences = (event : ℕ) → filter (λ row. nat_eq row.event_id event) occurrences ≡ filter (λ row. nat_eq row.event_id event) rows.occurrence

-- the place of each event is that of its first row
abbrev pub ArePlaces : {S : Type 0} → Rows → HashMap ℕ Place S → Type 0
ArePlaces rows places = (event : ℕ) → get nat_eq places event ≡ place_in rows event

-- the items by rising id: the table itself where it is in that order, else its rows in that order
abbrev pub AreById : {A : Type 0} → List Item → Option (Vec Item A) → Type 0
AreById items None = IsNonDecreasingBy (λ row. row.item_id) items
AreById items (Some sorted) = IsPermutation items sorted.items × IsNonDecreasingBy (λ row. row.item_id) sorted.items

-- the key of an item: its areaperil, and then its vulnerability
abbrev pub item_key : Item → ℕ
item_key row = row.areaperil_id * 2 ^ 32 + row.vulnerability_id

-- the items of each key are those of the table, in table order
abbrev pub AreByPair : Rows → List Item → Type 0
AreByPair rows sorted = (key : ℕ) → filter (λ row. nat_eq (item_key row) key) sorted ≡ filter (λ row. nat_eq (item_key row) key) rows.items

-- the key of a row of vulnerability: its vulnerability, and then its intensity
abbrev pub damage_key : Vulnerability → ℕ
damage_key row = row.vulnerability_id * 2 ^ 32 + row.intensity_bin_id

-- the damage of each vulnerability and intensity is found: in the table itself where its rows rise, else in rows that do
abbrev pub AreDamages : Rows → Option (List Vulnerability) → Type 0
AreDamages rows None = IsNonDecreasingBy damage_key rows.vulnerability
AreDamages rows (Some sorted) = (key : ℕ) → filter (λ row. nat_eq (damage_key row) key) sorted ≡ filter (λ row. nat_eq (damage_key row) key) rows.vulnerability

-- what the sums of exposures stand on: distinct coverages, distinct outputs, and values that do not add to 2^64
pub record AreAddable (rows : Rows) : Type 0 where
  pub coverages : IsDistinct nat_eq (map (λ row. row.coverage_id) rows.coverages)
  pub outputs : IsDistinct nat_eq (map (λ row. row.output_id) rows.fm_xref)
  pub values : AddsUp (tiv_of rows.coverages)

-- the exposures of the summaries of a perspective, by set and summary
abbrev pub AreExposures : {S : Type 0} → Perspective → Rows → ℕ → HashMap (ℕ × ℕ) ℕ S → Type 0
AreExposures perspective rows rule exposures = (key : ℕ × ℕ) → unwrap_or (get same_pair exposures key) 0 ≡ exposure_of perspective rows rule key.0 key.1

-- the lookups of events and of damage are those of the rows
pub record AreHazardLookups (rows : Rows) (lookups : HazardLookups) : Type 0 where
  pub event_ids : lookups.event_ids.items ≡ event_ids rows
  pub places : ArePlaces rows lookups.places
  pub damages : AreDamages rows lookups.damages

-- the lookups of items are those of the rows
pub record AreItemLookups (rows : Rows) (lookups : ItemLookups) : Type 0 where
  pub by_id : AreById rows.items lookups.by_id
  pub by_pair : AreByPair rows lookups.by_pair
  pub pairs : lookups.pairs.items ≡ item_pairs rows.items

-- the lookups of occurrences and of return periods are those of the rows
pub record ArePeriodLookups (rows : Rows) (lookups : PeriodLookups) : Type 0 where
  pub occurrences : AreOccurrences rows lookups.occurrences
  pub return_periods : lookups.return_periods.items ≡ return_periods_of rows

-- the summaries of a perspective are those of the rows
pub record AreSummariesOf (perspective : Perspective) (rows : Rows) (rule : ℕ) (summaries : Summaries) : Type 0 where
  pub of_ids : AreSummaries (summary_rows perspective rows) summaries
  pub exposures : AreExposures perspective rows rule summaries.exposures

-- the lookups of coverages and of summaries are those of the rows
pub record AreSummaryLookups (rows : Rows) (rule : ℕ) (lookups : SummaryLookups) : Type 0 where
  pub tivs : AreTivs rows lookups.tivs
  pub of_items : AreSummariesOf Gul rows rule lookups.of_items
  pub of_outputs : AreSummariesOf Il rows rule lookups.of_outputs

-- what is kept for the lookups is that of the rows
pub record AreLookups (rows : Rows) (rule : ℕ) (lookups : Lookups) : Type 0 where
  pub periods : ArePeriodLookups rows lookups.periods
  pub items : AreItemLookups rows lookups.items
  pub hazard : AreHazardLookups rows lookups.hazard
  pub summaries : AreSummaryLookups rows rule lookups.summaries

-- what is kept beside the tables is that of their rows
pub record IsKept (portfolio : Inside) : Type 0 where
  pub valid : IsPortfolio (record { rows = rows_of portfolio.tables; need = portfolio.need })
  pub counts : CountsSummaries (rows_of portfolio.tables) portfolio.counts
  pub lookups : AreLookups (rows_of portfolio.tables) portfolio.need.rule portfolio.lookups
