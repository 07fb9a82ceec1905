-- What a lookup in the tables gives: the plain search in their rows.
-- The rules: docs/TABLES.md, docs/CALCULATION.md.
use Rattle.std.specs.Prelude.{ℕ, ◌+◌, ◌-◌, ◌*◌, ◌%◌, ◌&&◌, nat_eq, Bool, false, cond, List, [], length, map, slice_get, slice_index_or, Option, option_map, None, Some}
use Rattle.std.specs.List.{filter, fold, list_any, sum_by}
use Rattle.std.specs.Ordering.{nat_cmp, ordering_then}
use Rattle.std.specs.declared.cmp.Ordering.{Ordering}
use Rattle.std.specs.BTreeSet.{insert_key}
use Rattle.std.specs.Map.{lookup}
use Rattle.kt_rec.specs.Rows.{Rows}
use Rattle.kt_rec.specs.declared.exposure.Item.{Item}
use Rattle.kt_rec.specs.declared.financial.FmXref.{FmXref}
use Rattle.kt_rec.specs.declared.hazard.Vulnerability.{Vulnerability}
use Rattle.kt_rec.specs.declared.periods.Occurrence.{Occurrence}
use Rattle.kt_rec.specs.declared.perspective.Perspective.{Perspective}
use Rattle.kt_rec.specs.declared.perspective.Perspective.TheVariants.{Gul, Il, Ri}
use Rattle.kt_keys.specs.Keys.{programme_of, same_pair}
use Rattle.kt_keys.specs.Units.{top_level}
use Rattle.kt_keys.specs.Climbing.{climbed, next_unit}
use Rattle.kt_exposure.specs.declared.exposure.SummaryUnit.{SummaryUnit}
use Rattle.kt_tables.specs.declared.place.Place.{Place}

-- the events in table order
abbrev pub event_ids : Rows → List ℕ
event_ids rows = map (λ row. row.event_id) rows.events

-- an item's areaperil and vulnerability
abbrev pub pair_of : Item → ℕ × ℕ
pair_of row = (row.areaperil_id, row.vulnerability_id)

-- the order of pairs: by the first part, and then by the second
abbrev pub pair_order : ℕ × ℕ → ℕ × ℕ → Ordering
pair_order one other = ordering_then (nat_cmp one.0 other.0) (nat_cmp one.1 other.1)

-- the pairs of areaperil and vulnerability that some item has, each once, by rising areaperil and then vulnerability
abbrev pub item_pairs : List Item → List (ℕ × ℕ)
item_pairs items = fold (λ pairs row. insert_key pair_order pairs (pair_of row)) [] items

-- the items of an areaperil and a vulnerability, in table order
abbrev pub items_with : Rows → ℕ → ℕ → List Item
items_with rows areaperil vulnerability = filter (λ row. nat_eq row.areaperil_id areaperil && nat_eq row.vulnerability_id vulnerability) rows.items

-- the damage of a vulnerability at an intensity: its rows in table order
abbrev pub damages_at : Rows → ℕ → ℕ → List Vulnerability
damages_at rows vulnerability intensity = filter (λ row. nat_eq row.vulnerability_id vulnerability && nat_eq row.intensity_bin_id intensity) rows.vulnerability

-- the return periods in table order
abbrev pub return_periods_of : Rows → List ℕ
return_periods_of rows = map (λ row. row.return_period) rows.returnperiods

-- the rows of an event in the occurrence table, in table order
abbrev pub occurrences_of : Rows → ℕ → List Occurrence
occurrences_of rows event = filter (λ row. nat_eq row.event_id event) rows.occurrence

-- the place of the random number of an event, a group and a sample, of so many numbers
abbrev pub random_place : ℕ → ℕ → ℕ → ℕ → ℕ
random_place numbers event group sample = ((event * 1543270363 + group * 1943272559) % numbers + sample - 1) % numbers

-- the random number of an event, a group and a sample, in parts per million
abbrev pub random_of : Rows → ℕ → ℕ → ℕ → ℕ
random_of rows event group sample = slice_index_or (map (λ row. row.random) rows.random) (random_place (length rows.random) event group sample) 0

-- where the records of an event stand in the footprint file
abbrev pub place_in : Rows → ℕ → Option Place
place_in rows event = lookup (nat_eq event) (map (λ row. (row.event_id, record { at = row.offset; size = row.size })) rows.footprint_idx)

-- the summaries of items
abbrev pub item_summary_rows : Rows → List SummaryUnit
item_summary_rows rows = map (λ row. record { set = row.summaryset_id; summary = row.summary_id; unit = row.item_id }) rows.gulsummaryxref

-- the summaries of outputs
abbrev pub output_summary_rows : Rows → List SummaryUnit
output_summary_rows rows = map (λ row. record { set = row.summaryset_id; summary = row.summary_id; unit = row.output_id }) rows.fmsummaryxref

-- the summaries of a perspective: of items for ground-up losses, else of outputs
abbrev pub summary_rows : Perspective → Rows → List SummaryUnit
summary_rows Gul rows = item_summary_rows rows
summary_rows Il rows = output_summary_rows rows
summary_rows Ri rows = output_summary_rows rows

-- whether a perspective has a summary set
abbrev pub has_summary_set : Perspective → Rows → ℕ → Bool
has_summary_set perspective rows set = list_any (nat_eq set) (map (λ row. row.set) (summary_rows perspective rows))

-- the summary of an id in a set
abbrev pub summary_in : Perspective → Rows → ℕ → ℕ → Option ℕ
summary_in perspective rows set id = lookup (same_pair (id, set)) (map (λ row. ((row.unit, row.set), row.summary)) (summary_rows perspective rows))

-- what an output is for, by rows of outputs
abbrev pub agg_of : List FmXref → ℕ → Option ℕ
agg_of rows output = option_map (λ row. row.agg_id) (slice_get (filter (λ row. nat_eq row.output_id output) rows) 0)

-- whether an item is of a coverage
abbrev pub item_has : List Item → ℕ → ℕ → Bool
item_has items item coverage = list_any (λ row. nat_eq row.item_id item && nat_eq row.coverage_id coverage) items

-- the unit of the top level that an item's losses come to
abbrev pub top_unit : Rows → ℕ → Option ℕ
top_unit rows item = climbed (next_unit (programme_of rows 0)) (top_level (programme_of rows 0)) 1 item

-- whether a unit that may be absent is this one
abbrev pub is_unit : ℕ → Option ℕ → Bool
is_unit unit None = false
is_unit unit (Some other) = nat_eq other unit

-- whether a coverage is of an item whose losses come to a unit of the top level
abbrev pub lies_beneath : Rows → ℕ → ℕ → Bool
lies_beneath rows unit coverage = list_any (λ row. is_unit unit (top_unit rows row.item_id) && nat_eq row.coverage_id coverage) rows.items

-- whether what an output is for is of a coverage: by rule 0 a unit of the top level, else an item
abbrev pub unit_has : Rows → ℕ → ℕ → ℕ → Bool
unit_has rows rule unit coverage = cond (nat_eq rule 0) (lies_beneath rows unit coverage) (item_has rows.items unit coverage)

-- whether an output is of a coverage
abbrev pub output_has : Rows → ℕ → ℕ → ℕ → Bool
output_has rows rule output coverage = list_any (λ row. nat_eq row.output_id output && unit_has rows rule row.agg_id coverage) rows.fm_xref

-- whether an id of a perspective, an item or an output, is of a coverage
abbrev pub id_has : Perspective → Rows → ℕ → ℕ → ℕ → Bool
id_has Gul rows rule id coverage = item_has rows.items id coverage
id_has Il rows rule id coverage = output_has rows rule id coverage
id_has Ri rows rule id coverage = output_has rows rule id coverage

-- whether a summary of a set is of a coverage
abbrev pub summary_has : Perspective → Rows → ℕ → ℕ → ℕ → ℕ → Bool
summary_has perspective rows rule set summary coverage =
    list_any (λ row. nat_eq row.set set && nat_eq row.summary summary && id_has perspective rows rule row.unit coverage) (summary_rows perspective rows)

-- the exposure of a summary in cents: the insured values of the distinct coverages of all ids mapped to it
abbrev pub exposure_of : Perspective → Rows → ℕ → ℕ → ℕ → ℕ
exposure_of perspective rows rule set summary = sum_by (λ row. cond (summary_has perspective rows rule set summary row.coverage_id) row.tiv 0) rows.coverages
