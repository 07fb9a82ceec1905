-- The summary of a unit in a set is what the rows of the key that joins both have first.
use Rattle.std.proofs.Common.{◌≡◌, ℕ, ◌+◌, ◌*◌, ◌^◌, ◌<◌, cond, List, [], ◌∷◌, Some, Bool, true, false, map, refl, ap, ◌∙◌, nat_eq, arith}
use Rattle.std.specs.Prelude.{◌&&◌, option_map, slice_get}
use Rattle.std.specs.List.{AllByRecursion, filter}
use Rattle.std.specs.Map.{lookup}
use Rattle.std.proofs.lemmas.Bool.Decides.{nat_tests}
use Rattle.std.proofs.lemmas.List.Elements.{recursion_from_All}
use Rattle.kt_exposure.specs.declared.exposure.SummaryUnit.{SummaryUnit}
use Rattle.kt_keys.specs.Keys.{same_pair}
use Rattle.kt_rec.specs.Ranges.{AreInRange, IsFmSummaryXref, IsGulSummaryXref}
use Rattle.kt_rec.specs.Rows.{Rows}
use Rattle.kt_rec.specs.declared.perspective.Perspective.{Perspective}
use Rattle.kt_rec.specs.declared.perspective.Perspective.TheVariants.{Gul, Il, Ri}
use Rattle.kt_rec.specs.declared.summary.FmSummaryXref.{FmSummaryXref}
use Rattle.kt_rec.specs.declared.summary.GulSummaryXref.{GulSummaryXref}
use Rattle.kt_tables.specs.Kept.{unit_summary}
use Rattle.kt_tables.specs.SetRows.{unit_key}
use Rattle.kt_tables.specs.Lookups.{summary_rows}

-- keys that join two numbers are equal where both are
keys_eq : (a b c d : ℕ) → b < 4294967296 → d < 4294967296 → nat_eq (a * 4294967296 + b) (c * 4294967296 + d) ≡ (nat_eq d b && nat_eq c a)
keys_eq a b c d short other = grind (arith, nat_tests)

pub summary_by_key : (set unit : ℕ) → unit < 2 ^ 32 → (rows : List SummaryUnit) → AllByRecursion (λ row. row.unit < 2 ^ 32) rows → option_map (λ row. row.summary) (slice_get (filter (λ row. nat_eq (unit_key row) (set * 2 ^ 32 + unit)) (map unit_summary rows)) 0) ≡ lookup (same_pair (unit, set)) (map (λ row. ((row.unit, row.set), row.summary)) rows)
summary_by_key set unit short [] few = refl
summary_by_key set unit short (row ∷ rows) few =
    by (nat_eq (row.set * 2 ^ 32 + row.unit) (set * 2 ^ 32 + unit)) (summary_by_key set unit short rows few.1)
    ∙ ap (λ b. cond b (Some row.summary) (lookup (same_pair (unit, set)) (map (λ (row : SummaryUnit). ((row.unit, row.set), row.summary)) rows))) (keys_eq row.set row.unit set unit few.0 short)
  where
    by : (b : Bool) → option_map (λ row. row.summary) (slice_get (filter (λ row. nat_eq (unit_key row) (set * 2 ^ 32 + unit)) (map unit_summary rows)) 0) ≡ lookup (same_pair (unit, set)) (map (λ (row : SummaryUnit). ((row.unit, row.set), row.summary)) rows)
        → option_map (λ row. row.summary) (slice_get (cond b (unit_summary row ∷ filter (λ row. nat_eq (unit_key row) (set * 2 ^ 32 + unit)) (map unit_summary rows)) (filter (λ row. nat_eq (unit_key row) (set * 2 ^ 32 + unit)) (map unit_summary rows))) 0)
        ≡ cond b (Some row.summary) (lookup (same_pair (unit, set)) (map (λ (row : SummaryUnit). ((row.unit, row.set), row.summary)) rows))
    by true rest = refl
    by false rest = rest

-- the ids of items and of outputs are numbers of 32 bits
item_units : (rows : List GulSummaryXref) → AllByRecursion IsGulSummaryXref rows → AllByRecursion (λ (row : SummaryUnit). row.unit < 2 ^ 32) (map (λ row. record { set = row.summaryset_id; summary = row.summary_id; unit = row.item_id }) rows)
item_units [] each = tt
item_units (row ∷ rows) each = (let id = each.0.item_id in let low = id.most in omega arith, item_units rows each.1)

output_units : (rows : List FmSummaryXref) → AllByRecursion IsFmSummaryXref rows → AllByRecursion (λ (row : SummaryUnit). row.unit < 2 ^ 32) (map (λ row. record { set = row.summaryset_id; summary = row.summary_id; unit = row.output_id }) rows)
output_units [] each = tt
output_units (row ∷ rows) each = (let id = each.0.output_id in let low = id.most in omega arith, output_units rows each.1)

pub units_few : (perspective : Perspective) (rows : Rows) → AreInRange rows → AllByRecursion (λ (row : SummaryUnit). row.unit < 2 ^ 32) (summary_rows perspective rows)
units_few Gul rows ranges = item_units rows.gulsummaryxref (recursion_from_All IsGulSummaryXref rows.gulsummaryxref ranges.gulsummaryxref)
units_few Il rows ranges = output_units rows.fmsummaryxref (recursion_from_All IsFmSummaryXref rows.fmsummaryxref ranges.fmsummaryxref)
units_few Ri rows ranges = output_units rows.fmsummaryxref (recursion_from_All IsFmSummaryXref rows.fmsummaryxref ranges.fmsummaryxref)
