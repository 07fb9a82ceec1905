-- The outputs of a portfolio, found by their units.
-- The rule: docs/FINANCIAL_MODULE.md, "Insured losses".
use Rattle.std.specs.Prelude.{◌≡◌, ℕ, cond, nat_eq, List, Option, Some, None, map, slice_get}
use Rattle.std.specs.List.{filter, filter_map}
use Rattle.kt_rec.specs.declared.financial.FmXref.{FmXref}
use Rattle.kt_alloc.specs.Insured.{in_order}
use Rattle.kt_alloc.specs.declared.index.OutputIndex.{OutputIndex}
use Rattle.kt_alloc.specs.declared.index.UnitOutput.{UnitOutput}
use Rattle.kt_alloc.specs.declared.outlets.Outlet.{Outlet}

-- the output of a row
abbrev pub unit_output : FmXref → UnitOutput
unit_output row = record { agg_id = row.agg_id; layer_id = row.layer_id; output_id = row.output_id }

-- the first row of an output
abbrev pub first_of : List FmXref → ℕ → Option FmXref
first_of rows id = slice_get (filter (λ row. nat_eq row.output_id id) rows) 0

-- an output with a place, where it is of a layer
abbrev pub outlet_in : ℕ → ℕ → UnitOutput → Option Outlet
outlet_in layer place row = cond (nat_eq row.layer_id layer) (Some (record { id = row.output_id; place = place })) None

-- the outputs of a layer of a unit, each with the place that stands beside them
abbrev pub outlets_at : OutputIndex → (ℕ × ℕ) × ℕ → List Outlet
outlets_at index placed = filter_map (outlet_in placed.0.1 placed.1) (filter (λ row. nat_eq row.agg_id placed.0.0) index.by_unit)

-- an index is that of outputs: it has those of each unit by rising id, each by its first row
pub record AreIndexed (outputs : List FmXref) (index : OutputIndex) : Type 0 where
  pub by_unit : (unit : ℕ) → filter (λ row. nat_eq row.agg_id unit) index.by_unit ≡ filter (λ row. nat_eq row.agg_id unit) (map unit_output (in_order outputs))
