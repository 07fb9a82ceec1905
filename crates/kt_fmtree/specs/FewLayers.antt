-- The tops of the tables' programmes have at most 50 layers each.
-- The rules: docs/FINANCIAL_MODULE.md, "Policy losses"; docs/TABLES.md, "Columns".
use Rattle.std.specs.Prelude.{ℕ, zero, suc, ◌+◌, ◌<◌, ◌≤◌, ◌&&◌, Bool, true, false, cond, nat_eq, List, [], ◌∷◌, length, map, slice_index_or}
use Rattle.std.specs.List.{AllByRecursion, filter}
use Rattle.std.proofs.Common.{arith}
use Rattle.std.proofs.lemmas.List.Elements.{recursion_from_All}
use Rattle.kt_rec.specs.Ranges.{AreFinancial, AreInRange, IsFmPolicytc, IsLayer}
use Rattle.kt_rec.specs.Rising.{IsRising, rising, rising-all, rising-rises}
use Rattle.kt_rec.specs.Rows.{FinancialRows, Rows}
use Rattle.kt_rec.specs.declared.financial.FmPolicytc.{FmPolicytc}
use Rattle.kt_keys.specs.Keys.{no_financial, policytc_of, programme_of}
use Rattle.kt_keys.specs.Units.{top_level}
use Rattle.kt_fmtree.specs.Programme.{layers_in, or_first, tree_of}
use Rattle.kt_rec.specs.Sums.{each_then}

-- rising layers from a least one up are not more than there are numbers to 50
rising-few : (low : ℕ) (layers : List ℕ) → IsRising layers → AllByRecursion (λ layer. low ≤ layer) layers → AllByRecursion IsLayer layers → low ≤ 51 → length layers + low ≤ 51
unfolding IsRising
rising-few low [] rises least are most = omega arith
rising-few low (layer ∷ layers) rises least are most =
    let first = least.0 in
    let here = are.0.most in
    let rest = rising-few (layer + 1) layers rises.1 (each_then (λ other. layer < other) (λ other. layer + 1 ≤ other) (λ other less. omega arith) layers rises.0) are.1 (omega arith) in
    omega arith

-- the layers of rows are layers
layers-each : (test : FmPolicytc → Bool) (rows : List FmPolicytc) → AllByRecursion IsFmPolicytc rows → AllByRecursion IsLayer (map (λ row. row.layer_id) (filter test rows))
layers-each test [] all = tt
layers-each test (row ∷ rows) all = by (test row) (layers-each test rows all.1)
  where
    by : (b : Bool) → AllByRecursion IsLayer (map (λ row. row.layer_id) (filter test rows)) → AllByRecursion IsLayer (map (λ row. row.layer_id) (cond b (row ∷ filter test rows) (filter test rows)))
    by true rest = (all.0.layer_id, rest)
    by false rest = rest

-- a unit of the top level has at most 50 layers
layers_in-few : (rows : List FmPolicytc) → AllByRecursion IsFmPolicytc rows → (level unit : ℕ) → length (layers_in rows level unit) ≤ 50
layers_in-few rows all level unit = by (rising (map (λ row. row.layer_id) (filter test rows))) many
  where
    test : FmPolicytc → Bool
    test row = nat_eq row.level_id level && nat_eq row.agg_id unit

    are : AllByRecursion IsLayer (rising (map (λ row. row.layer_id) (filter test rows)))
    are = rising-all IsLayer (map (λ row. row.layer_id) (filter test rows)) (layers-each test rows all)

    many : length (rising (map (λ row. row.layer_id) (filter test rows))) ≤ 50
    many =
        let all = rising-few 1 (rising (map (λ row. row.layer_id) (filter test rows))) (rising-rises (map (λ row. row.layer_id) (filter test rows))) (each_then IsLayer (λ layer. 1 ≤ layer) (λ layer is. is.least) _ are) are (omega arith) in
        omega arith

    by : (layers : List ℕ) → length layers ≤ 50 → length (or_first layers) ≤ 50
    by [] few = omega arith
    by (layer ∷ layers) few = few

-- the terms of the base or of a stage are in their ranges
terms-each : (rows : Rows) → AreInRange rows → (stage : ℕ) → AllByRecursion IsFmPolicytc (policytc_of rows stage)
terms-each rows are stage = from rows.financial (recursion_from_All AreFinancial rows.financial are.financial) stage
  where
    from : (all : List FinancialRows) → AllByRecursion AreFinancial all → (stage : ℕ) → AllByRecursion IsFmPolicytc (slice_index_or all stage no_financial).policytc
    from [] are stage = tt
    from (one ∷ all) are zero = recursion_from_All IsFmPolicytc one.policytc are.0.policytc
    from (one ∷ all) are (suc stage) = from all are.1 stage

-- a top of the base or of a stage of the tables has few layers
pub tree_of-few : (rows : Rows) → AreInRange rows → (stage top : ℕ) → length ((tree_of rows stage).layers top) ≤ 50
tree_of-few rows are stage top = layers_in-few (policytc_of rows stage) (terms-each rows are stage) (top_level (programme_of rows stage)) top
