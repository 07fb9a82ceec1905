-- In valid tables an output stands for each layer: check 16.
-- The rule: docs/CHECKS.md, "Outputs for every layer".
use Rattle.std.specs.Prelude.{◌≡◌, ℕ, zero, suc, ◌≤◌, ◌+◌, ◌&&◌, ◌||◌, nat_eq, not, Bool, true, false, cond, List, [], ◌∷◌, map, refl, All}
use Rattle.std.specs.List.{filter, list_any}
use Rattle.std.proofs.Common.{sym, subst, arith, inl, inr}
use Rattle.std.proofs.lemmas.Bool.{cases_eq, eqb-true, or_parts}
use Rattle.std.proofs.lemmas.List.Elements.{All-head, All-tail}
use Rattle.kt_rec.specs.declared.financial.FmPolicytc.{FmPolicytc}
use Rattle.kt_rec.specs.declared.financial.FmProgramme.{FmProgramme}
use Rattle.kt_rec.specs.declared.table.Table.TheVariants as table
use Rattle.kt_rec.specs.Ranges.{IsFmPolicytc, IsLayer}
use Rattle.kt_rec.specs.Rows.{Rows}
use Rattle.kt_keys.specs.declared.need.Need.{Need}
use Rattle.kt_keys.specs.Keys.{policytc_of, programme_of, same_pair}
use Rattle.kt_keys.specs.Refusals.{at_stage, is_loaded}
use Rattle.kt_keys.specs.Units.{top_level, top_layers}
use Rattle.kt_checks.specs.CheckLaws.{both, keeps-from_valid, no_row, none_passes, second_fails}
use Rattle.kt_checks.specs.Checks.{IsValid, KeepsCheck, table_checks, programme_checks}
use Rattle.kt_checks.specs.KeptChecks.{KeepsOutputs}
use Rattle.kt_keys.specs.Climbing.{climbed, next_unit}
use Rattle.kt_checks.specs.OutputChecks.{has_output, has_top_layer, lacks_at, lacks_output, owes_output, owing_at, some_layer}

-- where no layer up to a last one passes a test, each of them fails it
no_layer : (test : ℕ → Bool) (last layer : ℕ) → some_layer test last ≡ false → 1 ≤ layer → layer ≤ last → test layer ≡ false
unfolding some_layer
no_layer test zero layer none least most = absurd (omega arith)
no_layer test (suc last) layer none least most =
    let parts = or_parts (some_layer test last) (test (last + 1)) none in
    elim (cases_eq layer (last + 1)) [
      | inl same ↦ subst (λ n. test n ≡ false) (sym same) parts.1
      | inr other ↦ no_layer test last layer parts.0 least (omega arith)
    ]

-- what has a layer, and does not lack its output, has it
has_it : (layer output : Bool) → (layer && not output) ≡ false → layer ≡ true → output ≡ true
has_it true true h is = refl
has_it true false h is = cc
has_it false output h is = cc

-- a row of those that a filter keeps, by its key
record KeptRow {X : Type 0} (P : X → Type 0) (keep : X → Bool) (key : X → ℕ) (id : ℕ) : Type 0 where
  row : X
  keeps : P row
  kept : keep row ≡ true
  same : id ≡ key row

-- there is one where the key is among theirs
kept_row : {X : Type 0} (P : X → Type 0) (keep : X → Bool) (key : X → ℕ) (id : ℕ) (rows : List X) → All P rows → list_any (nat_eq id) (map key (filter keep rows)) ≡ true → KeptRow P keep key id
kept_row P keep key id [] all has = cc
kept_row {X} P keep key id (row ∷ rows) all has = by (keep row) refl has (kept_row P keep key id rows (All-tail P row rows all))
  where
    here : keep row ≡ true → (b : Bool) → nat_eq id (key row) ≡ b → (b || list_any (nat_eq id) (map key (filter keep rows))) ≡ true → (list_any (nat_eq id) (map key (filter keep rows)) ≡ true → KeptRow P keep key id) → KeptRow P keep key id
    here kept true is h rest = record { row = row; keeps = All-head P row rows all; kept = kept; same = eqb-true id (key row) is }
    here kept false is h rest = rest h

    by : (b : Bool) → keep row ≡ b → list_any (nat_eq id) (map key (cond b (row ∷ filter keep rows) (filter keep rows))) ≡ true → (list_any (nat_eq id) (map key (filter keep rows)) ≡ true → KeptRow P keep key id) → KeptRow P keep key id
    by true kept h rest = here kept (nat_eq id (key row)) refl h rest
    by false kept h rest = rest h

-- the layers of units of the top level are in their range
layer_ranges : (top unit layer : ℕ) (policytc : List FmPolicytc) → All IsFmPolicytc policytc → list_any (same_pair (unit, layer)) (map (λ row. (row.agg_id, row.layer_id)) (filter (λ row. nat_eq row.level_id top) policytc)) ≡ true → IsLayer layer
layer_ranges top unit layer [] ranges has = cc
layer_ranges top unit layer (row ∷ rows) ranges has = by (nat_eq row.level_id top) has (layer_ranges top unit layer rows (All-tail IsFmPolicytc row rows ranges))
  where
    here : (a b : Bool) → nat_eq layer row.layer_id ≡ b → ((a && b) || list_any (same_pair (unit, layer)) (map (λ x. (x.agg_id, x.layer_id)) (filter (λ x. nat_eq x.level_id top) rows))) ≡ true → (list_any (same_pair (unit, layer)) (map (λ x. (x.agg_id, x.layer_id)) (filter (λ x. nat_eq x.level_id top) rows)) ≡ true → IsLayer layer) → IsLayer layer
    here true true is h rest = subst IsLayer (sym (eqb-true layer row.layer_id is)) (All-head IsFmPolicytc row rows ranges).layer_id
    here true false is h rest = rest h
    here false b is h rest = rest h

    by : (b : Bool) → list_any (same_pair (unit, layer)) (map (λ x. (x.agg_id, x.layer_id)) (cond b (row ∷ filter (λ x. nat_eq x.level_id top) rows) (filter (λ x. nat_eq x.level_id top) rows))) ≡ true → (list_any (same_pair (unit, layer)) (map (λ x. (x.agg_id, x.layer_id)) (filter (λ x. nat_eq x.level_id top) rows)) ≡ true → IsLayer layer) → IsLayer layer
    by true h rest = here (nat_eq unit row.agg_id) (nat_eq layer row.layer_id) refl h rest
    by false h rest = rest h

-- a layer of a unit of the top level is in its range
top_layer_range : (programme : List FmProgramme) (policytc : List FmPolicytc) → All IsFmPolicytc policytc → (unit layer : ℕ) → has_top_layer programme policytc unit layer ≡ true → IsLayer layer
top_layer_range programme policytc ranges unit layer = by (list_any (nat_eq unit) (map (λ pair. pair.0) (top_layers programme policytc)))
  where
    by : (b : Bool) → cond b (list_any (same_pair (unit, layer)) (top_layers programme policytc)) (nat_eq layer 1) ≡ true → IsLayer layer
    by true has = layer_ranges (top_level programme) unit layer policytc ranges has
    by false has = let first = eqb-true layer 1 has in record { least = omega arith; most = omega arith }

module _ (rows : Rows) (need : Need) (valid : IsValid rows need) (ranges : All IsFmPolicytc (policytc_of rows 0)) (programmes : is_loaded need 0 table.FmProgramme ≡ true) (terms : is_loaded need 0 table.FmPolicytc ≡ true) (outputs : is_loaded need 0 table.FmXref ≡ true) where
  -- whether for some layer of a unit of the top level its owner has no output
  abbrev lacks : ℕ → ℕ → Bool
  lacks =
      lacks_output (λ unit. list_any (nat_eq unit) (map (λ pair. pair.0) (top_layers (programme_of rows 0) (policytc_of rows 0))))
      (λ pair. list_any (same_pair pair) (top_layers (programme_of rows 0) (policytc_of rows 0))) (has_output rows.fm_xref)

  -- whether a row of the programme lacks an output
  abbrev owes : FmProgramme → Bool
  owes = owes_output need.rule (top_level (programme_of rows 0)) (next_unit (programme_of rows 0)) lacks

  -- check 16: no row of the programme lacks an output
  none_owes : All (λ row. owes row ≡ false) (programme_of rows 0)
  unfolding table_checks programme_checks owing_at
  none_owes =
      let keeps : KeepsCheck 16 rows need = keeps-from_valid 16 rows need valid in
      none_passes owes (programme_of rows 0) (no_row 16 (at_stage 0 table.FmProgramme) _ _ keeps.none (both _ _ (both _ _ programmes terms) outputs))

  -- an owner that lacks no output has one for each layer of the unit
  none_lacks : (unit owner layer : ℕ) → lacks unit owner ≡ false → has_top_layer (programme_of rows 0) (policytc_of rows 0) unit layer ≡ true → has_output rows.fm_xref (owner, layer) ≡ true
  none_lacks unit owner layer none has =
      let range = top_layer_range (programme_of rows 0) (policytc_of rows 0) ranges unit layer has in
      has_it _ _ (no_layer _ 50 layer none range.least range.most) has

  -- in valid tables an output stands for each layer
  pub keeps_outputs : KeepsOutputs rows need.rule
  keeps_outputs = record {
    of_items = λ other item unit layer taken climbs has.
        let found = kept_row (λ row. owes row ≡ false) (λ row. nat_eq row.level_id 1) (λ row. row.from_agg_id) item (programme_of rows 0) none_owes taken in
        let here : (nat_eq found.row.level_id 1 && lacks_at lacks (climbed (next_unit (programme_of rows 0)) (top_level (programme_of rows 0)) 1 found.row.from_agg_id) found.row.from_agg_id) ≡ false = subst (λ b. cond b (nat_eq found.row.level_id (top_level (programme_of rows 0)) && lacks found.row.to_agg_id found.row.to_agg_id) (nat_eq found.row.level_id 1 && lacks_at lacks (climbed (next_unit (programme_of rows 0)) (top_level (programme_of rows 0)) 1 found.row.from_agg_id) found.row.from_agg_id) ≡ false) other found.keeps in
        none_lacks unit item layer
        (subst (λ o. lacks_at lacks o item ≡ false) climbs
        (subst (λ id. lacks_at lacks (climbed (next_unit (programme_of rows 0)) (top_level (programme_of rows 0)) 1 id) id ≡ false) (sym found.same) (second_fails _ _ here found.kept)))
        has;
    of_units = λ zero_rule unit layer top has.
        let found = kept_row (λ row. owes row ≡ false) (λ row. nat_eq row.level_id (top_level (programme_of rows 0))) (λ row. row.to_agg_id) unit (programme_of rows 0) none_owes top in
        let here : (nat_eq found.row.level_id (top_level (programme_of rows 0)) && lacks found.row.to_agg_id found.row.to_agg_id) ≡ false = subst (λ b. cond b (nat_eq found.row.level_id (top_level (programme_of rows 0)) && lacks found.row.to_agg_id found.row.to_agg_id) (nat_eq found.row.level_id 1 && lacks_at lacks (climbed (next_unit (programme_of rows 0)) (top_level (programme_of rows 0)) 1 found.row.from_agg_id) found.row.from_agg_id) ≡ false) zero_rule found.keeps in
        none_lacks unit unit layer (subst (λ id. lacks id id ≡ false) (sym found.same) (second_fails _ _ here found.kept)) has;
  }
