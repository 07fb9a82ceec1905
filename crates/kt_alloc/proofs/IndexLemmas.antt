-- The outputs that are found by their units are those that have a place.
use Rattle.std.proofs.Common.{◌≡◌, ℕ, ◌&&◌, Bool, true, false, cond, nat_eq, List, [], ◌∷◌, ◌++◌, Option, Some, None, length, map, refl, sym, ap, ◌∙◌, append-nil, option_map, slice_get, eqb-true}
use Rattle.std.proofs.Math.Path.{fun_ext}
use Rattle.std.specs.Cmp.{nat_eq_equiv}
use Rattle.std.specs.List.{cons_option, filter, filter_map, flat_map, range_with_len, zip}
use Rattle.std.specs.Map.{lookup}
use Rattle.std.specs.Option.{option_or}
use Rattle.kt_rec.specs.Rising.{IsRising}
use Rattle.kt_rec.specs.declared.financial.FmXref.{FmXref}
use Rattle.kt_keys.specs.Keys.{same_pair}
use Rattle.kt_rec.specs.RisingLaws.{KeepsId, rising-made}
use Rattle.kt_alloc.specs.Index.{AreIndexed, outlet_in, outlets_at, unit_output}
use Rattle.kt_alloc.specs.Insured.{in_order}
use Rattle.kt_alloc.specs.Layout.{outlet_of}
use Rattle.kt_alloc.specs.Outlets.{AreFirsts, found}
use Rattle.kt_alloc.specs.declared.index.OutputIndex.{OutputIndex}
use Rattle.kt_alloc.specs.declared.index.UnitOutput.{UnitOutput}
use Rattle.kt_alloc.specs.declared.outlets.Outlet.{Outlet}
use Rattle.kt_alloc.proofs.ListLemmas.{followed}
use Rattle.kt_alloc.proofs.OrderLemmas.{order-rises}
use Rattle.kt_alloc.proofs.OutletLemmas.{found-append, found-made, outlets-unique, row_at}

-- the first of rows with a key is what is found of it
pub first-found : {X : Type 0} (key : X → ℕ) (id : ℕ) (rows : List X) → slice_get (filter (λ row. nat_eq (key row) id) rows) 0 ≡ lookup (nat_eq id) (map (λ row. (key row, row)) rows)
first-found key id [] = refl
first-found key id (row ∷ rows) =
    by (nat_eq (key row) id) (first-found key id rows)
    ∙ ap (λ b. cond b (Some row) (lookup (nat_eq id) (map (λ row. (key row, row)) rows))) (nat_eq_equiv.symm (key row) id)
  where
    by : (b : Bool) → slice_get (filter (λ row. nat_eq (key row) id) rows) 0 ≡ lookup (nat_eq id) (map (λ row. (key row, row)) rows)
        → slice_get (cond b (row ∷ filter (λ row. nat_eq (key row) id) rows) (filter (λ row. nat_eq (key row) id) rows)) 0 ≡ cond b (Some row) (lookup (nat_eq id) (map (λ row. (key row, row)) rows))
    by true rest = refl
    by false rest = rest

-- ---- outputs with the places of their layers

-- an output with a place, where it is of a layer of a unit
abbrev outlet_for : (ℕ × ℕ) × ℕ → FmXref → Option Outlet
outlet_for placed row = cond (same_pair (row.agg_id, row.layer_id) placed.0) (Some (record { id = row.output_id; place = placed.1 })) None

-- an output with the place that stands beside its unit and layer
abbrev outlet_at : List ((ℕ × ℕ) × ℕ) → FmXref → Option Outlet
outlet_at placed row = option_map (λ place. record { id = row.output_id; place = place }) (lookup (same_pair (row.agg_id, row.layer_id)) placed)

for-keeps : (placed : (ℕ × ℕ) × ℕ) (row : FmXref) → KeepsId (λ (outlet : Outlet). outlet.id) row.output_id (outlet_for placed row)
for-keeps placed row = by (same_pair (row.agg_id, row.layer_id) placed.0)
  where
    by : (b : Bool) → KeepsId (λ (outlet : Outlet). outlet.id) row.output_id (cond b (Some (record { id = row.output_id; place = placed.1 })) None)
    by true = refl
    by false = tt

at-keeps : (placed : List ((ℕ × ℕ) × ℕ)) (row : FmXref) → KeepsId (λ (outlet : Outlet). outlet.id) row.output_id (outlet_at placed row)
at-keeps placed row = by (lookup (same_pair (row.agg_id, row.layer_id)) placed)
  where
    by : (place : Option ℕ) → KeepsId (λ (outlet : Outlet). outlet.id) row.output_id (option_map (λ place. record { id = row.output_id; place = place }) place)
    by None = tt
    by (Some place) = refl

-- those of a unit, of which a layer is taken, are those of the layer
at-rows : (placed : (ℕ × ℕ) × ℕ) (rows : List FmXref) → filter_map (outlet_in placed.0.1 placed.1) (filter (λ row. nat_eq row.agg_id placed.0.0) (map unit_output rows)) ≡ filter_map (outlet_for placed) rows
at-rows placed [] = refl
at-rows placed (row ∷ rows) = by (nat_eq row.agg_id placed.0.0) (at-rows placed rows)
  where
    by : (b : Bool) → filter_map (outlet_in placed.0.1 placed.1) (filter (λ row. nat_eq row.agg_id placed.0.0) (map unit_output rows)) ≡ filter_map (outlet_for placed) rows
        → filter_map (outlet_in placed.0.1 placed.1) (cond b (unit_output row ∷ filter (λ row. nat_eq row.agg_id placed.0.0) (map unit_output rows)) (filter (λ row. nat_eq row.agg_id placed.0.0) (map unit_output rows)))
        ≡ cons_option (cond (b && nat_eq row.layer_id placed.0.1) (Some (record { id = row.output_id; place = placed.1 })) None) (filter_map (outlet_for placed) rows)
    by true rest = ap (cons_option (outlet_in placed.0.1 placed.1 (unit_output row))) rest
    by false rest = rest

module _ (rows : List FmXref) (rises : IsRising (map (λ row. row.output_id) rows)) where
  -- of the outputs of all layers of units the first with an id has the first place of its unit and layer
  found-all : (id : ℕ) (placed : List ((ℕ × ℕ) × ℕ)) → found id (flat_map (λ one. filter_map (outlet_for one) rows) placed) ≡ followed (row_at id rows) (outlet_at placed)
  found-all id [] = by (row_at id rows)
    where
      by : (row : Option FmXref) → None ≡ followed row (outlet_at [])
      by None = refl
      by (Some row) = refl
  found-all id (one ∷ placed) =
      found-append id (filter_map (outlet_for one) rows) (flat_map (λ one. filter_map (outlet_for one) rows) placed)
      ∙ (ap (λ first. option_or first (found id (flat_map (λ one. filter_map (outlet_for one) rows) placed))) (found-made (outlet_for one) (for-keeps one) id rows rises)
      ∙ (ap (option_or (followed (row_at id rows) (outlet_for one))) (found-all id placed)
      ∙ by (row_at id rows)))
    where
      test : (row : FmXref) (b : Bool) → option_or (cond b (Some (record { id = row.output_id; place = one.1 })) None) (outlet_at placed row) ≡ option_map (λ place. record { id = row.output_id; place = place }) (cond b (Some one.1) (lookup (same_pair (row.agg_id, row.layer_id)) placed))
      test row true = refl
      test row false = refl

      by : (row : Option FmXref) → option_or (followed row (outlet_for one)) (followed row (outlet_at placed)) ≡ followed row (outlet_at (one ∷ placed))
      by None = refl
      by (Some row) = test row (same_pair (row.agg_id, row.layer_id) one.0)

-- the first outlets of the units and layers that have places are those of all outputs
pub outlets-found : (outputs : List FmXref) (index : OutputIndex) → AreIndexed outputs index → (keys : List (ℕ × ℕ)) (placed : List ((ℕ × ℕ) × ℕ)) → placed ≡ zip keys (range_with_len 0 (length keys)) → (kept : List Outlet) → AreFirsts (flat_map (outlets_at index) placed) kept → kept ≡ filter_map (outlet_of keys) (in_order outputs)
outlets-found outputs index are keys placed placed_is kept firsts =
    outlets-unique kept (filter_map (outlet_at placed) rows) firsts.rises (rising-made (λ (row : FmXref). row.output_id) (λ (outlet : Outlet). outlet.id) (outlet_at placed) (at-keeps placed) rows rises) same
    ∙ ap (λ placed. filter_map (outlet_at placed) rows) placed_is
  where
    rows : List FmXref
    rows = in_order outputs

    rises : IsRising (map (λ row. row.output_id) rows)
    rises = order-rises outputs

    each : flat_map (outlets_at index) placed ≡ flat_map (λ one. filter_map (outlet_for one) rows) placed
    each = ap (λ make. flat_map make placed) (fun_ext (λ (one : (ℕ × ℕ) × ℕ). ap (filter_map (outlet_in one.0.1 one.1)) (are.by_unit one.0.0) ∙ at-rows one rows))

    same : (id : ℕ) → found id kept ≡ found id (filter_map (outlet_at placed) rows)
    same id = firsts.same id ∙ (ap (found id) each ∙ (found-all rows rises id placed ∙ sym (found-made (outlet_at placed) (at-keeps placed) id rows rises)))

-- ---- one output of a unit more

taken-test : (layer place : ℕ) (row : UnitOutput) (b : Bool) → nat_eq row.layer_id layer ≡ b → outlet_in layer place row ≡ cond b (Some (record { id = row.output_id; place = place })) None
taken-test layer place row b is = ap (λ b. cond b (Some (record { id = row.output_id; place = place })) None) is

-- it is taken where it is of the layer
pub taken-in : (layer place : ℕ) (row : UnitOutput) (now next : List Outlet) → row.layer_id ≡ layer → next ≡ now ++ record { id = row.output_id; place = place } ∷ [] → next ≡ now ++ cons_option (outlet_in layer place row) []
taken-in layer place row now next same next_is =
    next_is ∙ ap (λ one. now ++ cons_option one []) (sym (taken-test layer place row true (ap (nat_eq row.layer_id) (sym same) ∙ nat_eq_equiv.refl row.layer_id)))

pub left-out : (layer place : ℕ) (row : UnitOutput) (now : List Outlet) → (row.layer_id ≡ layer → ⊥) → now ≡ now ++ cons_option (outlet_in layer place row) []
left-out layer place row now other = sym (append-nil now) ∙ ap (λ one. now ++ cons_option one []) (sym (taken-test layer place row false (by (nat_eq row.layer_id layer) refl)))
  where
    by : (b : Bool) → nat_eq row.layer_id layer ≡ b → b ≡ false
    by true is = absurd (other (eqb-true row.layer_id layer is))
    by false is = refl
