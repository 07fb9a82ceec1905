-- What tables of units have for ids, for coverages and for the owners of outputs.
use Rattle.std.proofs.Common.{◌≡◌, ℕ, Bool, true, false, cond, List, [], ◌∷◌, Some, map, nat_eq, refl, ap, ◌∙◌}
use Rattle.std.specs.Prelude.{◌&&◌, ◌||◌, is_some}
use Rattle.std.specs.Cmp.{nat_eq_equiv}
use Rattle.std.specs.List.{list_any}
use Rattle.std.specs.Map.{lookup}
use Rattle.kt_rec.specs.declared.exposure.Coverage.{Coverage}
use Rattle.kt_rec.specs.declared.financial.FmXref.{FmXref}
use Rattle.kt_keys.specs.Keys.{same_pair}

-- an id is found as a unit of level 0 where it is one of the ids
pub id-known : (ids : List ℕ) (id : ℕ) → is_some (lookup (same_pair (0, id)) (map (λ other. ((0, other), other)) ids)) ≡ list_any (nat_eq id) ids
id-known [] id = refl
id-known (other ∷ ids) id = ap (λ level. is_some (cond (level && nat_eq id other) (Some other) (lookup (same_pair (0, id)) (map (λ at. ((0, at), at)) ids)))) (nat_eq_equiv.refl 0) ∙ by (nat_eq id other) (id-known ids id)
  where
    by : (b : Bool) → is_some (lookup (same_pair (0, id)) (map (λ at. ((0, at), at)) ids)) ≡ list_any (nat_eq id) ids → is_some (cond b (Some other) (lookup (same_pair (0, id)) (map (λ at. ((0, at), at)) ids))) ≡ (b || list_any (nat_eq id) ids)
    by true rest = refl
    by false rest = rest

-- a coverage has, as a unit of level 0, the value of its first row
pub worth-known : (coverages : List Coverage) (id : ℕ) → lookup (same_pair (0, id)) (map (λ row. ((0, row.coverage_id), row.tiv)) coverages) ≡ lookup (nat_eq id) (map (λ row. (row.coverage_id, row.tiv)) coverages)
worth-known [] id = refl
worth-known (row ∷ coverages) id =
    ap (λ level. cond (level && nat_eq id row.coverage_id) (Some row.tiv) (lookup (same_pair (0, id)) (map (λ x. ((0, x.coverage_id), x.tiv)) coverages))) (nat_eq_equiv.refl 0)
    ∙ ap (cond (nat_eq id row.coverage_id) (Some row.tiv)) (worth-known coverages id)

-- a unit with a layer is found, by its layer, where there is an output for both
pub owner-known : (outputs : List FmXref) (pair : ℕ × ℕ) → is_some (lookup (same_pair (pair.1, pair.0)) (map (λ row. ((row.layer_id, row.agg_id), row.output_id)) outputs)) ≡ list_any (same_pair pair) (map (λ row. (row.agg_id, row.layer_id)) outputs)
owner-known [] pair = refl
owner-known (row ∷ outputs) pair = by (nat_eq pair.0 row.agg_id) (nat_eq pair.1 row.layer_id) (owner-known outputs pair)
  where
    by : (unit layer : Bool) → is_some (lookup (same_pair (pair.1, pair.0)) (map (λ x. ((x.layer_id, x.agg_id), x.output_id)) outputs)) ≡ list_any (same_pair pair) (map (λ x. (x.agg_id, x.layer_id)) outputs) → is_some (cond (layer && unit) (Some row.output_id) (lookup (same_pair (pair.1, pair.0)) (map (λ x. ((x.layer_id, x.agg_id), x.output_id)) outputs))) ≡ ((unit && layer) || list_any (same_pair pair) (map (λ x. (x.agg_id, x.layer_id)) outputs))
    by true true rest = refl
    by true false rest = rest
    by false true rest = rest
    by false false rest = rest
