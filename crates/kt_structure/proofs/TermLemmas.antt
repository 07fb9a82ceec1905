-- The profiles of first layers and those of the others are the profiles of all.
use Rattle.std.proofs.Common.{◌≡◌, ℕ, Bool, true, false, cond, not, List, [], ◌∷◌, Option, Some, map, nat_eq, refl, sym, ap, ◌∙◌}
use Rattle.std.specs.Prelude.{◌&&◌}
use Rattle.std.specs.Cmp.{nat_eq_equiv}
use Rattle.std.specs.List.{filter}
use Rattle.std.specs.Map.{lookup}
use Rattle.std.proofs.lemmas.Bool.{eqb-true}
use Rattle.kt_rec.specs.declared.financial.FmPolicytc.{FmPolicytc}
use Rattle.kt_keys.specs.Keys.{same_pair, same_triple}
use Rattle.kt_structure.specs.Plan.{first_pair, unit_pair}

-- the profile of a first layer stands among those of first layers
first-layers : (level unit : ℕ) (rows : List FmPolicytc) → lookup (same_pair (level, unit)) (map first_pair (filter (λ row. nat_eq row.layer_id 1) rows)) ≡ lookup (same_triple (1, level, unit)) (map unit_pair rows)
first-layers level unit [] = refl
first-layers level unit (row ∷ rows) = by (nat_eq row.layer_id 1) (nat_eq_equiv.symm 1 row.layer_id) (first-layers level unit rows)
  where
    by : (b : Bool) → nat_eq 1 row.layer_id ≡ b → lookup (same_pair (level, unit)) (map first_pair (filter (λ row. nat_eq row.layer_id 1) rows)) ≡ lookup (same_triple (1, level, unit)) (map unit_pair rows)
        → lookup (same_pair (level, unit)) (map first_pair (cond b (row ∷ filter (λ row. nat_eq row.layer_id 1) rows) (filter (λ row. nat_eq row.layer_id 1) rows))) ≡ cond (nat_eq 1 row.layer_id && nat_eq level row.level_id && nat_eq unit row.agg_id) (Some row.policytc_id) (lookup (same_triple (1, level, unit)) (map unit_pair rows))
    by true is rest = λ i. cond (sym is i && nat_eq level row.level_id && nat_eq unit row.agg_id) (Some row.policytc_id) (rest i)
    by false is rest = rest ∙ ap (λ b. cond (b && nat_eq level row.level_id && nat_eq unit row.agg_id) (Some row.policytc_id) (lookup (same_triple (1, level, unit)) (map unit_pair rows))) (sym is)

-- that of another layer stands among those of the others
other-layers : (layer level unit : ℕ) → nat_eq layer 1 ≡ false → (rows : List FmPolicytc) → lookup (same_triple (layer, level, unit)) (map unit_pair (filter (λ row. not (nat_eq row.layer_id 1)) rows)) ≡ lookup (same_triple (layer, level, unit)) (map unit_pair rows)
other-layers layer level unit other [] = refl
other-layers layer level unit other (row ∷ rows) = by (nat_eq row.layer_id 1) refl (other-layers layer level unit other rows)
  where
    by : (b : Bool) → nat_eq row.layer_id 1 ≡ b → lookup (same_triple (layer, level, unit)) (map unit_pair (filter (λ row. not (nat_eq row.layer_id 1)) rows)) ≡ lookup (same_triple (layer, level, unit)) (map unit_pair rows)
        → lookup (same_triple (layer, level, unit)) (map unit_pair (cond (not b) (row ∷ filter (λ row. not (nat_eq row.layer_id 1)) rows) (filter (λ row. not (nat_eq row.layer_id 1)) rows))) ≡ cond (nat_eq layer row.layer_id && nat_eq level row.level_id && nat_eq unit row.agg_id) (Some row.policytc_id) (lookup (same_triple (layer, level, unit)) (map unit_pair rows))
    by true is rest =
        let apart : nat_eq layer row.layer_id ≡ false = ap (nat_eq layer) (eqb-true row.layer_id 1 is) ∙ other in
        rest ∙ ap (λ b. cond (b && nat_eq level row.level_id && nat_eq unit row.agg_id) (Some row.policytc_id) (lookup (same_triple (layer, level, unit)) (map unit_pair rows))) (sym apart)
    by false is rest = ap (cond (nat_eq layer row.layer_id && nat_eq level row.level_id && nat_eq unit row.agg_id) (Some row.policytc_id)) rest

-- so each profile is found where it stands
pub units-found : (rows : List FmPolicytc) (first : ℕ × ℕ → Option ℕ) (others : ℕ × ℕ × ℕ → Option ℕ)
    → ((key : ℕ × ℕ) → first key ≡ lookup (same_pair key) (map first_pair (filter (λ row. nat_eq row.layer_id 1) rows)))
    → ((key : ℕ × ℕ × ℕ) → others key ≡ lookup (same_triple key) (map unit_pair (filter (λ row. not (nat_eq row.layer_id 1)) rows)))
    → (layer level unit : ℕ) → cond (nat_eq layer 1) (first (level, unit)) (others (layer, level, unit)) ≡ lookup (same_triple (layer, level, unit)) (map unit_pair rows)
units-found rows first others firsts_are others_are layer level unit = by (nat_eq layer 1) refl
  where
    by : (b : Bool) → nat_eq layer 1 ≡ b → cond b (first (level, unit)) (others (layer, level, unit)) ≡ lookup (same_triple (layer, level, unit)) (map unit_pair rows)
    by true is = firsts_are (level, unit) ∙ (first-layers level unit rows ∙ ap (λ n. lookup (same_triple (n, level, unit)) (map unit_pair rows)) (sym (eqb-true layer 1 is)))
    by false is = others_are (layer, level, unit) ∙ other-layers layer level unit is rows
