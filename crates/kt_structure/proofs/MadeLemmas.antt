-- The structure that is made of the tables is that of their tree.
use Rattle.std.proofs.Common.{◌≡◌, ℕ, zero, suc, ◌+◌, ◌^◌, ◌<◌, ◌≤◌, Bool, true, false, cond, List, [], ◌∷◌, Option, None, Some, map, nat_eq, refl, sym, ap, ◌∙◌, arith}
use Rattle.std.specs.Prelude.{◌&&◌, ◌||◌}
use Rattle.std.specs.Cmp.{nat_eq_equiv}
use Rattle.std.specs.List.{AllByRecursion, filter, list_any}
use Rattle.std.proofs.lemmas.List.Elements.{recursion_from_All}
use Rattle.kt_rec.specs.Rows.{Rows}
use Rattle.kt_rec.specs.declared.financial.FmProgramme.{FmProgramme}
use Rattle.kt_keys.specs.Keys.{policytc_of, profile_of as profiles_of, programme_of}
use Rattle.kt_keys.specs.Units.{top_level, top_targets}
use Rattle.kt_keys.specs.Climbing.{after, climbed, next_unit}
use Rattle.kt_fmtree.specs.Programme.{layers_in, or_first, tiv_beneath, tree_of}
use Rattle.kt_structure.specs.ProgrammeLaws.{tree_of-is}
use Rattle.kt_rec.specs.Rising.{rising-member, rising-rises}
use Rattle.kt_fmtree.specs.TreeLaws.{climbed-last}
use Rattle.kt_structure.specs.Plan.{AreTerms, found_terms, layer_link, link_key, linked}
use Rattle.kt_structure.specs.Ready.{IsReady}
use Rattle.kt_structure.specs.Structure.{Kept, IsStructure}
use Rattle.kt_structure.specs.declared.links.Link.{Link}
use Rattle.kt_structure.specs.declared.terms.Terms.{Terms}
use Rattle.kt_structure.proofs.AssemblyLemmas.{layers-found}
use Rattle.kt_structure.proofs.FindLemmas.{terms-found}

module _ (programme : List FmProgramme) where
  -- the units that losses go to fit 32 bits
  pub next-fits : AllByRecursion (λ row. row.to_agg_id < 2 ^ 32) programme → (key : ℕ × ℕ) (unit : ℕ) → next_unit programme key ≡ Some unit → unit < 2 ^ 32
  next-fits = go programme
    where
      go : (rows : List FmProgramme) → AllByRecursion (λ row. row.to_agg_id < 2 ^ 32) rows → (key : ℕ × ℕ) (unit : ℕ) → next_unit rows key ≡ Some unit → unit < 2 ^ 32
      go [] fit key unit is = cc
      go (row ∷ rows) fit key unit is = by (nat_eq key.0 row.level_id && nat_eq key.1 row.from_agg_id) is (go rows fit.1 key unit)
        where
          by : (b : Bool) → cond b (Some row.to_agg_id) (next_unit rows key) ≡ Some unit → (next_unit rows key ≡ Some unit → unit < 2 ^ 32) → unit < 2 ^ 32
          by true is rest = let same : row.to_agg_id ≡ unit = cc in let fits = fit.0 in omega arith
          by false is rest = rest is

  -- an id of a row of level 1 has a unit
  pub taken-next : (rows : List FmProgramme) (id : ℕ) → list_any (nat_eq id) (map (λ row. row.from_agg_id) (filter (λ row. nat_eq row.level_id 1) rows)) ≡ true → next_unit rows (1, id) ≡ None → ⊥
  taken-next [] id member none = cc
  taken-next (row ∷ rows) id member none = by (nat_eq row.level_id 1) (nat_eq_equiv.symm 1 row.level_id) (nat_eq id row.from_agg_id) refl member none (taken-next rows id)
    where
      by : (here : Bool) → nat_eq 1 row.level_id ≡ here → (same : Bool) → nat_eq id row.from_agg_id ≡ same → list_any (nat_eq id) (map (λ x. x.from_agg_id) (cond here (row ∷ filter (λ x. nat_eq x.level_id 1) rows) (filter (λ x. nat_eq x.level_id 1) rows))) ≡ true → cond (nat_eq 1 row.level_id && nat_eq id row.from_agg_id) (Some row.to_agg_id) (next_unit rows (1, id)) ≡ None
          → (list_any (nat_eq id) (map (λ x. x.from_agg_id) (filter (λ x. nat_eq x.level_id 1) rows)) ≡ true → next_unit rows (1, id) ≡ None → ⊥) → ⊥
      by true level true same member none rest = let found : Some row.to_agg_id ≡ None = (λ i. cond (sym level i && sym same i) (Some row.to_agg_id) (next_unit rows (1, id))) ∙ none in cc
      by true level false same member none rest = rest (ap (λ b. b || list_any (nat_eq id) (map (λ x. x.from_agg_id) (filter (λ x. nat_eq x.level_id 1) rows))) (sym same) ∙ member) ((λ i. cond (sym level i && sym same i) (Some row.to_agg_id) (next_unit rows (1, id))) ∙ none)
      by false level same is member none rest = rest member ((λ i. cond (sym level i && nat_eq id row.from_agg_id) (Some row.to_agg_id) (next_unit rows (1, id))) ∙ none)

  -- a unit of a level that losses go to is one of a row of the level
  pub next-target : (rows : List FmProgramme) (level child unit : ℕ) → next_unit rows (level, child) ≡ Some unit → list_any (nat_eq unit) (map (λ row. row.to_agg_id) (filter (λ row. nat_eq row.level_id level) rows)) ≡ true
  next-target [] level child unit is = cc
  next-target (row ∷ rows) level child unit is = by (nat_eq row.level_id level) (nat_eq_equiv.symm level row.level_id) (nat_eq child row.from_agg_id) ((λ i. cond (nat_eq_equiv.symm row.level_id level i && nat_eq child row.from_agg_id) (Some row.to_agg_id) (next_unit rows (level, child))) ∙ is) (next-target rows level child unit)
    where
      first : (found : ℕ) → found ≡ unit → nat_eq unit found ≡ true
      first found same = ap (nat_eq unit) same ∙ nat_eq_equiv.refl unit

      either : (b c : Bool) → c ≡ true → (b || c) ≡ true
      either true c is = refl
      either false c is = is

      by : (here : Bool) → nat_eq level row.level_id ≡ here → (same : Bool) → cond (here && same) (Some row.to_agg_id) (next_unit rows (level, child)) ≡ Some unit → (next_unit rows (level, child) ≡ Some unit → list_any (nat_eq unit) (map (λ x. x.to_agg_id) (filter (λ x. nat_eq x.level_id level) rows)) ≡ true) → list_any (nat_eq unit) (map (λ x. x.to_agg_id) (cond here (row ∷ filter (λ x. nat_eq x.level_id level) rows) (filter (λ x. nat_eq x.level_id level) rows))) ≡ true
      by true level_is true is rest = ap (λ b. b || list_any (nat_eq unit) (map (λ x. x.to_agg_id) (filter (λ x. nat_eq x.level_id level) rows))) (first row.to_agg_id (cc))
      by true level_is false is rest = either (nat_eq unit row.to_agg_id) _ (rest is)
      by false level_is same is rest = rest is

-- a top that an id reaches is one of the top level
reached-top : (programme : List FmProgramme) (levels id top : ℕ) → 0 < levels → climbed (next_unit programme) levels 1 id ≡ Some top → list_any (nat_eq top) (map (λ row. row.to_agg_id) (filter (λ row. nat_eq row.level_id levels) programme)) ≡ true
reached-top programme zero id top above climbs = absurd (omega arith)
reached-top programme (suc below) id top above climbs = by (climbed (next_unit programme) below 1 id) (sym (climbed-last (next_unit programme) below 1 id) ∙ climbs)
  where
    more : 1 + below ≡ suc below
    more = omega arith

    by : (found : Option ℕ) → after found (λ reached. next_unit programme (1 + below, reached)) ≡ Some top → list_any (nat_eq top) (map (λ row. row.to_agg_id) (filter (λ row. nat_eq row.level_id (suc below)) programme)) ≡ true
    by None is = cc
    by (Some reached) is = next-target programme programme (suc below) reached top (ap (λ n. next_unit programme (n, reached)) (sym more) ∙ is)

-- what is made of the tables of a programme is the structure of their tree
pub structure-made : (rows : Rows) (stage : ℕ) → IsReady rows stage → (kept : Kept) (terms : Terms) (links : List Link)
    → kept.top_level ≡ top_level (programme_of rows stage)
    → kept.next ≡ next_unit (programme_of rows stage)
    → kept.terms ≡ found_terms terms → AreTerms (policytc_of rows stage) (profiles_of rows stage) terms
    → ((level unit : ℕ) → 1 ≤ level → level ≤ top_level (programme_of rows stage) → kept.tiv level unit ≡ tiv_beneath rows stage level unit)
    → kept.layers ≡ (λ top. or_first (linked links kept.top_level top)) → ((key : ℕ) → filter (λ row. nat_eq (link_key row) key) links ≡ filter (λ row. nat_eq (link_key row) key) (map layer_link (filter (λ row. nat_eq row.level_id kept.top_level) (policytc_of rows stage))))
    → IsStructure (tree_of rows stage) kept
structure-made rows stage ready kept terms links top_is next_is terms_are of_tables tivs layers_are by_key =
    let programme = programme_of rows stage in
    record {
      is = tree_of-is rows stage ready.has;
      top_level_is = top_is;
      next_is = next_is;
      profiles_are = λ level unit. ap (λ found. found 1 level unit) terms_are ∙ terms-found (policytc_of rows stage) (profiles_of rows stage) terms of_tables 1 level unit;
      layer_profiles_are = λ top layer. ap (λ found. found layer (top_level programme) top) terms_are ∙ terms-found (policytc_of rows stage) (profiles_of rows stage) terms of_tables layer (top_level programme) top;
      tivs_are = tivs;
      layers_are = λ top fits. ap (λ found. found top) layers_are ∙ (layers-found rows stage ready links kept.top_level by_key top fits ∙ ap (λ n. layers_in (policytc_of rows stage) n top) top_is);
      small = next-fits programme (recursion_from_All (λ row. row.to_agg_id < 2 ^ 32) programme (λ k d below. let is = ready.programme k d below in let most = is.to_agg_id.most in omega arith));
      taken = λ id member. taken-next programme programme id (sym (rising-member (map (λ row. row.from_agg_id) (filter (λ row. nat_eq row.level_id 1) programme)) id) ∙ member);
      reached = λ id top climbs. rising-member (top_targets programme) top ∙ reached-top programme (top_level programme) id top ready.has.levels climbs;
      ids_rise = rising-rises (map (λ row. row.from_agg_id) (filter (λ row. nat_eq row.level_id 1) programme));
      tops_rise = rising-rises (top_targets programme);
      children_rise = λ level unit. rising-rises (map (λ row. row.from_agg_id) (filter (λ row. nat_eq row.level_id level && nat_eq row.to_agg_id unit) programme));
    }
