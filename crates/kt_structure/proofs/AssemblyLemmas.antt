-- The lists that are made from a plan are those of the tree of the tables.
use Rattle.std.proofs.Common.{◌≡◌, ℕ, zero, suc, ◌^◌, ◌<◌, ◌≤◌, Bool, true, false, cond, List, [], ◌∷◌, length, map, get_or, refl, ap, sym, subst, ◌∙◌, nat_eq, arith}
use Rattle.std.specs.Prelude.{◌&&◌}
use Rattle.std.proofs.Math.Path.{fun_ext}
use Rattle.std.specs.List.{All, AllByRecursion, filter, list_any}
use Rattle.kt_rec.specs.Rows.{Rows}
use Rattle.kt_rec.specs.declared.financial.FmPolicytc.{FmPolicytc}
use Rattle.kt_keys.specs.Keys.{policytc_of}
use Rattle.kt_rec.specs.Sums.{each_then, each_member, each_flat_map}
use Rattle.kt_rec.specs.Rising.{IsRising, rising}
use Rattle.kt_fmtree.specs.Tree.{Tree, beneath}
use Rattle.kt_fmtree.specs.Programme.{layers_in, or_first}
use Rattle.kt_fmtree.specs.Parts.{Parts, IsNode, IsProgramme, nodes_at, units_at}
use Rattle.kt_structure.specs.Plan.{found_terms, found_tiv, link_key, linked, layer_link, kids, build_levels, build_leaves, Finds}
use Rattle.kt_structure.specs.Ready.{IsReady}
use Rattle.kt_structure.specs.Structure.{Fits, Kept}
use Rattle.kt_structure.specs.declared.links.Link.{Link}
use Rattle.kt_fmtree.specs.declared.node.Node.{Node}
use Rattle.kt_structure.specs.declared.plan.Plan.{Plan}
use Rattle.kt_structure.proofs.PlanLemmas.{units_from, units_from-leaves, units_from-top, units_from-next, units_from-small, build_levels-length, build_levels-at, nodes_from-units, levels-are}
use Rattle.kt_structure.proofs.FindLemmas.{linked-are, fits-agg}

module _ (tree : Tree) (plan : Plan) (finds : Finds tree plan) (tops : List ℕ) (small : AllByRecursion (λ unit. unit < 2 ^ 32) tops) where
  -- the ids beneath the tops are those of the tree
  pub leaves-members : AllByRecursion (λ id. list_any (nat_eq id) tree.ids ≡ true) (build_leaves plan tree.top_level tops)
  leaves-members =
      subst (λ ids. AllByRecursion (λ id. list_any (nat_eq id) tree.ids ≡ true) ids) (sym (units_from-next plan tree.top_level 0 tops finds.is.levels) ∙ units_from-leaves plan tree.top_level tops)
      (each_flat_map (λ unit. unit < 2 ^ 32) (λ id. list_any (nat_eq id) tree.ids ≡ true) (kids plan 1) each-kid (units_from plan tree.top_level tops 1) (units_from-small tree plan finds tree.top_level 1 tops small))
    where
      each-kid : (unit : ℕ) → unit < 2 ^ 32 → AllByRecursion (λ id. list_any (nat_eq id) tree.ids ≡ true) (kids plan 1 unit)
      each-kid unit fits =
          subst (λ ids. AllByRecursion (λ id. list_any (nat_eq id) tree.ids ≡ true) ids) (sym (finds.children_are 1 unit (omega arith) finds.is.levels fits))
          (each_then _ _ (λ id here. finds.is.ids_are id unit (sym (finds.is.children_are 1 unit id) ∙ here)) (tree.children 1 unit) (each_member (tree.children 1 unit)))

  -- the units of each level
  units-are : (parts : Parts) → map (λ place. get_or parts.ids place 0) parts.leaves ≡ build_leaves plan tree.top_level tops → parts.levels ≡ build_levels plan tree.top_level tops → (at : ℕ) → at ≤ tree.top_level → units_at parts at ≡ units_from plan tree.top_level tops at
  units-are parts leaves levels zero below = leaves ∙ sym (units_from-leaves plan tree.top_level tops)
  units-are parts leaves levels (suc at) below =
      ap (λ all. map (λ (node : Node). node.unit) (get_or all at [])) levels
      ∙ (ap (map (λ (node : Node). node.unit)) (build_levels-at plan tree.top_level at tops (omega arith))
      ∙ nodes_from-units plan (suc at) 0 (units_from plan tree.top_level tops (suc at)))

  -- the lists are those of the tree
  pub assembled : (parts : Parts) → parts.ids ≡ tree.ids → IsRising parts.ids → All (λ place. place < length parts.ids) parts.leaves
      → map (λ place. get_or parts.ids place 0) parts.leaves ≡ build_leaves plan tree.top_level tops
      → parts.levels ≡ build_levels plan tree.top_level tops
      → parts.tops ≡ tree.tops → tops ≡ tree.tops
      → parts.layers ≡ map tree.layers tree.tops
      → parts.terms ≡ map (λ top. map (tree.layer_profile top) (tree.layers top)) tree.tops
      → parts.beneath ≡ map (beneath tree) tree.tops
      → IsProgramme tree parts
  assembled parts ids rise within leaves levels tops_are tops_same layers terms below =
      record {
        is = finds.is;
        ids_are = ids;
        ids_rise = rise;
        leaves_within = within;
        levels_are = ap length levels ∙ build_levels-length plan tree.top_level tops;
        nodes_are = λ level under. subst (λ units. All (IsNode tree (suc level) units) (nodes_at parts (suc level))) (sym (units-are parts leaves levels level (omega arith)))
            (subst (λ all. All (IsNode tree (suc level) (units_from plan tree.top_level tops level)) (get_or all level [])) (sym levels) (levels-are tree plan finds tops small level under));
        tops_are = tops_are;
        top_units = units-are parts leaves levels tree.top_level (omega arith) ∙ (units_from-top plan tree.top_level tops ∙ tops_same);
        layers_are = layers;
        terms_are = terms;
        beneath_are = below;
      }

-- what agrees at each of a list makes one list of it
pub map-each : {Y : Type 0} (P : ℕ → Type 0) (f g : ℕ → Y) → ((id : ℕ) → P id → f id ≡ g id) → (ids : List ℕ) → AllByRecursion P ids → map f ids ≡ map g ids
map-each P f g same [] all = refl
map-each P f g same (id ∷ ids) all = ap (λ y. y ∷ map f ids) (same id all.0) ∙ ap (λ ys. g id ∷ ys) (map-each P f g same ids all.1)

-- the layers of the tops, and their terms
pub layers-found : (rows : Rows) (stage : ℕ) → IsReady rows stage → (links : List Link) (level : ℕ) → ((key : ℕ) → filter (λ row. nat_eq (link_key row) key) links ≡ filter (λ row. nat_eq (link_key row) key) (map layer_link (filter (λ row. nat_eq row.level_id level) (policytc_of rows stage)))) → (top : ℕ) → top < 2 ^ 32 → or_first (linked links level top) ≡ layers_in (policytc_of rows stage) level top
layers-found rows stage ready links level kept top fits =
    ap or_first (linked-are layer_link links (filter (λ row. nat_eq row.level_id level) policytc) kept (of_level policytc (fits-agg policytc ready.policytc)) level top fits ∙ ap (λ found. rising (map (λ (row : FmPolicytc). row.layer_id) found)) (twice policytc))
  where
    policytc : List FmPolicytc
    policytc = policytc_of rows stage

    of_level : (rows : List FmPolicytc) → AllByRecursion (λ row. row.agg_id < 2 ^ 32) rows → AllByRecursion (λ row. row.agg_id < 2 ^ 32) (filter (λ row. nat_eq row.level_id level) rows)
    of_level [] all = tt
    of_level (row ∷ rows) all = by (nat_eq row.level_id level) (of_level rows all.1)
      where
        by : (b : Bool) → AllByRecursion (λ row. row.agg_id < 2 ^ 32) (filter (λ row. nat_eq row.level_id level) rows) → AllByRecursion (λ row. row.agg_id < 2 ^ 32) (cond b (row ∷ filter (λ row. nat_eq row.level_id level) rows) (filter (λ row. nat_eq row.level_id level) rows))
        by true rest = (all.0, rest)
        by false rest = rest

    twice : (rows : List FmPolicytc) → filter (λ row. nat_eq row.level_id level && nat_eq row.agg_id top) (filter (λ row. nat_eq row.level_id level) rows) ≡ filter (λ row. nat_eq row.level_id level && nat_eq row.agg_id top) rows
    twice [] = refl
    twice (row ∷ rows) = by (nat_eq row.level_id level) refl (twice rows)
      where
        by : (b : Bool) → nat_eq row.level_id level ≡ b → filter (λ row. nat_eq row.level_id level && nat_eq row.agg_id top) (filter (λ row. nat_eq row.level_id level) rows) ≡ filter (λ row. nat_eq row.level_id level && nat_eq row.agg_id top) rows
            → filter (λ row. nat_eq row.level_id level && nat_eq row.agg_id top) (cond b (row ∷ filter (λ row. nat_eq row.level_id level) rows) (filter (λ row. nat_eq row.level_id level) rows)) ≡ cond (nat_eq row.level_id level && nat_eq row.agg_id top) (row ∷ filter (λ row. nat_eq row.level_id level && nat_eq row.agg_id top) rows) (filter (λ row. nat_eq row.level_id level && nat_eq row.agg_id top) rows)
        by true is rest = ap (λ kept. cond (nat_eq row.level_id level && nat_eq row.agg_id top) (row ∷ kept) kept) rest
        by false is rest = rest ∙ ap (λ b. cond (b && nat_eq row.agg_id top) (row ∷ filter (λ row. nat_eq row.level_id level && nat_eq row.agg_id top) rows) (filter (λ row. nat_eq row.level_id level && nat_eq row.agg_id top) rows)) (sym is)

-- the lists that are made of what fits a tree are its lists
module _ (tree : Tree) (kept : Kept) (links ends : List Link) (ids tops : List ℕ) (fits : Fits tree kept links ends ids tops) (plan : Plan) (links_are : plan.links.now ≡ links) (terms_are : found_terms plan.terms.now ≡ kept.terms) (tivs_are : (level unit : ℕ) → found_tiv plan level unit ≡ kept.tiv level unit) where
  plan-finds : Finds tree plan
  plan-finds = record {
    is = fits.is;
    children_are = λ level unit least most small. ap (λ all. linked all level unit) links_are ∙ fits.children_are level unit least most small;
    kids_small = λ level unit. subst (λ all. AllByRecursion (λ kid. kid < 2 ^ 32) (linked all level unit)) (sym links_are) (fits.children_fit level unit);
    profiles_are = λ level unit. ap (λ terms. terms 1 level unit) terms_are ∙ fits.profiles_are level unit;
    layers_are = λ top layer. ap (λ terms. terms layer tree.top_level top) terms_are ∙ fits.layer_profiles_are top layer;
    tivs_are = λ level unit least most. tivs_are level unit ∙ fits.tivs_are level unit least most;
  }

  -- the leaves are among the ids
  pub leaves-fit : AllByRecursion (λ id. list_any (nat_eq id) ids ≡ true) (build_leaves plan kept.top_level tops)
  leaves-fit =
      subst (λ found. AllByRecursion (λ id. list_any (nat_eq id) found ≡ true) (build_leaves plan kept.top_level tops)) (sym fits.ids_are)
      (subst (λ n. AllByRecursion (λ id. list_any (nat_eq id) tree.ids ≡ true) (build_leaves plan n tops)) (sym fits.top_level_is) (leaves-members tree plan plan-finds tops fits.tops_fit))

  pub programme-fits : (parts : Parts)
      → parts.ids ≡ ids → parts.tops ≡ tops
      → All (λ place. place < length parts.ids) parts.leaves
      → map (λ place. get_or parts.ids place 0) parts.leaves ≡ build_leaves plan kept.top_level tops
      → parts.levels ≡ build_levels plan kept.top_level tops
      → parts.layers ≡ map kept.layers tops
      → parts.terms ≡ map (λ top. map (λ layer. kept.terms layer kept.top_level top) (kept.layers top)) tops
      → parts.beneath ≡ map (linked ends 0) tops
      → IsProgramme tree parts
  programme-fits parts ids_same tops_same within leaves levels layers terms below =
      assembled tree plan plan-finds tops fits.tops_fit parts
      (ids_same ∙ fits.ids_are) (subst IsRising (sym ids_same) fits.ids_rise) within
      (leaves ∙ ap (λ n. build_leaves plan n tops) fits.top_level_is)
      (levels ∙ ap (λ n. build_levels plan n tops) fits.top_level_is)
      (tops_same ∙ fits.tops_are) fits.tops_are
      (layers ∙ (map-each (λ top. top < 2 ^ 32) kept.layers tree.layers fits.layers_are tops fits.tops_fit ∙ ap (map tree.layers) fits.tops_are))
      (terms ∙ (map-each (λ top. top < 2 ^ 32) _ (λ top. map (tree.layer_profile top) (tree.layers top)) layer_terms tops fits.tops_fit ∙ ap (map (λ top. map (tree.layer_profile top) (tree.layers top))) fits.tops_are))
      (below ∙ (map-each (λ top. top < 2 ^ 32) _ (beneath tree) (λ top small. fits.beneath_are top) tops fits.tops_fit ∙ ap (map (beneath tree)) fits.tops_are))
    where
      layer_terms : (top : ℕ) → top < 2 ^ 32 → map (λ layer. kept.terms layer kept.top_level top) (kept.layers top) ≡ map (tree.layer_profile top) (tree.layers top)
      layer_terms top small =
          (λ i. map (λ layer. kept.terms layer (fits.top_level_is i) top) (fits.layers_are top small i))
          ∙ ap (λ terms. map terms (tree.layers top)) (fun_ext (fits.layer_profiles_are top))
