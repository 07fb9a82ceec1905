-- Lemmas on the levels of a plan, as they are built.
use Rattle.std.proofs.Common.{◌≡◌, ℕ, zero, suc, ◌+◌, ◌-◌, ◌<◌, ◌≤◌, ◌^◌, List, [], ◌∷◌, ◌++◌, length, map, take, drop, get_or, refl, sym, ap, subst, ◌∙◌, arith, drop-cons, add-one, append_assoc, append-nil, length-append, Bool, true, false, cond, nat_eq, ◌⊎◌, inl, inr}
use Rattle.std.specs.Cmp.{nat_eq_equiv}
use Rattle.std.proofs.lemmas.Bool.{cases_eq}
use Rattle.std.proofs.lemmas.Bool.Decides.{nat_tests}
use Rattle.std.proofs.lemmas.List.{map-append, get_or_push, drop_all}
use Rattle.std.proofs.lemmas.List.Elements.{All-from_recursion}
use Rattle.std.proofs.Math.ListN.{get_or-append}
use Rattle.std.specs.List.{All, AllByRecursion, flat_map}
use Rattle.kt_rec.specs.Sums.{each_flat_map}
use Rattle.kt_fmtree.specs.Tree.{Tree}
use Rattle.kt_fmtree.specs.Parts.{IsNode}
use Rattle.kt_structure.specs.Plan.{kids, new_node, nodes_from, build_levels, build_leaves, Finds}
use Rattle.kt_fmtree.specs.declared.node.Node.{Node}
use Rattle.kt_structure.specs.declared.plan.Plan.{Plan}

-- how far a level has come
pub record IsBuilding (plan : Plan) (level : ℕ) (units : List ℕ) (place : ℕ) (nodes : List Node) (below : List ℕ) : Type 0 where
  pub nodes_are : nodes ++ nodes_from plan level (length below) (drop place units) ≡ nodes_from plan level 0 units
  pub below_are : below ++ flat_map (kids plan level) (drop place units) ≡ flat_map (kids plan level) units

pub building-goes : (plan : Plan) (level : ℕ) (units : List ℕ) (place : ℕ) (nodes more : List Node) (below further : List ℕ) → place < length units → IsBuilding plan level units place nodes below
    → more ≡ nodes ++ new_node plan level (get_or units place 0) (length below) (length (kids plan level (get_or units place 0))) ∷ []
    → further ≡ below ++ kids plan level (get_or units place 0)
    → IsBuilding plan level units (place + 1) more further
building-goes plan level units place nodes more below further inside so_far more_is further_is =
    let unit = get_or units place 0 in
    let next : drop place units ≡ unit ∷ drop (place + 1) units = rw (add-one, drop-cons units place 0) refl in
    let long : length further ≡ length below + length (kids plan level unit) = ap length further_is ∙ length-append below (kids plan level unit) in
    record {
      nodes_are =
          ap (λ ns. ns ++ nodes_from plan level (length further) (drop (place + 1) units)) more_is
          ∙ (append_assoc nodes _ _
          ∙ (ap (λ n. nodes ++ (new_node plan level unit (length below) (length (kids plan level unit)) ∷ nodes_from plan level n (drop (place + 1) units))) long
          ∙ (ap (λ us. nodes ++ nodes_from plan level (length below) us) (sym next) ∙ so_far.nodes_are)));
      below_are =
          ap (λ bs. bs ++ flat_map (kids plan level) (drop (place + 1) units)) further_is
          ∙ (append_assoc below _ _
          ∙ (ap (λ us. below ++ flat_map (kids plan level) us) (sym next) ∙ so_far.below_are));
    }

-- at the beginning nothing stands there
pub building-begins : (plan : Plan) (level : ℕ) (units : List ℕ) (nodes : List Node) (below : List ℕ) → nodes ≡ [] → below ≡ [] → IsBuilding plan level units 0 nodes below
building-begins plan level units nodes below nodes_are below_are = record {
  nodes_are = ap (λ ns. ns ++ nodes_from plan level (length below) units) nodes_are ∙ ap (λ bs. nodes_from plan level (length bs) units) below_are;
  below_are = ap (λ bs. bs ++ flat_map (kids plan level) units) below_are;
}

-- at the end all nodes of the level stand there
pub nodes-end : (plan : Plan) (level : ℕ) (units : List ℕ) (place : ℕ) (nodes : List Node) (below : List ℕ) → length units ≤ place → IsBuilding plan level units place nodes below → nodes ≡ nodes_from plan level 0 units
nodes-end plan level units place nodes below behind so_far = sym (append-nil nodes) ∙ (ap (λ us. nodes ++ nodes_from plan level (length below) us) (sym (drop_all place units behind)) ∙ so_far.nodes_are)

-- and all units below
pub below-end : (plan : Plan) (level : ℕ) (units : List ℕ) (place : ℕ) (nodes : List Node) (below : List ℕ) → length units ≤ place → IsBuilding plan level units place nodes below → below ≡ flat_map (kids plan level) units
below-end plan level units place nodes below behind so_far = sym (append-nil below) ∙ (ap (λ us. below ++ flat_map (kids plan level) us) (sym (drop_all place units behind)) ∙ so_far.below_are)

-- the levels below, and then a level
pub levels-push : {V : Type 0} (g : V → List Node) (plan : Plan) (level : ℕ) (units below : List ℕ) (old after all : List V) (nodes : V) → 0 < level → map g after ≡ map g old ++ build_levels plan (level - 1) below → below ≡ flat_map (kids plan level) units → g nodes ≡ nodes_from plan level 0 units → all ≡ after ++ nodes ∷ [] → map g all ≡ map g old ++ build_levels plan level units
levels-push g plan zero units below old after all nodes above after_is below_is nodes_is all_is = absurd (omega arith)
levels-push g plan (suc level) units below old after all nodes above after_is below_is nodes_is all_is =
    let e : suc level - 1 ≡ level = omega arith in
    ap (map g) all_is
    ∙ (map-append g after (nodes ∷ [])
    ∙ (ap (λ ns. ns ++ g nodes ∷ []) (after_is ∙ (ap (λ n. map g old ++ build_levels plan n below) e ∙ ap (λ us. map g old ++ build_levels plan level us) below_is))
    ∙ (ap (λ ns. (map g old ++ build_levels plan level (flat_map (kids plan (suc level)) units)) ++ ns ∷ []) nodes_is
    ∙ append_assoc (map g old) _ _)))

-- ---- the levels of a tree

-- the units of a level, from those of a level above
abbrev pub units_from : Plan → ℕ → List ℕ → ℕ → List ℕ
units_from plan zero units at = units
units_from plan (suc level) units at = cond (nat_eq at (suc level)) units (units_from plan level (flat_map (kids plan (suc level)) units) at)

pub build_levels-length : (plan : Plan) (level : ℕ) (units : List ℕ) → length (build_levels plan level units) ≡ level
build_levels-length plan zero units = refl
build_levels-length plan (suc level) units =
    length-append (build_levels plan level (flat_map (kids plan (suc level)) units)) (nodes_from plan (suc level) 0 units ∷ [])
    ∙ (ap (λ n. n + 1) (build_levels-length plan level (flat_map (kids plan (suc level)) units)) ∙ omega arith)

-- those at the top are the units
pub units_from-top : (plan : Plan) (level : ℕ) (units : List ℕ) → units_from plan level units level ≡ units
units_from-top plan zero units = refl
units_from-top plan (suc level) units = ap (λ b. cond b units (units_from plan level (flat_map (kids plan (suc level)) units) (suc level))) (nat_eq_equiv.refl (suc level))

-- below the top they are those of the level below
units_from-lower : (plan : Plan) (level at : ℕ) (units : List ℕ) → at < suc level → units_from plan (suc level) units at ≡ units_from plan level (flat_map (kids plan (suc level)) units) at
units_from-lower plan level at units below = ap (λ b. cond b units (units_from plan level (flat_map (kids plan (suc level)) units) at)) (apart at (suc level) below)
  where
    apart : (a b : ℕ) → a < b → nat_eq a b ≡ false
    apart a b less = grind (arith, nat_tests)

-- the units at the bottom are the leaves
pub units_from-leaves : (plan : Plan) (level : ℕ) (units : List ℕ) → units_from plan level units 0 ≡ build_leaves plan level units
units_from-leaves plan zero units = refl
units_from-leaves plan (suc level) units = units_from-lower plan level 0 units (omega arith) ∙ units_from-leaves plan level (flat_map (kids plan (suc level)) units)

-- the units of a level are the children of those of the level above
pub units_from-next : (plan : Plan) (level at : ℕ) (units : List ℕ) → at < level → units_from plan level units at ≡ flat_map (kids plan (suc at)) (units_from plan level units (suc at))
units_from-next plan zero at units below = absurd (omega arith)
units_from-next plan (suc level) at units below =
    units_from-lower plan level at units below ∙ by (cases_eq at level) (λ inside. units_from-next plan level at (flat_map (kids plan (suc level)) units) inside)
  where
    by : (at ≡ level) ⊎ (at ≡ level → ⊥) → (at < level → units_from plan level (flat_map (kids plan (suc level)) units) at ≡ flat_map (kids plan (suc at)) (units_from plan level (flat_map (kids plan (suc level)) units) (suc at))) → units_from plan level (flat_map (kids plan (suc level)) units) at ≡ flat_map (kids plan (suc at)) (units_from plan (suc level) units (suc at))
    by (inl same) rest = subst (λ n. units_from plan level (flat_map (kids plan (suc level)) units) n ≡ flat_map (kids plan (suc n)) (units_from plan (suc level) units (suc n))) (sym same) (units_from-top plan level (flat_map (kids plan (suc level)) units) ∙ ap (flat_map (kids plan (suc level))) (sym (units_from-top plan (suc level) units)))
    by (inr other) rest = rest (omega arith) ∙ ap (flat_map (kids plan (suc at))) (sym (units_from-lower plan level (suc at) units (omega arith)))

-- the nodes of a level are those of its units
pub build_levels-at : (plan : Plan) (level at : ℕ) (units : List ℕ) → at < level → get_or (build_levels plan level units) at [] ≡ nodes_from plan (suc at) 0 (units_from plan level units (suc at))
build_levels-at plan zero at units below = absurd (omega arith)
build_levels-at plan (suc level) at units below = by (cases_eq at level) (λ inside. build_levels-at plan level at (flat_map (kids plan (suc level)) units) inside)
  where
    by : (at ≡ level) ⊎ (at ≡ level → ⊥) → (at < level → get_or (build_levels plan level (flat_map (kids plan (suc level)) units)) at [] ≡ nodes_from plan (suc at) 0 (units_from plan level (flat_map (kids plan (suc level)) units) (suc at))) → get_or (build_levels plan (suc level) units) at [] ≡ nodes_from plan (suc at) 0 (units_from plan (suc level) units (suc at))
    by (inl same) rest =
        let long = build_levels-length plan level (flat_map (kids plan (suc level)) units) in
        get_or_push (build_levels plan level (flat_map (kids plan (suc level)) units)) (nodes_from plan (suc level) 0 units) [] at (long ∙ sym same)
        ∙ (ap (nodes_from plan (suc level) 0) (sym (units_from-top plan (suc level) units))
        ∙ ap (λ n. nodes_from plan (suc n) 0 (units_from plan (suc level) units (suc n))) (sym same))
    by (inr other) rest =
        get_or-append (build_levels plan level (flat_map (kids plan (suc level)) units)) (nodes_from plan (suc level) 0 units ∷ []) [] at (let long = build_levels-length plan level (flat_map (kids plan (suc level)) units) in omega arith)
        ∙ (rest (omega arith) ∙ ap (nodes_from plan (suc at) 0) (sym (units_from-lower plan level (suc at) units (omega arith))))

-- the units of nodes
pub nodes_from-units : (plan : Plan) (level start : ℕ) (units : List ℕ) → map (λ node. node.unit) (nodes_from plan level start units) ≡ units
nodes_from-units plan level start [] = refl
nodes_from-units plan level start (unit ∷ units) = ap (λ us. unit ∷ us) (nodes_from-units plan level (start + length (kids plan level unit)) units)

-- ---- the nodes are those of the tree

-- children behind others
take-behind : (before kids_of rest : List ℕ) → take (length kids_of) (drop (length before) (before ++ (kids_of ++ rest))) ≡ kids_of
take-behind [] kids_of rest = front kids_of rest
  where
    front : (xs ys : List ℕ) → take (length xs) (xs ++ ys) ≡ xs
    front [] ys = refl
    front (x ∷ xs) ys = ap (λ zs. x ∷ zs) (front xs ys)
take-behind (first ∷ before) kids_of rest = take-behind before kids_of rest

module _ (tree : Tree) (plan : Plan) (finds : Finds tree plan) (level : ℕ) (least : 1 ≤ level) (most : level ≤ tree.top_level) where
  -- each node of units is that of its unit
  nodes_from-are : (before : List ℕ) (units : List ℕ) → AllByRecursion (λ unit. unit < 2 ^ 32) units → AllByRecursion (IsNode tree level (before ++ flat_map (kids plan level) units)) (nodes_from plan level (length before) units)
  nodes_from-are before [] small = tt
  nodes_from-are before (unit ∷ units) small =
      let mine = kids plan level unit in
      let rest = flat_map (kids plan level) units in
      let long : length (before ++ mine) ≡ length before + length mine = length-append before mine in
      let later = nodes_from-are (before ++ mine) units small.1 in (
        record {
          within = let all = length-append before (mine ++ rest) in let back = length-append mine rest in omega arith;
          children_are = take-behind before mine rest ∙ finds.children_are level unit least most small.0;
          tiv_is = finds.tivs_are level unit least most;
          profile_is = finds.profiles_are level unit;
        },
        subst (λ n. AllByRecursion (IsNode tree level (before ++ (mine ++ rest))) (nodes_from plan level n units)) long
            (subst (λ bs. AllByRecursion (IsNode tree level bs) (nodes_from plan level (length (before ++ mine)) units)) (append_assoc before mine rest) later),
      )

-- the units of each level are small
pub units_from-small : (tree : Tree) (plan : Plan) → Finds tree plan → (level at : ℕ) (units : List ℕ) → AllByRecursion (λ unit. unit < 2 ^ 32) units → AllByRecursion (λ unit. unit < 2 ^ 32) (units_from plan level units at)
units_from-small tree plan finds zero at units small = small
units_from-small tree plan finds (suc level) at units small = by (nat_eq at (suc level)) (units_from-small tree plan finds level at (flat_map (kids plan (suc level)) units) (each_flat_map _ _ (kids plan (suc level)) (λ unit here. finds.kids_small (suc level) unit) units small))
  where
    by : (b : Bool) → AllByRecursion (λ unit. unit < 2 ^ 32) (units_from plan level (flat_map (kids plan (suc level)) units) at) → AllByRecursion (λ unit. unit < 2 ^ 32) (cond b units (units_from plan level (flat_map (kids plan (suc level)) units) at))
    by true rest = small
    by false rest = rest

-- the nodes of each level are those of a tree
pub levels-are : (tree : Tree) (plan : Plan) → Finds tree plan → (units : List ℕ) → AllByRecursion (λ unit. unit < 2 ^ 32) units → (at : ℕ) → at < tree.top_level → All (IsNode tree (suc at) (units_from plan tree.top_level units at)) (get_or (build_levels plan tree.top_level units) at [])
levels-are tree plan finds units small at below =
    let upper = units_from plan tree.top_level units (suc at) in
    let nodes = nodes_from-are tree plan finds (suc at) (omega arith) (omega arith) [] upper (units_from-small tree plan finds tree.top_level (suc at) units small) in
    subst (λ ns. All (IsNode tree (suc at) (units_from plan tree.top_level units at)) ns) (sym (build_levels-at plan tree.top_level at units below))
    (subst (λ bs. All (IsNode tree (suc at) bs) (nodes_from plan (suc at) 0 upper)) (sym (units_from-next plan tree.top_level at units below)) (All-from_recursion _ _ nodes))
