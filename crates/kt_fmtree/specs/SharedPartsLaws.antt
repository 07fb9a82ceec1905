-- Parts by places are the parts of the tree.
-- The rule: docs/FINANCIAL_MODULE.md, "Allocation".
use Rattle.std.proofs.Common.{◌≡◌, ℕ, zero, suc, ◌+◌, ◌<◌, ◌≤◌, Bool, true, false, cond, nat_eq, List, [], ◌∷◌, ◌++◌, length, map, take, drop, get_or, refl, sym, ap, ◌∙◌, arith, drop-cons, add-one}
use Rattle.std.specs.Cmp.{nat_eq_equiv}
use Rattle.std.specs.List.{All, AllByRecursion, flat_map, list_any, sum_by}
use Rattle.std.proofs.lemmas.Bool.{eqb-true}
use Rattle.std.proofs.lemmas.List.{map-append, get_or-map, length-map}
use Rattle.std.proofs.lemmas.List.Sums.{sum_by-cons}
use Rattle.kt_money.specs.Sharing.{share_out}
use Rattle.kt_rules.specs.Amounts.{total, weight}
use Rattle.kt_rules.specs.declared.carry.Carry.{Carry}
use Rattle.kt_rec.specs.Sums.{sum_by-agree, sum_by-flat_map, sum_by-one, each_member, distinct_filter, sum_by-map}
use Rattle.kt_fmtree.specs.Sharing.{Part, parts_for, carried_loss, weight_of, passed_down, id_parts, part_of}
use Rattle.kt_fmtree.specs.Tree.{Tree, IsTree, carry_of, ground_up, comes_to, beneath}
use Rattle.kt_fmtree.specs.TreeLaws.{each, carry_of-total, ground_up-beneath}
use Rattle.kt_fmtree.specs.Parts.{Parts, IsNode, IsProgramme, units_at}
use Rattle.kt_fmtree.specs.Carried.{Carried, AreCarried, IsCarriedBy}
use Rattle.kt_fmtree.specs.CarriedLaws.{children-of}
use Rattle.kt_rec.specs.ListLaws.{map-agree, map-map}
use Rattle.kt_fmtree.specs.declared.node.Node.{Node}
use Rattle.kt_fmtree.specs.Placed.{amounts_for, parts_from, children_of, no_node, node_at, given_by, level_down, levels_down, CanShare, unit_parts}
use Rattle.kt_fmtree.specs.declared.part.PlacedPart.{PlacedPart}
use Rattle.kt_fmtree.specs.DownLaws.{amounts-length, nodes-places, can-next}

-- ---- what the tree gives down

-- what children have of a unit's part: their ground-up losses, or their shares of it
abbrev pub tree_amounts : Tree → (ℕ → ℕ) → Bool → ℕ → ℕ → List ℕ → List ℕ
tree_amounts tree losses whole level amount units = cond whole (map (ground_up tree losses level) units) (share_out amount (map (weight_of tree losses level units) units))

abbrev pub tree_given : Tree → (ℕ → ℕ) → Bool → ℕ → Part → List Part
tree_given tree losses whole level part = parts_for (tree.children (suc level) part.unit) (tree_amounts tree losses whole level part.amount (tree.children (suc level) part.unit))

abbrev pub tree_parts : Tree → (ℕ → ℕ) → Bool → ℕ → List Part → List Part
tree_parts tree losses whole zero parts = parts
tree_parts tree losses whole (suc level) parts = tree_parts tree losses whole level (flat_map (tree_given tree losses whole level) parts)

-- shared out, these are the parts of the tree
pub tree_parts-shared : (tree : Tree) (losses : ℕ → ℕ) (level : ℕ) (parts : List Part) → tree_parts tree losses false level parts ≡ id_parts tree losses level parts
tree_parts-shared tree losses zero parts = refl
tree_parts-shared tree losses (suc level) parts = tree_parts-shared tree losses level (flat_map (passed_down tree losses level) parts)

-- ---- one node

-- amounts of units in places are amounts of the units there
placed-for : (units : List ℕ) (start : ℕ) (amounts : List ℕ) → start + length amounts ≤ length units → unit_parts units (parts_from start amounts) ≡ parts_for (take (length amounts) (drop start units)) amounts
placed-for units start [] fits = refl
placed-for units start (amount ∷ amounts) fits =
    let below : start < length units = omega arith in
    let next : drop start units ≡ get_or units start 0 ∷ drop (start + 1) units = rw (add-one, drop-cons units start 0) refl in
    let rest = placed-for units (start + 1) amounts (omega arith) in
    ap (λ ps. record { unit = get_or units start 0; amount = amount } ∷ ps) rest
    ∙ ap (λ us. parts_for (take (suc (length amounts)) us) (amount ∷ amounts)) (sym next)

module _ (tree : Tree) (is : IsTree tree) (loss : ℕ → ℕ) where
  -- the amounts of children, from what they carry
  amounts-are : (whole : Bool) (level amount : ℕ) (units : List ℕ) → amounts_for whole amount (map (carry_of tree loss level) units) ≡ tree_amounts tree loss whole level amount units
  amounts-are true level amount units =
      map-map total (carry_of tree loss level) units ∙ map-agree (λ unit. total (carry_of tree loss level unit)) (ground_up tree loss level) units (λ k d below. carry_of-total tree is loss level (get_or units k d))
  amounts-are false level amount units =
      ap (share_out amount)
      (map-map (weight (sum_by (λ carry. carry.loss) (map (carry_of tree loss level) units))) (carry_of tree loss level) units
      ∙ (ap (λ n. map (λ unit. weight n (carry_of tree loss level unit)) units) (sum_by-map (λ (carry : Carry). carry.loss) (carry_of tree loss level) units)
      ∙ map-agree (λ unit. weight (carried_loss tree loss level units) (carry_of tree loss level unit)) (weight_of tree loss level units) units
      (λ k d below. ap (λ n. cond (nat_eq (carried_loss tree loss level units) 0) n (carry_of tree loss level (get_or units k d)).loss) (carry_of-total tree is loss level (get_or units k d)))))

  -- a part in a place gives what that of its unit does
  node-given : (whole : Bool) (level amount : ℕ) (below : List ℕ) (node : Node) → IsNode tree (suc level) below node → unit_parts below (parts_from node.start (amounts_for whole amount (children_of (map (carry_of tree loss level) below) node))) ≡ tree_given tree loss whole level (record { unit = node.unit; amount = amount })
  node-given whole level amount below node right =
      let units = tree.children (suc level) node.unit in
      let children = children-of tree (suc level) below node right (carry_of tree loss level) in
      let amounts = amounts_for whole amount (map (carry_of tree loss level) units) in
      let long : length amounts ≡ length units = amounts-length whole amount (map (carry_of tree loss level) units) ∙ length-map units (carry_of tree loss level) in
      let fits = right.within in
      let width : length units ≡ node.width = ap length (sym right.children_are) ∙ taken node.width (drop node.start below) (rest node.start node.width below fits) in
      ap (λ cs. unit_parts below (parts_from node.start (amounts_for whole amount cs))) children
      ∙ (placed-for below node.start amounts (omega arith)
      ∙ (ap (λ n. parts_for (take n (drop node.start below)) amounts) (long ∙ width)
      ∙ (ap (λ us. parts_for us amounts) right.children_are
      ∙ ap (parts_for units) (amounts-are whole level amount units))))
    where
      rest : (start width : ℕ) (xs : List ℕ) → start + width ≤ length xs → width ≤ length (drop start xs)
      rest zero width xs fits = omega arith
      rest (suc start) width [] fits = omega arith
      rest (suc start) width (x ∷ xs) fits = rest start width xs (omega arith)

      taken : (n : ℕ) (xs : List ℕ) → n ≤ length xs → length (take n xs) ≡ n
      taken zero xs fits = refl
      taken (suc n) [] fits = absurd (omega arith)
      taken (suc n) (x ∷ xs) fits = ap suc (taken n xs (omega arith))

  -- ---- a level

  level-given : (whole : Bool) (level : ℕ) (below : List ℕ) (nodes : List Node) → All (IsNode tree (suc level) below) nodes → (parts : List PlacedPart) → AllByRecursion (λ part. part.place < length nodes) parts
      → unit_parts below (level_down whole nodes (map (carry_of tree loss level) below) parts) ≡ flat_map (tree_given tree loss whole level) (unit_parts (map (λ node. node.unit) nodes) parts)
  level-given whole level below nodes are [] places = refl
  level-given whole level below nodes are (part ∷ parts) places =
      let node = node_at nodes part.place in
      let right : IsNode tree (suc level) below node = are part.place no_node places.0 in
      let unit : get_or (map (λ (n : Node). n.unit) nodes) part.place 0 ≡ node.unit = get_or-map (λ (n : Node). n.unit) nodes part.place no_node 0 places.0 in
      let row = map (carry_of tree loss level) below in
      map-append (λ (p : PlacedPart). record { unit = get_or below p.place 0; amount = p.amount }) (given_by whole nodes row part) (level_down whole nodes row parts)
      ∙ (ap (λ ps. ps ++ unit_parts below (level_down whole nodes row parts)) (node-given whole level part.amount below node right ∙ ap (λ u. tree_given tree loss whole level (record { unit = u; amount = part.amount })) (sym unit))
      ∙ ap (λ ps. tree_given tree loss whole level (record { unit = get_or (map (λ (n : Node). n.unit) nodes) part.place 0; amount = part.amount }) ++ ps) (level-given whole level below nodes are parts places.1))

-- ---- all levels

module _ (programme : Parts) (carried : Carried) (of : IsCarriedBy programme carried) (tree : Tree) (loss : ℕ → ℕ) (is : IsProgramme tree programme) (are : AreCarried tree loss programme carried) where
  pub levels-given : (whole : Bool) (level : ℕ) (parts : List PlacedPart) → CanShare programme whole level parts
      → unit_parts (units_at programme 0) (levels_down whole programme.levels carried.rows level parts) ≡ tree_parts tree loss whole level (unit_parts (units_at programme level) parts)
  levels-given whole zero parts can = refl
  levels-given whole (suc level) parts can =
      let within = can.within in
      let count = is.levels_are in
      let under : level < tree.top_level = omega arith in
      let nodes = get_or programme.levels level [] in
      let row = are.rows_are level under in
      levels-given whole level _ (can-next programme carried of whole (suc level) level refl parts _ can refl)
      ∙ ap (tree_parts tree loss whole level)
      (ap (λ r. unit_parts (units_at programme level) (level_down whole nodes r parts)) row
      ∙ level-given tree is.is loss whole level (units_at programme level) nodes (is.nodes_are level under) parts (nodes-places programme whole (suc level) level refl parts can))

  -- the places stay
  pub levels-can : (whole : Bool) (level : ℕ) (parts : List PlacedPart) → CanShare programme whole level parts → CanShare programme whole 0 (levels_down whole programme.levels carried.rows level parts)
  levels-can whole zero parts can = can
  levels-can whole (suc level) parts can = levels-can whole level _ (can-next programme carried of whole (suc level) level refl parts _ can refl)

-- ---- ground-up losses by id

-- over the units that have their amounts, what each has
parts-each : (h : Part → ℕ) (f : ℕ → ℕ) (units : List ℕ) → sum_by h (parts_for units (map f units)) ≡ sum_by (λ unit. h (record { unit = unit; amount = f unit })) units
parts-each h f [] = refl
parts-each h f (unit ∷ units) =
    omega (arith, sum_by-cons h (record { unit = unit; amount = f unit }) (parts_for units (map f units)), sum_by-cons (λ u. h (record { unit = u; amount = f u })) unit units, parts-each h f units)

-- a sum over the parts of the ids is one over their losses
whole-sum : (tree : Tree) (loss : ℕ → ℕ) (h : Part → ℕ) (level : ℕ) (parts : List Part) → sum_by h (tree_parts tree loss true (suc level) parts) ≡ sum_by (λ part. ground_up tree (λ id. h (record { unit = id; amount = loss id })) (suc level) part.unit) parts
whole-sum tree loss h zero parts =
    sum_by-flat_map h (tree_given tree loss true 0) parts
    ∙ sum_by-agree (λ part. sum_by h (tree_given tree loss true 0 part)) (λ part. ground_up tree (λ id. h (record { unit = id; amount = loss id })) 1 part.unit) parts (all parts)
  where
    all : (parts : List Part) → AllByRecursion (λ part. sum_by h (tree_given tree loss true 0 part) ≡ ground_up tree (λ id. h (record { unit = id; amount = loss id })) 1 part.unit) parts
    all [] = tt
    all (part ∷ parts) = (parts-each h loss (tree.children 1 part.unit), all parts)
whole-sum tree loss h (suc level) parts =
    whole-sum tree loss h level (flat_map (tree_given tree loss true (suc level)) parts)
    ∙ (sum_by-flat_map (λ part. ground_up tree (λ id. h (record { unit = id; amount = loss id })) (suc level) part.unit) (tree_given tree loss true (suc level)) parts
    ∙ sum_by-agree (λ part. sum_by (λ given. ground_up tree (λ id. h (record { unit = id; amount = loss id })) (suc level) given.unit) (tree_given tree loss true (suc level) part)) (λ part. ground_up tree (λ id. h (record { unit = id; amount = loss id })) (suc (suc level)) part.unit) parts (all parts))
  where
    all : (parts : List Part) → AllByRecursion (λ part. sum_by (λ given. ground_up tree (λ id. h (record { unit = id; amount = loss id })) (suc level) given.unit) (tree_given tree loss true (suc level) part) ≡ ground_up tree (λ id. h (record { unit = id; amount = loss id })) (suc (suc level)) part.unit) parts
    all [] = tt
    all (part ∷ parts) = (parts-each (λ given. ground_up tree (λ id. h (record { unit = id; amount = loss id })) (suc level) given.unit) (ground_up tree loss (suc level)) (tree.children (suc (suc level)) part.unit), all parts)

module _ (tree : Tree) (is : IsTree tree) (loss : ℕ → ℕ) (top amount : ℕ) where
  -- a sum over the parts of the ids beneath a top is one over the ids
  top-sum : (h : Part → ℕ) → sum_by h (tree_parts tree loss true tree.top_level (record { unit = top; amount = amount } ∷ [])) ≡ sum_by (λ id. h (record { unit = id; amount = loss id })) (beneath tree top)
  top-sum h = by tree.top_level refl is.levels ∙ ground_up-beneath tree is (λ id. h (record { unit = id; amount = loss id })) top
    where
      none-plus : (n : ℕ) → 0 + n ≡ n
      none-plus n = omega arith

      by : (level : ℕ) → level ≡ tree.top_level → 0 < level → sum_by h (tree_parts tree loss true level (record { unit = top; amount = amount } ∷ [])) ≡ ground_up tree (λ id. h (record { unit = id; amount = loss id })) level top
      by zero same above = absurd (omega arith)
      by (suc level) same above = whole-sum tree loss h level (record { unit = top; amount = amount } ∷ []) ∙ none-plus _

  -- each id beneath has its loss
  pub whole-losses : map (part_of (tree_parts tree loss true tree.top_level (record { unit = top; amount = amount } ∷ []))) (beneath tree top) ≡ map loss (beneath tree top)
  whole-losses = all (beneath tree top) (each_member (beneath tree top))
    where
      swap : (id other : ℕ) → cond (nat_eq other id) (loss other) 0 ≡ cond (nat_eq id other) (loss id) 0
      swap id other = by (nat_eq other id) refl
        where
          by : (b : Bool) → nat_eq other id ≡ b → cond b (loss other) 0 ≡ cond (nat_eq id other) (loss id) 0
          by true same = rw (nat_eq_equiv.symm id other ∙ same) (ap loss (eqb-true other id same))
          by false same = rw (nat_eq_equiv.symm id other ∙ same) refl

      one : (id : ℕ) → list_any (nat_eq id) (beneath tree top) ≡ true → part_of (tree_parts tree loss true tree.top_level (record { unit = top; amount = amount } ∷ [])) id ≡ loss id
      one id member =
          top-sum (λ part. cond (nat_eq part.unit id) part.amount 0)
          ∙ (sum_by-agree (λ other. cond (nat_eq other id) (loss other) 0) (λ other. cond (nat_eq id other) (loss id) 0) (beneath tree top) (each (swap id) (beneath tree top))
          ∙ (sum_by-one (loss id) id (beneath tree top) (distinct_filter (comes_to tree tree.top_level top) tree.ids is.ids_once)
          ∙ ap (λ b. cond b (loss id) 0) member))

      all : (ids : List ℕ) → AllByRecursion (λ id. list_any (nat_eq id) (beneath tree top) ≡ true) ids → map (part_of (tree_parts tree loss true tree.top_level (record { unit = top; amount = amount } ∷ []))) ids ≡ map loss ids
      all [] members = refl
      all (id ∷ ids) members = ap (λ n. n ∷ map (part_of (tree_parts tree loss true tree.top_level (record { unit = top; amount = amount } ∷ []))) ids) (one id members.0) ∙ ap (λ ns. loss id ∷ ns) (all ids members.1)

  -- their losses add to the ground-up loss beneath the top
  pub whole-few : sum_by (λ part. part.amount) (tree_parts tree loss true tree.top_level (record { unit = top; amount = amount } ∷ [])) ≡ ground_up tree loss tree.top_level top
  whole-few = top-sum (λ part. part.amount) ∙ sym (ground_up-beneath tree is loss top)
