-- Among the struck units a policy loss is shared back as among all, where the other ids have no loss.
-- The rule: docs/FINANCIAL_MODULE.md, "Allocation".
use Rattle.std.specs.Prelude.{◌≡◌, ℕ, zero, suc, ◌+◌, ◌&&◌, ◌||◌, Bool, true, false, cond, nat_eq, List, [], ◌∷◌, ◌++◌, map, Some, unwrap_or}
use Rattle.std.specs.List.{AllByRecursion, filter, flat_map, list_any, sum, sum_by, zip}
use Rattle.std.specs.Map.{lookup}
use Rattle.std.proofs.Common.{refl, sym, ap, ◌∙◌, arith}
use Rattle.std.proofs.lemmas.Bool.{eqb-true}
use Rattle.std.proofs.lemmas.List.Elements.{filter-append}
use Rattle.std.proofs.lemmas.List.Sums.{sum-map}
use Rattle.kt_money.specs.Sharing.{share_of, share_out, shares_after}
use Rattle.kt_fmtree.specs.Sharing.{Part, allocated, carried_loss, id_parts, part_of, parts_for, passed_down, policy_parts, shared_at_once, shared_down, weight_of}
use Rattle.kt_fmtree.specs.SharingLaws.{allocated-none}
use Rattle.kt_rec.specs.Sums.{sum_by-agree, sum_by-filter}
use Rattle.kt_fmtree.specs.Tree.{Tree, IsTree, beneath, carry_of, comes_to, ground_up, policy_loss}
use Rattle.kt_fmtree.specs.TreeLaws.{each}
use Rattle.kt_fmtree.specs.Struck.{is_struck, struck}
use Rattle.kt_fmtree.specs.StruckLaws.{beneath-struck, carry_of-none, carry_of-struck, ground_up-none, ground_up-struck, policy_loss-struck, struck-id, unstruck-children}
use Rattle.kt_rec.specs.Members.{any-of, lookup-map, lookup-nothing, member-filter}

-- amounts that agree
map-agree : (one other : ℕ → ℕ) → ((x : ℕ) → one x ≡ other x) → (xs : List ℕ) → map one xs ≡ map other xs
map-agree one other same [] = refl
map-agree one other same (x ∷ xs) = λ i. same x i ∷ map-agree one other same xs i

-- nothing more is as much
plus-none : (given : ℕ) → given + 0 ≡ given
plus-none given = omega arith

-- ---- shares of those that pass a test, where the others have no weight

module _ (kept : ℕ → Bool) (weight : ℕ → ℕ) (quiet : (x : ℕ) → kept x ≡ false → weight x ≡ 0) (total weights : ℕ) where
  -- their parts are those of all that pass it
  parts-kept : (given : ℕ) (units : List ℕ) → parts_for (filter kept units) (shares_after total weights given (map weight (filter kept units))) ≡ filter (λ part. kept part.unit) (parts_for units (shares_after total weights given (map weight units)))
  parts-kept given [] = refl
  parts-kept given (unit ∷ units) = by (kept unit) refl (parts-kept (given + weight unit) units)
    where
      by : (b : Bool) → kept unit ≡ b
          → parts_for (filter kept units) (shares_after total weights (given + weight unit) (map weight (filter kept units))) ≡ filter (λ part. kept part.unit) (parts_for units (shares_after total weights (given + weight unit) (map weight units)))
          → parts_for (cond b (unit ∷ filter kept units) (filter kept units)) (shares_after total weights given (map weight (cond b (unit ∷ filter kept units) (filter kept units))))
          ≡ cond b (record { unit = unit; amount = share_of total weights given (weight unit) } ∷ filter (λ part. kept part.unit) (parts_for units (shares_after total weights (given + weight unit) (map weight units)))) (filter (λ part. kept part.unit) (parts_for units (shares_after total weights (given + weight unit) (map weight units))))
      by true here rest = ap (λ later. record { unit = unit; amount = share_of total weights given (weight unit) } ∷ later) rest
      by false here rest =
          let same : given + weight unit ≡ given = omega (arith, quiet unit here) in
          ap (λ n. parts_for (filter kept units) (shares_after total weights n (map weight (filter kept units)))) (sym same) ∙ rest

  -- and so is what one of them has
  lookup-kept : (id given : ℕ) → kept id ≡ true → (ids : List ℕ) → lookup (nat_eq id) (zip (filter kept ids) (shares_after total weights given (map weight (filter kept ids)))) ≡ lookup (nat_eq id) (zip ids (shares_after total weights given (map weight ids)))
  lookup-kept id given passes [] = refl
  lookup-kept id given passes (first ∷ ids) = by (kept first) refl (nat_eq id first) refl (lookup-kept id (given + weight first) passes ids)
    where
      by : (b : Bool) → kept first ≡ b → (same : Bool) → nat_eq id first ≡ same
          → lookup (nat_eq id) (zip (filter kept ids) (shares_after total weights (given + weight first) (map weight (filter kept ids)))) ≡ lookup (nat_eq id) (zip ids (shares_after total weights (given + weight first) (map weight ids)))
          → lookup (nat_eq id) (zip (cond b (first ∷ filter kept ids) (filter kept ids)) (shares_after total weights given (map weight (cond b (first ∷ filter kept ids) (filter kept ids)))))
          ≡ cond same (Some (share_of total weights given (weight first))) (lookup (nat_eq id) (zip ids (shares_after total weights (given + weight first) (map weight ids))))
      by true here true same rest = rw same refl
      by true here false same rest = rw same rest
      by false here true same rest = let clash : true ≡ false = sym passes ∙ (ap kept (eqb-true id first same) ∙ here) in cc
      by false here false same rest =
          let as_much : given + weight first ≡ given = omega (arith, quiet first here) in
          ap (λ n. lookup (nat_eq id) (zip (filter kept ids) (shares_after total weights n (map weight (filter kept ids))))) (sym as_much) ∙ rest

-- a list of parts of units of which none passes a test
parts-none : (kept : ℕ → Bool) (units amounts : List ℕ) → AllByRecursion (λ unit. kept unit ≡ false) units → filter (λ part. kept part.unit) (parts_for units amounts) ≡ []
parts-none kept [] amounts all = refl
parts-none kept (unit ∷ units) [] all = refl
parts-none kept (unit ∷ units) (amount ∷ amounts) all = rw all.0 (parts-none kept units amounts all.1)

module _ (tree : Tree) (is : IsTree tree) (ids : List ℕ) (losses : ℕ → ℕ) (quiet : (id : ℕ) → list_any (nat_eq id) ids ≡ false → losses id ≡ 0) where
  -- whether a part is of a struck unit
  abbrev kept_at : ℕ → Part → Bool
  kept_at level part = is_struck tree ids level part.unit

  -- ---- down the tree

  -- the losses that struck units carry are those that all do
  carried_loss-struck : (level : ℕ) (units : List ℕ) → carried_loss (struck tree ids) losses level (filter (is_struck tree ids level) units) ≡ carried_loss tree losses level units
  carried_loss-struck level units =
      sum_by-filter (λ unit. (carry_of (struck tree ids) losses level unit).loss) (is_struck tree ids level) units
      ∙ sum_by-agree _ _ units (each (λ unit. by unit (is_struck tree ids level unit) refl) units)
    where
      by : (unit : ℕ) (b : Bool) → is_struck tree ids level unit ≡ b → cond b (carry_of (struck tree ids) losses level unit).loss 0 ≡ (carry_of tree losses level unit).loss
      by unit true here = ap (λ carry. carry.loss) (carry_of-struck tree is ids losses quiet level unit)
      by unit false here = sym (ap (λ carry. carry.loss) (carry_of-none tree is ids losses quiet level unit here))

  -- so each has the weight that it had
  weight_of-struck : (level : ℕ) (units : List ℕ) (unit : ℕ) → weight_of (struck tree ids) losses level (filter (is_struck tree ids level) units) unit ≡ weight_of tree losses level units unit
  weight_of-struck level units unit = λ i. cond (nat_eq (carried_loss-struck level units i) 0) (ground_up-struck tree is ids losses quiet level unit i) (carry_of-struck tree is ids losses quiet level unit i).loss

  -- and another has none
  weight_of-none : (level : ℕ) (units : List ℕ) (unit : ℕ) → is_struck tree ids level unit ≡ false → weight_of tree losses level units unit ≡ 0
  weight_of-none level units unit none = by (nat_eq (carried_loss tree losses level units) 0)
    where
      by : (b : Bool) → cond b (ground_up tree losses level unit) (carry_of tree losses level unit).loss ≡ 0
      by true = ground_up-none tree is ids losses quiet level unit none
      by false = ap (λ carry. carry.loss) (carry_of-none tree is ids losses quiet level unit none)

  -- the sum of the weights of the struck ones is that of all
  sum-kept : (kept : ℕ → Bool) (weight : ℕ → ℕ) → ((x : ℕ) → kept x ≡ false → weight x ≡ 0) → (xs : List ℕ) → sum (map weight (filter kept xs)) ≡ sum (map weight xs)
  sum-kept kept weight none xs =
      sum-map weight (filter kept xs)
      ∙ (sum_by-filter weight kept xs
      ∙ (sum_by-agree _ weight xs (each (λ x. by x (kept x) refl) xs)
      ∙ sym (sum-map weight xs)))
    where
      by : (x : ℕ) (b : Bool) → kept x ≡ b → cond b (weight x) 0 ≡ weight x
      by x true here = refl
      by x false here = sym (none x here)

  -- what a part gives to struck children is what it gave to them
  passed_down-struck : (level : ℕ) (part : Part) → passed_down (struck tree ids) losses level part ≡ filter (kept_at level) (passed_down tree losses level part)
  passed_down-struck level part =
      ap (λ ws. parts_for (filter kept units) (share_out part.amount ws)) (map-agree (weight_of (struck tree ids) losses level (filter kept units)) weight (weight_of-struck level units) (filter kept units))
      ∙ (ap (λ n. parts_for (filter kept units) (shares_after part.amount n 0 (map weight (filter kept units)))) (sum-kept kept weight (weight_of-none level units) units)
      ∙ parts-kept kept weight (weight_of-none level units) part.amount (sum (map weight units)) 0 units)
    where
      units : List ℕ
      units = tree.children (suc level) part.unit

      kept : ℕ → Bool
      kept = is_struck tree ids level

      weight : ℕ → ℕ
      weight = weight_of tree losses level (tree.children (suc level) part.unit)

  -- one that is not of a struck unit gives nothing to such
  passed_down-none : (level : ℕ) (part : Part) → is_struck tree ids (suc level) part.unit ≡ false → filter (kept_at level) (passed_down tree losses level part) ≡ []
  passed_down-none level part none = parts-none (is_struck tree ids level) (tree.children (suc level) part.unit) _ (unstruck-children tree is ids level part.unit none)

  -- level by level
  level-struck : (level : ℕ) (parts : List Part) → flat_map (passed_down (struck tree ids) losses level) (filter (kept_at (suc level)) parts) ≡ filter (kept_at level) (flat_map (passed_down tree losses level) parts)
  level-struck level [] = refl
  level-struck level (part ∷ parts) =
      by (is_struck tree ids (suc level) part.unit) refl (level-struck level parts)
      ∙ sym (filter-append (kept_at level) (passed_down tree losses level part) (flat_map (passed_down tree losses level) parts))
    where
      by : (b : Bool) → is_struck tree ids (suc level) part.unit ≡ b
          → flat_map (passed_down (struck tree ids) losses level) (filter (kept_at (suc level)) parts) ≡ filter (kept_at level) (flat_map (passed_down tree losses level) parts)
          → flat_map (passed_down (struck tree ids) losses level) (cond b (part ∷ filter (kept_at (suc level)) parts) (filter (kept_at (suc level)) parts)) ≡ filter (kept_at level) (passed_down tree losses level part) ++ filter (kept_at level) (flat_map (passed_down tree losses level) parts)
      by true here rest = λ i. passed_down-struck level part i ++ rest i
      by false here rest = rest ∙ ap (λ front. front ++ filter (kept_at level) (flat_map (passed_down tree losses level) parts)) (sym (passed_down-none level part here))

  id_parts-struck : (level : ℕ) (parts : List Part) → id_parts (struck tree ids) losses level (filter (kept_at level) parts) ≡ filter (kept_at 0) (id_parts tree losses level parts)
  id_parts-struck zero parts = refl
  id_parts-struck (suc level) parts = ap (id_parts (struck tree ids) losses level) (level-struck level parts) ∙ id_parts-struck level (flat_map (passed_down tree losses level) parts)

  -- what a struck id has of parts it has of those of struck ids
  part_of-struck : (id : ℕ) → is_struck tree ids 0 id ≡ true → (parts : List Part) → part_of (filter (kept_at 0) parts) id ≡ part_of parts id
  part_of-struck id here parts =
      sum_by-filter (λ part. cond (nat_eq part.unit id) part.amount 0) (kept_at 0) parts
      ∙ agree parts
    where
      by : (part : Part) (b : Bool) → nat_eq part.unit id ≡ b → cond (kept_at 0 part) (cond b part.amount 0) 0 ≡ cond b part.amount 0
      by part true same = ap (λ c. cond c part.amount 0) (ap (is_struck tree ids 0) (eqb-true part.unit id same) ∙ here)
      by part false same = nothing (kept_at 0 part)
        where
          none : ℕ
          none = 0

          nothing : (c : Bool) → cond c none none ≡ none
          nothing true = refl
          nothing false = refl

      all : (parts : List Part) → AllByRecursion (λ part. cond (kept_at 0 part) (cond (nat_eq part.unit id) part.amount 0) 0 ≡ cond (nat_eq part.unit id) part.amount 0) parts
      all [] = tt
      all (part ∷ parts) = (by part (nat_eq part.unit id) refl, all parts)

      agree : (parts : List Part) → sum_by (λ part. cond (kept_at 0 part) (cond (nat_eq part.unit id) part.amount 0) 0) parts ≡ sum_by (λ part. cond (nat_eq part.unit id) part.amount 0) parts
      agree parts = sum_by-agree _ _ parts (all parts)

  -- ---- what an id has

  module _ (rule top layer : ℕ) where
    -- by the ground-up losses
    at_once-struck : (id : ℕ) → is_struck tree ids 0 id ≡ true → lookup (nat_eq id) (zip (beneath (struck tree ids) top) (shared_at_once (struck tree ids) losses top layer)) ≡ lookup (nat_eq id) (zip (beneath tree top) (shared_at_once tree losses top layer))
    at_once-struck id here =
        ap (λ found. lookup (nat_eq id) (zip found (share_out (policy_loss (struck tree ids) losses top layer) (map losses found)))) (beneath-struck tree is ids top)
        ∙ (ap (λ policy. lookup (nat_eq id) (zip (filter (is_struck tree ids 0) (beneath tree top)) (share_out policy (map losses (filter (is_struck tree ids 0) (beneath tree top)))))) (policy_loss-struck tree is ids losses quiet top layer)
        ∙ (ap (λ n. lookup (nat_eq id) (zip (filter (is_struck tree ids 0) (beneath tree top)) (shares_after (policy_loss tree losses top layer) n 0 (map losses (filter (is_struck tree ids 0) (beneath tree top)))))) (sum-kept (is_struck tree ids 0) losses none (beneath tree top))
        ∙ lookup-kept (is_struck tree ids 0) losses none (policy_loss tree losses top layer) (sum (map losses (beneath tree top))) id 0 here (beneath tree top)))
      where
        none : (x : ℕ) → is_struck tree ids 0 x ≡ false → losses x ≡ 0
        none x other = quiet x (sym (struck-id tree is ids x) ∙ other)

    -- down the tree, beneath a struck top
    down-struck : (id : ℕ) → is_struck tree ids 0 id ≡ true → is_struck tree ids tree.top_level top ≡ true → unwrap_or (lookup (nat_eq id) (zip (beneath (struck tree ids) top) (shared_down (struck tree ids) losses top layer))) 0 ≡ unwrap_or (lookup (nat_eq id) (zip (beneath tree top) (shared_down tree losses top layer))) 0
    down-struck id here struck_top =
        lookup-map (part_of (policy_parts (struck tree ids) losses top layer)) id (beneath (struck tree ids) top)
        ∙ ((λ i. cond (members i) (amounts i) 0)
        ∙ sym (lookup-map (part_of (policy_parts tree losses top layer)) id (beneath tree top)))
      where
        members : list_any (nat_eq id) (beneath (struck tree ids) top) ≡ list_any (nat_eq id) (beneath tree top)
        members =
            ap (list_any (nat_eq id)) (beneath-struck tree is ids top)
            ∙ (member-filter (is_struck tree ids 0) id (beneath tree top)
            ∙ ap (λ b. b && list_any (nat_eq id) (beneath tree top)) here)

        first : Part
        first = record { unit = top; amount = policy_loss tree losses top layer }

        first_kept : filter (kept_at tree.top_level) (first ∷ []) ≡ first ∷ []
        first_kept = ap (λ b. cond b (first ∷ []) []) struck_top

        parts : policy_parts (struck tree ids) losses top layer ≡ filter (kept_at 0) (policy_parts tree losses top layer)
        parts =
            ap (λ n. id_parts (struck tree ids) losses tree.top_level (record { unit = top; amount = n } ∷ [])) (policy_loss-struck tree is ids losses quiet top layer)
            ∙ (ap (id_parts (struck tree ids) losses tree.top_level) (sym first_kept)
            ∙ id_parts-struck tree.top_level (first ∷ []))

        amounts : part_of (policy_parts (struck tree ids) losses top layer) id ≡ part_of (policy_parts tree losses top layer) id
        amounts = ap (λ ps. part_of ps id) parts ∙ part_of-struck id here (policy_parts tree losses top layer)

    -- an id that is not beneath a top has nothing
    not_beneath : (of : Tree) (amounts : List ℕ) (id : ℕ) → list_any (nat_eq id) (beneath of top) ≡ false → unwrap_or (lookup (nat_eq id) (zip (beneath of top) amounts)) 0 ≡ 0
    not_beneath of amounts id none = absent (beneath of top) amounts none
      where
        absent : (found amounts : List ℕ) → list_any (nat_eq id) found ≡ false → unwrap_or (lookup (nat_eq id) (zip found amounts)) 0 ≡ 0
        absent [] amounts none = refl
        absent (other ∷ found) [] none = refl
        absent (other ∷ found) (amount ∷ amounts) none = by (nat_eq id other) none (absent found amounts)
          where
            by : (b : Bool) → (b || list_any (nat_eq id) found) ≡ false → (list_any (nat_eq id) found ≡ false → unwrap_or (lookup (nat_eq id) (zip found amounts)) 0 ≡ 0) → unwrap_or (cond b (Some amount) (lookup (nat_eq id) (zip found amounts))) 0 ≡ 0
            by true none rest = let clash : true ≡ false = none in cc
            by false none rest = rest none

    -- an id without a loss has nothing
    pub part-none : (id : ℕ) → losses id ≡ 0 → unwrap_or (lookup (nat_eq id) (zip (beneath tree top) (allocated tree losses rule top layer))) 0 ≡ 0
    part-none id none = lookup-nothing id (beneath tree top) (allocated tree losses rule top layer) (λ place at. allocated-none tree is losses top layer rule place (ap losses at ∙ none))

    -- each id has of a policy loss what it had
    pub allocated-struck : (id : ℕ) → unwrap_or (lookup (nat_eq id) (zip (beneath (struck tree ids) top) (allocated (struck tree ids) losses rule top layer))) 0 ≡ unwrap_or (lookup (nat_eq id) (zip (beneath tree top) (allocated tree losses rule top layer))) 0
    allocated-struck id = by_id (is_struck tree ids 0 id) refl
      where
        members : (b : Bool) → is_struck tree ids 0 id ≡ b → list_any (nat_eq id) (beneath (struck tree ids) top) ≡ (b && list_any (nat_eq id) (beneath tree top))
        members b here =
            ap (list_any (nat_eq id)) (beneath-struck tree is ids top)
            ∙ (member-filter (is_struck tree ids 0) id (beneath tree top)
            ∙ ap (λ c. c && list_any (nat_eq id) (beneath tree top)) here)

        by_rule : (b : Bool) → is_struck tree ids 0 id ≡ true → is_struck tree ids tree.top_level top ≡ true → unwrap_or (lookup (nat_eq id) (zip (beneath (struck tree ids) top) (cond b (shared_at_once (struck tree ids) losses top layer) (shared_down (struck tree ids) losses top layer)))) 0 ≡ unwrap_or (lookup (nat_eq id) (zip (beneath tree top) (cond b (shared_at_once tree losses top layer) (shared_down tree losses top layer)))) 0
        by_rule true here struck_top = ap (λ found. unwrap_or found 0) (at_once-struck id here)
        by_rule false here struck_top = down-struck id here struck_top

        comes : list_any (nat_eq id) (beneath tree top) ≡ true → is_struck tree ids 0 id ≡ true → is_struck tree ids tree.top_level top ≡ true
        comes beneath_top here = any-of (comes_to tree tree.top_level top) id ids (sym (struck-id tree is ids id) ∙ here) (first (comes_to tree tree.top_level top id) (sym (member-filter (comes_to tree tree.top_level top) id tree.ids) ∙ beneath_top))
          where
            first : (b : Bool) → (b && list_any (nat_eq id) tree.ids) ≡ true → b ≡ true
            first true both = refl
            first false both = both

        by_place : (b : Bool) → list_any (nat_eq id) (beneath tree top) ≡ b → is_struck tree ids 0 id ≡ true → unwrap_or (lookup (nat_eq id) (zip (beneath (struck tree ids) top) (allocated (struck tree ids) losses rule top layer))) 0 ≡ unwrap_or (lookup (nat_eq id) (zip (beneath tree top) (allocated tree losses rule top layer))) 0
        by_place true there here = by_rule (nat_eq rule 1) here (comes there here)
        by_place false there here = not_beneath (struck tree ids) _ id (members true here ∙ there) ∙ sym (not_beneath tree _ id there)

        by_id : (b : Bool) → is_struck tree ids 0 id ≡ b → unwrap_or (lookup (nat_eq id) (zip (beneath (struck tree ids) top) (allocated (struck tree ids) losses rule top layer))) 0 ≡ unwrap_or (lookup (nat_eq id) (zip (beneath tree top) (allocated tree losses rule top layer))) 0
        by_id true here = by_place (list_any (nat_eq id) (beneath tree top)) refl here
        by_id false other = not_beneath (struck tree ids) _ id (members false other) ∙ sym (part-none id (quiet id (sym (struck-id tree is ids id) ∙ other)))
