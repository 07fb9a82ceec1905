-- Where the rows are right, the tree of a programme hangs together.
-- The rule: docs/FINANCIAL_MODULE.md, "Levels".
use Rattle.std.specs.Prelude.{◌≡◌, ℕ, ◌≤◌, ◌<◌, ◌&&◌, ◌||◌, Bool, true, false, cond, nat_eq, List, [], ◌∷◌, map, Option, Some, None}
use Rattle.std.specs.List.{AllByRecursion, IsDistinct, filter, list_any, sum_by}
use Rattle.std.specs.Map.{lookup}
use Rattle.std.specs.Cmp.{nat_eq_equiv}
use Rattle.std.proofs.Common.{refl, sym, subst, ◌∙◌, arith}
use Rattle.std.proofs.lemmas.Bool.{and_from, or_left, or_right, eqb-true}
use Rattle.kt_rec.specs.Rows.{Rows}
use Rattle.kt_rec.specs.declared.exposure.Item.{Item}
use Rattle.kt_rec.specs.declared.financial.FmProgramme.{FmProgramme}
use Rattle.kt_rec.specs.declared.financial.FmXref.{FmXref}
use Rattle.kt_rec.specs.declared.financial.FmProfile.{FmProfile}
use Rattle.kt_keys.specs.Keys.{programme_of, policytc_of, profile_of as profiles_of, same_pair, same_triple}
use Rattle.kt_keys.specs.Units.{top_level}
use Rattle.kt_keys.specs.Climbing.{climbed, next_unit}
use Rattle.kt_checks.specs.TableChecks.{tiv_of}
use Rattle.kt_checks.specs.Worth.{covered_le}
use Rattle.kt_rules.specs.Profiles.{IsProfile, profile_of}
use Rattle.kt_rec.specs.Sums.{sum_by-below}
use Rattle.kt_rec.specs.Rising.{rising-member, rising-distinct}
use Rattle.kt_fmtree.specs.Tree.{IsTree, is_unit}
use Rattle.kt_fmtree.specs.Programme.{no_terms, terms_or_none, profile_with, with_id, terms_in, coverage_of, covered_ids, has_coverage, tiv_beneath, tree_of}

-- the rows of a programme are right: it has a level, it takes the losses of a unit at a level once, its profiles are in their
-- ranges, the coverages are distinct, and the items' values are bounded
pub record HasTree (rows : Rows) (stage : ℕ) : Type 0 where
  pub levels : 0 < top_level (programme_of rows stage)
  pub sources : IsDistinct same_pair (map (λ row. (row.from_agg_id, row.level_id)) (programme_of rows stage))
  pub profiles : AllByRecursion (λ row. IsProfile (profile_of row)) (profiles_of rows stage)
  pub coverages : IsDistinct nat_eq (map (λ row. row.coverage_id) rows.coverages)
  pub values : sum_by (λ row. tiv_of rows.coverages row.coverage_id) rows.items ≤ 100000000000000

-- ---- units

-- no row behind one has its unit at its level
alone : (from level unit child : ℕ) (programme : List FmProgramme) → AllByRecursion (λ key. same_pair (from, level) key ≡ false) (map (λ row. (row.from_agg_id, row.level_id)) programme) → child ≡ from → list_any (nat_eq child) (map (λ row. row.from_agg_id) (filter (λ row. nat_eq row.level_id level && nat_eq row.to_agg_id unit) programme)) ≡ false
alone from level unit child [] apart is = refl
alone from level unit child (row ∷ programme) apart is = by (nat_eq row.level_id level) (nat_eq row.to_agg_id unit) refl (alone from level unit child programme apart.1 is)
  where
    units : List ℕ
    units = map (λ row. row.from_agg_id) (filter (λ row. nat_eq row.level_id level && nat_eq row.to_agg_id unit) programme)

    other : nat_eq row.level_id level ≡ true → (b : Bool) → nat_eq child row.from_agg_id ≡ b → nat_eq child row.from_agg_id ≡ false
    other here true same =
        let first : nat_eq from row.from_agg_id ≡ true = subst (λ n. nat_eq n row.from_agg_id ≡ true) is same in
        let second : nat_eq level row.level_id ≡ true = nat_eq_equiv.symm level row.level_id ∙ here in
        let both = and_from _ _ first second in
        let none = apart.0 in
        cc
    other here false same = same

    by : (b c : Bool) → nat_eq row.level_id level ≡ b → list_any (nat_eq child) units ≡ false → list_any (nat_eq child) (map (λ row. row.from_agg_id) (cond (b && c) (row ∷ filter (λ row. nat_eq row.level_id level && nat_eq row.to_agg_id unit) programme) (filter (λ row. nat_eq row.level_id level && nat_eq row.to_agg_id unit) programme))) ≡ false
    by true true here rest = let none = other here (nat_eq child row.from_agg_id) refl in rw (none, rest) refl
    by true false here rest = rest
    by false c here rest = rest

-- a unit is among those whose losses come to another exactly where they do
children_in-are : (programme : List FmProgramme) → IsDistinct same_pair (map (λ row. (row.from_agg_id, row.level_id)) programme) → (level unit child : ℕ) → list_any (nat_eq child) (map (λ row. row.from_agg_id) (filter (λ row. nat_eq row.level_id level && nat_eq row.to_agg_id unit) programme)) ≡ is_unit unit (next_unit programme (level, child))
unfolding IsDistinct
children_in-are [] distinct level unit child = refl
children_in-are (row ∷ programme) distinct level unit child =
    by (nat_eq level row.level_id) (nat_eq child row.from_agg_id) (nat_eq row.to_agg_id unit) refl refl refl (nat_eq_equiv.symm row.level_id level)
    (children_in-are programme distinct.1 level unit child)
  where
    by : (here same to : Bool) → nat_eq level row.level_id ≡ here → nat_eq child row.from_agg_id ≡ same → nat_eq row.to_agg_id unit ≡ to → nat_eq row.level_id level ≡ nat_eq level row.level_id
        → list_any (nat_eq child) (map (λ row. row.from_agg_id) (filter (λ row. nat_eq row.level_id level && nat_eq row.to_agg_id unit) programme)) ≡ is_unit unit (next_unit programme (level, child))
        → list_any (nat_eq child) (map (λ row. row.from_agg_id) (cond (nat_eq row.level_id level && nat_eq row.to_agg_id unit) (row ∷ filter (λ row. nat_eq row.level_id level && nat_eq row.to_agg_id unit) programme) (filter (λ row. nat_eq row.level_id level && nat_eq row.to_agg_id unit) programme)))
        ≡ is_unit unit (cond (here && same) (Some row.to_agg_id) (next_unit programme (level, child)))
    by false same to is_here is_same is_to turned rest = rw (turned ∙ is_here) rest
    by true false true is_here is_same is_to turned rest = rw (turned ∙ is_here, is_to, is_same) rest
    by true false false is_here is_same is_to turned rest = rw (turned ∙ is_here, is_to) rest
    by true true true is_here is_same is_to turned rest = rw (turned ∙ is_here, is_to, is_same) refl
    by true true false is_here is_same is_to turned rest =
        let level_is = eqb-true level row.level_id is_here in
        let apart = subst (λ n. AllByRecursion (λ key. same_pair (row.from_agg_id, n) key ≡ false) (map (λ other. (other.from_agg_id, other.level_id)) programme)) (sym level_is) distinct.0 in
        rw (turned ∙ is_here, is_to) (alone row.from_agg_id level unit child programme apart (eqb-true child row.from_agg_id is_same))

-- a unit of level 1 whose losses come to another is an id
ids_in-are : (programme : List FmProgramme) (id unit : ℕ) → is_unit unit (next_unit programme (1, id)) ≡ true → list_any (nat_eq id) (map (λ row. row.from_agg_id) (filter (λ row. nat_eq row.level_id 1) programme)) ≡ true
ids_in-are [] id unit comes = cc
ids_in-are (row ∷ programme) id unit comes = by (nat_eq 1 row.level_id) (nat_eq id row.from_agg_id) refl refl (nat_eq_equiv.symm row.level_id 1) comes (ids_in-are programme id unit)
  where
    by : (here same : Bool) → nat_eq 1 row.level_id ≡ here → nat_eq id row.from_agg_id ≡ same → nat_eq row.level_id 1 ≡ nat_eq 1 row.level_id
        → is_unit unit (cond (here && same) (Some row.to_agg_id) (next_unit programme (1, id))) ≡ true
        → (is_unit unit (next_unit programme (1, id)) ≡ true → list_any (nat_eq id) (map (λ row. row.from_agg_id) (filter (λ row. nat_eq row.level_id 1) programme)) ≡ true)
        → list_any (nat_eq id) (map (λ row. row.from_agg_id) (cond (nat_eq row.level_id 1) (row ∷ filter (λ row. nat_eq row.level_id 1) programme) (filter (λ row. nat_eq row.level_id 1) programme))) ≡ true
    by true true is_here is_same turned comes rest = rw (turned ∙ is_here) (or_left _ _ is_same)
    by true false is_here is_same turned comes rest = rw (turned ∙ is_here) (or_right (nat_eq id row.from_agg_id) _ (rest comes))
    by false same is_here is_same turned comes rest = rw (turned ∙ is_here) (rest comes)

-- ---- terms

-- no terms are a profile
no_terms-is : IsProfile no_terms
no_terms-is = record { rule = refl; ded1 = omega arith; ded2 = omega arith; ded3 = omega arith; att1 = omega arith; lim1 = omega arith; share1 = omega arith; share2 = omega arith; share3 = omega arith }

profile_with-is : (profiles : List FmProfile) → AllByRecursion (λ row. IsProfile (profile_of row)) profiles → (id : ℕ) → IsProfile (terms_or_none (profile_with profiles id))
profile_with-is [] all id = no_terms-is
profile_with-is (row ∷ profiles) all id = by (nat_eq id row.policytc_id) (profile_with-is profiles all.1 id)
  where
    by : (b : Bool) → IsProfile (terms_or_none (profile_with profiles id)) → IsProfile (terms_or_none (cond b (Some (profile_of row)) (profile_with profiles id)))
    by true rest = all.0
    by false rest = rest

terms_in-are : (rows : Rows) (stage : ℕ) → AllByRecursion (λ row. IsProfile (profile_of row)) (profiles_of rows stage) → (layer level unit : ℕ) → IsProfile (terms_in (policytc_of rows stage) (profiles_of rows stage) layer level unit)
terms_in-are rows stage all layer level unit =
    by (lookup (same_triple (layer, level, unit)) (map (λ row. ((row.layer_id, row.level_id, row.agg_id), row.policytc_id)) (policytc_of rows stage)))
  where
    by : (found : Option ℕ) → IsProfile (terms_or_none (with_id found (profile_with (profiles_of rows stage))))
    by None = no_terms-is
    by (Some id) = profile_with-is (profiles_of rows stage) all id

-- ---- values

-- a coverage of an id is one of an item
coverage_of-item : (items : List Item) (id coverage : ℕ) → is_unit coverage (coverage_of items id) ≡ true → list_any (λ item. nat_eq item.coverage_id coverage) items ≡ true
coverage_of-item [] id coverage is = cc
coverage_of-item (item ∷ items) id coverage is = by (nat_eq id item.item_id) is (coverage_of-item items id coverage)
  where
    by : (b : Bool) → is_unit coverage (cond b (Some item.coverage_id) (coverage_of items id)) ≡ true → (is_unit coverage (coverage_of items id) ≡ true → list_any (λ other. nat_eq other.coverage_id coverage) items ≡ true) → (nat_eq item.coverage_id coverage || list_any (λ other. nat_eq other.coverage_id coverage) items) ≡ true
    by true is rest = or_left _ _ is
    by false is rest = or_right (nat_eq item.coverage_id coverage) _ (rest is)

-- a coverage beneath a unit is one of an item
beneath-item : (rows : Rows) (stage level unit coverage : ℕ) → has_coverage (covered_ids rows stage) (next_unit (programme_of rows stage)) level unit coverage ≡ true → list_any (λ item. nat_eq item.coverage_id coverage) rows.items ≡ true
beneath-item rows stage level unit coverage = by (nat_eq stage 0)
  where
    of_items : (items : List Item) → has_coverage (map (λ row. (row.item_id, Some row.coverage_id)) items) (next_unit (programme_of rows stage)) level unit coverage ≡ true → list_any (λ item. nat_eq item.coverage_id coverage) items ≡ true
    of_items [] has = has
    of_items (item ∷ items) has = step (is_unit unit (climbed (next_unit (programme_of rows stage)) level 1 item.item_id)) (nat_eq item.coverage_id coverage) has (of_items items)
      where
        step : (comes here : Bool) → ((comes && here) || has_coverage (map (λ row. (row.item_id, Some row.coverage_id)) items) (next_unit (programme_of rows stage)) level unit coverage) ≡ true → (has_coverage (map (λ row. (row.item_id, Some row.coverage_id)) items) (next_unit (programme_of rows stage)) level unit coverage ≡ true → list_any (λ other. nat_eq other.coverage_id coverage) items ≡ true) → (here || list_any (λ other. nat_eq other.coverage_id coverage) items) ≡ true
        step comes true has rest = refl
        step true false has rest = rest has
        step false false has rest = rest has

    of_outputs : (outputs : List FmXref) → has_coverage (map (λ row. (row.output_id, coverage_of rows.items row.agg_id)) outputs) (next_unit (programme_of rows stage)) level unit coverage ≡ true → list_any (λ item. nat_eq item.coverage_id coverage) rows.items ≡ true
    of_outputs [] has = cc
    of_outputs (output ∷ outputs) has = step (is_unit unit (climbed (next_unit (programme_of rows stage)) level 1 output.output_id)) (is_unit coverage (coverage_of rows.items output.agg_id)) refl has (of_outputs outputs)
      where
        step : (comes here : Bool) → is_unit coverage (coverage_of rows.items output.agg_id) ≡ here → ((comes && here) || has_coverage (map (λ row. (row.output_id, coverage_of rows.items row.agg_id)) outputs) (next_unit (programme_of rows stage)) level unit coverage) ≡ true → (has_coverage (map (λ row. (row.output_id, coverage_of rows.items row.agg_id)) outputs) (next_unit (programme_of rows stage)) level unit coverage ≡ true → list_any (λ other. nat_eq other.coverage_id coverage) rows.items ≡ true) → list_any (λ other. nat_eq other.coverage_id coverage) rows.items ≡ true
        step true true is has rest = coverage_of-item rows.items output.agg_id coverage is
        step true false is has rest = rest has
        step false here is has rest = rest has

    by : (b : Bool) → has_coverage (cond b (map (λ row. (row.item_id, Some row.coverage_id)) rows.items) (map (λ row. (row.output_id, coverage_of rows.items row.agg_id)) rows.fm_xref)) (next_unit (programme_of rows stage)) level unit coverage ≡ true → list_any (λ item. nat_eq item.coverage_id coverage) rows.items ≡ true
    by true = of_items rows.items
    by false = of_outputs rows.fm_xref

-- what the coverages beneath a unit are worth is not above what the items' coverages are, item by item
tiv_beneath-few : (rows : Rows) (stage : ℕ) → HasTree rows stage → (level unit : ℕ) → tiv_beneath rows stage level unit ≤ 100000000000000
tiv_beneath-few rows stage has level unit =
    let few = sum_by-below (λ row. cond (has_coverage (covered_ids rows stage) (next_unit (programme_of rows stage)) level unit row.coverage_id) row.tiv 0) (λ row. cond (list_any (λ item. nat_eq item.coverage_id row.coverage_id) rows.items) row.tiv 0) rows.coverages
    (λ row. either (has_coverage (covered_ids rows stage) (next_unit (programme_of rows stage)) level unit row.coverage_id) _ row.tiv (beneath-item rows stage level unit row.coverage_id)) in
    omega (arith, few, covered_le rows.coverages has.coverages rows.items, has.values)
  where
    either : (one other : Bool) (tiv : ℕ) → (one ≡ true → other ≡ true) → cond one tiv 0 ≤ cond other tiv 0
    either true other tiv follows = rw (follows refl) (omega arith)
    either false other tiv follows = omega arith

-- ---- the tree

-- the tree of right rows hangs together
pub tree_of-is : (rows : Rows) (stage : ℕ) → HasTree rows stage → IsTree (tree_of rows stage)
tree_of-is rows stage has =
    let programme = programme_of rows stage in
    record {
      levels = has.levels;
      ids_once = rising-distinct (map (λ row. row.from_agg_id) (filter (λ row. nat_eq row.level_id 1) programme));
      ids_are = λ id unit comes. rising-member (map (λ row. row.from_agg_id) (filter (λ row. nat_eq row.level_id 1) programme)) id ∙ ids_in-are programme id unit comes;
      children_once = λ level unit. rising-distinct (map (λ row. row.from_agg_id) (filter (λ row. nat_eq row.level_id level && nat_eq row.to_agg_id unit) programme));
      children_are = λ level unit child. rising-member (map (λ row. row.from_agg_id) (filter (λ row. nat_eq row.level_id level && nat_eq row.to_agg_id unit) programme)) child ∙ children_in-are programme has.sources level unit child;
      profiles = terms_in-are rows stage has.profiles 1;
      layer_profiles = λ top layer. terms_in-are rows stage has.profiles layer (top_level programme) top;
      values = tiv_beneath-few rows stage has;
    }
