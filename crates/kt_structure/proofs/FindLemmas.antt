-- What a plan finds is what the tree of the tables has.
use Rattle.std.proofs.Common.{◌≡◌, ℕ, ◌+◌, ◌*◌, ◌^◌, ◌<◌, ◌≤◌, Bool, true, false, cond, List, [], ◌∷◌, map, refl, ap, sym, subst, ◌∙◌, nat_eq, Option, None, Some, arith}
use Rattle.std.specs.Prelude.{◌&&◌, option_map}
use Rattle.std.specs.List.{All, AllByRecursion, IsDistinct, cons_option, filter, filter_map, flat_map, sum_by}
use Rattle.std.specs.HashMap.{get}
use Rattle.std.specs.Map.{lookup}
use Rattle.std.specs.Cmp.{nat_eq_equiv}
use Rattle.std.proofs.lemmas.Bool.{eqb-true}
use Rattle.std.proofs.lemmas.List.Elements.{recursion_from_All}
use Rattle.kt_rec.specs.declared.financial.FmPolicytc.{FmPolicytc}
use Rattle.kt_rec.specs.declared.financial.FmProfile.{FmProfile}
use Rattle.kt_rec.specs.Ranges.{IsFmPolicytc}
use Rattle.kt_rec.specs.Rows.{Rows}
use Rattle.kt_rec.specs.declared.exposure.Coverage.{Coverage}
use Rattle.kt_keys.specs.Keys.{same_triple, programme_of}
use Rattle.kt_keys.specs.Units.{top_level}
use Rattle.kt_exposure.specs.Exposure.{IsTotalOf, summary_covers}
use Rattle.kt_checks.specs.TableChecks.{tiv_of}
use Rattle.kt_keys.specs.Climbing.{next_unit}
use Rattle.kt_rec.specs.Rising.{rising}
use Rattle.kt_fmtree.specs.Tree.{is_unit}
use Rattle.kt_fmtree.specs.Programme.{terms_or_none, with_id, profile_with, terms_in, covered_ids, has_coverage, tiv_beneath}
use Rattle.kt_structure.proofs.CoverageLemmas.{found-beneath}
use Rattle.kt_structure.specs.Coverages.{rows_for, own_pair}
use Rattle.kt_structure.specs.Ready.{IsReady}
use Rattle.kt_structure.specs.Plan.{link_key, link_to, linked, found_terms, AreTerms}
use Rattle.kt_structure.specs.declared.links.Link.{Link}
use Rattle.kt_structure.specs.declared.terms.Terms.{Terms}

-- two keys are equal exactly where both of their parts are
key-eq : (a b c d : ℕ) → b < 2 ^ 32 → d < 2 ^ 32 → nat_eq (a * 2 ^ 32 + b) (c * 2 ^ 32 + d) ≡ (nat_eq a c && nat_eq b d)
key-eq a b c d small small_too = by (nat_eq (a * 2 ^ 32 + b) (c * 2 ^ 32 + d)) refl
  where
    both : (p q : Bool) → p ≡ true → q ≡ true → true ≡ (p && q)
    both true true is also = refl
    both true false is also = sym also
    both false q is also = sym is

    by : (r : Bool) → nat_eq (a * 2 ^ 32 + b) (c * 2 ^ 32 + d) ≡ r → r ≡ (nat_eq a c && nat_eq b d)
    by true is =
        let same = eqb-true (a * 2 ^ 32 + b) (c * 2 ^ 32 + d) is in
        let first : a ≡ c = omega arith in
        let second : b ≡ d = omega arith in
        both (nat_eq a c) (nat_eq b d) (subst (λ n. nat_eq a n ≡ true) first (nat_eq_equiv.refl a)) (subst (λ n. nat_eq b n ≡ true) second (nat_eq_equiv.refl b))
    by false is = none (nat_eq a c) refl (nat_eq b d) refl
      where
        none : (p : Bool) → nat_eq a c ≡ p → (q : Bool) → nat_eq b d ≡ q → false ≡ (p && q)
        none true first true second =
            let here = eqb-true a c first in
            let there = eqb-true b d second in
            sym is ∙ (ap (λ n. nat_eq (n * 2 ^ 32 + b) (c * 2 ^ 32 + d)) here ∙ (ap (λ n. nat_eq (c * 2 ^ 32 + n) (c * 2 ^ 32 + d)) there ∙ nat_eq_equiv.refl (c * 2 ^ 32 + d)))
        none true first false second = refl
        none false first q second = refl

-- what the links of rows have for a unit of a level, in the order of the rows
linked-rows : {X : Type 0} (f : X → Link) (level unit : ℕ) → unit < 2 ^ 32 → (rows : List X) → AllByRecursion (λ row. (f row).unit < 2 ^ 32) rows → map (λ row. row.child) (filter (λ row. nat_eq (link_key row) (level * 2 ^ 32 + unit)) (map f rows)) ≡ map (λ row. (f row).child) (filter (λ row. nat_eq (f row).level level && nat_eq (f row).unit unit) rows)
linked-rows f level unit small [] all = refl
linked-rows {X = X} f level unit small (row ∷ rows) all =
    ap (λ b. map (λ x. x.child) (cond b (f row ∷ filter (λ x. nat_eq (link_key x) (level * 2 ^ 32 + unit)) (map f rows)) (filter (λ x. nat_eq (link_key x) (level * 2 ^ 32 + unit)) (map f rows)))) (key-eq (f row).level (f row).unit level unit all.0 small)
    ∙ by (nat_eq (f row).level level && nat_eq (f row).unit unit) (linked-rows f level unit small rows all.1)
  where
    by : (b : Bool) → map (λ x. x.child) (filter (λ x. nat_eq (link_key x) (level * 2 ^ 32 + unit)) (map f rows)) ≡ map (λ x. (f x).child) (filter (λ x. nat_eq (f x).level level && nat_eq (f x).unit unit) rows)
        → map (λ x. x.child) (cond b (f row ∷ filter (λ x. nat_eq (link_key x) (level * 2 ^ 32 + unit)) (map f rows)) (filter (λ x. nat_eq (link_key x) (level * 2 ^ 32 + unit)) (map f rows)))
        ≡ map (λ x. (f x).child) (cond b (row ∷ filter (λ x. nat_eq (f x).level level && nat_eq (f x).unit unit) rows) (filter (λ x. nat_eq (f x).level level && nat_eq (f x).unit unit) rows))
    by true rest = ap (λ ids. (f row).child ∷ ids) rest
    by false rest = rest

-- what links that are kept by key have for a unit of a level
pub linked-are : {X : Type 0} (f : X → Link) (links : List Link) (rows : List X) → ((key : ℕ) → filter (λ row. nat_eq (link_key row) key) links ≡ filter (λ row. nat_eq (link_key row) key) (map f rows)) → AllByRecursion (λ row. (f row).unit < 2 ^ 32) rows → (level unit : ℕ) → unit < 2 ^ 32 → linked links level unit ≡ rising (map (λ row. (f row).child) (filter (λ row. nat_eq (f row).level level && nat_eq (f row).unit unit) rows))
linked-are f links rows kept small level unit fits =
    ap (λ found. rising (map (λ row. row.child) found)) (kept (level * 2 ^ 32 + unit)) ∙ ap rising (linked-rows f level unit fits rows small)

-- what holds of rows holds of those that pass a test, and of what is taken of them
pub each-filter : {X : Type 0} (P : ℕ → Type 0) (take_of : X → ℕ) (test : X → Bool) (rows : List X) → AllByRecursion (λ row. P (take_of row)) rows → AllByRecursion P (map take_of (filter test rows))
each-filter P take_of test [] all = tt
each-filter {X = X} P take_of test (row ∷ rows) all = by (test row) (each-filter P take_of test rows all.1)
  where
    by : (b : Bool) → AllByRecursion P (map take_of (filter test rows)) → AllByRecursion P (map take_of (cond b (row ∷ filter test rows) (filter test rows)))
    by true rest = (all.0, rest)
    by false rest = rest

-- the terms that are found are those of the tables
pub terms-found : (policytc : List FmPolicytc) (profiles : List FmProfile) (terms : Terms) → AreTerms policytc profiles terms → (layer level unit : ℕ) → found_terms terms layer level unit ≡ terms_in policytc profiles layer level unit
terms-found policytc profiles terms are layer level unit =
    ap (λ found. terms_or_none (with_id found (get nat_eq terms.by_id))) (are.units layer level unit)
    ∙ by (lookup (same_triple (layer, level, unit)) (map (λ row. ((row.layer_id, row.level_id, row.agg_id), row.policytc_id)) policytc))
  where
    by : (found : Option ℕ) → terms_or_none (with_id found (get nat_eq terms.by_id)) ≡ terms_or_none (with_id found (profile_with profiles))
    by None = refl
    by (Some id) = ap terms_or_none (are.ids id)

-- ---- what lies beneath a top

module _ (climb : ℕ → Option ℕ) (top : ℕ) where
  -- the links of ids to what they come to
  abbrev links_of : List ℕ → List Link
  links_of ids = filter_map (λ id. option_map (link_to 0 id) (climb id)) ids

  -- whether a link is to the top
  abbrev is_to : Link → Bool
  is_to row = nat_eq (link_key row) (0 * 2 ^ 32 + top)

  -- the ids that are linked to the top are those that come to it, in their order
  pub ends-of : (ids : List ℕ) → map (λ row. row.child) (filter (λ row. nat_eq (link_key row) (0 * 2 ^ 32 + top)) (filter_map (λ id. option_map (link_to 0 id) (climb id)) ids)) ≡ filter (λ id. is_unit top (climb id)) ids
  ends-of [] = refl
  ends-of (id ∷ ids) = by (climb id) (ends-of ids)
    where
      bare : (n : ℕ) → 0 * 2 ^ 32 + n ≡ n
      bare n = omega arith

      step : (b : Bool) (unit : ℕ) → map (λ row. row.child) (filter is_to (links_of ids)) ≡ filter (λ other. is_unit top (climb other)) ids
          → map (λ row. row.child) (cond b (link_to 0 id unit ∷ filter is_to (links_of ids)) (filter is_to (links_of ids))) ≡ cond b (id ∷ filter (λ other. is_unit top (climb other)) ids) (filter (λ other. is_unit top (climb other)) ids)
      step true unit rest = ap (λ others. id ∷ others) rest
      step false unit rest = rest

      by : (found : Option ℕ) → map (λ row. row.child) (filter is_to (links_of ids)) ≡ filter (λ other. is_unit top (climb other)) ids
          → map (λ row. row.child) (filter is_to (cons_option (option_map (link_to 0 id) found) (links_of ids))) ≡ cond (is_unit top found) (id ∷ filter (λ other. is_unit top (climb other)) ids) (filter (λ other. is_unit top (climb other)) ids)
      by None rest = rest
      by (Some unit) rest =
          ap (λ b. map (λ (row : Link). row.child) (cond b (link_to 0 id unit ∷ filter is_to (links_of ids)) (filter is_to (links_of ids)))) (ap (λ n. nat_eq n (0 * 2 ^ 32 + top)) (bare unit) ∙ ap (nat_eq unit) (bare top)) ∙ step (nat_eq unit top) unit rest

-- ---- what lies beneath a unit

-- what was found for each unit of each level is what lies beneath
pub tivs-beneath : (rows : Rows) (stage : ℕ) → IsReady rows stage → (next : ℕ × ℕ → Option ℕ) (top : ℕ) (covered : List (ℕ × Option ℕ)) (coverages : List Coverage) → next ≡ next_unit (programme_of rows stage) → top ≡ top_level (programme_of rows stage) → covered ≡ covered_ids rows stage → coverages ≡ rows.coverages → (found : ℕ × ℕ → ℕ)
    → ((key : ℕ × ℕ) → IsTotalOf (summary_covers (flat_map (rows_for next top) covered) (map own_pair coverages) key) (tiv_of coverages) (found key))
    → (level unit : ℕ) → 1 ≤ level → level ≤ top_level (programme_of rows stage) → found (level, unit) ≡ tiv_beneath rows stage level unit
tivs-beneath rows stage ready next top covered coverages next_is top_is covered_is coverages_are found totals level unit least most =
    let apart = subst (λ (cs : List Coverage). IsDistinct nat_eq (map (λ row. row.coverage_id) cs)) (sym coverages_are) ready.has.coverages in
    found-beneath next top level unit (found (level, unit)) covered coverages apart least (omega arith) (totals (level, unit))
    ∙ (ap (λ n. sum_by (λ (row : Coverage). cond (has_coverage covered n level unit row.coverage_id) row.tiv 0) coverages) next_is
    ∙ (ap (λ cs. sum_by (λ (row : Coverage). cond (has_coverage cs (next_unit (programme_of rows stage)) level unit row.coverage_id) row.tiv 0) coverages) covered_is
    ∙ ap (sum_by (λ (row : Coverage). cond (has_coverage (covered_ids rows stage) (next_unit (programme_of rows stage)) level unit row.coverage_id) row.tiv 0)) coverages_are))

-- the units of terms fit 32 bits
pub fits-agg : (rows : List FmPolicytc) → All IsFmPolicytc rows → AllByRecursion (λ row. row.agg_id < 2 ^ 32) rows
fits-agg rows all = recursion_from_All (λ row. row.agg_id < 2 ^ 32) rows (λ k d below. let is = all k d below in let most = is.agg_id.most in omega arith)
