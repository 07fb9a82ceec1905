-- What the coverages beneath a unit are worth is the sum over the distinct coverages beneath it.
use Rattle.std.proofs.Common.{◌≡◌, ℕ, zero, suc, ◌+◌, ◌≤◌, ◌<◌, Bool, true, false, cond, List, [], ◌∷◌, map, refl, ap, sym, subst, ◌∙◌, nat_eq, Option, None, Some, arith}
use Rattle.std.proofs.Math.Path.{fun_ext}
use Rattle.std.specs.Prelude.{◌&&◌, ◌||◌}
use Rattle.std.specs.List.{IsDistinct, AllByRecursion, flat_map, list_any, sum_by}
use Rattle.std.proofs.lemmas.Bool.{eqb-true}
use Rattle.std.proofs.lemmas.Bool.Decides.{nat_tests}
use Rattle.std.proofs.lemmas.List.Folds.{list_any-append}
use Rattle.kt_rec.specs.declared.exposure.Coverage.{Coverage}
use Rattle.kt_keys.specs.Climbing.{climbed, after}
use Rattle.kt_checks.specs.TableChecks.{tiv_of}
use Rattle.kt_checks.specs.Worth.{total_is}
use Rattle.kt_exposure.specs.declared.exposure.SummaryUnit.{SummaryUnit}
use Rattle.kt_exposure.specs.Exposure.{unit_covers, summary_covers, IsTotalOf}
use Rattle.kt_rec.specs.Sums.{sum_by-agree, each_member}
use Rattle.kt_fmtree.specs.Tree.{is_unit}
use Rattle.kt_fmtree.specs.Programme.{has_coverage}
use Rattle.kt_structure.specs.Coverages.{row_and, climb_rows, covered_rows, rows_for, own_pair}

-- equality of numbers goes both ways
eq_flip : (m n : ℕ) → nat_eq m n ≡ nat_eq n m
eq_flip m n = grind (arith, nat_tests)

-- ---- rows of units with coverages

-- the rows of higher levels are none of a level
climb-higher : (next : ℕ × ℕ → Option ℕ) (levels level unit coverage at : ℕ) (test : SummaryUnit → Bool) → at < level → list_any (λ row. nat_eq row.set at && test row) (climb_rows next levels level unit coverage) ≡ false
climb-higher next zero level unit coverage at test below = refl
climb-higher next (suc levels) level unit coverage at test below = by (next (level, unit)) (λ reached. climb-higher next levels (level + 1) reached coverage at test (omega arith))
  where
    apart : (a b : ℕ) → a < b → nat_eq b a ≡ false
    apart a b less = grind (arith, nat_tests)

    by : (found : Option ℕ) → ((reached : ℕ) → list_any (λ row. nat_eq row.set at && test row) (climb_rows next levels (level + 1) reached coverage) ≡ false) → list_any (λ row. nat_eq row.set at && test row) (row_and level coverage found (λ reached. climb_rows next levels (level + 1) reached coverage)) ≡ false
    by None rest = refl
    by (Some reached) rest = ap (λ b. (b && test (record { set = level; summary = reached; unit = coverage })) || list_any (λ row. nat_eq row.set at && test row) (climb_rows next levels (level + 1) reached coverage)) (apart at level below) ∙ rest reached

-- the row of a level is that of the unit that is reached there
climb-at : (next : ℕ × ℕ → Option ℕ) (levels level unit coverage high top : ℕ) (test : ℕ → Bool) → high < levels → list_any (λ row. nat_eq row.set (level + high) && (nat_eq row.summary top && test row.unit)) (climb_rows next levels level unit coverage) ≡ (is_unit top (climbed next (suc high) level unit) && test coverage)
climb-at next zero level unit coverage high top test below = absurd (omega arith)
climb-at next (suc levels) level unit coverage zero top test below = by (next (level, unit))
  where
    or_none : (b : Bool) → (b || false) ≡ b
    or_none true = refl
    or_none false = refl

    by : (found : Option ℕ) → list_any (λ row. nat_eq row.set (level + 0) && (nat_eq row.summary top && test row.unit)) (row_and level coverage found (λ reached. climb_rows next levels (level + 1) reached coverage)) ≡ (is_unit top (after found (climbed next 0 (level + 1))) && test coverage)
    by None = refl
    by (Some reached) =
        let here : nat_eq level (level + 0) ≡ true = grind (arith, nat_tests) in
        let rest = climb-higher next levels (level + 1) reached coverage (level + 0) (λ row. nat_eq row.summary top && test row.unit) (omega arith) in
        rw (here, rest) (or_none (nat_eq reached top && test coverage))
climb-at next (suc levels) level unit coverage (suc high) top test below = by (next (level, unit)) (λ reached. climb-at next levels (level + 1) reached coverage high top test (omega arith))
  where
    by : (found : Option ℕ) → ((reached : ℕ) → list_any (λ row. nat_eq row.set (level + 1 + high) && (nat_eq row.summary top && test row.unit)) (climb_rows next levels (level + 1) reached coverage) ≡ (is_unit top (climbed next (suc high) (level + 1) reached) && test coverage)) → list_any (λ row. nat_eq row.set (level + suc high) && (nat_eq row.summary top && test row.unit)) (row_and level coverage found (λ reached. climb_rows next levels (level + 1) reached coverage)) ≡ (is_unit top (after found (climbed next (suc high) (level + 1))) && test coverage)
    by None rest = refl
    by (Some reached) rest =
        let other : nat_eq level (level + suc high) ≡ false = grind (arith, nat_tests) in
        let same : level + suc high ≡ level + 1 + high = omega arith in
        ap (λ b. (b && (nat_eq reached top && test coverage)) || list_any (λ row. nat_eq row.set (level + suc high) && (nat_eq row.summary top && test row.unit)) (climb_rows next levels (level + 1) reached coverage)) other
        ∙ (ap (λ n. list_any (λ row. nat_eq row.set n && (nat_eq row.summary top && test row.unit)) (climb_rows next levels (level + 1) reached coverage)) same ∙ rest reached)

-- a coverage is of another exactly where they are one, among coverages
own-yes : (coverages : List Coverage) (coverage : ℕ) → list_any (nat_eq coverage) (map (λ row. row.coverage_id) coverages) ≡ true → unit_covers (map own_pair coverages) coverage coverage ≡ true
own-yes [] coverage member = member
own-yes (row ∷ coverages) coverage member = by (nat_eq coverage row.coverage_id) (eq_flip row.coverage_id coverage) member (own-yes coverages coverage)
  where
    by : (b : Bool) → nat_eq row.coverage_id coverage ≡ b → (b || list_any (nat_eq coverage) (map (λ x. x.coverage_id) coverages)) ≡ true → (list_any (nat_eq coverage) (map (λ x. x.coverage_id) coverages) ≡ true → unit_covers (map own_pair coverages) coverage coverage ≡ true) → ((nat_eq row.coverage_id coverage && nat_eq row.coverage_id coverage) || unit_covers (map own_pair coverages) coverage coverage) ≡ true
    by true is member rest = ap (λ b. (b && b) || unit_covers (map own_pair coverages) coverage coverage) is
    by false is member rest = ap (λ b. (b && b) || unit_covers (map own_pair coverages) coverage coverage) is ∙ rest member

own-no : (coverages : List Coverage) (unit coverage : ℕ) → nat_eq unit coverage ≡ false → unit_covers (map own_pair coverages) unit coverage ≡ false
own-no [] unit coverage apart = refl
own-no (row ∷ coverages) unit coverage apart =
    ap (λ b. b || unit_covers (map own_pair coverages) unit coverage) (differ row.coverage_id) ∙ own-no coverages unit coverage apart
  where
    differ : (id : ℕ) → (nat_eq id unit && nat_eq id coverage) ≡ false
    differ id = grind (arith, nat_tests)

own-covers : (coverages : List Coverage) (unit coverage : ℕ) → list_any (nat_eq coverage) (map (λ row. row.coverage_id) coverages) ≡ true → unit_covers (map own_pair coverages) unit coverage ≡ nat_eq unit coverage
own-covers coverages unit coverage member = by (nat_eq unit coverage) refl
  where
    by : (b : Bool) → nat_eq unit coverage ≡ b → unit_covers (map own_pair coverages) unit coverage ≡ b
    by true is = subst (λ n. unit_covers (map own_pair coverages) n coverage ≡ true) (sym (eqb-true unit coverage is)) (own-yes coverages coverage member)
    by false is = own-no coverages unit coverage is

-- ---- what is found is what lies beneath

list_any-flat_map : {X Y : Type 0} (test : Y → Bool) (f : X → List Y) (xs : List X) → list_any test (flat_map f xs) ≡ list_any (λ x. list_any test (f x)) xs
list_any-flat_map test f [] = refl
list_any-flat_map test f (x ∷ xs) = list_any-append test (f x) (flat_map f xs) ∙ ap (λ b. list_any test (f x) || b) (list_any-flat_map test f xs)

-- the rows of ids with their coverages cover what lies beneath a unit of a level
covers-beneath : (next : ℕ × ℕ → Option ℕ) (top high unit coverage : ℕ) (covered : List (ℕ × Option ℕ)) (coverages : List Coverage) → high < top → list_any (nat_eq coverage) (map (λ row. row.coverage_id) coverages) ≡ true → summary_covers (flat_map (rows_for next top) covered) (map own_pair coverages) (1 + high, unit) coverage ≡ has_coverage covered next (suc high) unit coverage
covers-beneath next top high unit coverage covered coverages below member =
    list_any-flat_map (λ row. nat_eq row.set (1 + high) && nat_eq row.summary unit && unit_covers (map own_pair coverages) row.unit coverage) (rows_for next top) covered
    ∙ ap (λ test. list_any test covered) (fun_ext (λ (pair : ℕ × Option ℕ). one pair.0 pair.1))
  where
    grouped : (a b c : Bool) → (a && b && c) ≡ (a && (b && c))
    grouped true b c = refl
    grouped false b c = refl

    and_none : (b : Bool) → (b && false) ≡ false
    and_none true = refl
    and_none false = refl

    one : (id : ℕ) (found : Option ℕ) → list_any (λ row. nat_eq row.set (1 + high) && nat_eq row.summary unit && unit_covers (map own_pair coverages) row.unit coverage) (covered_rows next top id found) ≡ (is_unit unit (climbed next (suc high) 1 id) && is_unit coverage found)
    one id None = sym (and_none (is_unit unit (climbed next (suc high) 1 id)))
    one id (Some own) =
        ap (λ test. list_any test (climb_rows next top 1 id own)) (fun_ext (λ (row : SummaryUnit). grouped (nat_eq row.set (1 + high)) (nat_eq row.summary unit) (unit_covers (map own_pair coverages) row.unit coverage)))
        ∙ (climb-at next top 1 id own high unit (λ u. unit_covers (map own_pair coverages) u coverage) below
        ∙ ap (λ b. is_unit unit (climbed next (suc high) 1 id) && b) (own-covers coverages own coverage member))

-- what was found for a unit of a level is the sum over the distinct coverages beneath
pub found-beneath : (next : ℕ × ℕ → Option ℕ) (top level unit total : ℕ) (covered : List (ℕ × Option ℕ)) (coverages : List Coverage) → IsDistinct nat_eq (map (λ row. row.coverage_id) coverages) → 1 ≤ level → level ≤ top → IsTotalOf (summary_covers (flat_map (rows_for next top) covered) (map own_pair coverages) (level, unit)) (tiv_of coverages) total → total ≡ sum_by (λ row. cond (has_coverage covered next level unit row.coverage_id) row.tiv 0) coverages
found-beneath next top zero unit total covered coverages apart least most found = absurd (omega arith)
found-beneath next top (suc high) unit total covered coverages apart least most found =
    let same : suc high ≡ 1 + high = omega arith in
    found.is ∙ (total_is coverages apart (summary_covers (flat_map (rows_for next top) covered) (map own_pair coverages) (suc high, unit)) found.ids found.distinct found.passing
    ∙ (ap (λ n. sum_by (λ row. cond (summary_covers (flat_map (rows_for next top) covered) (map own_pair coverages) (n, unit) row.coverage_id) row.tiv 0) coverages) same
    ∙ sum_by-agree _ _ coverages (members coverages (each_member (map (λ row. row.coverage_id) coverages)))))
  where
    members : (rows : List Coverage) → AllByRecursion (λ id. list_any (nat_eq id) (map (λ row. row.coverage_id) coverages) ≡ true) (map (λ row. row.coverage_id) rows) → AllByRecursion (λ row. cond (summary_covers (flat_map (rows_for next top) covered) (map own_pair coverages) (1 + high, unit) row.coverage_id) row.tiv 0 ≡ cond (has_coverage covered next (suc high) unit row.coverage_id) row.tiv 0) rows
    members [] all = tt
    members (row ∷ rows) all = (ap (λ b. cond b row.tiv 0) (covers-beneath next top high unit row.coverage_id covered coverages (omega arith) all.0), members rows all.1)
