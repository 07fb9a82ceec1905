-- The rows of units with coverages, level by level, are those of the ids, one by one.
use Rattle.std.proofs.Common.{◌≡◌, ℕ, zero, suc, ◌+◌, ◌-◌, ◌<◌, Bool, true, false, List, [], ◌∷◌, ◌++◌, Option, None, Some, refl, ap, sym, ◌∙◌, arith, append-nil, append_assoc}
use Rattle.std.specs.Prelude.{◌||◌, option_map}
use Rattle.std.specs.List.{cons_option, filter_map, flat_map, list_any}
use Rattle.std.proofs.lemmas.List.Folds.{list_any-append}
use Rattle.kt_exposure.specs.declared.exposure.SummaryUnit.{SummaryUnit}
use Rattle.kt_exposure.specs.declared.exposure.UnitCoverage.{UnitCoverage}
use Rattle.kt_exposure.specs.Exposure.{IsTotalOf, summary_covers, unit_covers}
use Rattle.std.specs.Prelude.{◌&&◌, nat_eq}
use Rattle.kt_structure.specs.Coverages.{row_and, climb_rows, covered_rows, rows_for, row_up, start_row}

-- the rows of so many levels from a level on, level by level, from the rows of the level below
abbrev pub level_rows : (ℕ × ℕ → Option ℕ) → ℕ → ℕ → List SummaryUnit → List SummaryUnit
level_rows next zero level rows = []
level_rows next (suc levels) level rows = filter_map (row_up next level) rows ++ level_rows next levels (level + 1) (filter_map (row_up next level) rows)

-- the rows of so many levels from a level on, row by row
abbrev each_climb : (ℕ × ℕ → Option ℕ) → ℕ → ℕ → SummaryUnit → List SummaryUnit
each_climb next levels level row = climb_rows next levels level row.summary row.unit

module _ (next : ℕ × ℕ → Option ℕ) where
  -- the rows of no level are none behind others
  pub levels-end : (levels level : ℕ) (rows here all : List SummaryUnit) → levels ≡ 0 → rows ++ level_rows next levels level here ≡ all → rows ≡ all
  levels-end levels level rows here all none so_far = sym (append-nil rows) ∙ (ap (λ n. rows ++ level_rows next n level here) (sym none) ∙ so_far)

  -- one level more
  pub levels-go : (levels level : ℕ) (rows here higher more all : List SummaryUnit) → 0 < levels → rows ++ level_rows next levels level here ≡ all → higher ≡ filter_map (row_up next level) here → more ≡ rows ++ higher → more ++ level_rows next (levels - 1) (level + 1) higher ≡ all
  levels-go zero level rows here higher more all some so_far higher_is more_is = absurd (omega arith)
  levels-go (suc levels) level rows here higher more all some so_far higher_is more_is =
      let less : suc levels - 1 ≡ levels = omega arith in
      ap (λ n. more ++ level_rows next n (level + 1) higher) less
      ∙ (ap (λ front. front ++ level_rows next levels (level + 1) higher) more_is
      ∙ (append_assoc rows higher (level_rows next levels (level + 1) higher)
      ∙ (ap (λ up. rows ++ (up ++ level_rows next levels (level + 1) up)) higher_is ∙ so_far)))

  -- the rows of ids with their coverages, as units of level 0
  starts-climb : (top : ℕ) (covered : List (ℕ × Option ℕ)) → flat_map (each_climb next top 1) (filter_map start_row covered) ≡ flat_map (rows_for next top) covered
  starts-climb top [] = refl
  starts-climb top (pair ∷ covered) = by pair.1 (starts-climb top covered)
    where
      by : (found : Option ℕ) → flat_map (each_climb next top 1) (filter_map start_row covered) ≡ flat_map (rows_for next top) covered
          → flat_map (each_climb next top 1) (cons_option (option_map (λ coverage. record { set = 0; summary = pair.0; unit = coverage }) found) (filter_map start_row covered)) ≡ covered_rows next top pair.0 found ++ flat_map (rows_for next top) covered
      by None rest = rest
      by (Some coverage) rest = ap (λ back. climb_rows next top 1 pair.0 coverage ++ back) rest

  module _ (test : SummaryUnit → Bool) where
    -- no level has a row
    none-climb : (level : ℕ) (rows : List SummaryUnit) → list_any test (flat_map (each_climb next zero level) rows) ≡ false
    none-climb level [] = refl
    none-climb level (row ∷ rows) = none-climb level rows

    -- the rows of a level, and of those above
    one-level : (levels level : ℕ) (rows : List SummaryUnit) → list_any test (flat_map (each_climb next (suc levels) level) rows) ≡ (list_any test (filter_map (row_up next level) rows) || list_any test (flat_map (each_climb next levels (level + 1)) (filter_map (row_up next level) rows)))
    one-level levels level [] = refl
    one-level levels level (row ∷ rows) = by (next (level, row.summary)) (one-level levels level rows)
      where
        swap : (t c a b : Bool) → (t || (c || (a || b))) ≡ ((t || a) || (c || b))
        swap true c a b = refl
        swap false true true b = refl
        swap false true false b = refl
        swap false false true b = refl
        swap false false false b = refl

        up : List SummaryUnit
        up = filter_map (row_up next level) rows

        by : (found : Option ℕ) → list_any test (flat_map (each_climb next (suc levels) level) rows) ≡ (list_any test up || list_any test (flat_map (each_climb next levels (level + 1)) up))
            → list_any test (row_and level row.unit found (λ reached. climb_rows next levels (level + 1) reached row.unit) ++ flat_map (each_climb next (suc levels) level) rows)
            ≡ (list_any test (cons_option (option_map (λ unit. record { set = level; summary = unit; unit = row.unit }) found) up) || list_any test (flat_map (each_climb next levels (level + 1)) (cons_option (option_map (λ unit. record { set = level; summary = unit; unit = row.unit }) found) up)))
        by None rest = rest
        by (Some reached) rest =
            let here : Bool = test (record { set = level; summary = reached; unit = row.unit }) in
            let above : List SummaryUnit = climb_rows next levels (level + 1) reached row.unit in
            ap (λ b. here || b) (list_any-append test above (flat_map (each_climb next (suc levels) level) rows) ∙ ap (λ b. list_any test above || b) rest)
            ∙ (swap here (list_any test above) (list_any test up) (list_any test (flat_map (each_climb next levels (level + 1)) up))
            ∙ ap (λ b. (here || list_any test up) || b) (sym (list_any-append test above (flat_map (each_climb next levels (level + 1)) up))))

    -- level by level and row by row the same rows stand there
    levels-climb : (levels level : ℕ) (rows : List SummaryUnit) → list_any test (level_rows next levels level rows) ≡ list_any test (flat_map (each_climb next levels level) rows)
    levels-climb zero level rows = sym (none-climb level rows)
    levels-climb (suc levels) level rows =
        list_any-append test (filter_map (row_up next level) rows) (level_rows next levels (level + 1) (filter_map (row_up next level) rows))
        ∙ (ap (λ b. list_any test (filter_map (row_up next level) rows) || b) (levels-climb levels (level + 1) (filter_map (row_up next level) rows)) ∙ sym (one-level levels level rows))

    -- so they are those of the ids with their coverages
    pub levels-are : (top : ℕ) (covered : List (ℕ × Option ℕ)) → list_any test (level_rows next top 1 (filter_map start_row covered)) ≡ list_any test (flat_map (rows_for next top) covered)
    levels-are top covered = levels-climb top 1 (filter_map start_row covered) ∙ ap (list_any test) (starts-climb top covered)

-- a total over rows is one over others among which the same stand
pub total-among : (pairs : List UnitCoverage) (key : ℕ × ℕ) (value : ℕ → ℕ) (total : ℕ) (rows others : List SummaryUnit) → ((test : SummaryUnit → Bool) → list_any test rows ≡ list_any test others) → IsTotalOf (summary_covers rows pairs key) value total → IsTotalOf (summary_covers others pairs key) value total
total-among pairs key value total rows others same known =
    record { ids = known.ids; distinct = known.distinct; passing = λ coverage. known.passing coverage ∙ same (λ row. nat_eq row.set key.0 && nat_eq row.summary key.1 && unit_covers pairs row.unit coverage); is = known.is }
