-- Steps of a loop that collects the sets of rows.
use Rattle.std.proofs.Common.{◌≡◌, ℕ, ◌+◌, ◌-◌, ◌<◌, ◌≤◌, Bool, true, false, cond, List, [], ◌∷◌, Some, length, map, take, get_or, refl, ap, sym, ◌∙◌, nat_eq, arith}
use Rattle.std.specs.Prelude.{◌||◌, option_map, slice_get}
use Rattle.std.specs.Cmp.{nat_eq_equiv}
use Rattle.std.specs.List.{filter, list_any}
use Rattle.std.proofs.lemmas.List.Folds.{list_any_more}
use Rattle.kt_exposure.specs.declared.exposure.SummaryUnit.{SummaryUnit}
use Rattle.kt_tables.specs.declared.summaries.UnitSummary.{UnitSummary}
use Rattle.kt_tables.proofs.ExposureLemmas.{list_any-map}

-- whether a set is among those of the first rows
abbrev has_set : List SummaryUnit → ℕ → Bool
has_set rows set = list_any (nat_eq set) (map (λ row. row.set) rows)

module _ (rows : List SummaryUnit) (i : ℕ) (d : SummaryUnit) (within : i < length rows) where
  -- one row more
  set_added : (set : ℕ) → has_set (take (i + 1) rows) set ≡ (has_set (take i rows) set || nat_eq set (get_or rows i d).set)
  set_added set =
      list_any-map (λ row. row.set) (nat_eq set) (take (i + 1) rows)
      ∙ (list_any_more (λ (row : SummaryUnit). nat_eq set row.set) rows i d within
      ∙ ap (λ b. b || nat_eq set (get_or rows i d).set) (sym (list_any-map (λ row. row.set) (nat_eq set) (take i rows))))

  -- one set put in
  pub set_put : (set : ℕ) (old new : Bool) → new ≡ cond (nat_eq (get_or rows i d).set set) true old → old ≡ has_set (take i rows) set → new ≡ has_set (take (i + 1) rows) set
  set_put set old new put was = put ∙ (either (nat_eq (get_or rows i d).set set) old ∙ (ap (λ b. old || b) (nat_eq_equiv.symm (get_or rows i d).set set) ∙ (ap (λ b. b || nat_eq set (get_or rows i d).set) was ∙ sym (set_added set))))
    where
      either : (same old : Bool) → cond same true old ≡ (old || same)
      either true true = refl
      either true false = refl
      either false true = refl
      either false false = refl

-- one row more of the set of the row before it
pub set_kept : (rows : List SummaryUnit) (i : ℕ) (d : SummaryUnit) → i < length rows → 1 ≤ i → (get_or rows (i - 1) d).set ≡ (get_or rows i d).set → (set : ℕ) → has_set (take i rows) set ≡ has_set (take (i + 1) rows) set
set_kept rows i d within later same set =
    let last : i - 1 + 1 ≡ i = omega (arith, later) in
    let inside : i - 1 < length rows = omega (arith, within) in
    let was : has_set (take i rows) set ≡ (has_set (take (i - 1) rows) set || nat_eq set (get_or rows i d).set) = ap (λ n. has_set (take n rows) set) (sym last) ∙ (set_added rows (i - 1) d inside set ∙ ap (λ n. has_set (take (i - 1) rows) set || nat_eq set n) same) in
    was ∙ (sym (twice (has_set (take (i - 1) rows) set) (nat_eq set (get_or rows i d).set)) ∙ (ap (λ b. b || nat_eq set (get_or rows i d).set) (sym was) ∙ sym (set_added rows i d within set)))
  where
    twice : (a b : Bool) → ((a || b) || b) ≡ (a || b)
    twice true b = refl
    twice false true = refl
    twice false false = refl

-- the summary of the first row that passes a test is one of the summaries
pub summary_there : (test : UnitSummary → Bool) (summary : ℕ) (rows : List UnitSummary) → option_map (λ row. row.summary) (slice_get (filter test rows) 0) ≡ Some summary → list_any (nat_eq summary) (map (λ row. row.summary) rows) ≡ true
summary_there test summary [] is = absurd cc
summary_there test summary (row ∷ rows) is = by (test row) is (summary_there test summary rows)
  where
    or_true : (b : Bool) → (b || true) ≡ true
    or_true true = refl
    or_true false = refl

    by : (b : Bool) → option_map (λ row. row.summary) (slice_get (cond b (row ∷ filter test rows) (filter test rows)) 0) ≡ Some summary → (option_map (λ row. row.summary) (slice_get (filter test rows) 0) ≡ Some summary → list_any (nat_eq summary) (map (λ row. row.summary) rows) ≡ true) → (nat_eq summary row.summary || list_any (nat_eq summary) (map (λ row. row.summary) rows)) ≡ true
    by true is later = let same : row.summary ≡ summary = cc in ap (λ b. b || list_any (nat_eq summary) (map (λ row. row.summary) rows)) (ap (nat_eq summary) same ∙ nat_eq_equiv.refl summary)
    by false is later = ap (λ b. nat_eq summary row.summary || b) (later is) ∙ or_true (nat_eq summary row.summary)
