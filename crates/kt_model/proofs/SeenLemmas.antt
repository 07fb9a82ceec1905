-- What the check of footprint rows keeps, behind one more row.
use Rattle.std.proofs.Common.{◌≡◌, ℕ, ◌+◌, ◌<◌, ◌≤◌, Bool, true, false, not, cond, List, [], ◌∷◌, ◌++◌, refl, ap, sym, subst, ◌∙◌, nat_eq, nat_lt, Option, None, Some, unwrap_or, arith, add-zero}
use Rattle.std.specs.Prelude.{◌||◌}
use Rattle.std.specs.List.{list_any}
use Rattle.std.specs.Option.{option_or}
use Rattle.std.specs.HashMap.{get}
use Rattle.std.specs.HashSet.{contains}
use Rattle.std.proofs.lemmas.Bool.{eqb-true, le-ltb, lt-ltb, ltb-false}
use Rattle.std.proofs.lemmas.List.Sums.{sum_by_push}
use Rattle.std.proofs.lemmas.List.Folds.{list_any-append}
use Rattle.std.proofs.lemmas.Bool.Decides.{nat_tests}
use Rattle.kt_keys.specs.Keys.{same_pair}
use Rattle.kt_rec.specs.declared.hazard.FootRow.{FootRow}
use Rattle.kt_rec.specs.declared.foot_rows.RowCause.{RowCause}
use Rattle.kt_rec.specs.declared.foot_rows.RowCause.TheVariants as cause
use Rattle.kt_model.specs.declared.foot_rows.Seen.{Seen}
use Rattle.kt_rec.specs.FootRows.{areaperil_total, field_cause, is_at, row_cause}
use Rattle.kt_model.specs.Seen.{IsSeen}

-- the cause where the fields are fine, by whether the row stands twice, and whether the sum is too large
cause_is : (fields : Option RowCause) (twice above : Bool) (t a : Bool) → fields ≡ None → twice ≡ t → above ≡ a → option_or fields (cond twice (Some cause.Twice) (cond above (Some cause.Sum) None)) ≡ cond t (Some cause.Twice) (cond a (Some cause.Sum) None)
cause_is fields twice above t a e f g =
    ap (λ x. option_or x (cond twice (Some cause.Twice) (cond above (Some cause.Sum) None))) e
    ∙ (ap (λ x. cond x (Some cause.Twice) (cond above (Some cause.Sum) None)) f
    ∙ ap (λ x. cond t (Some cause.Twice) (cond x (Some cause.Sum) None)) g)

-- a number is equal to itself
eq_refl : (n : ℕ) → nat_eq n n ≡ true
eq_refl n = grind (arith, nat_tests)

-- what is not new is there
there : (b c : Bool) → b ≡ not c → b ≡ false → c ≡ true
there b true e f = refl
there b false e f = cc

-- what is new is not there
not_there : (b c : Bool) → b ≡ not c → b ≡ true → c ≡ false
not_there b false e f = refl
not_there b true e f = cc

module _ (rows : List FootRow) (row : FootRow) where
  -- the total of the row's areaperil behind the row
  total_here : areaperil_total (rows ++ row ∷ []) row.areaperil ≡ areaperil_total rows row.areaperil + row.prob
  total_here = sum_by_push (λ x. cond (nat_eq x.areaperil row.areaperil) x.prob 0) rows row ∙ ap (λ b. areaperil_total rows row.areaperil + cond b row.prob 0) (eq_refl row.areaperil)

  module _ (old : Seen) (is : IsSeen rows old) (fields : field_cause row ≡ None) (added : Bool) (asked : added ≡ not (contains same_pair old.pairs (row.areaperil, row.intensity))) where
    -- a row that stands twice
    pub cause_twice : added ≡ false → Some cause.Twice ≡ row_cause rows row
    cause_twice h = sym (cause_is (field_cause row) (list_any (is_at row.areaperil row.intensity) rows) (nat_lt 1001000 (areaperil_total (rows ++ row ∷ []) row.areaperil)) true (nat_lt 1001000 (areaperil_total (rows ++ row ∷ []) row.areaperil)) fields (sym (is.pairs (row.areaperil, row.intensity)) ∙ there added _ asked h) refl)

    module _ (new : added ≡ true) (total : ℕ) (sum : total ≡ areaperil_total rows row.areaperil + row.prob) where
      -- whether the sum of the row's areaperil is too large
      cause_by_sum : (b : Bool) → nat_lt 1001000 total ≡ b → row_cause rows row ≡ cond b (Some cause.Sum) None
      cause_by_sum b h = cause_is (field_cause row) (list_any (is_at row.areaperil row.intensity) rows) (nat_lt 1001000 (areaperil_total (rows ++ row ∷ []) row.areaperil)) false b fields (sym (is.pairs (row.areaperil, row.intensity)) ∙ not_there added _ asked new) (ap (nat_lt 1001000) (total_here ∙ sym sum) ∙ h)

      -- a row whose areaperil adds to too much
      pub cause_sum : 1001000 < total → Some cause.Sum ≡ row_cause rows row
      cause_sum h = sym (cause_by_sum true (lt-ltb _ _ h))

      -- a row that is not refused
      pub cause_none : total ≤ 1001000 → None ≡ row_cause rows row
      cause_none h = sym (cause_by_sum false (le-ltb _ _ h))

  module _ (old next : Seen) (is : IsSeen rows old) (total : ℕ) (sum : total ≡ areaperil_total rows row.areaperil + row.prob) (fits : total ≤ 1001000) where
    -- the total of an areaperil behind the row
    total_by : (b : Bool) (areaperil : ℕ) → nat_eq row.areaperil areaperil ≡ b → unwrap_or (cond b (Some total) (get nat_eq old.totals areaperil)) 0 ≡ areaperil_total rows areaperil + cond b row.prob 0
    total_by true areaperil e = sum ∙ ap (λ n. areaperil_total rows n + row.prob) (eqb-true row.areaperil areaperil e)
    total_by false areaperil e = is.totals areaperil ∙ sym (add-zero _)

    -- it is not too large
    within_by : (b : Bool) (areaperil : ℕ) → nat_eq row.areaperil areaperil ≡ b → areaperil_total rows areaperil + cond b row.prob 0 ≤ 1001000
    within_by true areaperil e = subst (λ n. areaperil_total rows n + row.prob ≤ 1001000) (eqb-true row.areaperil areaperil e) (subst (λ n. n ≤ 1001000) sum fits)
    within_by false areaperil e = (let h = is.within areaperil in omega arith)

    -- the row is seen
    pub seen_more : ((key : ℕ × ℕ) → contains same_pair next.pairs key ≡ cond (same_pair (row.areaperil, row.intensity) key) true (contains same_pair old.pairs key)) → ((areaperil : ℕ) → get nat_eq next.totals areaperil ≡ cond (nat_eq row.areaperil areaperil) (Some total) (get nat_eq old.totals areaperil)) → IsSeen (rows ++ row ∷ []) next
    seen_more pairs totals = record {
      pairs = λ key. pairs key ∙ (ap (λ b. cond (same_pair (row.areaperil, row.intensity) key) true b) (is.pairs key) ∙ (join (is_at key.0 key.1 row) (list_any (is_at key.0 key.1) rows) ∙ sym (list_any-append (is_at key.0 key.1) rows (row ∷ []))));
      totals = λ areaperil. ap (λ found. unwrap_or found 0) (totals areaperil) ∙ (total_by (nat_eq row.areaperil areaperil) areaperil refl ∙ sym (sum_by_push (λ x. cond (nat_eq x.areaperil areaperil) x.prob 0) rows row));
      within = λ areaperil. subst (λ n. n ≤ 1001000) (sym (sum_by_push (λ x. cond (nat_eq x.areaperil areaperil) x.prob 0) rows row)) (within_by (nat_eq row.areaperil areaperil) areaperil refl);
    }
      where
        join : (b rest : Bool) → cond b true rest ≡ (rest || (b || false))
        join true true = refl
        join true false = refl
        join false true = refl
        join false false = refl

-- the probability of a row whose fields are fine
pub fine_prob : (row : FootRow) → field_cause row ≡ None → row.prob ≤ 1000000
fine_prob row fine = ltb-false 1000000 row.prob (by (nat_lt row.areaperil 1 || nat_lt 2147483647 row.areaperil) (nat_lt row.intensity 1 || nat_lt 10000 row.intensity) (nat_lt 1000000 row.prob) fine)
  where
    by : (a i p : Bool) → cond a (Some cause.Areaperil) (cond i (Some cause.Intensity) (cond p (Some cause.Prob) None)) ≡ None → p ≡ false
    by true i p h = cc
    by false true p h = cc
    by false false true h = cc
    by false false false h = refl
