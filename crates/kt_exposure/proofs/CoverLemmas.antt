-- Steps of a loop that collects the coverages of a summary.
use Rattle.std.proofs.Common.{◌≡◌, ℕ, ◌+◌, ◌<◌, Bool, true, false, cond, List, [], ◌∷◌, length, get_or, take, refl, ap, sym, ◌∙◌, nat_eq}
use Rattle.std.specs.Prelude.{◌&&◌, ◌||◌}
use Rattle.std.specs.List.{filter, list_any}
use Rattle.std.proofs.lemmas.List.Folds.{list_any_more}
use Rattle.kt_exposure.specs.declared.exposure.SummaryUnit.{SummaryUnit}
use Rattle.kt_exposure.specs.declared.exposure.UnitCoverage.{UnitCoverage}
use Rattle.kt_exposure.specs.Exposure.{unit_covers, summary_covers}

-- a test of what a filter keeps
pub list_any-filter : {X : Type 0} (keep test : X → Bool) (rows : List X) → list_any test (filter keep rows) ≡ list_any (λ row. keep row && test row) rows
list_any-filter keep test [] = refl
list_any-filter keep test (row ∷ rows) = by (keep row) (list_any-filter keep test rows)
  where
    by : (b : Bool) → list_any test (filter keep rows) ≡ list_any (λ x. keep x && test x) rows → list_any test (cond b (row ∷ filter keep rows) (filter keep rows)) ≡ ((b && test row) || list_any (λ x. keep x && test x) rows)
    by true rest = ap (λ later. test row || later) rest
    by false rest = rest

-- nothing more
or_false : (b : Bool) → b ≡ (b || false)
or_false true = refl
or_false false = refl

module _ (rows : List SummaryUnit) (pairs : List UnitCoverage) (set summary : ℕ) (i : ℕ) (d : SummaryUnit) (within : i < length rows) (coverage : ℕ) where
  -- the coverages of one more row
  more : summary_covers (take (i + 1) rows) pairs (set, summary) coverage ≡ (summary_covers (take i rows) pairs (set, summary) coverage || (nat_eq (get_or rows i d).set set && nat_eq (get_or rows i d).summary summary && unit_covers pairs (get_or rows i d).unit coverage))
  more =
      list_any_more (λ x. nat_eq x.set set && nat_eq x.summary summary && unit_covers pairs x.unit coverage) rows i d within

  -- a row of the summary adds the coverages of its unit
  pub covers-added : (old new : Bool) → old ≡ summary_covers (take i rows) pairs (set, summary) coverage → new ≡ (old || list_any (λ pair. nat_eq pair.coverage coverage) (filter (λ pair. nat_eq pair.unit (get_or rows i d).unit) pairs)) → (nat_eq (get_or rows i d).set set && nat_eq (get_or rows i d).summary summary) ≡ true → new ≡ summary_covers (take (i + 1) rows) pairs (set, summary) coverage
  covers-added old new was added matches =
      added
      ∙ (ap (λ b. b || list_any (λ pair. nat_eq pair.coverage coverage) (filter (λ pair. nat_eq pair.unit (get_or rows i d).unit) pairs)) was
      ∙ (ap (λ b. summary_covers (take i rows) pairs (set, summary) coverage || b) (list_any-filter (λ pair. nat_eq pair.unit (get_or rows i d).unit) (λ pair. nat_eq pair.coverage coverage) pairs ∙ sym (ap (λ b. b && unit_covers pairs (get_or rows i d).unit coverage) matches))
      ∙ sym more))

  -- a row of another summary adds none
  pub covers-kept : (old : Bool) → old ≡ summary_covers (take i rows) pairs (set, summary) coverage → (nat_eq (get_or rows i d).set set && nat_eq (get_or rows i d).summary summary) ≡ false → old ≡ summary_covers (take (i + 1) rows) pairs (set, summary) coverage
  covers-kept old was other =
      was
      ∙ (or_false (summary_covers (take i rows) pairs (set, summary) coverage)
      ∙ (sym (ap (λ b. summary_covers (take i rows) pairs (set, summary) coverage || (b && unit_covers pairs (get_or rows i d).unit coverage)) other) ∙ sym more))
