-- What is put in the place of a table is got there, and every other table stays.
-- The rules: docs/TABLES.md, "Tables", "Files".
use Rattle.std.specs.Prelude.{◌≡◌, ◌≢◌, ◌⊎◌, ◌≤◌, ◌<◌, ◌-◌, ◌&&◌, ℕ, nat_le, true, false, refl, List, [], ◌∷◌, length, slice_index_or, slice_set}
use Rattle.std.proofs.Common.{sym, ap, ◌∙◌, arith, inl, inr}
use Rattle.std.proofs.lemmas.Bool.{cases_eq}
use Rattle.std.proofs.lemmas.Bool.Decides.{nat_tests}
use Rattle.std.proofs.lemmas.List.{get_or-set_same, get_or-set_other, length-set, set-set}
use Rattle.std.proofs.Math.ListN.{get_or-map}
use Rattle.std.proofs.Math.Seq.{map-set_same}
use Rattle.kt_rec.specs.Places.{PartOf, count_in, list_of, part_in, table_at, with_part}
use Rattle.kt_rec.specs.Rows.{FinancialRows, Rows, financial_at, no_financial_rows}
use Rattle.kt_rec.specs.TableNames.{IsTableId, number_of}
use Rattle.kt_rec.specs.declared.table.Table.{Table}
use Rattle.kt_rec.specs.declared.table.Table.TheVariants as table

-- the base and nine stages have financial rows
abbrev pub AreTen : Rows → Type 0
AreTen rows = length rows.financial ≡ 10

-- two tables, of the base or of stages, are not the same one
abbrev pub AreApart : ℕ → Table → ℕ → Table → Type 0
AreApart stage t at u = number_of t ≡ number_of u → stage ≢ at

-- ---- one table or two

-- each table is one of the base
pub of_base : (t : Table) → IsTableId (table_at 0 t)
of_base t = record { stages = omega arith; financial = inl refl }

-- and a financial one is one of a stage
pub of_stage : (stage : ℕ) → stage < 10 → (t : Table) → (nat_le 9 (number_of t) && nat_le (number_of t) 11) ≡ true → IsTableId (table_at stage t)
of_stage stage below t financial = record { stages = omega (arith, below); financial = inr (grind (arith, nat_tests, financial), grind (arith, nat_tests, financial)) }

-- a table that no stage has is of the base
pub in_base : (stage : ℕ) (t : Table) → IsTableId (table_at stage t) → (nat_le 9 (number_of t) && nat_le (number_of t) 11) ≡ false → stage ≡ 0
in_base stage t is none = by is.financial
  where
    by : (stage ≡ 0) ⊎ ((9 ≤ number_of t) × (number_of t ≤ 11)) → stage ≡ 0
    by (inl base) = base
    by (inr within) = absurd (outside within.0 within.1)
      where
        outside : 9 ≤ number_of t → number_of t ≤ 11 → ⊥
        outside least most = grind (arith, nat_tests, none, least, most)

-- of two tables of the base of one number the stages are one
based : (stage at : ℕ) (t : Table) → IsTableId (table_at stage t) → IsTableId (table_at at t) → (nat_le 9 (number_of t) && nat_le (number_of t) 11) ≡ false → stage ≡ at
based stage at t is other none = in_base stage t is none ∙ sym (in_base at t other none)

-- all tables by number
abbrev tables : List Table
tables = table.Events ∷ table.Items ∷ table.Coverages ∷ table.Footprint ∷ table.FootprintIdx ∷ table.Vulnerability ∷ table.DamageBinDict ∷ table.Random ∷ table.FmProgramme ∷ table.FmPolicytc ∷ table.FmProfile ∷ table.FmXref ∷ table.GulSummaryXref ∷ table.FmSummaryXref ∷ table.Occurrence ∷ table.ReturnPeriods ∷ []

-- a table stands at its number
numbered : (t : Table) → slice_index_or tables (number_of t - 1) table.Events ≡ t
numbered table.Events = refl
numbered t = refl

-- tables of one number are one
pub one_number : (t u : Table) → number_of t ≡ number_of u → t ≡ u
one_number t u same = sym (numbered t) ∙ (ap (λ n. slice_index_or tables (n - 1) table.Events) same ∙ numbered u)

-- two tables are the same one, or they are apart
pub one_or_two : (stage : ℕ) (t : Table) (at : ℕ) (u : Table) → ((stage ≡ at) × (t ≡ u)) ⊎ AreApart stage t at u
one_or_two stage t at u = elim (cases_eq stage at) [ inl is ↦ elim (cases_eq (number_of t) (number_of u)) [ inl same ↦ inl (is, one_number t u same) | inr not ↦ inr (λ same here. not same) ] | inr not ↦ inr (λ same here. not here) ]

-- ---- financial rows

-- those of the stage that is put are got
here : (rows : Rows) (at : ℕ) (put : FinancialRows) → AreTen rows → at < 10 → financial_at (record rows { financial = slice_set rows.financial at put }) at ≡ put
here rows at put ten below = get_or-set_same rows.financial at put no_financial_rows (omega (arith, ten, below))

-- those of another stage stay
elsewhere : (rows : Rows) (at stage : ℕ) (put : FinancialRows) → stage ≢ at → financial_at (record rows { financial = slice_set rows.financial at put }) stage ≡ financial_at rows stage
elsewhere rows at stage put not = get_or-set_other rows.financial at stage put no_financial_rows not

-- a list of financial rows stays in each stage where what is put has it
beside : {A : Type 0} (part : FinancialRows → A) (rows : Rows) (at stage : ℕ) (put : FinancialRows) → part put ≡ part (financial_at rows at) → part (financial_at (record rows { financial = slice_set rows.financial at put }) stage) ≡ part (financial_at rows stage)
beside part rows at stage put is = sym (get_or-map part (slice_set rows.financial at put) stage no_financial_rows) ∙ (ap (λ list. slice_index_or list stage (part no_financial_rows)) (map-set_same part rows.financial at put no_financial_rows is) ∙ get_or-map part rows.financial stage no_financial_rows)

-- of what is put twice the last is there
twice : (rows : Rows) (stage : ℕ) (first : FinancialRows) (last : FinancialRows → FinancialRows) → AreTen rows → stage < 10 → last first ≡ last (financial_at rows stage) → record rows { financial = slice_set (slice_set rows.financial stage first) stage (last (financial_at (record rows { financial = slice_set rows.financial stage first }) stage)) } ≡ record rows { financial = slice_set rows.financial stage (last (financial_at rows stage)) }
twice rows stage first last ten below is =
    ap (λ (list : List FinancialRows). record rows { financial = list })
    (set-set rows.financial stage first (last (financial_at (record rows { financial = slice_set rows.financial stage first }) stage))
    ∙ ap (λ (put : FinancialRows). slice_set rows.financial stage put) (ap last (here rows stage first ten below) ∙ is))

-- ---- laws of a place

-- what was put is got
pub got : (t : Table) (stage : ℕ) (part : PartOf t) (rows : Rows) → AreTen rows → stage < 10 → part_in t stage (with_part t stage part rows) ≡ part
got table.FmProgramme stage part rows ten below = ap (λ f. f.programme) (here rows stage (record (financial_at rows stage) { programme = part }) ten below)
got table.FmPolicytc stage part rows ten below = ap (λ f. f.policytc) (here rows stage (record (financial_at rows stage) { policytc = part }) ten below)
got table.FmProfile stage part rows ten below = ap (λ f. f.profile) (here rows stage (record (financial_at rows stage) { profile = part }) ten below)
got t stage part rows ten below = refl

-- there are ten of the financial rows as before
pub still_ten : (t : Table) (stage : ℕ) (part : PartOf t) (rows : Rows) → AreTen rows → AreTen (with_part t stage part rows)
still_ten table.FmProgramme stage part rows ten = length-set rows.financial stage (record (financial_at rows stage) { programme = part }) ∙ ten
still_ten table.FmPolicytc stage part rows ten = length-set rows.financial stage (record (financial_at rows stage) { policytc = part }) ∙ ten
still_ten table.FmProfile stage part rows ten = length-set rows.financial stage (record (financial_at rows stage) { profile = part }) ∙ ten
still_ten t stage part rows ten = ten

-- another table stays
pub stays : (t : Table) (stage : ℕ) (u : Table) (at : ℕ) (part : PartOf u) (rows : Rows) → IsTableId (table_at stage t) → IsTableId (table_at at u) → AreApart stage t at u → part_in t stage (with_part u at part rows) ≡ part_in t stage rows
stays table.Events stage table.Events at part rows is is_too apart = absurd (apart refl (based stage at table.Events is is_too refl))
stays table.Items stage table.Items at part rows is is_too apart = absurd (apart refl (based stage at table.Items is is_too refl))
stays table.Coverages stage table.Coverages at part rows is is_too apart = absurd (apart refl (based stage at table.Coverages is is_too refl))
stays table.Footprint stage table.Footprint at part rows is is_too apart = absurd (apart refl (based stage at table.Footprint is is_too refl))
stays table.FootprintIdx stage table.FootprintIdx at part rows is is_too apart = absurd (apart refl (based stage at table.FootprintIdx is is_too refl))
stays table.Vulnerability stage table.Vulnerability at part rows is is_too apart = absurd (apart refl (based stage at table.Vulnerability is is_too refl))
stays table.DamageBinDict stage table.DamageBinDict at part rows is is_too apart = absurd (apart refl (based stage at table.DamageBinDict is is_too refl))
stays table.Random stage table.Random at part rows is is_too apart = absurd (apart refl (based stage at table.Random is is_too refl))
stays table.FmXref stage table.FmXref at part rows is is_too apart = absurd (apart refl (based stage at table.FmXref is is_too refl))
stays table.GulSummaryXref stage table.GulSummaryXref at part rows is is_too apart = absurd (apart refl (based stage at table.GulSummaryXref is is_too refl))
stays table.FmSummaryXref stage table.FmSummaryXref at part rows is is_too apart = absurd (apart refl (based stage at table.FmSummaryXref is is_too refl))
stays table.Occurrence stage table.Occurrence at part rows is is_too apart = absurd (apart refl (based stage at table.Occurrence is is_too refl))
stays table.ReturnPeriods stage table.ReturnPeriods at part rows is is_too apart = absurd (apart refl (based stage at table.ReturnPeriods is is_too refl))
stays table.FmProgramme stage table.FmProgramme at part rows is is_too apart = ap (λ f. f.programme) (elsewhere rows at stage (record (financial_at rows at) { programme = part }) (apart refl))
stays table.FmProgramme stage table.FmPolicytc at part rows is is_too apart = beside (λ f. f.programme) rows at stage (record (financial_at rows at) { policytc = part }) refl
stays table.FmProgramme stage table.FmProfile at part rows is is_too apart = beside (λ f. f.programme) rows at stage (record (financial_at rows at) { profile = part }) refl
stays table.FmPolicytc stage table.FmProgramme at part rows is is_too apart = beside (λ f. f.policytc) rows at stage (record (financial_at rows at) { programme = part }) refl
stays table.FmPolicytc stage table.FmPolicytc at part rows is is_too apart = ap (λ f. f.policytc) (elsewhere rows at stage (record (financial_at rows at) { policytc = part }) (apart refl))
stays table.FmPolicytc stage table.FmProfile at part rows is is_too apart = beside (λ f. f.policytc) rows at stage (record (financial_at rows at) { profile = part }) refl
stays table.FmProfile stage table.FmProgramme at part rows is is_too apart = beside (λ f. f.profile) rows at stage (record (financial_at rows at) { programme = part }) refl
stays table.FmProfile stage table.FmPolicytc at part rows is is_too apart = beside (λ f. f.profile) rows at stage (record (financial_at rows at) { policytc = part }) refl
stays table.FmProfile stage table.FmProfile at part rows is is_too apart = ap (λ f. f.profile) (elsewhere rows at stage (record (financial_at rows at) { profile = part }) (apart refl))
stays t stage u at part rows is is_too apart = refl

-- of what was put twice the last is there
pub put_twice : (t : Table) (stage : ℕ) (first last : PartOf t) (rows : Rows) → AreTen rows → stage < 10 → with_part t stage last (with_part t stage first rows) ≡ with_part t stage last rows
put_twice table.FmProgramme stage first last rows ten below = twice rows stage (record (financial_at rows stage) { programme = first }) (λ f. record f { programme = last }) ten below refl
put_twice table.FmPolicytc stage first last rows ten below = twice rows stage (record (financial_at rows stage) { policytc = first }) (λ f. record f { policytc = last }) ten below refl
put_twice table.FmProfile stage first last rows ten below = twice rows stage (record (financial_at rows stage) { profile = first }) (λ f. record f { profile = last }) ten below refl
put_twice t stage first last rows ten below = refl

-- ---- how many rows

-- tables of which the same is kept have as many rows
pub same_count : (t : Table) (stage : ℕ) (rows other : Rows) → part_in t stage rows ≡ part_in t stage other → count_in rows stage t ≡ count_in other stage t
same_count table.Events stage rows other same = ap length same
same_count t stage rows other same = ap (λ (part : PartOf t). length (list_of t part)) same
