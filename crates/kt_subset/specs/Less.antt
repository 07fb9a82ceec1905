-- Checks that refuse nothing where others refuse nothing.
-- The rules: docs/CHECKS.md.
use Rattle.std.specs.Prelude.{◌≡◌, ◌⊎◌, ◌≤◌, ◌<◌, ◌*◌, ◌&&◌, ℕ, zero, suc, nat_lt, Bool, true, false, cond, refl, List, [], ◌∷◌, ◌++◌, map, Option, Some, None}
use Rattle.std.specs.List.{AllByRecursion, fold}
use Rattle.std.specs.Option.{option_or}
use Rattle.std.proofs.Common.{sym, subst, ap, ◌∙◌, arith, inl, inr}
use Rattle.std.proofs.Math.Nat.{mul-le-mul_right}
use Rattle.std.proofs.lemmas.Bool.{and_parts, le-ltb}
use Rattle.std.proofs.lemmas.List.Elements.{recursion_from_All}
use Rattle.kt_checks.specs.CheckLaws.{both, no_row, not_above}
use Rattle.kt_checks.specs.SummaryChecks.{zero_above}
use Rattle.kt_keys.specs.Refusals.{refusal, first_of, over_stages}
use Rattle.kt_keys.specs.declared.need.Refusal.{Refusal}
use Rattle.kt_rec.specs.declared.table.TableId.{TableId}
use Rattle.kt_rec.specs.LoadOrder.{each-is_table, load_order}
use Rattle.kt_rec.specs.Options.{both_none}
use Rattle.kt_rec.specs.TableNames.{IsTableId}

-- there is no refusal where there is no other one
abbrev pub IsLess : Option Refusal → Option Refusal → Type 0
IsLess less more = more ≡ None → less ≡ None

-- so it is place by place
abbrev pub AreLess : List (Option Refusal) → List (Option Refusal) → Type 0
AreLess [] [] = Unit {0}
AreLess [] (more ∷ others) = ⊥
AreLess (less ∷ refusals) [] = ⊥
AreLess (less ∷ refusals) (more ∷ others) = IsLess less more × AreLess refusals others

-- ---- several refusals

-- the first refusal stays the first
stays : (found : Refusal) (refusals : List (Option Refusal)) → fold option_or (Some found) refusals ≡ Some found
stays found [] = refl
stays found (refusal ∷ refusals) = stays found refusals

-- the first of several refusals
pub first_less : (refusals others : List (Option Refusal)) → AreLess refusals others → IsLess (first_of refusals) (first_of others)
first_less [] [] are none = refl
first_less [] (more ∷ others) are none = absurd are
first_less (less ∷ refusals) [] are none = absurd are
first_less (less ∷ refusals) (more ∷ others) are none = by more are.0 none (first_less refusals others are.1)
  where
    by : (more : Option Refusal) → IsLess less more → fold option_or more others ≡ None → IsLess (first_of refusals) (first_of others) → fold option_or less refusals ≡ None
    by None is none later = subst (λ (one : Option Refusal). fold option_or one refusals ≡ None) (sym (is refl)) (later none)
    by (Some found) is none later = let e = sym (stays found others) ∙ none in cc

-- several refusals, and more behind them
pub joined_less : (refusals others behind others_behind : List (Option Refusal)) → AreLess refusals others → AreLess behind others_behind → AreLess (refusals ++ behind) (others ++ others_behind)
joined_less [] [] behind others_behind are later = later
joined_less [] (more ∷ others) behind others_behind are later = absurd are
joined_less (less ∷ refusals) [] behind others_behind are later = absurd are
joined_less (less ∷ refusals) (more ∷ others) behind others_behind are later = (are.0, joined_less refusals others behind others_behind are.1 later)

-- a check of all tables, in the order of loading
pub listed_less : (check other : TableId → Option Refusal) → ((id : TableId) → IsTableId id → IsLess (check id) (other id)) → IsLess (first_of (map check load_order)) (first_of (map other load_order))
listed_less check other each = first_less (map check load_order) (map other load_order) (all load_order (recursion_from_All IsTableId load_order each-is_table))
  where
    all : (ids : List TableId) → AllByRecursion IsTableId ids → AreLess (map check ids) (map other ids)
    all [] are = tt
    all (id ∷ ids) are = (each id are.0, all ids are.1)

-- refusals over the stages
pub stages_less : (check other : ℕ → Option Refusal) (stages : ℕ) → ((stage : ℕ) → stage < stages → IsLess (check stage) (other stage)) → IsLess (over_stages check stages) (over_stages other stages)
unfolding over_stages
stages_less check other zero each none = refl
stages_less check other (suc stages) each none =
    let parts = both_none (over_stages other stages) (other stages) none in
    let before : over_stages check stages ≡ None = stages_less check other stages (λ stage below. each stage (omega arith)) parts.0 in
    subst (λ (one : Option Refusal). option_or one (check stages) ≡ None) (sym before) (each stages (omega arith) parts.1)

-- ---- one refusal

-- a check is made only where another is, and finds no row where the other finds none
pub weaker : (number : ℕ) (named other : TableId) (made made_more : Bool) (row row_more : Option ℕ) → (made ≡ true → made_more ≡ true) → (made ≡ true → row_more ≡ None → row ≡ None) → IsLess (refusal number named made row) (refusal number other made_more row_more)
weaker number named other false made_more row row_more makes finds none = refl
weaker number named other true made_more row row_more makes finds none =
    subst (λ (place : Option ℕ). refusal number named true place ≡ None) (sym (finds refl (no_row number other made_more row_more none (makes refl)))) refl

-- the check of one table finds the same row in the same rows
pub one_table : {X : Type 0} (number : ℕ) (named : TableId) (made made_more : Bool) (rows other : X) (row : X → Option ℕ) → (made ≡ true → made_more ≡ true) → (made ≡ true → rows ≡ other) → IsLess (refusal number named made (row rows)) (refusal number named made_more (row other))
one_table number named made made_more rows other row makes same =
    weaker number named named made made_more (row rows) (row other) makes (λ is none. ap row (same is) ∙ none)

-- so does that of two tables
pub two_tables : {X Y : Type 0} (number : ℕ) (named : TableId) (one one_more two two_more : Bool) (rows other : X) (rows_too other_too : Y) (row : X → Y → Option ℕ) → (one ≡ true → one_more ≡ true) → (two ≡ true → two_more ≡ true) → (one ≡ true → rows ≡ other) → (two ≡ true → rows_too ≡ other_too) → IsLess (refusal number named (one && two) (row rows rows_too)) (refusal number named (one_more && two_more) (row other other_too))
two_tables number named one one_more two two_more rows other rows_too other_too row first second same same_too =
    weaker number named named (one && two) (one_more && two_more) (row rows rows_too) (row other other_too)
    (λ is. let parts = and_parts one two is in both one_more two_more (first parts.0) (second parts.1))
    (λ is none. let parts = and_parts one two is in ap (λ list. row list rows_too) (same parts.0) ∙ (ap (row other) (same_too parts.1) ∙ none))

-- ---- samples

-- a check that is made only where the samples are known
pub known_less : (less more : Option Refusal) (samples others : ℕ) → (samples ≡ 0) ⊎ (samples ≡ others) → (samples ≡ others → IsLess less more) → IsLess (cond (nat_lt 0 samples) less None) (cond (nat_lt 0 others) more None)
known_less less more samples others (inl none) is none_more = subst (λ (n : ℕ). cond (nat_lt 0 n) less None ≡ None) (sym none) refl
known_less less more samples others (inr same) is none_more =
    subst (λ (n : ℕ). cond (nat_lt 0 n) less None ≡ None) (sym same) (by (nat_lt 0 others) none_more)
  where
    by : (known : Bool) → cond known more None ≡ None → cond known less None ≡ None
    by true none = is same none
    by false none = refl

-- fewer of the same size are not above the most where more are not
pub zero_above-less : (most number other each : ℕ) → number ≤ other → zero_above most other each ≡ None → zero_above most number each ≡ None
zero_above-less most number other each fewer none =
    let within : other * each ≤ most = not_above most (other * each) 0 none in
    let less : number * each ≤ other * each = mul-le-mul_right each fewer in
    subst (λ (b : Bool). cond {A = Option ℕ} b (Some 0) None ≡ None) (sym (le-ltb most (number * each) (omega (arith, within, less)))) refl

-- a part of a sum that is there only where that of another is, and is at most that
pub part_less : (made made_more : Bool) (number other : ℕ) → (made ≡ true → made_more ≡ true) → (made ≡ true → number ≤ other) → cond made number 0 ≤ cond made_more other 0
part_less false made_more number other makes most = omega arith
part_less true made_more number other makes most = subst (λ (b : Bool). number ≤ cond b other 0) (sym (makes refl)) (most refl)
