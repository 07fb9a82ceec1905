-- An index whose rows are few, distinct and placed is refused by no check.
use Rattle.std.proofs.Common.{◌≡◌, ℕ, ◌+◌, ◌-◌, ◌≤◌, ◌%◌, Bool, true, false, cond, List, [], ◌∷◌, ◌++◌, length, map, refl, ap, ◌∙◌, Option, None, Some}
use Rattle.std.specs.Prelude.{◌||◌, drop, nat_eq}
use Rattle.std.specs.Cmp.{nat_eq_equiv}
use Rattle.std.specs.List.{AllByRecursion, IsDistinct, fold, list_any}
use Rattle.std.specs.Option.{option_or}
use Rattle.std.proofs.lemmas.Bool.{eq-eqb, le-ltb}
use Rattle.std.proofs.lemmas.List.Folds.{list_any-append}
use Rattle.kt_rec.specs.LoadOrder.{load_order}
use Rattle.kt_rec.specs.Rows.{no_rows}
use Rattle.kt_rec.specs.declared.hazard.FootprintIdx.{FootprintIdx}
use Rattle.kt_rec.specs.declared.table.Table.TheVariants as table
use Rattle.kt_keys.specs.FirstRow.{first_refused_after, first_where, repeated_at}
use Rattle.kt_keys.specs.KeyChecks.{key_check, key_checks}
use Rattle.kt_keys.specs.Refusals.{at_stage, first_of, is_loaded, over_stages, refusal}
use Rattle.kt_keys.specs.declared.need.Refusal.{Refusal}
use Rattle.kt_checks.specs.Checks.{checks_of, first_refusal, programme_checks, size_checks, table_checks}
use Rattle.kt_checks.specs.TableChecks.{is_misplaced, limit_check, limit_checks, row_past}
use Rattle.kt_schema.specs.Footprint.{IsEntryOf}
use Rattle.kt_footprint.specs.GoRound.{index_need}

-- where each refusal is none, so is the first
pub all-none : (refusals : List (Option Refusal)) → AllByRecursion (λ refusal. refusal ≡ None) refusals → first_of refusals ≡ None
all-none [] all = refl
all-none (None ∷ refusals) all = all-none refusals all.1
all-none (Some refusal ∷ refusals) all = cc

-- where no row is refused, there is no first
pub passes-all : {A : Type 0} (test : A → Bool) (earlier rows : List A) → AllByRecursion (λ row. test row ≡ false) rows → first_refused_after (λ _ row. test row) earlier rows ≡ None
passes-all test earlier [] all = refl
passes-all test earlier (row ∷ rows) all = ap (λ b. cond b (Some (length earlier + 1)) (first_refused_after (λ _ x. test x) (earlier ++ row ∷ []) rows)) all.0 ∙ passes-all test (earlier ++ row ∷ []) rows all.1

-- distinct keys that are none of earlier ones have no repeated one
none-repeated : (earlier keys : List ℕ) → AllByRecursion (λ key. list_any (nat_eq key) earlier ≡ false) keys → IsDistinct nat_eq keys → first_refused_after (λ before key. list_any (nat_eq key) before) earlier keys ≡ None
unfolding IsDistinct
none-repeated earlier [] new distinct = refl
none-repeated earlier (key ∷ keys) new distinct =
    ap (λ b. cond b (Some (length earlier + 1)) (first_refused_after (λ before x. list_any (nat_eq x) before) (earlier ++ key ∷ []) keys)) new.0
    ∙ none-repeated (earlier ++ key ∷ []) keys (one-more keys new.1 distinct.0) distinct.1
  where
    one-more : (later : List ℕ) → AllByRecursion (λ x. list_any (nat_eq x) earlier ≡ false) later → AllByRecursion (λ x. nat_eq key x ≡ false) later → AllByRecursion (λ x. list_any (nat_eq x) (earlier ++ key ∷ []) ≡ false) later
    one-more [] new apart = tt
    one-more (x ∷ later) new apart =
        (list_any-append (nat_eq x) earlier (key ∷ []) ∙ (ap (λ b. b || (nat_eq x key || false)) new.0 ∙ ap (λ b. b || false) (nat_eq_equiv.symm x key ∙ apart.0)), one-more later new.1 apart.1)

-- distinct keys have no repeated one
pub distinct-none : (keys : List ℕ) → IsDistinct nat_eq keys → repeated_at nat_eq keys ≡ None
distinct-none keys distinct = none-repeated [] keys (fresh keys) distinct
  where
    fresh : (all : List ℕ) → AllByRecursion (λ key. list_any (nat_eq key) [] ≡ false) all
    fresh [] = tt
    fresh (key ∷ all) = (refl, fresh all)

-- an entry that names whole records of a file is not misplaced in it
not-misplaced : (bytes : ℕ) (entry : FootprintIdx) → IsEntryOf bytes entry → is_misplaced bytes entry ≡ false
not-misplaced bytes entry is =
    rw (le-ltb entry.offset 16 is.behind_header, eq-eqb ((entry.offset - 16) % 12) 0 is.whole_place, eq-eqb (entry.size % 12) 0 is.whole_size, le-ltb 1200000 entry.size is.few, le-ltb bytes (entry.offset + entry.size) is.within) refl

-- so no entry of an index of such is
pub none-misplaced : (bytes : ℕ) (index : List FootprintIdx) → AllByRecursion (IsEntryOf bytes) index → first_where (is_misplaced bytes) index ≡ None
none-misplaced bytes index entries = passes-all (is_misplaced bytes) [] index (each index entries)
  where
    each : (all : List FootprintIdx) → AllByRecursion (IsEntryOf bytes) all → AllByRecursion (λ row. is_misplaced bytes row ≡ false) all
    each [] entries = tt
    each (entry ∷ all) entries = (not-misplaced bytes entry entries.0, each all entries.1)

-- the checks refuse nothing of an index alone that has few rows of distinct events
pub none-refused : (index : List FootprintIdx) → length index ≤ 1000000 → IsDistinct nat_eq (map (λ row. row.event_id) index) → first_refusal (record no_rows { footprint_idx = index }) index_need ≡ None
unfolding first_refusal table_checks programme_checks size_checks is_loaded over_stages
none-refused index few distinct =
    all-none (checks_of (record no_rows { footprint_idx = index }) index_need)
    (limits, (keys, (refl, (refl, (refl, (refl, (refl, (refl, (refl, (refl, (refl, (refl, (refl, (refl, (refl, (refl, (refl, (refl, (refl, (refl, (refl, tt)))))))))))))))))))))
  where
    past : row_past 1000000 (length index) ≡ None
    past = ap (λ b. cond b (Some 1000001) None) (le-ltb 1000000 (length index) few)

    limits : limit_checks (record no_rows { footprint_idx = index }) index_need ≡ None
    limits = ap (λ (found : Option ℕ). fold option_or (refusal 1 (at_stage 0 table.FootprintIdx) true found) (map (limit_check (record no_rows { footprint_idx = index }) index_need) (drop 5 load_order))) past

    keys : key_checks (record no_rows { footprint_idx = index }) index_need ≡ None
    keys = ap (λ (found : Option ℕ). fold option_or (refusal 2 (at_stage 0 table.FootprintIdx) true found) (map (key_check (record no_rows { footprint_idx = index }) index_need) (drop 5 load_order))) (distinct-none (map (λ row. row.event_id) index) distinct)
