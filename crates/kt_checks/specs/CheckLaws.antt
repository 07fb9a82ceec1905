-- What follows where a check refuses nothing.
-- The rule: docs/CHECKS.md, "Order".
use Rattle.std.specs.Prelude.{◌≡◌, ℕ, ◌≤◌, ◌+◌, ◌-◌, ◌<◌, ◌%◌, ◌&&◌, nat_eq, Bool, true, false, not, cond, List, [], ◌∷◌, ◌++◌, length, map, take, nat_lt, refl, Option, Some, None, All, slice_index_or, zero, suc}
use Rattle.std.specs.List.{AllPass, IsDistinct, fold, list_any, sum_by}
use Rattle.std.specs.Cmp.{IsEquivalence, nat_eq_equiv, and_equiv, on_equiv}
use Rattle.std.specs.Option.{option_or}
use Rattle.std.proofs.Common.{sym, subst, ◌∙◌, append-nil, append_assoc, arith, inl, inr}
use Rattle.std.proofs.lemmas.Bool.{cases_eq, eqb-true, ltb-false, not-false, or_parts}
use Rattle.std.proofs.lemmas.List.{get_or-map, length-map, nil_from_length}
use Rattle.std.proofs.lemmas.Map.Keys.{IsDistinct-push}
use Rattle.kt_rec.specs.declared.hazard.FootprintIdx.{FootprintIdx}
use Rattle.kt_rec.specs.declared.table.TableId.{TableId}
use Rattle.kt_rec.specs.LoadOrder.{each-in_order, load_order}
use Rattle.kt_rec.specs.Rows.{Rows}
use Rattle.kt_rec.specs.TableNames.{IsTableId}
use Rattle.kt_keys.specs.declared.need.Need.{Need}
use Rattle.kt_keys.specs.declared.need.Refusal.{Refusal}
use Rattle.kt_keys.specs.FirstRow.{first_where, first_refused_after, repeated_at, unknown_at}
use Rattle.kt_checks.specs.TableChecks.{IsPlaced, is_misplaced, none_at, sum_above_at}
use Rattle.kt_keys.specs.Keys.{same_pair, same_triple}
use Rattle.kt_keys.specs.Refusals.{refusal, first_of, over_stages}
use Rattle.kt_checks.specs.Checks.{IsValid, KeepsCheck, first_refusal, checks_of}
use Rattle.kt_rec.specs.Options.{both_none}

-- ---- tests

-- both of two tables are loaded
pub both : (a b : Bool) → a ≡ true → b ≡ true → (a && b) ≡ true
both true b is also = also
both false b is also = is

-- what is not refused where a test fails is the case where the test passes
pub unnot : (b : Bool) → not b ≡ false → b ≡ true
unnot true h = refl
unnot false h = sym h

-- of two tests that are not both passed, the second fails where the first passes
pub second_fails : (one other : Bool) → (one && other) ≡ false → one ≡ true → other ≡ false
second_fails true other h is = h
second_fails false other h is = cc

-- ---- refusals

-- where the first of several refusals is none, each is none
pub each_none : (refusals : List (Option Refusal)) → first_of refusals ≡ None → (place : ℕ) → slice_index_or refusals place None ≡ None
each_none refusals none = from None refusals none
  where
    stays : (found : Refusal) (refusals : List (Option Refusal)) → fold option_or (Some found) refusals ≡ Some found
    stays found [] = refl
    stays found (refusal ∷ refusals) = stays found refusals

    from : (found : Option Refusal) (refusals : List (Option Refusal)) → fold option_or found refusals ≡ None → (place : ℕ) → slice_index_or refusals place None ≡ None
    from found [] h place = refl
    from None (None ∷ refusals) h zero = refl
    from None (None ∷ refusals) h (suc place) = from None refusals h place
    from None (Some next ∷ refusals) h place = let e = sym (stays next refusals) ∙ h in cc
    from (Some found) (refusal ∷ refusals) h place = let e = sym (stays found refusals) ∙ h in cc

-- where the first refusal of a check of all tables is none, it refuses none of them
pub listed_none : (check : TableId → Option Refusal) → first_of (map check load_order) ≡ None → (id : TableId) → IsTableId id → check id ≡ None
listed_none check none = each-in_order (λ id. check id ≡ None) (λ k d below. sym (get_or-map check load_order k d None below) ∙ each_none (map check load_order) none k)

-- valid tables keep each check
pub keeps-from_valid : (number : ℕ) (rows : Rows) (need : Need) → IsValid rows need → KeepsCheck number rows need
unfolding first_refusal
keeps-from_valid number rows need valid = record { none = each_none (checks_of rows need) valid.none (number - 1) }

-- a check that is made and refuses nothing finds no row
pub no_row : (number : ℕ) (table : TableId) (made : Bool) (row : Option ℕ) → refusal number table made row ≡ None → made ≡ true → row ≡ None
no_row number table made None h is = refl
no_row number table true (Some row) h is = cc
no_row number table false (Some row) h is = cc

-- ---- rows

-- a fact of a row and of the rows behind it
all_cons : {A : Type 0} (P : A → Type 0) (row : A) (rows : List A) → P row → All P rows → All P (row ∷ rows)
all_cons P row rows here there = λ k d below. elim k as (λ n. n < length (row ∷ rows) → P (slice_index_or (row ∷ rows) n d)) [ zero ↦ λ _. here | suc n ↦ λ b. there n d (omega arith) ] below

-- where no row is refused, each row fails the test
pub none_passes : {A : Type 0} (test : A → Bool) (rows : List A) → first_where test rows ≡ None → All (λ row. test row ≡ false) rows
none_passes {A} test rows none = from [] rows none
  where
    step : (b : Bool) (earlier : List A) (row : A) (rows : List A) → test row ≡ b → cond b (Some (length earlier + 1)) (first_refused_after (λ _ x. test x) (earlier ++ row ∷ []) rows) ≡ None → (first_refused_after (λ _ x. test x) (earlier ++ row ∷ []) rows ≡ None → All (λ x. test x ≡ false) rows) → All (λ x. test x ≡ false) (row ∷ rows)
    step true earlier row rows is h rest = cc
    step false earlier row rows is h rest = all_cons (λ x. test x ≡ false) row rows is (rest h)

    from : (earlier rows : List A) → first_refused_after (λ _ row. test row) earlier rows ≡ None → All (λ row. test row ≡ false) rows
    from earlier [] h = λ k d below. absurd (omega arith)
    from earlier (row ∷ rows) h = step (test row) earlier row rows refl h (from (earlier ++ row ∷ []) rows)

-- what is not misplaced is placed
placed : (bytes : ℕ) (row : FootprintIdx) → is_misplaced bytes row ≡ false → IsPlaced bytes row
placed bytes row h =
    let within = or_parts _ (nat_lt bytes (row.offset + row.size)) h in
    let few = or_parts _ (nat_lt 1200000 row.size) within.0 in
    let size = or_parts _ (not (nat_eq (row.size % 12) 0)) few.0 in
    let place = or_parts (nat_lt row.offset 16) (not (nat_eq ((row.offset - 16) % 12) 0)) size.0 in
    record {
      behind_header = ltb-false _ _ place.0;
      whole_place = eqb-true _ _ (not-false _ place.1);
      whole_size = eqb-true _ _ (not-false _ size.1);
      few = ltb-false _ _ few.1;
      within = ltb-false _ _ within.1;
    }

-- where no row of the footprint's index is misplaced, each is placed
pub each_placed : (bytes : ℕ) (rows : List FootprintIdx) → first_where (is_misplaced bytes) rows ≡ None → All (IsPlaced bytes) rows
each_placed bytes rows none = λ k d below. placed bytes _ (none_passes (is_misplaced bytes) rows none k d below)

-- where no key is unknown, each is among the known ones
pub each_known : {K : Type 0} (same : K → K → Bool) (known keys : List K) → unknown_at same known keys ≡ None → AllPass (λ key. list_any (same key) known) keys
unfolding unknown_at
each_known same known keys none = λ k d below. unnot _ (none_passes (λ key. not (list_any (same key) known)) keys none k d below)

-- where no key is repeated, the keys are distinct
pub distinct-from_keys : {K : Type 0} {same : K → K → Bool} → IsEquivalence same → (keys : List K) → repeated_at same keys ≡ None → IsDistinct same keys
unfolding IsDistinct
distinct-from_keys {K} {same} laws keys none = from [] keys none tt
  where
    step : (b : Bool) (earlier : List K) (key : K) (keys : List K) → list_any (same key) earlier ≡ b → cond b (Some (length earlier + 1)) (first_refused_after (λ before x. list_any (same x) before) (earlier ++ key ∷ []) keys) ≡ None → IsDistinct same earlier → (first_refused_after (λ before x. list_any (same x) before) (earlier ++ key ∷ []) keys ≡ None → IsDistinct same (earlier ++ key ∷ []) → IsDistinct same ((earlier ++ key ∷ []) ++ keys)) → IsDistinct same (earlier ++ (key ∷ keys))
    step true earlier key keys is h d rest = cc
    step false earlier key keys is h d rest = subst (IsDistinct same) (append_assoc earlier (key ∷ []) keys) (rest h (IsDistinct-push laws earlier key d is))

    from : (earlier keys : List K) → first_refused_after (λ before key. list_any (same key) before) earlier keys ≡ None → IsDistinct same earlier → IsDistinct same (earlier ++ keys)
    from earlier [] h d = subst (IsDistinct same) (sym (append-nil earlier)) d
    from earlier (key ∷ keys) h d = step (list_any (same key) earlier) earlier key keys refl h d (from (earlier ++ key ∷ []) keys)

-- where no sum is too large, the whole sum is not
pub sum_within : {A : Type 0} (value : A → ℕ) (rows : List A) → sum_above_at value rows ≡ None → sum_by value rows ≤ 100000000000000
sum_within {A} value rows none = from [] rows none (omega arith)
  where
    step : (b : Bool) (earlier : List A) (row : A) (rows : List A) → nat_lt 100000000000000 (sum_by value (earlier ++ row ∷ [])) ≡ b → cond b (Some (length earlier + 1)) (first_refused_after (λ before x. nat_lt 100000000000000 (sum_by value (before ++ x ∷ []))) (earlier ++ row ∷ []) rows) ≡ None → (first_refused_after (λ before x. nat_lt 100000000000000 (sum_by value (before ++ x ∷ []))) (earlier ++ row ∷ []) rows ≡ None → sum_by value (earlier ++ row ∷ []) ≤ 100000000000000 → sum_by value ((earlier ++ row ∷ []) ++ rows) ≤ 100000000000000) → sum_by value (earlier ++ (row ∷ rows)) ≤ 100000000000000
    step true earlier row rows is h rest = cc
    step false earlier row rows is h rest = subst (λ all. sum_by value all ≤ 100000000000000) (append_assoc earlier (row ∷ []) rows) (rest h (ltb-false _ _ is))

    from : (earlier rows : List A) → first_refused_after (λ before x. nat_lt 100000000000000 (sum_by value (before ++ x ∷ []))) earlier rows ≡ None → sum_by value earlier ≤ 100000000000000 → sum_by value (earlier ++ rows) ≤ 100000000000000
    from earlier [] h le = subst (λ all. sum_by value all ≤ 100000000000000) (sym (append-nil earlier)) le
    from earlier (row ∷ rows) h le = step (nat_lt 100000000000000 (sum_by value (earlier ++ row ∷ []))) earlier row rows refl h (from (earlier ++ row ∷ []) rows)

-- where nothing is refused over the stages, nothing is at each stage
pub stage_none : (check : ℕ → Option Refusal) (stages stage : ℕ) → over_stages check stages ≡ None → stage < stages → check stage ≡ None
unfolding over_stages
stage_none check zero stage none below = absurd (omega arith)
stage_none check (suc stages) stage none below =
    let split = both_none (over_stages check stages) (check stages) none in
    elim (cases_eq stage stages) [
      | inl same ↦ subst (λ n. check n ≡ None) (sym same) split.1
      | inr other ↦ stage_none check stages stage split.0 (omega arith)
    ]

-- ---- counts

-- where no row is named for a count above the most, it is at most that
pub not_above : (most count row : ℕ) → cond (nat_lt most count) (Some row) None ≡ None → count ≤ most
not_above most count row none = by (nat_lt most count) refl none
  where
    by : (b : Bool) → nat_lt most count ≡ b → cond b (Some row) None ≡ None → count ≤ most
    by true e h = cc
    by false e h = ltb-false most count e

-- where a table is not named for having no row, it has one
pub not_empty : (rows : ℕ) → none_at rows ≡ None → 1 ≤ rows
not_empty zero none = cc
not_empty (suc rows) none = omega arith

-- ---- keys

-- having the same parts is an equivalence of pairs
pub same_pair_equiv : IsEquivalence same_pair
same_pair_equiv = and_equiv (on_equiv (λ (pair : ℕ × ℕ). pair.0) nat_eq_equiv) (on_equiv (λ (pair : ℕ × ℕ). pair.1) nat_eq_equiv)

-- having the same parts is an equivalence of triples
pub same_triple_equiv : IsEquivalence same_triple
same_triple_equiv = and_equiv (and_equiv (on_equiv (λ (key : ℕ × ℕ × ℕ). key.0) nat_eq_equiv) (on_equiv (λ (key : ℕ × ℕ × ℕ). key.1) nat_eq_equiv)) (on_equiv (λ (key : ℕ × ℕ × ℕ). key.2) nat_eq_equiv)

-- ---- rows of a table

-- a fact of all rows of a table, which has none where it is not loaded
pub all_loaded : {X : Type 0} (P : X → Type 0) (rows : List X) (loaded : Bool) → (loaded ≡ false → length rows ≡ 0) → (loaded ≡ true → All P rows) → All P rows
all_loaded P rows true empty all = all refl
all_loaded P rows false empty all = λ k d below. let none = empty refl in absurd (omega arith)

-- the keys of a table whose check of keys refuses nothing are distinct; it has none where it is not loaded
pub apart_loaded : {X K : Type 0} {same : K → K → Bool} → IsEquivalence same → (key : X → K) (rows : List X) (number : ℕ) (table : TableId) (loaded : Bool) → (loaded ≡ false → length rows ≡ 0) → refusal number table loaded (repeated_at same (map key rows)) ≡ None → IsDistinct same (map key rows)
unfolding IsDistinct
apart_loaded laws key rows number table true empty none = distinct-from_keys laws (map key rows) (no_row number table true _ none refl)
apart_loaded {X} {K} {same} laws key rows number table false empty none = subst (λ list. IsDistinct same (map key list)) (sym (nil_from_length rows (empty refl))) tt

-- where the check of what rows name refuses nothing, it is known; the rows' table has none where it is not loaded
pub known_loaded : {X K : Type 0} (same : K → K → Bool) (known : List K) (key : X → K) (rows : List X) (number : ℕ) (table : TableId) (loaded : Bool) → (loaded ≡ false → length rows ≡ 0) → (also : Bool) → also ≡ true → refusal number table (loaded && also) (unknown_at same known (map key rows)) ≡ None → All (λ row. list_any (same (key row)) known ≡ true) rows
known_loaded same known key rows number table loaded empty also is none =
    all_loaded (λ row. list_any (same (key row)) known ≡ true) rows loaded empty
    (λ here k d below. subst (λ id. list_any (same id) known ≡ true) (get_or-map key rows k d (key d) below)
    (each_known same known (map key rows) (no_row number table (loaded && also) _ none (both loaded also here is)) k (key d) (subst (λ n. k < n) (sym (length-map rows key)) below)))

-- a row that is not refused behind those before it
pub none_refused : {A : Type 0} (refuses : List A → A → Bool) (rows : List A) → first_refused_after refuses [] rows ≡ None → (k : ℕ) (d : A) → k < length rows → refuses (take k rows) (slice_index_or rows k d) ≡ false
none_refused {A} refuses rows none k d below = from [] rows none k below
  where
    step : (b : Bool) (n : ℕ) (found : Option ℕ) → cond b (Some n) found ≡ None → (b ≡ false) × (found ≡ None)
    step true n found h = cc
    step false n found h = (refl, h)

    from : (earlier rows : List A) → first_refused_after refuses earlier rows ≡ None → (k : ℕ) → k < length rows → refuses (earlier ++ take k rows) (slice_index_or rows k d) ≡ false
    from earlier [] h k below = absurd (omega arith)
    from earlier (row ∷ rows) h zero below = subst (λ before. refuses before row ≡ false) (sym (append-nil earlier)) (step _ _ _ h).0
    from earlier (row ∷ rows) h (suc k) below = subst (λ before. refuses before (slice_index_or rows k d) ≡ false) (append_assoc earlier (row ∷ []) (take k rows)) (from (earlier ++ row ∷ []) rows (step _ _ _ h).1 k (omega arith))
