-- The sidx of rows, and the pairs that rows make.
-- The rule: docs/FINANCIAL_MODULE.md, "Insured losses".
use Rattle.std.specs.Prelude.{◌≡◌, ℕ, zero, suc, ◌+◌, ◌-◌, ◌<◌, ◌≤◌, Bool, true, false, cond, nat_eq, nat_lt, ℤ, pos, negsuc, List, [], ◌∷◌, ◌++◌, Option, length, map, slice_index_or, take}
use Rattle.std.specs.List.{AllByRecursion, cons_option, filter_map, range_with_len}
use Rattle.std.proofs.Common.{refl, sym, ap, ◌∙◌, arith, add-one}
use Rattle.std.proofs.lemmas.Bool.{eqb-true}
use Rattle.std.proofs.lemmas.Bool.Decides.{nat_tests}
use Rattle.std.proofs.lemmas.List.{take_more}
use Rattle.std.proofs.lemmas.List.Elements.{filter_map-append}
use Rattle.kt_stream.specs.declared.entry.Pair.{Pair}
use Rattle.kt_runs.specs.Sidx.{pair_of, pairs_of, sidx_at}
use Rattle.kt_runs.specs.Records.{insured_range}
use Rattle.kt_runs.specs.LaneRows.{pairs_by_row, row_place}

-- ---- lists

-- what holds of each number of a range
pub each-range : (P : ℕ → Type 0) (a n : ℕ) → ((k : ℕ) → a ≤ k → k < a + n → P k) → AllByRecursion P (range_with_len a n)
each-range P a zero all = tt
each-range P a (suc n) all = (all a (omega arith) (omega arith), each-range P (a + 1) n (λ k low high. all k (omega arith) (omega arith)))

-- what agrees for each makes the same
pub filter_map-agree : {X Y : Type 0} (f g : X → Option Y) (xs : List X) → AllByRecursion (λ x. f x ≡ g x) xs → filter_map f xs ≡ filter_map g xs
filter_map-agree f g [] same = refl
filter_map-agree f g (x ∷ xs) same = ap (λ one. cons_option one (filter_map f xs)) same.0 ∙ ap (cons_option (g x)) (filter_map-agree f g xs same.1)

-- what is made of what each becomes
pub filter_map-map : {X Y Z : Type 0} (f : Y → Option Z) (g : X → Y) (xs : List X) → filter_map f (map g xs) ≡ filter_map (λ x. f (g x)) xs
filter_map-map f g [] = refl
filter_map-map f g (x ∷ xs) = ap (cons_option (f (g x))) (filter_map-map f g xs)

-- what is made of each
pub made-more : {X Y : Type 0} (f : X → Option Y) (xs : List X) (now next : List Y) (i : ℕ) (d : X) → i < length xs → now ≡ filter_map f (take i xs) → next ≡ now ++ cons_option (f (slice_index_or xs i d)) [] → next ≡ filter_map f (take (i + 1) xs)
made-more f xs now next i d below now_is next_is =
    next_is
    ∙ (ap (λ front. front ++ cons_option (f (slice_index_or xs i d)) []) now_is
    ∙ sym (ap (filter_map f) (take_more xs i d below) ∙ filter_map-append f (take i xs) (slice_index_or xs i d ∷ [])))

-- what is made of each number of a range and of one more
counted-more : {Y : Type 0} (f : ℕ → Option Y) (n : ℕ) (now next : List Y) → now ≡ filter_map f (range_with_len 0 n) → next ≡ now ++ cons_option (f n) [] → next ≡ filter_map f (range_with_len 0 (n + 1))
counted-more f n now next now_is next_is =
    next_is
    ∙ (ap (λ front. front ++ cons_option (f n) []) now_is
    ∙ sym (ap (filter_map f) (ap (range_with_len 0) (add-one n) ∙ last 0 n n (omega arith)) ∙ filter_map-append f (range_with_len 0 n) (n ∷ [])))
  where
    last : (a n j : ℕ) → a + n ≡ j → range_with_len a (suc n) ≡ range_with_len a n ++ j ∷ []
    last a zero j e = let same : a ≡ j = omega arith in ap (λ k. k ∷ []) same
    last a (suc n) j e = ap (λ l. a ∷ l) (last (a + 1) n j (omega arith))

-- ---- the sidx of rows

-- a row behind the first is that of a sample
pub sample-place : (row : ℕ) → 1 ≤ row → sidx_at (row_place row) ≡ pos row
sample-place row some = ap (λ b. sidx_at (cond b 2147483647 (2147483648 + row))) (other row some) ∙ (ap (λ b. cond b (negsuc (2147483647 - (2147483648 + row))) (pos (2147483648 + row - 2147483648))) (above row) ∙ ap pos (omega arith))
  where
    other : (n : ℕ) → 1 ≤ n → nat_eq n 0 ≡ false
    other n some = grind (arith, nat_tests)

    above : (n : ℕ) → nat_lt (2147483648 + n) 2147483648 ≡ false
    above n = grind (arith, nat_tests)

-- the place of a row tells it
pub row-back : (row : ℕ) → row ≡ row_place row - 2147483648
row-back row = by (nat_eq row 0) refl
  where
    by : (b : Bool) → nat_eq row 0 ≡ b → row ≡ cond b 2147483647 (2147483648 + row) - 2147483648
    by true is = let none = eqb-true row 0 is in omega (arith, none)
    by false is = omega arith

-- the place of a row from that of sidx -2
pub place-in : (row samples : ℕ) → row ≤ samples → (row_place row - 2147483646 < samples + 3) × (2147483646 + (row_place row - 2147483646) ≡ row_place row)
place-in row samples most = by (nat_eq row 0)
  where
    by : (b : Bool) → (cond b 2147483647 (2147483648 + row) - 2147483646 < samples + 3) × (2147483646 + (cond b 2147483647 (2147483648 + row) - 2147483646) ≡ cond b 2147483647 (2147483648 + row))
    by true = (omega arith, omega arith)
    by false = (omega arith, omega arith)

map-each : {X Y : Type 0} (f g : X → Y) (xs : List X) → AllByRecursion (λ x. f x ≡ g x) xs → map f xs ≡ map g xs
map-each f g [] same = refl
map-each f g (x ∷ xs) same = ap (λ y. y ∷ map f xs) same.0 ∙ ap (λ ys. g x ∷ ys) (map-each f g xs same.1)

-- the sidx of all rows
pub range-is : (samples : ℕ) → insured_range samples ≡ map (λ row. sidx_at (row_place row)) (range_with_len 0 (samples + 1))
range-is samples = sym (ap (λ n. map (λ row. sidx_at (row_place row)) (range_with_len 0 n)) (add-one samples) ∙ ap (λ rest. negsuc 0 ∷ rest) (map-each (λ row. sidx_at (row_place row)) pos (range_with_len 1 samples) (each-range (λ row. sidx_at (row_place row) ≡ pos row) 1 samples (λ row low high. sample-place row low))))

-- ---- pairs row by row

-- the pairs of one more row
pub rows-more : (amount : ℕ → ℕ) (row loss : ℕ) (pairs longer : List Pair) → pairs ≡ pairs_by_row amount row → loss ≡ amount row → longer ≡ pairs ++ cons_option (pair_of (sidx_at (row_place row)) loss) [] → longer ≡ pairs_by_row amount (row + 1)
rows-more amount row loss pairs longer so_far loss_is longer_is =
    counted-more (λ row. pair_of (sidx_at (row_place row)) (amount row)) row pairs longer so_far
    (longer_is ∙ ap (λ loss. pairs ++ cons_option (pair_of (sidx_at (row_place row)) loss) []) loss_is)

-- the pairs of all rows are those of the mean and of the samples
pub rows-are : (samples : ℕ) (amount : ℕ → ℕ) (loss : ℤ → ℕ) → ((row : ℕ) → row < samples + 1 → amount row ≡ loss (sidx_at (row_place row))) → pairs_by_row amount (samples + 1) ≡ pairs_of loss (insured_range samples)
rows-are samples amount loss same =
    filter_map-agree (λ row. pair_of (sidx_at (row_place row)) (amount row)) (λ row. pair_of (sidx_at (row_place row)) (loss (sidx_at (row_place row)))) (range_with_len 0 (samples + 1))
    (each-range (λ row. pair_of (sidx_at (row_place row)) (amount row) ≡ pair_of (sidx_at (row_place row)) (loss (sidx_at (row_place row)))) 0 (samples + 1)
    (λ row low high. ap (pair_of (sidx_at (row_place row))) (same row (omega arith))))
    ∙ (sym (filter_map-map (λ sidx. pair_of sidx (loss sidx)) (λ row. sidx_at (row_place row)) (range_with_len 0 (samples + 1)))
    ∙ ap (filter_map (λ sidx. pair_of sidx (loss sidx))) (sym (range-is samples)))

-- amounts that agree in so many rows have the same pairs
pub pairs-agree : (one other : ℕ → ℕ) (rows : ℕ) → ((row : ℕ) → row < rows → one row ≡ other row) → pairs_by_row one rows ≡ pairs_by_row other rows
pairs-agree one other rows same =
    filter_map-agree (λ row. pair_of (sidx_at (row_place row)) (one row)) (λ row. pair_of (sidx_at (row_place row)) (other row)) (range_with_len 0 rows)
    (each-range (λ row. pair_of (sidx_at (row_place row)) (one row) ≡ pair_of (sidx_at (row_place row)) (other row)) 0 rows (λ row low high. ap (pair_of (sidx_at (row_place row))) (same row (omega (arith, high)))))
