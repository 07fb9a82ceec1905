-- The mean and the deviation over all periods, from the amounts that are there.
use Rattle.std.proofs.Common.{◌≡◌, ℕ, suc, ◌+◌, ◌*◌, ◌≤◌, List, [], ◌∷◌, length, map, arith, refl, sym, ap, ◌∙◌, cond, Bool, true, false, sum, sum_by, ℤ, pos, Option, Some, None, is_some, int_eq}
use Rattle.std.specs.List.{filter}
use Rattle.std.proofs.lemmas.List.Sums.{sum_by-cons, sum-map}
use Rattle.std.proofs.lemmas.List.FromFn.{length-map-range_with_len}
use Rattle.std.proofs.lemmas.Nat.{mul-le}
use Rattle.kt_money.specs.declared.moments.MeanSd.{MeanSd}
use Rattle.kt_money.specs.Rounding.{mean_of, deviation_of}
use Rattle.kt_money.specs.RoundingLaws.{squares-sum-le}
use Rattle.kt_rec.specs.declared.perspective.Perspective.{Perspective}
use Rattle.kt_rec.specs.declared.perspective.CellKey.{CellKey}
use Rattle.kt_cell.specs.declared.cell.Cell.{Cell}
use Rattle.kt_curve.specs.Grid.{keys_for, sidx_of_kind, moments_of, sample_sidx, mean_sidx}
use Rattle.kt_cell.specs.Sets.{of_kind, IsGroup}
use Rattle.kt_cell.specs.Losses.{one_if}
use Rattle.kt_cell.specs.Standing.{cell_at, sidx_in_range}
use Rattle.kt_cell.specs.Amounts.{amount_in, amount_at, amounts_of}
use Rattle.kt_curve.proofs.Grids.{group_sum, group_sum_by, kind_times, times, length_keys}

-- a sum over what a function gives
pub sum_by_map : {X Y : Type 0} (f : Y → ℕ) (h : X → Y) (xs : List X) → sum_by f (map h xs) ≡ sum_by (λ x. f (h x)) xs
sum_by_map f h [] = refl
sum_by_map f h (x ∷ xs) = sum_by-cons f (h x) (map h xs) ∙ ap (λ n. f (h x) + n) (sum_by_map f h xs) ∙ sym (sum_by-cons (λ y. f (h y)) x xs)

-- 1 for what is there
abbrev there : Option Cell → ℕ
there o = cond (is_some o) 1 0

-- as many ones as there are
ones : {X : Type 0} (xs : List X) → sum_by (λ x. 1) xs ≡ length xs
ones [] = refl
ones (x ∷ xs) = sum_by-cons (λ y. 1) x xs ∙ omega (arith, ones xs)

-- at most as many as there are
at_most : {X : Type 0} (f : X → ℕ) → ((x : X) → f x ≤ 1) → (xs : List X) → sum_by f xs ≤ length xs
at_most f one [] = omega arith
at_most f one (x ∷ xs) = omega (arith, sum_by-cons f x xs, one x, at_most f one xs)

-- there are at most as many entries that pass a test as keys that it is for
pub few_by : (p : Perspective) (s n samples u : ℕ) (group : List (CellKey × Cell)) (sidxs : List ℤ) (test : CellKey × Cell → Bool) → IsGroup p s n samples u group →
    ((e : CellKey × Cell) → sidx_in_range samples e.0.sidx ≡ true → times (λ x. int_eq x e.0.sidx) sidxs ≡ one_if (test e)) →
    length (filter test group) ≤ length (keys_for p s u sidxs n)
few_by p s n samples u group sidxs test is tested =
    let all : sum_by (λ key. there (cell_at group key)) (keys_for p s u sidxs n) ≡ sum_by (λ (e : CellKey × Cell). 1) (filter test group) = group_sum_by there refl p s n samples u group sidxs test is tested in
    omega (arith, all, ones (filter test group), at_most (λ (key : CellKey). there (cell_at group key)) (λ key. below (cell_at group key)) (keys_for p s u sidxs n))
  where
    below : (o : Option Cell) → there o ≤ 1
    below None = omega arith
    below (Some c) = omega arith

-- of the means, or of all samples
pub group_few : (p : Perspective) (s n samples u : ℕ) (group : List (CellKey × Cell)) (mean : Bool) → IsGroup p s n samples u group →
    length (filter (of_kind mean) group) ≤ length (keys_for p s u (sidx_of_kind mean samples) n)
group_few p s n samples u group mean is =
    few_by p s n samples u group (sidx_of_kind mean samples) (of_kind mean) is (λ e within. kind_times mean samples e.0.sidx within)

-- how many keys a kind has
pub count_keys : (p : Perspective) (s n samples u : ℕ) (mean : Bool) → length (keys_for p s u (sidx_of_kind mean samples) n) ≡ cond mean n (n * samples)
count_keys p s n samples u true = length_keys p s u n mean_sidx ∙ omega arith
count_keys p s n samples u false = length_keys p s u n (sample_sidx samples) ∙ ap (λ m. m * n) (length-map-range_with_len pos 1 samples) ∙ omega arith

-- the sum of squares of at most `count` amounts, and of their sum
pub spread : (count : ℕ) (amounts : List ℕ) → length amounts ≤ count → sum amounts * sum amounts ≤ count * sum_by (λ amount. amount * amount) amounts
spread count amounts few =
    let squares : sum (map (λ amount. amount * amount) amounts) ≡ sum_by (λ amount. amount * amount) amounts = sum-map (λ amount. amount * amount) amounts in
    let one = rw squares at (squares-sum-le amounts) in
    omega (arith, one, mul-le (length amounts) (sum_by (λ amount. amount * amount) amounts) count (sum_by (λ amount. amount * amount) amounts) few (omega arith))

-- the mean and the deviation of so many amounts with this sum and this sum of squares
abbrev moments : ℕ → ℕ → ℕ → MeanSd
moments count total squares = record { mean = mean_of count total; sd = deviation_of count total squares }

-- there is no amount where there is no cell
pub no_amount : (maxima : Bool) → amount_in maxima None ≡ 0
no_amount true = refl
no_amount false = refl

-- the mean and the deviation of all periods are those of the amounts that are there
pub group_moments : (p : Perspective) (s n samples u : ℕ) (group : List (CellKey × Cell)) (maxima mean : Bool) (count : ℕ) → IsGroup p s n samples u group →
    moments_of count (map (amount_at maxima group) (keys_for p s u (sidx_of_kind mean samples) n)) ≡ moments_of count (amounts_of maxima (of_kind mean) group)
group_moments p s n samples u group maxima mean count is = λ i. moments count (sums i) (squares i)
  where
    sums : sum (map (amount_at maxima group) (keys_for p s u (sidx_of_kind mean samples) n)) ≡ sum (amounts_of maxima (of_kind mean) group)
    sums =
        sum-map (amount_at maxima group) (keys_for p s u (sidx_of_kind mean samples) n) ∙ group_sum (amount_in maxima) (no_amount maxima) p s n samples u group mean is
        ∙ sym (sum-map (λ (entry : CellKey × Cell). amount_in maxima (Some entry.1)) (filter (of_kind mean) group))

    squares : sum_by (λ amount. amount * amount) (map (amount_at maxima group) (keys_for p s u (sidx_of_kind mean samples) n)) ≡ sum_by (λ amount. amount * amount) (amounts_of maxima (of_kind mean) group)
    squares =
        sum_by_map (λ amount. amount * amount) (amount_at maxima group) (keys_for p s u (sidx_of_kind mean samples) n)
        ∙ group_sum (λ o. amount_in maxima o * amount_in maxima o) (ap (λ n. n * n) (no_amount maxima)) p s n samples u group mean is
        ∙ sym (sum_by_map (λ amount. amount * amount) (λ (entry : CellKey × Cell). amount_in maxima (Some entry.1)) (filter (of_kind mean) group))

-- as many amounts as entries
pub length_amounts : (maxima : Bool) (es : List (CellKey × Cell)) → length (map (λ (entry : CellKey × Cell). amount_in maxima (Some entry.1)) es) ≡ length es
length_amounts maxima [] = refl
length_amounts maxima (e ∷ es) = ap suc (length_amounts maxima es)

-- the mean and the deviation, part by part
pub moments_parts : (result : MeanSd) (n : ℕ) (amounts : List ℕ) (count : ℕ) (others : List ℕ) → result.mean ≡ mean_of n (sum amounts) → result.sd ≡ deviation_of n (sum amounts) (sum_by (λ amount. amount * amount) amounts) →
    n ≡ count → amounts ≡ others → result ≡ moments_of count others
moments_parts result n amounts count others mean sd count_is same =
    (λ i. record { mean = mean i; sd = sd i }) ∙ (λ i. moments_of (count_is i) (same i))
