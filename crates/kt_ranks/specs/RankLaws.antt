-- Lists in falling order with as many values above each amount have the same losses at each rank.
-- The rule: docs/CALCULATION.md, "Exceedance curves".
use Rattle.std.proofs.Common.{◌≡◌, ⊎_elim, ℕ, zero, suc, ◌+◌, ◌-◌, ◌*◌, ◌/◌, ◌<◌, ◌≤◌, List, [], ◌∷◌, ◌++◌, length, get_or, reverse, arith, refl, sym, ap, ◌∙◌, cond, Bool, true, false, nat_le, All}
use Rattle.std.specs.List.Sorted.{IsNonDecreasing, IsPermutation}
use Rattle.std.proofs.lemmas.Bool.{cases_lt}
use Rattle.std.proofs.lemmas.Bool.Decides.{nat_tests}
use Rattle.std.proofs.lemmas.List.Sums.{sum_by-cons}
use Rattle.std.proofs.lemmas.List.Elements.{All-head, All-tail, All-nil, All-cons, All-append, All-push, All-weaker, All-from_get_or}
use Rattle.std.proofs.lemmas.List.Sorted.{IsPermutation-refl, IsPermutation-trans, IsPermutation-cons, IsPermutation-middle, All-permutation, sum_by-IsPermutation}
use Rattle.std.proofs.lemmas.Grind.{reverse_onto}
use Rattle.std.proofs.lemmas.Nat.{mul-le}
use Rattle.std.proofs.Math.Nat.{mul-div-le}
use Rattle.kt_cell.specs.Losses.{one_if}
use Rattle.kt_ranks.specs.Ranks.{reaching, SameRanks, Falls, HasLosses}
use Rattle.kt_ranks.specs.RankedLosses.{with_value, falling, ranked_loss, loss_between, exceedance_loss}

-- ---- falling lists

-- a value put in its place only moves
with_moves : (y : ℕ) (xs : List ℕ) → IsPermutation (y ∷ xs) (with_value y xs)
with_moves y [] = IsPermutation-refl (y ∷ [])
with_moves y (x ∷ xs) = by_test (nat_le x y) (with_moves y xs)
  where
    by_test : (b : Bool) → IsPermutation (y ∷ xs) (with_value y xs) → IsPermutation (y ∷ x ∷ xs) (cond b (y ∷ x ∷ xs) (x ∷ with_value y xs))
    by_test true later = IsPermutation-refl (y ∷ x ∷ xs)
    by_test false later = IsPermutation-trans (y ∷ x ∷ xs) (x ∷ y ∷ xs) (x ∷ with_value y xs) (IsPermutation-middle (y ∷ []) x xs) (IsPermutation-cons x (y ∷ xs) (with_value y xs) later)

-- falling values are the values, moved
pub falling_moves : (xs : List ℕ) → IsPermutation xs (falling xs)
falling_moves [] = IsPermutation-refl []
falling_moves (x ∷ xs) = IsPermutation-trans (x ∷ xs) (x ∷ falling xs) (with_value x (falling xs)) (IsPermutation-cons x xs (falling xs) (falling_moves xs)) (with_moves x (falling xs))

-- as many of the moved values reach an amount
pub reaching_moved : (xs ys : List ℕ) → IsPermutation xs ys → (v : ℕ) → reaching v ys ≡ reaching v xs
reaching_moved xs ys moved v = sum_by-IsPermutation (λ value. one_if (nat_le v value)) xs ys moved

-- falling values, then one that is not above them, then falling ones that are not above it
pub split_falls : (front : List ℕ) (x : ℕ) (back : List ℕ) → Falls front → Falls back → All (λ y. x ≤ y) front → All (λ y. y ≤ x) back → Falls (front ++ x ∷ back)
split_falls [] x back falls later high low = (low, later)
split_falls (y ∷ front) x back falls later high low =
    let above : x ≤ y = All-head (λ z. x ≤ z) y front high in (
      All-append (λ z. z ≤ y) front (x ∷ back) falls.0 (All-cons (λ z. z ≤ y) x back above (All-weaker (λ z. z ≤ x) (λ z. z ≤ y) (λ z less. omega arith) back low)),
      split_falls front x back falls.1 later (All-tail (λ z. x ≤ z) y front high) low,
    )

-- a value put in its place
falls_with : (y : ℕ) (xs : List ℕ) → Falls xs → Falls (with_value y xs)
falls_with y [] falls = (All-nil _, tt)
falls_with y (x ∷ xs) falls = by_test (nat_le x y) (λ e. grind (arith, nat_tests)) (λ e. grind (arith, nat_tests)) (falls_with y xs falls.1)
  where
    by_test : (b : Bool) → (b ≡ true → x ≤ y) → (b ≡ false → y ≤ x) → Falls (with_value y xs) → Falls (cond b (y ∷ x ∷ xs) (x ∷ with_value y xs))
    by_test true high low later = let more : x ≤ y = high refl in (All-cons (λ later. later ≤ y) x xs more (All-weaker (λ later. later ≤ x) (λ later. later ≤ y) (λ z less. omega arith) xs falls.0), falls)
    by_test false high low later = (All-permutation (λ later. later ≤ x) (y ∷ xs) (with_value y xs) (with_moves y xs) (All-cons (λ later. later ≤ x) y xs (low refl) falls.0), later)

-- falling values fall
pub falls_falling : (xs : List ℕ) → Falls (falling xs)
falls_falling [] = tt
falls_falling (x ∷ xs) = falls_with x (falling xs) (falls_falling xs)

-- ---- ranks

-- none of lower values reaches an amount
none_reach : (v x : ℕ) (xs : List ℕ) → x < v → All (λ later. later ≤ x) xs → reaching v xs ≡ 0
none_reach v x [] low all = refl
none_reach v x (y ∷ ys) low all =
    let head = All-head (λ later. later ≤ x) y ys all in
    let not : nat_le v y ≡ false = grind (arith, nat_tests) in
    omega (arith, sum_by-cons (λ x. one_if (nat_le v x)) y ys, ap one_if not, none_reach v x ys low (All-tail (λ later. later ≤ x) y ys all))

-- a rank within those that reach an amount has such a loss
rank_reaches : (v k : ℕ) (xs : List ℕ) → Falls xs → k < reaching v xs → v ≤ get_or xs k 0
rank_reaches v k [] falls less = absurd (omega arith)
rank_reaches v zero (x ∷ xs) falls less =
    ⊎_elim (λ (low : x < v). let not : nat_le v x ≡ false = grind (arith, nat_tests) in absurd (omega (arith, sum_by-cons (λ x. one_if (nat_le v x)) x xs, ap one_if not, none_reach v x xs low falls.0))) (λ (high : v ≤ x). high) (cases_lt x v)
rank_reaches v (suc k) (x ∷ xs) falls less = rank_reaches v k xs falls.1 (by_test (nat_le v x) refl)
  where
    by_test : (b : Bool) → nat_le v x ≡ b → k < reaching v xs
    by_test true is = omega (arith, sum_by-cons (λ x. one_if (nat_le v x)) x xs, ap one_if is)
    by_test false is = omega (arith, sum_by-cons (λ x. one_if (nat_le v x)) x xs, ap one_if is)

-- a rank with a loss that reaches an amount is within those that do
reaches_rank : (v k : ℕ) (xs : List ℕ) → Falls xs → 1 ≤ v → v ≤ get_or xs k 0 → k < reaching v xs
reaches_rank v k [] falls some high = absurd (omega arith)
reaches_rank v zero (x ∷ xs) falls some high =
    let yes : nat_le v x ≡ true = grind (arith, nat_tests) in omega (arith, sum_by-cons (λ x. one_if (nat_le v x)) x xs, ap one_if yes)
reaches_rank v (suc k) (x ∷ xs) falls some high =
    let later = reaches_rank v k xs falls.1 some high in
    let first : v ≤ x = ⊎_elim (λ (low : x < v). absurd (omega (arith, later, none_reach v x xs low falls.0))) (λ (is : v ≤ x). is) (cases_lt x v) in
    let yes : nat_le v x ≡ true = grind (arith, nat_tests) in
    omega (arith, sum_by-cons (λ x. one_if (nat_le v x)) x xs, ap one_if yes, later)

-- falling lists with the same ranks have the same losses
pub same_losses : (xs ys : List ℕ) → Falls xs → Falls ys → SameRanks xs ys → (k : ℕ) → get_or xs k 0 ≡ get_or ys k 0
same_losses xs ys falls others same k =
    ⊎_elim
    (λ (low : get_or xs k 0 < get_or ys k 0).
    let there = reaches_rank (get_or ys k 0) k ys others (omega arith) (omega arith) in
    let here = rank_reaches (get_or ys k 0) k xs falls (omega (arith, there, same (get_or ys k 0) (omega arith))) in absurd (omega arith))
    (λ (not_low : get_or ys k 0 ≤ get_or xs k 0). ⊎_elim
    (λ (high : get_or ys k 0 < get_or xs k 0).
    let there = reaches_rank (get_or xs k 0) k xs falls (omega arith) (omega arith) in
    let here = rank_reaches (get_or xs k 0) k ys others (omega (arith, there, same (get_or xs k 0) (omega arith))) in absurd (omega arith))
    (λ (not_high : get_or xs k 0 ≤ get_or ys k 0). omega arith) (cases_lt (get_or ys k 0) (get_or xs k 0)))
    (cases_lt (get_or xs k 0) (get_or ys k 0))

-- ranked losses are those of the values with the same ranks
pub loss_is_ranked : (xs values : List ℕ) → Falls xs → SameRanks xs values → (k : ℕ) → get_or xs k 0 ≡ ranked_loss values k
loss_is_ranked xs values falls same k =
    same_losses xs (falling values) falls (falls_falling values) (λ v some. same v some ∙ sym (reaching_moved values (falling values) (falling_moves values) v)) k

-- a loss of a later rank is no greater
pub falls_next : (xs : List ℕ) (k : ℕ) → Falls xs → get_or xs (suc k) 0 ≤ get_or xs k 0
falls_next [] k falls = omega arith
falls_next (x ∷ []) zero falls = omega arith
falls_next (x ∷ y ∷ xs) zero falls = All-head (λ later. later ≤ x) y xs falls.0
falls_next (x ∷ xs) (suc k) falls = falls_next xs k falls.1

-- ---- sorted values

-- values that do not fall, in recursion
abbrev pub Rises : List ℕ → Type 0
Rises [] = Unit {0}
Rises (x ∷ xs) = All (λ later. x ≤ later) xs × Rises xs

-- from the places
pub rises_from : (xs : List ℕ) → ((i j d : ℕ) → i ≤ j → j < length xs → get_or xs i d ≤ get_or xs j d) → Rises xs
rises_from [] up = tt
rises_from (x ∷ xs) up = (All-from_get_or (λ later. x ≤ later) xs 0 (λ i inside. up 0 (suc i) 0 (omega arith) (omega arith)), rises_from xs (λ i j d less inside. up (suc i) (suc j) d (omega arith) (omega arith)))

-- the other way round they fall
pub falls_reverse : (xs : List ℕ) → Rises xs → Falls (reverse xs)
falls_reverse [] rises = tt
falls_reverse (x ∷ xs) rises = rw (reverse_onto xs x []) (split_falls (reverse xs) x [] (falls_reverse xs rises.1) tt (all_reverse xs rises.0) (All-nil _))
  where
    all_reverse : (ys : List ℕ) → All (λ later. x ≤ later) ys → All (λ later. x ≤ later) (reverse ys)
    all_reverse [] all = all
    all_reverse (y ∷ ys) all = rw (reverse_onto ys y []) (All-push (λ later. x ≤ later) (reverse ys) y (all_reverse ys (All-tail (λ later. x ≤ later) y ys all)) (All-head (λ later. x ≤ later) y ys all))

-- sorted values the other way round
pub falls_sorted : (xs : List ℕ) → IsNonDecreasing xs → Falls (reverse xs)
falls_sorted xs up = falls_reverse xs (rises_from xs up)

-- ---- the bounds of the formula

-- a part of an amount is no more than it
pub part-le : (w d c : ℕ) → 1 ≤ c → w ≤ c → w * d / c ≤ d
part-le w d c some within =
    ⊎_elim
    (λ (more : d < w * d / c). absurd (omega (arith, mul-le c (d + 1) c (w * d / c) (omega arith) (omega arith), mul-le w d c d within (omega arith))))
    (λ (less : w * d / c ≤ d). less) (cases_lt d (w * d / c))

-- the weight of the formula is at most the number of values
pub weight-le : (count period rank : ℕ) → 1 ≤ period → rank ≡ count / period → rank * (period * (rank + 1) - count) ≤ count
weight-le count period rank some is =
    let low : period * rank ≤ count = rw is (mul-div-le count period) in
    let one : period * (rank + 1) - count ≤ period = omega arith in
    omega (arith, mul-le rank (period * (rank + 1) - count) rank period (omega arith) one)

-- where a part of the fall is added, the loss stays below the greater one
pub between-le : (count period rank fall : ℕ) → 1 ≤ period → 1 ≤ count → rank ≡ count / period → rank * (period * (rank + 1) - count) * fall / count ≤ fall
between-le count period rank fall some more is = part-le (rank * (period * (rank + 1) - count)) fall count more (weight-le count period rank some is)

-- values with the same ranks have the same losses at each
pub ranked_same : (xs ys : List ℕ) → SameRanks xs ys → (k : ℕ) → ranked_loss xs k ≡ ranked_loss ys k
ranked_same xs ys same = loss_is_ranked (falling xs) ys (falls_falling xs) (λ v some. reaching_moved xs (falling xs) (falling_moves xs) v ∙ same v some)

-- ---- the loss of a return period

-- the loss of a return period, from its two losses
pub loss_from_ranked : (count period f result upper lower : ℕ) (found values : List ℕ) → HasLosses found values count period → f ≡ period → upper ≡ get_or found (count / f - 1) 0 → lower ≡ get_or found (count / f) 0 →
    result ≡ loss_between count period (count / f) upper lower → result ≡ exceedance_loss count values period
loss_from_ranked count period f result upper lower found values has is upper_is lower_is result_is =
    result_is
    ∙ ap (λ u. loss_between count period (count / f) u lower) (upper_is ∙ ap (λ n. get_or found (count / n - 1) 0) is ∙ has.0)
    ∙ ap (λ w. loss_between count period (count / f) (ranked_loss values (count / period - 1)) w) (lower_is ∙ ap (λ n. get_or found (count / n) 0) is ∙ has.1)
    ∙ ap (λ n. loss_between count period (count / n) (ranked_loss values (count / period - 1)) (ranked_loss values (count / period))) is
