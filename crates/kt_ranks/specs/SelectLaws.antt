-- The losses of ranks, from parts of the values.
-- The rule: docs/CALCULATION.md, "Exceedance curves".
use Rattle.std.proofs.Common.{◌≡◌, ℕ, zero, suc, ◌+◌, ◌-◌, ◌/◌, ◌<◌, ◌≤◌, List, [], ◌∷◌, ◌++◌, map, length, get_or, arith, refl, sym, ap, ◌∙◌, cond, set, take, drop, append_assoc, below_more, Ordering, get_or-set_same, get_or-set_other, Bool, true, false, nat_le, All, is_lt, nat_cmp}
use Rattle.std.specs.List.Sorted.{IsPermutation, IsSplitAroundBy}
use Rattle.std.specs.Cmp.{IsStrictWeakOrder}
use Rattle.std.specs.Fn.{Mut, Called, ComparesAs}
use Rattle.std.specs.Borrow.{Bor}
use Rattle.std.proofs.lemmas.Fn.{always_returns_same}
use Rattle.std.proofs.lemmas.Cmp.{nat_cmp_total}
use Rattle.std.proofs.lemmas.Bool.Decides.{nat_tests}
use Rattle.std.proofs.lemmas.Grind.{get_or-set_at}
use Rattle.std.proofs.lemmas.List.{take_rest, take_more, flat_map_more, get_or_default, get_or_past, get_or-map}
use Rattle.std.proofs.lemmas.List.Elements.{All-head, All-tail, All-nil, All-cons, All-from_get_or}
use Rattle.std.proofs.lemmas.List.Sorted.{ranks_by, IsStrictWeakOrder-flip, IsPermutation-cons, IsPermutation-append, length_permutation, All-permutation}
use Rattle.std.proofs.lemmas.Map.Keys.{ge_from_not_lt}
use Rattle.kt_ranks.specs.Ranks.{Falls, curve_ranks}
use Rattle.kt_ranks.specs.RankedLosses.{falling, ranked_loss, exceedance_loss, lec_row, curve_rows}
use Rattle.kt_ranks.specs.RankLaws.{falling_moves, falls_falling, reaching_moved, split_falls, loss_is_ranked, ranked_same}

-- there are as many falling values
pub length_falling : (xs : List ℕ) → length (falling xs) ≡ length xs
length_falling xs = length_permutation xs (falling xs) (falling_moves xs)

-- values that are moved have the same losses at all ranks
pub ranked_moved : (xs ys : List ℕ) → IsPermutation xs ys → (k : ℕ) → ranked_loss xs k ≡ ranked_loss ys k
ranked_moved xs ys moved = ranked_same xs ys (λ v some. sym (reaching_moved xs ys moved v))

-- the losses of values around one of them
split_ranked : (front : List ℕ) (x : ℕ) (back : List ℕ) → All (λ y. x ≤ y) front → All (λ y. y ≤ x) back → (k : ℕ) → get_or (falling front ++ x ∷ falling back) k 0 ≡ ranked_loss (front ++ x ∷ back) k
split_ranked front x back high low =
    loss_is_ranked (falling front ++ x ∷ falling back) (front ++ x ∷ back)
    (split_falls (falling front) x (falling back) (falls_falling front) (falls_falling back) (All-permutation (λ y. x ≤ y) front (falling front) (falling_moves front) high) (All-permutation (λ y. y ≤ x) back (falling back) (falling_moves back) low))
    (λ v some. reaching_moved (front ++ x ∷ back) (falling front ++ x ∷ falling back) (IsPermutation-append front (falling front) (x ∷ back) (x ∷ falling back) (falling_moves front) (IsPermutation-cons x back (falling back) (falling_moves back))) v)

-- what stands in a front, or behind it
front_or : (xs : List ℕ) (x : ℕ) (ys : List ℕ) (k : ℕ) → k ≤ length xs → get_or xs k x ≡ get_or (xs ++ x ∷ ys) k 0
front_or [] x ys zero within = refl
front_or [] x ys (suc k) within = absurd (omega (arith, within))
front_or (y ∷ xs) x ys zero within = refl
front_or (y ∷ xs) x ys (suc k) within = front_or xs x ys k (omega (arith, within))

-- the losses of the ranks up to that of the one around which values are split
pub losses_of_front : (values front : List ℕ) (x : ℕ) (back : List ℕ) → IsPermutation values (front ++ x ∷ back) → IsSplitAroundBy (λ a b. is_lt (nat_cmp b a)) front x back → (k : ℕ) → k ≤ length front →
    get_or (falling front) k x ≡ ranked_loss values k
losses_of_front values front x back moved split k within =
    front_or (falling front) x (falling back) k (omega (arith, within, length_falling front))
    ∙ split_ranked front x back
    (All-from_get_or (λ y. x ≤ y) front 0 (λ i inside. ge_from_not_lt (get_or front i 0) x (split.0 i 0 inside)))
    (All-from_get_or (λ y. y ≤ x) back 0 (λ i inside. ge_from_not_lt x (get_or back i 0) (split.1 i 0 inside))) k
    ∙ sym (ranked_moved values (front ++ x ∷ back) moved k)

-- the losses of further ranks, from a front
pub losses_from_front : (values front : List ℕ) (loss behind rank : ℕ) (later : List ℕ) → rank < length values → ((k : ℕ) → k ≤ rank → get_or (falling front) k loss ≡ ranked_loss values k) → All (λ k. k ≤ rank) later →
    map (λ k. get_or (falling front) k loss) later ≡ map (λ k. get_or (falling values) k behind) later
losses_from_front values front loss behind rank [] inside same all = refl
losses_from_front values front loss behind rank (k ∷ later) inside same all =
    let low : k ≤ rank = All-head (λ k. k ≤ rank) k later all in
    let here : get_or (falling front) k loss ≡ get_or (falling values) k behind = same k low ∙ get_or_default (falling values) k 0 behind (omega (arith, low, inside, length_falling values)) in
    λ i. here i ∷ losses_from_front values front loss behind rank later inside same (All-tail (λ k. k ≤ rank) k later all) i

-- values split by a closure that compares them the other way round
pub split_by_falling : {F : Type 0} {g : Mut F (Bor ℕ × (Bor ℕ × Unit {0})) Ordering} {f : F} (front : List ℕ) (x : ℕ) (back : List ℕ) →
    ((lt : ℕ → ℕ → Bool) → IsStrictWeakOrder lt → ComparesAs g lt f → IsSplitAroundBy lt front x back) →
    ((a : Bor ℕ × (Bor ℕ × Unit {0})) (r : Ordering) (f' : F) → Called g f a r f' → (r ≡ nat_cmp a.1.0.now a.0.now) × (f' ≡ f)) → IsSplitAroundBy (λ a b. is_lt (nat_cmp b a)) front x back
split_by_falling {g = g} {f = f} front x back split calls =
    split (λ a b. is_lt (nat_cmp b a)) (IsStrictWeakOrder-flip (λ a b. is_lt (nat_cmp a b)) (ranks_by nat_cmp_total (λ (n : ℕ). n)))
    (always_returns_same g (λ a r. is_lt r ≡ is_lt (nat_cmp a.1.0.now a.0.now)) f (λ a r f' k. (ap is_lt (calls a r f' k).0, (calls a r f' k).1)))

-- ---- losses at their places

-- one loss more
pub put_more : (whole values ranks losses : List ℕ) (i : ℕ) → losses ≡ map (ranked_loss whole) ranks → i < length ranks → get_or ranks i 0 < length values → ((k : ℕ) → k < i → get_or values (get_or ranks k 0) 0 ≡ ranked_loss whole (get_or ranks k 0)) →
    (k : ℕ) → k < i + 1 → get_or (set values (get_or ranks i 0) (get_or losses i 0)) (get_or ranks k 0) 0 ≡ ranked_loss whole (get_or ranks k 0)
put_more whole values ranks losses i is inside within done = below_more _ _ (λ k less. kept (get_or ranks k 0) (done k less)) (get_or-set_same values (get_or ranks i 0) (get_or losses i 0) 0 within ∙ loss)
  where
    loss : get_or losses i 0 ≡ ranked_loss whole (get_or ranks i 0)
    loss = ap (λ ls. get_or ls i 0) is ∙ get_or-map (ranked_loss whole) ranks i 0 0 inside

    kept : (rank : ℕ) → get_or values rank 0 ≡ ranked_loss whole rank → get_or (set values (get_or ranks i 0) (get_or losses i 0)) rank 0 ≡ ranked_loss whole rank
    kept rank there = grind (arith, get_or-set_other, get_or-set_at, loss)

-- one rank more, behind the last value
pub past_more : (whole values ranks : List ℕ) (i : ℕ) → length whole ≡ length values → length values ≤ get_or ranks i 0 → ((k : ℕ) → k < i → get_or values (get_or ranks k 0) 0 ≡ ranked_loss whole (get_or ranks k 0)) →
    (k : ℕ) → k < i + 1 → get_or values (get_or ranks k 0) 0 ≡ ranked_loss whole (get_or ranks k 0)
past_more whole values ranks i same behind done =
    below_more _ _ done (get_or_past values (get_or ranks i 0) 0 behind ∙ sym (get_or_past (falling whole) (get_or ranks i 0) 0 (omega (arith, behind, same, length_falling whole))))

-- the losses of all ranks, from that of the first
pub losses_more : (f : ℕ → ℕ) (ranks old middle new : List ℕ) → 1 ≤ length ranks → middle ≡ old ++ f (get_or ranks 0 0) ∷ [] → new ≡ middle ++ map f (take (length ranks - 1) (drop 1 ranks)) → new ≡ old ++ map f ranks
losses_more f [] old middle new some one later = absurd (omega (arith, some))
losses_more f (x ∷ ranks) old middle new some one later = rw (take_rest (x ∷ ranks) 1) at later ∙ ap (λ losses. losses ++ map f ranks) one ∙ append_assoc old (f x ∷ []) (map f ranks)

-- the same where the later ones are taken from a front
pub losses_more_front : (values front : List ℕ) (loss behind : ℕ) (ranks old middle new : List ℕ) → 1 ≤ length ranks → Falls ranks → get_or ranks 0 0 < length values → loss ≡ ranked_loss values (get_or ranks 0 0) →
    ((k : ℕ) → k ≤ get_or ranks 0 0 → get_or (falling front) k loss ≡ ranked_loss values k) → middle ≡ old ++ loss ∷ [] → new ≡ middle ++ map (λ k. get_or (falling front) k loss) (take (length ranks - 1) (drop 1 ranks)) →
    new ≡ old ++ map (λ k. get_or (falling values) k behind) ranks
losses_more_front values front loss behind [] old middle new some falls inside is same one later = absurd (omega (arith, some))
losses_more_front values front loss behind (x ∷ ranks) old middle new some falls inside is same one later =
    losses_more (λ k. get_or (falling values) k behind) (x ∷ ranks) old middle new some
    (one ∙ ap (λ y. old ++ y ∷ []) (is ∙ get_or_default (falling values) x 0 behind (omega (arith, inside, length_falling values))))
    (rw (take_rest (x ∷ ranks) 1) (rw (take_rest (x ∷ ranks) 1) at later ∙ ap (λ losses. middle ++ losses) (losses_from_front values front loss behind x ranks inside same falls.0)))

-- what holds of all ranks that a curve asks for holds of both ranks of each return period that it has
pub all_asked : (P : ℕ → Type 0) (count : ℕ) (returns : List ℕ) → All P (curve_ranks count returns) → All (λ period. period ≤ count → P (count / period - 1) × P (count / period)) returns
all_asked P count [] all = All-nil _
all_asked P count (r ∷ returns) all =
    All-cons (λ period. period ≤ count → P (count / period - 1) × P (count / period)) r returns (λ low. here low (nat_le r count) (λ e. grind (arith, nat_tests)) all) (all_asked P count returns (others (nat_le r count) all))
  where
    here : r ≤ count → (b : Bool) → (b ≡ false → count < r) → All P (cond b ((count / r - 1) ∷ count / r ∷ []) [] ++ curve_ranks count returns) → P (count / r - 1) × P (count / r)
    here low true high all = (All-head P (count / r - 1) (count / r ∷ curve_ranks count returns) all, All-head P (count / r) (curve_ranks count returns) (All-tail P (count / r - 1) (count / r ∷ curve_ranks count returns) all))
    here low false high all = let not : count < r = high refl in absurd (omega (arith, low, not))

    others : (b : Bool) → All P (cond b ((count / r - 1) ∷ count / r ∷ []) [] ++ curve_ranks count returns) → All P (curve_ranks count returns)
    others true all = All-tail P (count / r) (curve_ranks count returns) (All-tail P (count / r - 1) (count / r ∷ curve_ranks count returns) all)
    others false all = all

-- ---- the rows of a curve

-- the rows of one return period more
pub rows_more : (summary column count : ℕ) (whole returns : List ℕ) (i loss : ℕ) (base out new : List ℕ) → i < length returns → get_or returns i 0 ≤ count → loss ≡ exceedance_loss count whole (get_or returns i 0) →
    out ≡ base ++ curve_rows summary column count whole (take i returns) → new ≡ out ++ lec_row summary column (get_or returns i 0) loss → new ≡ base ++ curve_rows summary column count whole (take (i + 1) returns)
rows_more summary column count whole returns i loss base out new inside low is there more =
    let yes : nat_le (get_or returns i 0) count ≡ true = grind (arith, nat_tests) in
    more ∙ (λ j. there j ++ lec_row summary column (get_or returns i 0) (is j))
    ∙ ap (λ (b : Bool). (base ++ curve_rows summary column count whole (take i returns)) ++ cond b (lec_row summary column (get_or returns i 0) (exceedance_loss count whole (get_or returns i 0))) []) (sym yes)
    ∙ flat_map_more (λ return. cond (nat_le return count) (lec_row summary column return (exceedance_loss count whole return)) []) base (take i returns) (get_or returns i 0)
    ∙ ap (λ rs. base ++ curve_rows summary column count whole rs) (sym (take_more returns i 0 inside))
