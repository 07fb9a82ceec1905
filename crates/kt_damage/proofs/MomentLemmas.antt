-- The sums of a distribution's mean and deviation, bin by bin.
use Rattle.std.proofs.Common.{◌≡◌, ℕ, ◌+◌, ◌-◌, ◌*◌, ◌<◌, ◌≤◌, List, [], ◌∷◌, length, drop, get_or, arith, subst}
use Rattle.std.proofs.lemmas.List.{drop_all, drop_more}
use Rattle.std.proofs.lemmas.Nat.{mul-le}
use Rattle.std.proofs.Math.Nat.{add-mul}
use Rattle.kt_stream.specs.declared.entry.Bin.{Bin}
use Rattle.kt_damage.specs.MomentSums.{AreSums}
use Rattle.kt_damage.proofs.SampleLemmas.{lowest-le}

-- a part of a whole stays a part where both grow
grown : (sum before upto unit mean : ℕ) → sum ≤ before * unit → before ≤ upto → mean ≤ unit → sum + (upto - before) * mean ≤ upto * unit
grown sum before upto unit mean within order part =
    let product = mul-le (upto - before) mean (upto - before) unit (omega arith) part in
    let whole : before * unit + (upto - before) * unit ≡ upto * unit = parts before (upto - before) upto unit (omega arith) in
    omega arith
  where
    parts : (a b c unit : ℕ) → a + b ≡ c → a * unit + b * unit ≡ c * unit
    parts a b c unit is = rw (← is) (simp add-mul (grind arith))

-- what one bin adds
pub sums_more : (bins : List Bin) (first : Bin) (rest : List Bin) (before means squares : ℕ) → AreSums bins (first ∷ rest) before means squares → AreSums bins rest first.prob_to (means + (first.prob_to - before) * first.mean) (squares + (first.prob_to - before) * first.mean * first.mean)
sums_more bins first rest before means squares here = record {
  means_are = omega (arith, here.means_are);
  squares_are = omega (arith, here.squares_are);
  rising = here.rising.3;
  means_within = grown means before first.prob_to 1000000 first.mean here.means_within order here.rising.2;
  squares_within = squares_grown;
  whole = here.rising.1;
}
  where
    order : before ≤ first.prob_to
    order = omega (arith, lowest-le (length rest) before, here.rising.0)

    square : first.mean * first.mean ≤ 1000000000000
    square = mul-le first.mean first.mean 1000000 1000000 here.rising.2 here.rising.2

    squares_grown : squares + (first.prob_to - before) * first.mean * first.mean ≤ first.prob_to * 1000000000000
    squares_grown =
        let up = grown squares before first.prob_to 1000000000000 (first.mean * first.mean) here.squares_within order square in
        let same : (first.prob_to - before) * first.mean * first.mean ≡ (first.prob_to - before) * (first.mean * first.mean) = grind arith in
        omega arith

-- the next bin ends no earlier than those before it, and it is in its ranges
pub next_within : (bins : List Bin) (i before means squares : ℕ) (none : Bin) → i < length bins → AreSums bins (drop i bins) before means squares → (before ≤ (get_or bins i none).prob_to) × ((get_or bins i none).prob_to ≤ 1002001000000) × ((get_or bins i none).mean ≤ 1000000)
next_within bins i before means squares none inside sums =
    let here = subst (λ (rest : List Bin). AreSums bins rest before means squares) (drop_more bins i none inside) sums in
    (omega (arith, lowest-le (length (drop (i + 1) bins)) before, here.rising.0), here.rising.1, here.rising.2)

-- where no bin is left, the sums are those of all
pub sums_done : (bins : List Bin) (i before means squares : ℕ) → length bins ≤ i → AreSums bins (drop i bins) before means squares → AreSums bins [] before means squares
sums_done bins i before means squares past sums = subst (λ (rest : List Bin). AreSums bins rest before means squares) (drop_all i bins past) sums
