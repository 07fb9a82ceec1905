-- How often a number stands in lists that are put together, and values added up over lists.
use Rattle.std.proofs.Common.{◌≡◌, ℕ, zero, suc, ◌+◌, ◌<◌, ◌≤◌, ◌≢◌, eqb, ltb, List, [], ◌∷◌, ◌++◌, length, set, refl, sym, ap, ⊎_elim, arith}
use Rattle.std.proofs.lemmas.Bool.{lt-ltb, le-ltb, eq-eqb, ne_eqb, cond-true, cond-false, cases_eq, cases_lt}
use mathlib.Core.Option.{some, some-injective, some-ne-none}
use lib.ListN.{get_elem?}
use Rattle.kt_claims.specs.Numbers.{once_at, times, once_below, AreBelow, total}

-- the same number counts once
pub at-yes : (one other : ℕ) → one ≡ other → once_at one other ≡ 1
at-yes one other is = cond-true (eqb one other) 1 0 (eq-eqb one other is)

-- another number does not count
pub at-no : (one other : ℕ) → one ≢ other → once_at one other ≡ 0
at-no one other isnt = cond-false (eqb one other) 1 0 (ne_eqb one other isnt)

-- a number counts once at the most
pub at-le : (one other : ℕ) → once_at one other ≤ 1
at-le one other = ⊎_elim (λ (is : one ≡ other). omega (arith, at-yes one other is)) (λ (isnt : one ≢ other). omega (arith, at-no one other isnt)) (cases_eq one other)

-- a number stands in two lists together as often as in the one and in the other
pub times-append : (number : ℕ) (one other : List ℕ) → times number (one ++ other) ≡ times number one + times number other
times-append number [] other = omega arith
times-append number (first ∷ one) other = omega (arith, times-append number one other)

-- a number stands in a list at most as often as the list is long
pub times-le : (number : ℕ) (numbers : List ℕ) → times number numbers ≤ length numbers
times-le number [] = omega arith
times-le number (first ∷ numbers) = omega (arith, times-le number numbers, at-le first number)

-- a number below a bound counts once
pub once-yes : (bound number : ℕ) → number < bound → once_below bound number ≡ 1
once-yes bound number below = cond-true (ltb number bound) 1 0 (lt-ltb number bound below)

-- a number that is not below a bound does not count
pub once-no : (bound number : ℕ) → bound ≤ number → once_below bound number ≡ 0
once-no bound number above = cond-false (ltb number bound) 1 0 (le-ltb number bound above)

-- a number that counts is below the bound
pub once-below : (bound number : ℕ) → 1 ≤ once_below bound number → number < bound
once-below bound number one = ⊎_elim (λ (below : number < bound). below)
    (λ (above : bound ≤ number). absurd (omega (arith, once-no bound number above))) (cases_lt number bound)

-- the bound itself counts once below the next bound
pub once-more : (bound number : ℕ) → once_below (bound + 1) number ≡ once_below bound number + once_at bound number
once-more bound number = ⊎_elim
    (λ (is : bound ≡ number). omega (arith, at-yes bound number is, once-yes (bound + 1) number (omega arith), once-no bound number (omega arith)))
    (λ (isnt : bound ≢ number). ⊎_elim
    (λ (below : number < bound). omega (arith, at-no bound number isnt, once-yes (bound + 1) number (omega arith), once-yes bound number below))
    (λ (above : bound ≤ number). omega (arith, at-no bound number isnt, once-no (bound + 1) number (omega arith), once-no bound number above))
    (cases_lt number bound))
    (cases_eq bound number)

-- where no number from a bound on stands in a list, each number of the list is below it
pub below-from : (bound : ℕ) (numbers : List ℕ) → ((number : ℕ) → bound ≤ number → times number numbers ≡ 0) → AreBelow bound numbers
below-from bound [] none = tt
below-from bound (first ∷ numbers) none = (
  ⊎_elim (λ (below : first < bound). below) (λ (above : bound ≤ first). absurd (omega (arith, at-yes first first refl, none first above))) (cases_lt first bound),
  below-from bound numbers (λ number above. omega (arith, none number above)),
)

module _ {A : Type 0} where
  -- the total over two lists together
  pub total-append : (value : A → ℕ) (one other : List A) → total value (one ++ other) ≡ total value one + total value other
  total-append value [] other = omega arith
  total-append value (first ∷ one) other = let more = total-append value one other in omega arith

  -- the total after one element is another
  pub total-set : (value : A → ℕ) (list : List A) (place : ℕ) (before now : A) → get_elem? list place ≡ some before → total value (set list place now) + value before ≡ total value list + value now
  total-set value [] place before now at = absurd (some-ne-none before (sym at))
  total-set value (first ∷ list) zero before now at = let same : value first ≡ value before = ap value (some-injective first before at) in omega arith
  total-set value (first ∷ list) (suc place) before now at = let more = total-set value list place before now at in omega arith

  -- one element's value is at most the total
  pub part-le-total : (value : A → ℕ) (list : List A) (place : ℕ) (one : A) → get_elem? list place ≡ some one → value one ≤ total value list
  part-le-total value [] place one at = absurd (some-ne-none one (sym at))
  part-le-total value (first ∷ list) zero one at = let same : value first ≡ value one = ap value (some-injective first one at) in omega arith
  part-le-total value (first ∷ list) (suc place) one at = let more = part-le-total value list place one at in omega arith

  -- a value that is nowhere above another has no larger total
  pub total-le : (value more : A → ℕ) → ((one : A) → value one ≤ more one) → (list : List A) → total value list ≤ total more list
  total-le value more le [] = omega arith
  total-le value more le (first ∷ list) = let here = le first in let later = total-le value more le list in omega arith

  -- nor over the other elements than one
  pub others-le : (value more : A → ℕ) → ((one : A) → value one ≤ more one) → (list : List A) (place : ℕ) (one : A) → get_elem? list place ≡ some one → total value list + more one ≤ total more list + value one
  others-le value more le [] place one at = absurd (some-ne-none one (sym at))
  others-le value more le (first ∷ list) zero one at =
      let same : value first ≡ value one = ap value (some-injective first one at) in
      let same' : more first ≡ more one = ap more (some-injective first one at) in
      let later = total-le value more le list in omega arith
  others-le value more le (first ∷ list) (suc place) one at =
      let here = le first in let later = others-le value more le list place one at in omega arith
