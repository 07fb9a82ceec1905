-- Items by rising id.
use Rattle.std.proofs.Common.{ℕ, ◌<◌, List, [], ◌∷◌, map, length, nat_eq, arith}
use Rattle.std.specs.List.{IsDistinct}
use Rattle.std.specs.List.Sorted.{IsPermutation, IsNonDecreasingBy, IsNonDecreasing, IsStrictlyIncreasing}
use Rattle.std.proofs.lemmas.List.{get_or-map, length-map}
use Rattle.std.proofs.lemmas.List.Sorted.{IsPermutation-map}
use Rattle.std.proofs.lemmas.Map.Keys.{IsDistinct-IsPermutation, IsStrictlyIncreasing-from_distinct}
use Rattle.std.specs.Cmp.{nat_eq_equiv}

module _ {X : Type 0} (key : X → ℕ) where
  -- the keys of rows by rising key do not fall
  keys_rise : (rows : List X) → IsNonDecreasingBy key rows → IsNonDecreasing (map key rows)
  keys_rise [] rising = λ i j d before below. absurd (omega arith)
  keys_rise (row ∷ rows) rising = λ i j d before below.
      let short : j < length (row ∷ rows) = omega (arith, length-map (row ∷ rows) key) in
      rw (get_or-map key (row ∷ rows) i row d (omega arith), get_or-map key (row ∷ rows) j row d short) (rising i j row before short)

  -- rows by rising key, whose keys were distinct before, have keys that rise strictly
  pub keys_rise-strictly : (rows sorted : List X) → IsDistinct nat_eq (map key rows) → IsPermutation rows sorted → IsNonDecreasingBy key sorted → IsStrictlyIncreasing (map key sorted)
  keys_rise-strictly rows sorted apart moved rising =
      IsStrictlyIncreasing-from_distinct (map key sorted) (keys_rise sorted rising) (IsDistinct-IsPermutation nat_eq (λ x y. nat_eq_equiv.symm x y) (map key rows) (map key sorted) (IsPermutation-map key rows sorted moved) apart)
