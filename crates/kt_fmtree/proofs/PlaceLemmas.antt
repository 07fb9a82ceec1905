-- Lemmas on the places of ids among rising ids.
use Rattle.std.proofs.Common.{◌≡◌, ℕ, zero, suc, ◌<◌, true, List, [], ◌∷◌, length, map, take, get_or, nat_eq, arith}
use Rattle.std.specs.List.{All, AllByRecursion, list_any}

-- how far the places have come
pub record ArePlaced (ids wanted : List ℕ) (place : ℕ) (places : List ℕ) : Type 0 where
  pub within : All (λ at. at < length ids) places
  pub value : map (λ at. get_or ids at 0) places ≡ take place wanted

-- an id that is among all is among them at its place
pub member-at : (ids wanted : List ℕ) → AllByRecursion (λ id. list_any (nat_eq id) ids ≡ true) wanted → (place : ℕ) → place < length wanted → list_any (nat_eq (get_or wanted place 0)) ids ≡ true
member-at ids [] all place below = absurd (omega arith)
member-at ids (other ∷ wanted) all zero below = all.0
member-at ids (other ∷ wanted) all (suc place) below = member-at ids wanted all.1 place (omega arith)
