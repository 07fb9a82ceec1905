-- Lists that are made of others, one by one.
-- The rule: docs/FINANCIAL_MODULE.md, "Levels".
use Rattle.std.specs.Prelude.{◌≡◌, ◌≤◌, ℕ, zero, suc, Bool, true, false, cond, List, [], ◌∷◌, map, drop, All}
use Rattle.std.proofs.Common.{refl, ap, arith}

-- the rest of what is made of each
pub drop-map : {X Y : Type 0} (f : X → Y) (n : ℕ) (xs : List X) → drop n (map f xs) ≡ map f (drop n xs)
drop-map f zero xs = refl
drop-map f (suc n) [] = refl
drop-map f (suc n) (x ∷ xs) = drop-map f n xs

-- what agrees at each of a list makes one list of it
pub map-agree : {X Y : Type 0} (f g : X → Y) (xs : List X) → All (λ x. f x ≡ g x) xs → map f xs ≡ map g xs
map-agree f g [] same = refl
map-agree f g (x ∷ xs) same =
    let here : f x ≡ g x = same 0 x (omega arith) in
    let rest = map-agree f g xs (λ k d below. same (suc k) d (omega arith)) in
    rw (here, rest) refl

-- what is made of what each becomes
pub map-map : {X Y Z : Type 0} (f : Y → Z) (g : X → Y) (xs : List X) → map f (map g xs) ≡ map (λ x. f (g x)) xs
map-map f g [] = refl
map-map f g (x ∷ xs) = ap (λ ys. f (g x) ∷ ys) (map-map f g xs)

-- an amount or nothing
pub cond-le : (b : Bool) (n : ℕ) → cond b n 0 ≤ n
cond-le true n = omega arith
cond-le false n = omega arith
