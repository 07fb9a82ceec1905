-- What is made of the rows that pass a test.
use Rattle.std.proofs.Common.{◌≡◌, Bool, true, false, cond, List, [], ◌∷◌, None, Some, map, refl, ap}
use Rattle.std.specs.List.{cons_option, filter, filter_map}

-- what is made of rows that pass a test, in one walk
pub kept-map : {X Y : Type 0} (test : X → Bool) (f : X → Y) (rows : List X) → filter_map (λ row. cond (test row) (Some (f row)) None) rows ≡ map f (filter test rows)
kept-map test f [] = refl
kept-map {X = X} {Y = Y} test f (row ∷ rows) = by (test row) (kept-map test f rows)
  where
    by : (b : Bool) → filter_map (λ (x : X). cond (test x) (Some (f x)) None) rows ≡ map f (filter test rows) → cons_option (cond b (Some (f row)) None) (filter_map (λ (x : X). cond (test x) (Some (f x)) None) rows) ≡ map f (cond b (row ∷ filter test rows) (filter test rows))
    by true rest = ap (λ made. f row ∷ made) rest
    by false rest = rest
