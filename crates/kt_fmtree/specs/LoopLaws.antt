-- Lists that a loop makes of the elements of another, with those of one element more.
-- The rule: docs/FINANCIAL_MODULE.md, "Levels".
use Rattle.std.specs.Prelude.{◌≡◌, ℕ, ◌+◌, ◌<◌, List, [], ◌∷◌, ◌++◌, length, map, take}
use Rattle.std.specs.List.{flat_map}
use Rattle.std.proofs.Common.{get_or, refl, sym, ap, ◌∙◌, append-nil, append_assoc}
use Rattle.std.proofs.lemmas.Grind.{flat_map-append}
use Rattle.std.proofs.lemmas.List.{map_more, map_push, take_more}

-- what is made of each
pub map-goes : {X Y : Type 0} (f : X → Y) (xs : List X) (i : ℕ) (d : X) (made more : List Y) (y : Y) → i < length xs → made ≡ map f (take i xs) → more ≡ made ++ y ∷ [] → y ≡ f (get_or xs i d) → more ≡ map f (take (i + 1) xs)
map-goes f xs i d made more y below so_far more_is y_is =
    more_is ∙ (ap (λ front. front ++ y ∷ []) so_far ∙ (ap (λ last. map f (take i xs) ++ last ∷ []) y_is ∙ sym (map_more f xs i d below)))

-- what is made of each, behind others
pub behind-goes : {X Y : Type 0} (front : List Y) (f : X → Y) (xs : List X) (i : ℕ) (d : X) (made more : List Y) (y : Y) → i < length xs → made ≡ front ++ map f (take i xs) → more ≡ made ++ y ∷ [] → y ≡ f (get_or xs i d) → more ≡ front ++ map f (take (i + 1) xs)
behind-goes front f xs i d made more y below so_far more_is y_is =
    more_is
    ∙ (ap (λ now. now ++ y ∷ []) so_far
    ∙ (append_assoc front (map f (take i xs)) (y ∷ [])
    ∙ ap (λ back. front ++ back) (map-goes f xs i d (map f (take i xs)) (map f (take i xs) ++ y ∷ []) y below refl refl y_is)))

-- what is seen of what is made of each
pub seen-goes : {V X Y : Type 0} (see : V → Y) (f : X → Y) (xs : List X) (i : ℕ) (d : X) (made more : List V) (v : V) → i < length xs → map see made ≡ map f (take i xs) → more ≡ made ++ v ∷ [] → see v ≡ f (get_or xs i d) → map see more ≡ map f (take (i + 1) xs)
seen-goes see f xs i d made more v below so_far more_is v_is =
    ap (map see) more_is ∙ (map_push see made v ∙ map-goes f xs i d (map see made) (map see made ++ see v ∷ []) (see v) below so_far refl v_is)

-- what is made of each, one behind the other
pub flat_map-goes : {X Y : Type 0} (f : X → List Y) (xs : List X) (i : ℕ) (d : X) (made more : List Y) → i < length xs → made ≡ flat_map f (take i xs) → more ≡ made ++ f (get_or xs i d) → more ≡ flat_map f (take (i + 1) xs)
flat_map-goes f xs i d made more below so_far more_is =
    more_is
    ∙ (ap (λ front. front ++ f (get_or xs i d)) so_far
    ∙ (ap (λ back. flat_map f (take i xs) ++ back) (sym (append-nil (f (get_or xs i d))))
    ∙ sym (ap (flat_map f) (take_more xs i d below) ∙ flat_map-append f (take i xs) (get_or xs i d ∷ []))))
