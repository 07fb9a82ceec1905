-- Lists that are looked up, and lists behind each other.
use Rattle.std.proofs.Common.{◌≡◌, ℕ, suc, ◌+◌, ◌-◌, ◌<◌, ◌≤◌, Bool, true, false, cond, List, [], ◌∷◌, ◌++◌, Option, Some, None, length, take, slice_index, slice_index_or, refl, sym, ap, ◌∙◌, arith, append-nil, unwrap_or}
use Rattle.std.specs.List.{cons_option, filter_map, range_with_len, zip}
use Rattle.std.specs.Map.{lookup}
use Rattle.std.specs.Option.{option_or}
use Rattle.kt_runs.specs.RowLaws.{made-more}

-- ---- lookups

-- a lookup in two lists behind each other
pub lookup-append : {K X : Type 0} (test : K → Bool) (xs ys : List (K × X)) → lookup test (xs ++ ys) ≡ option_or (lookup test xs) (lookup test ys)
lookup-append test [] ys = refl
lookup-append test (x ∷ xs) ys = by (test x.0) (lookup-append test xs ys)
  where
    by : (b : Bool) → lookup test (xs ++ ys) ≡ option_or (lookup test xs) (lookup test ys) → cond b (Some x.1) (lookup test (xs ++ ys)) ≡ option_or (cond b (Some x.1) (lookup test xs)) (lookup test ys)
    by true rest = refl
    by false rest = rest

-- what stands at the first place of a key: no place, and nothing is found
pub place-none : {K : Type 0} (test : K → Bool) (a : ℕ) (keys : List K) (values : List ℕ) → lookup test (zip keys (range_with_len a (length keys))) ≡ None → lookup test (zip keys values) ≡ None
place-none test a [] values none = refl
place-none test a (key ∷ keys) [] none = refl
place-none test a (key ∷ keys) (value ∷ values) none = by (test key) none (place-none test (a + 1) keys values)
  where
    by : (b : Bool) → cond b (Some a) (lookup test (zip keys (range_with_len (a + 1) (length keys)))) ≡ None → (lookup test (zip keys (range_with_len (a + 1) (length keys))) ≡ None → lookup test (zip keys values) ≡ None) → cond b (Some value) (lookup test (zip keys values)) ≡ None
    by true none rest = cc
    by false none rest = rest none

-- a place, and the value in it is found
pub record IsFoundAt (values : List ℕ) (a many place : ℕ) (found : Option ℕ) : Type 0 where
  pub low : a ≤ place
  pub high : place < a + many
  pub found_is : found ≡ Some (slice_index values (place - a))

pub place-some : {K : Type 0} (test : K → Bool) (a : ℕ) (keys : List K) (values : List ℕ) (place : ℕ) → length values ≡ length keys → lookup test (zip keys (range_with_len a (length keys))) ≡ Some place → IsFoundAt values a (length keys) place (lookup test (zip keys values))
place-some test a [] values place same some = cc
place-some test a (key ∷ keys) [] place same some = absurd (omega arith)
place-some test a (key ∷ keys) (value ∷ values) place same some = by (test key) some (place-some test (a + 1) keys values place (omega arith))
  where
    some-is : (one other : ℕ) → Some one ≡ Some other → one ≡ other
    some-is one other is = ap (λ (found : Option ℕ). unwrap_or found 0) is

    by : (b : Bool) → cond b (Some a) (lookup test (zip keys (range_with_len (a + 1) (length keys)))) ≡ Some place → (lookup test (zip keys (range_with_len (a + 1) (length keys))) ≡ Some place → IsFoundAt values (a + 1) (length keys) place (lookup test (zip keys values))) → IsFoundAt (value ∷ values) a (length (key ∷ keys)) place (cond b (Some value) (lookup test (zip keys values)))
    by true some rest =
        let here : a ≡ place = some-is a place some in
        record {
          low = omega arith;
          high = omega arith;
          found_is = let none : place - a ≡ 0 = omega arith in ap (λ n. Some (slice_index (value ∷ values) n)) (sym none);
        }
    by false some rest =
        let later = rest some in
        let low = later.low in
        let high = later.high in
        let next : place - a ≡ suc (place - (a + 1)) = omega arith in
        record {
          low = omega arith;
          high = omega arith;
          found_is = later.found_is ∙ ap (λ n. Some (slice_index (value ∷ values) n)) (sym next);
        }

-- ---- filters

-- what follows from a value that may be absent
abbrev pub followed : {X Y : Type 0} → Option X → (X → Option Y) → Option Y
followed None follow = None
followed (Some x) follow = follow x

-- what one makes of what another made
pub filter_map-twice : {X Y Z : Type 0} (f : Y → Option Z) (g : X → Option Y) (xs : List X) → filter_map f (filter_map g xs) ≡ filter_map (λ x. followed (g x) f) xs
filter_map-twice f g [] = refl
filter_map-twice {Y = Y} f g (x ∷ xs) = by (g x) (filter_map-twice f g xs)
  where
    by : (found : Option Y) → filter_map f (filter_map g xs) ≡ filter_map (λ x. followed (g x) f) xs → filter_map f (cons_option found (filter_map g xs)) ≡ cons_option (followed found f) (filter_map (λ x. followed (g x) f) xs)
    by None rest = rest
    by (Some y) rest = ap (cons_option (f y)) rest

-- ---- one more of a list

-- with one that is made, and with one that is not
pub made-push : {X Y : Type 0} (f : X → Option Y) (xs : List X) (now next : List Y) (i : ℕ) (d : X) (y : Y) → i < length xs → now ≡ filter_map f (take i xs) → f (slice_index_or xs i d) ≡ Some y → next ≡ now ++ y ∷ [] → next ≡ filter_map f (take (i + 1) xs)
made-push f xs now next i d y below now_is found next_is = made-more f xs now next i d below now_is (next_is ∙ ap (λ one. now ++ cons_option one []) (sym found))

pub made-skip : {X Y : Type 0} (f : X → Option Y) (xs : List X) (now : List Y) (i : ℕ) (d : X) → i < length xs → now ≡ filter_map f (take i xs) → f (slice_index_or xs i d) ≡ None → now ≡ filter_map f (take (i + 1) xs)
made-skip f xs now i d below now_is none = made-more f xs now now i d below now_is (sym (append-nil now) ∙ ap (λ one. now ++ cons_option one []) (sym none))
