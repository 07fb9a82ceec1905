-- The values that stand side by side, and those of the rest, are those of the first pairs.
use Rattle.std.proofs.Common.{◌≡◌, ℕ, zero, suc, ◌+◌, ◌<◌, ◌≤◌, Bool, true, false, cond, List, [], ◌∷◌, ◌++◌, Option, Some, None, length, get_or, set, take, drop, map, nat_eq, refl, sym, ap, subst, ◌∙◌, arith, append-nil}
use Rattle.std.specs.Prelude.{◌&&◌, nat_lt, slice_get}
use Rattle.std.specs.Cmp.{nat_eq_equiv}
use Rattle.std.specs.List.{range_with_len}
use Rattle.std.specs.Map.{lookup}
use Rattle.std.proofs.lemmas.Bool.{and_parts, eqb-false, eqb-true, ltb-true, true≢false}
use Rattle.std.proofs.lemmas.Bool.Decides.{nat_tests}
use Rattle.std.proofs.lemmas.Grind.{common_steps}
use Rattle.std.proofs.lemmas.List.{map_push, length-set, get_or-set_same, get_or-set_other, drop_all, take_all}
use Rattle.std.proofs.lemmas.List.FromFn.{map-range_with_len_more, get_or-map-range_with_len, length-map-range_with_len, fill_by_all}
use Rattle.kt_keys.specs.Keys.{same_pair}
use Rattle.kt_keys.specs.UnitTable.{or_else, no_row, first_row, has_place, row_from, width_at}

-- what is made of each number up to one, with that of one more
pub count-goes : {Y : Type 0} (f : ℕ → Y) (n : ℕ) (made more : List Y) (y : Y) → made ≡ map f (range_with_len 0 n) → more ≡ made ++ y ∷ [] → y ≡ f n → more ≡ map f (range_with_len 0 (n + 1))
count-goes f n made more y made_is more_is y_is = more_is ∙ ((λ i. made_is i ++ y_is i ∷ []) ∙ sym (map-range_with_len_more f 0 n n (omega arith)))

-- what is seen of it
pub count-seen : {X Y : Type 0} (see : X → Y) (f : ℕ → Y) (n : ℕ) (made more : List X) (x : X) → map see made ≡ map f (range_with_len 0 n) → more ≡ made ++ x ∷ [] → see x ≡ f n → map see more ≡ map f (range_with_len 0 (n + 1))
count-seen see f n made more x made_is more_is x_is = ap (map see) more_is ∙ (map_push see made x ∙ count-goes f n (map see made) (map see made ++ see x ∷ []) (see x) made_is refl x_is)

-- what fails one of two tests fails both
and_miss : (one other : Bool) → other ≡ false → (one && other) ≡ false
and_miss true other is = is
and_miss false other is = refl

-- a unit that has a place is not one of a level whose units have none there
missed : (level unit a b width : ℕ) → unit < width → (nat_eq a level && nat_lt b width) ≡ false → (nat_eq level a && nat_eq unit b) ≡ false
missed level unit a b width inside other = grind (arith, nat_tests, common_steps)

-- above all levels no unit has a place
high-level : (widths : List ℕ) (level unit : ℕ) → 13 ≤ level → has_place widths (level, unit) ≡ false
high-level widths level unit above = let high : nat_lt level 13 ≡ false = grind (arith, nat_tests) in ap (λ b. b && nat_lt unit (width_at widths level)) high

-- nor has a unit behind the places of its level
high-unit : (widths : List ℕ) (level unit : ℕ) → width_at widths level ≤ unit → has_place widths (level, unit) ≡ false
high-unit widths level unit above = and_miss (nat_lt level 13) (nat_lt unit (width_at widths level)) (behind unit (width_at widths level) above)
  where
    behind : (m n : ℕ) → n ≤ m → nat_lt m n ≡ false
    behind m n h = grind (arith, nat_tests)

-- pairs with the same parts are equal
pub same_is : (one other : ℕ × ℕ) → same_pair one other ≡ true → one ≡ other
same_is (a, b) (c, d) is =
    let parts = and_parts (nat_eq a c) (nat_eq b d) is in
    ap {B = ℕ × ℕ} (λ n. (n, b)) (eqb-true a c parts.0) ∙ ap {B = ℕ × ℕ} (λ n. (c, n)) (eqb-true b d parts.1)

-- units of which one alone has a place are not the same
apart : (widths : List ℕ) (key other : ℕ × ℕ) → has_place widths key ≡ false → has_place widths other ≡ true → same_pair key other ≡ false
apart widths key other far near = by (same_pair key other) refl
  where
    by : (b : Bool) → same_pair key other ≡ b → b ≡ false
    by true e = absurd (true≢false (sym near ∙ (sym (ap (has_place widths) (same_is key other e)) ∙ far)))
    by false e = refl

-- the parts of pairs are compared both ways
pairs_symm : (one other : ℕ × ℕ) → same_pair one other ≡ same_pair other one
pairs_symm one other = λ i. nat_eq_equiv.symm one.0 other.0 i && nat_eq_equiv.symm one.1 other.1 i

module _ {V : Type 0} where
  -- the places of a row have the values of the first pairs of the units of a level
  abbrev pub HasFirst : ℕ → List (Option V) → List ((ℕ × ℕ) × V) → Type 0
  HasFirst level row pairs = (unit : ℕ) → unit < length row → get_or row unit None ≡ lookup (same_pair (level, unit)) pairs

  -- without a pair there is no value
  pub filled-none : (level : ℕ) (row : List (Option V)) (pairs : List ((ℕ × ℕ) × V)) (place : ℕ) → length pairs ≤ place → row ≡ no_row (length row) → HasFirst level row (drop place pairs)
  filled-none level row pairs place all none = λ unit inside.
      ap (λ places. get_or places unit None) none
      ∙ (get_or-map-range_with_len (λ at. None) 0 (length row) unit unit None inside (omega arith)
      ∙ sym (ap (lookup (same_pair (level, unit))) (drop_all place pairs all)))

  -- the value of a unit of the level is put into its place
  put-first : (level : ℕ) (row : List (Option V)) (key : ℕ × ℕ) (value : V) (rest : List ((ℕ × ℕ) × V)) → (nat_eq key.0 level && nat_lt key.1 (length row)) ≡ true → HasFirst level row rest → HasFirst level (set row key.1 (Some value)) ((key, value) ∷ rest)
  put-first level row key value rest here has = λ unit inside. by unit (omega (arith, inside, length-set row key.1 (Some value))) (nat_eq unit key.1) refl
    where
      levels : nat_eq level key.0 ≡ true
      levels = nat_eq_equiv.symm level key.0 ∙ (and_parts (nat_eq key.0 level) (nat_lt key.1 (length row)) here).0

      within : key.1 < length row
      within = ltb-true key.1 (length row) (and_parts (nat_eq key.0 level) (nat_lt key.1 (length row)) here).1

      by : (unit : ℕ) → unit < length row → (b : Bool) → nat_eq unit key.1 ≡ b → get_or (set row key.1 (Some value)) unit None ≡ cond (nat_eq level key.0 && nat_eq unit key.1) (Some value) (lookup (same_pair (level, unit)) rest)
      by unit inside true e =
          ap (λ n. get_or (set row key.1 (Some value)) n None) (eqb-true unit key.1 e)
          ∙ (get_or-set_same row key.1 (Some value) None within ∙ sym (λ i. cond (levels i && e i) (Some value) (lookup (same_pair (level, unit)) rest)))
      by unit inside false e =
          get_or-set_other row key.1 unit (Some value) None (eqb-false unit key.1 e)
          ∙ (has unit inside ∙ sym (ap (λ b. cond b (Some value) (lookup (same_pair (level, unit)) rest)) (and_miss (nat_eq level key.0) (nat_eq unit key.1) e)))

  -- a pair of no unit of the level that has a place changes nothing
  skip-first : (level : ℕ) (row : List (Option V)) (key : ℕ × ℕ) (value : V) (rest : List ((ℕ × ℕ) × V)) → (nat_eq key.0 level && nat_lt key.1 (length row)) ≡ false → HasFirst level row rest → HasFirst level row ((key, value) ∷ rest)
  skip-first level row key value rest other has = λ unit inside.
      has unit inside ∙ sym (ap (λ b. cond b (Some value) (lookup (same_pair (level, unit)) rest)) (missed level unit key.0 key.1 (length row) inside other))

  -- one pair more in front
  pub filled-goes : (level : ℕ) (row new : List (Option V)) (key : ℕ × ℕ) (value : V) (rest : List ((ℕ × ℕ) × V)) → new ≡ cond (nat_eq key.0 level && nat_lt key.1 (length row)) (set row key.1 (Some value)) row → HasFirst level row rest → HasFirst level new ((key, value) ∷ rest)
  filled-goes level row new key value rest new_is has = subst (λ places. HasFirst level places ((key, value) ∷ rest)) (sym new_is) (by (nat_eq key.0 level && nat_lt key.1 (length row)) refl)
    where
      by : (b : Bool) → (nat_eq key.0 level && nat_lt key.1 (length row)) ≡ b → HasFirst level (cond b (set row key.1 (Some value)) row) ((key, value) ∷ rest)
      by true e = put-first level row key value rest e has
      by false e = skip-first level row key value rest e has

  -- there are as many places as before
  pub filled-long : (row new : List (Option V)) (b : Bool) (at : ℕ) (value : Option V) → new ≡ cond b (set row at value) row → length new ≡ length row
  filled-long row new true at value is = ap length is ∙ length-set row at value
  filled-long row new false at value is = ap length is

  -- after all pairs each place has the value of its unit
  pub filled-all : (level : ℕ) (row : List (Option V)) (pairs : List ((ℕ × ℕ) × V)) (place width : ℕ) → place ≡ 0 → length row ≡ width → HasFirst level row (drop place pairs) → row ≡ first_row pairs level width
  filled-all level row pairs place width none long has =
      fill_by_all (λ unit. lookup (same_pair (level, unit)) pairs) row width None long
      (λ k below. has k (omega (arith, long, below)) ∙ ap (λ n. lookup (same_pair (level, k)) (drop n pairs)) none)

  -- there are as many places as units
  pub first-long : (pairs : List ((ℕ × ℕ) × V)) (level width : ℕ) → length (first_row pairs level width) ≡ width
  first-long pairs level width = length-map-range_with_len (λ unit. lookup (same_pair (level, unit)) pairs) 0 width

  -- also where none has a value
  pub none-long : (row : List (Option V)) (width : ℕ) → row ≡ no_row width → length row ≡ width
  none-long row width is = ap length is ∙ length-map-range_with_len (λ at. None) 0 width

  -- places without values are those of their number
  pub none-own : (row : List (Option V)) (width : ℕ) → row ≡ no_row width → row ≡ no_row (length row)
  none-own row width is = is ∙ ap no_row (sym (none-long row width is))

  -- what was written stands where the places were
  pub written-back : (now old : List (Option V)) (n : ℕ) → length now ≡ n → length old ≡ n → take n (now ++ drop (length now) old) ≡ now
  written-back now old n many all =
      let none : drop (length now) old ≡ [] = drop_all (length now) old (omega (arith, many, all)) in
      ap (λ rest. take n (now ++ rest)) none ∙ (ap (take n) (append-nil now) ∙ take_all n now (omega (arith, many)))

  -- a level without places has none
  pub none-wide : (pairs : List ((ℕ × ℕ) × V)) (level width : ℕ) → width ≡ 0 → no_row width ≡ first_row pairs level width
  none-wide pairs level width none = subst (λ n. no_row n ≡ first_row pairs level n) (sym none) refl

  -- one pair more in front, which is kept among the rest
  pub rest-put : (key : ℕ × ℕ) (pair : (ℕ × ℕ) × V) (rest : List ((ℕ × ℕ) × V)) (old new : Option V) → new ≡ cond (same_pair pair.0 key) (Some pair.1) old → old ≡ lookup (same_pair key) rest → new ≡ lookup (same_pair key) (pair ∷ rest)
  rest-put key pair rest old new put was = put ∙ (ap (cond (same_pair pair.0 key) (Some pair.1)) was ∙ ap (λ b. cond b (Some pair.1) (lookup (same_pair key) rest)) (pairs_symm pair.0 key))

  -- one that has a place
  pub rest-skip : (widths : List ℕ) (key : ℕ × ℕ) (pair : (ℕ × ℕ) × V) (rest : List ((ℕ × ℕ) × V)) (old : Option V) → has_place widths key ≡ false → has_place widths pair.0 ≡ true → old ≡ lookup (same_pair key) rest → old ≡ lookup (same_pair key) (pair ∷ rest)
  rest-skip widths key pair rest old far near was = was ∙ sym (ap (λ b. cond b (Some pair.1) (lookup (same_pair key) rest)) (apart widths key pair.0 far near))

  -- what stands in a row is the value of its unit, and so is another where there is no place
  in-row : (f : ℕ → Option V) (other : Option V) (start width unit at : ℕ) → at ≡ start + unit → (width ≤ unit → other ≡ f at) → or_else (slice_get (map f (range_with_len start width)) unit) other ≡ f at
  in-row f other start zero unit at is far = far (omega arith)
  in-row f other start (suc width) zero at is far = let same : start ≡ at = omega (arith, is) in ap f same
  in-row f other start (suc width) (suc unit) at is far = in-row f other (start + 1) width unit at (omega (arith, is)) (λ above. far (omega (arith, above)))

  -- so in rows
  in-rows : (pairs : List ((ℕ × ℕ) × V)) (widths : List ℕ) (other : Option V) (start levels level unit at : ℕ) → at ≡ start + level → (levels ≤ level → other ≡ lookup (same_pair (at, unit)) pairs) → (width_at widths at ≤ unit → other ≡ lookup (same_pair (at, unit)) pairs) → or_else (slice_get (get_or (map (row_from pairs widths) (range_with_len start levels)) level []) unit) other ≡ lookup (same_pair (at, unit)) pairs
  in-rows pairs widths other start zero level unit at is high far = high (omega arith)
  in-rows pairs widths other start (suc levels) zero unit at is high far =
      let same : at ≡ start = omega (arith, is) in
      subst (λ n. or_else (slice_get (row_from pairs widths n) unit) other ≡ lookup (same_pair (at, unit)) pairs) same
      (in-row (λ here. lookup (same_pair (at, here)) pairs) other 0 (width_at widths at) unit unit (omega arith) far)
  in-rows pairs widths other start (suc levels) (suc level) unit at is high far =
      in-rows pairs widths other (start + 1) levels level unit at (omega (arith, is)) (λ above. high (omega (arith, above))) far

  -- so in rows from level 0 on
  pub found-in : (pairs : List ((ℕ × ℕ) × V)) (widths : List ℕ) (rows : List (List (Option V))) → rows ≡ map (row_from pairs widths) (range_with_len 0 13) → (key : ℕ × ℕ) (other : Option V) → (has_place widths key ≡ false → other ≡ lookup (same_pair key) pairs) → or_else (slice_get (get_or rows key.0 []) key.1) other ≡ lookup (same_pair key) pairs
  found-in pairs widths rows rows_are key other far =
      subst (λ all. or_else (slice_get (get_or all key.0 []) key.1) other ≡ lookup (same_pair key) pairs) (sym rows_are)
      (in-rows pairs widths other 0 13 key.0 key.1 key.0 (omega arith) (λ above. far (high-level widths key.0 key.1 above)) (λ above. far (high-unit widths key.0 key.1 above)))
