-- Outlets by rising id are told by the first outlet of each id.
use Rattle.std.proofs.Common.{◌≡◌, ℕ, zero, suc, ◌+◌, ◌<◌, ◌≤◌, Bool, true, false, cond, nat_eq, List, [], ◌∷◌, ◌++◌, Option, Some, None, length, map, take, slice_index_or, refl, sym, ap, ◌∙◌, arith, append_assoc, unwrap_or, eqb-true}
use Rattle.std.specs.Cmp.{nat_eq_equiv}
use Rattle.std.specs.List.{AllByRecursion, cons_option, filter_map}
use Rattle.std.specs.List.Sorted.{IsNonDecreasingBy}
use Rattle.std.specs.Map.{lookup}
use Rattle.std.specs.Option.{option_or}
use Rattle.std.proofs.lemmas.Bool.Decides.{nat_tests}
use Rattle.std.proofs.lemmas.List.{map-append, map_more, take_more}
use Rattle.std.proofs.lemmas.List.Elements.{filter_map-append}
use Rattle.kt_rec.specs.Rising.{IsRising}
use Rattle.kt_rec.specs.declared.financial.FmXref.{FmXref}
use Rattle.kt_rec.specs.RisingLaws.{KeepsId}
use Rattle.kt_alloc.specs.Outlets.{found}
use Rattle.kt_alloc.specs.declared.outlets.Outlet.{Outlet}
use Rattle.kt_alloc.proofs.ListLemmas.{followed, lookup-append}

-- the ids of outlets
abbrev ids_of : List Outlet → List ℕ
ids_of outlets = map (λ outlet. outlet.id) outlets

differs : (one other : ℕ) → one < other → nat_eq one other ≡ false
differs one other less = grind (arith, nat_tests)

-- ---- what is found

-- in two lists behind each other
pub found-append : (id : ℕ) (xs ys : List Outlet) → found id (xs ++ ys) ≡ option_or (found id xs) (found id ys)
found-append id xs ys = ap (lookup (nat_eq id)) (map-append (λ (outlet : Outlet). (outlet.id, outlet)) xs ys) ∙ lookup-append (nat_eq id) (map (λ (outlet : Outlet). (outlet.id, outlet)) xs) (map (λ (outlet : Outlet). (outlet.id, outlet)) ys)

-- the first of its own id
found-own : (x : Outlet) (xs : List Outlet) → found x.id (x ∷ xs) ≡ Some x
found-own x xs = ap (λ b. cond b (Some x) (found x.id xs)) (nat_eq_equiv.refl x.id)

-- among ids above one only what is above it
found-above : (low id : ℕ) (xs : List Outlet) (outlet : Outlet) → AllByRecursion (λ other. low < other) (ids_of xs) → found id xs ≡ Some outlet → low < id
found-above low id [] outlet above is = cc
found-above low id (x ∷ xs) outlet above is = by (nat_eq id x.id) refl is (found-above low id xs outlet above.1)
  where
    by : (b : Bool) → nat_eq id x.id ≡ b → cond b (Some x) (found id xs) ≡ Some outlet → (found id xs ≡ Some outlet → low < id) → low < id
    by true same is rest = let e = eqb-true id x.id same in omega (arith, e, above.0)
    by false same is rest = rest is

found-none : (low id : ℕ) (xs : List Outlet) → AllByRecursion (λ other. low < other) (ids_of xs) → id ≤ low → found id xs ≡ None
found-none low id xs above most = by (found id xs) refl
  where
    by : (outlet : Option Outlet) → found id xs ≡ outlet → outlet ≡ None
    by None is = refl
    by (Some outlet) is = let less = found-above low id xs outlet above is in absurd (omega (arith, less, most))

some-is : (one other : Outlet) → Some one ≡ Some other → one ≡ other
some-is one other is = ap (λ (outlet : Option Outlet). unwrap_or outlet one) is

-- two lists by rising id of which the same is found are one
pub outlets-unique : (xs ys : List Outlet) → IsRising (ids_of xs) → IsRising (ids_of ys) → ((id : ℕ) → found id xs ≡ found id ys) → xs ≡ ys
unfolding IsRising
outlets-unique [] [] rises too same = refl
outlets-unique [] (y ∷ ys) rises too same = let clash : None ≡ Some y = same y.id ∙ found-own y ys in cc
outlets-unique (x ∷ xs) [] rises too same = let clash : Some x ≡ None = sym (found-own x xs) ∙ same x.id in cc
outlets-unique (x ∷ xs) (y ∷ ys) rises too same = by (nat_eq x.id y.id) refl (outlets-unique xs ys rises.1 too.1)
  where
    later : x.id ≡ y.id → (id : ℕ) (b : Bool) → nat_eq id x.id ≡ b → found id xs ≡ found id ys
    later one id true is = let own = eqb-true id x.id is in found-none x.id id xs rises.0 (omega (arith, own)) ∙ sym (found-none y.id id ys too.0 (omega (arith, own, one)))
    later one id false is = sym (ap (λ b. cond b (Some x) (found id xs)) is) ∙ (same id ∙ ap (λ b. cond b (Some y) (found id ys)) (ap (nat_eq id) (sym one) ∙ is))

    by : (b : Bool) → nat_eq x.id y.id ≡ b → (((id : ℕ) → found id xs ≡ found id ys) → xs ≡ ys) → x ∷ xs ≡ y ∷ ys
    by true is rest =
        let one = eqb-true x.id y.id is in
        let here = some-is x y (sym (found-own x xs) ∙ (same x.id ∙ ap (λ b. cond b (Some y) (found x.id ys)) is)) in
        ap (λ (first : Outlet). first ∷ xs) here ∙ ap (λ rest. y ∷ rest) (rest (λ id. later one id (nat_eq id x.id) refl))
    by false is rest =
        let low = found-above y.id x.id ys x too.0 (sym (ap (λ b. cond b (Some y) (found x.id ys)) is) ∙ (sym (same x.id) ∙ found-own x xs)) in
        let high = found-above x.id y.id xs y rises.0 (sym (ap (λ b. cond b (Some x) (found y.id xs)) (nat_eq_equiv.symm y.id x.id ∙ is)) ∙ (same y.id ∙ found-own y ys)) in
        absurd (omega (arith, low, high))

-- ---- what is made of rows

-- the first row of an output
abbrev pub row_at : ℕ → List FmXref → Option FmXref
row_at id rows = lookup (nat_eq id) (map (λ row. (row.output_id, row)) rows)

module _ (make : FmXref → Option Outlet) (keeps : (row : FmXref) → KeepsId (λ (outlet : Outlet). outlet.id) row.output_id (make row)) where
  made-none : (low id : ℕ) (rows : List FmXref) → AllByRecursion (λ other. low < other) (map (λ row. row.output_id) rows) → id ≤ low → found id (filter_map make rows) ≡ None
  made-none low id [] above most = refl
  made-none low id (row ∷ rows) above most = by (make row) (keeps row) (made-none low id rows above.1 most)
    where
      by : (made : Option Outlet) → KeepsId (λ (outlet : Outlet). outlet.id) row.output_id made → found id (filter_map make rows) ≡ None → found id (cons_option made (filter_map make rows)) ≡ None
      by None same rest = rest
      by (Some outlet) same rest = ap (λ b. cond b (Some outlet) (found id (filter_map make rows))) (differs id outlet.id (omega (arith, same, above.0, most))) ∙ rest

  -- of rows by rising id it is what is made of the row of the id
  pub found-made : (id : ℕ) (rows : List FmXref) → IsRising (map (λ row. row.output_id) rows) → found id (filter_map make rows) ≡ followed (row_at id rows) make
  unfolding IsRising
  found-made id [] rises = refl
  found-made id (row ∷ rows) rises = by (nat_eq id row.output_id) refl (make row) refl (keeps row) (found-made id rows rises.1)
    where
      by : (b : Bool) → nat_eq id row.output_id ≡ b → (made : Option Outlet) → make row ≡ made → KeepsId (λ (outlet : Outlet). outlet.id) row.output_id made → found id (filter_map make rows) ≡ followed (row_at id rows) make → found id (cons_option made (filter_map make rows)) ≡ followed (cond b (Some row) (row_at id rows)) make
      by true here None is same rest = let e = eqb-true id row.output_id here in made-none row.output_id id rows rises.0 (omega (arith, e)) ∙ sym is
      by true here (Some outlet) is same rest = ap (λ b. cond b (Some outlet) (found id (filter_map make rows))) (ap (nat_eq id) same ∙ here) ∙ sym is
      by false here None is same rest = rest
      by false here (Some outlet) is same rest = ap (λ b. cond b (Some outlet) (found id (filter_map make rows))) (ap (nat_eq id) same ∙ here) ∙ rest

-- what is made of one more, behind others
pub made-behind : {X Y : Type 0} (make : X → Option Y) (xs : List X) (old now next : List Y) (i : ℕ) (d : X) → i < length xs → now ≡ old ++ filter_map make (take i xs) → next ≡ now ++ cons_option (make (slice_index_or xs i d)) [] → next ≡ old ++ filter_map make (take (i + 1) xs)
made-behind make xs old now next i d below now_is next_is =
    next_is
    ∙ (ap (λ front. front ++ cons_option (make (slice_index_or xs i d)) []) now_is
    ∙ (append_assoc old (filter_map make (take i xs)) (cons_option (make (slice_index_or xs i d)) [])
    ∙ ap (λ made. old ++ made) (sym (ap (filter_map make) (take_more xs i d below) ∙ filter_map-append make (take i xs) (slice_index_or xs i d ∷ [])))))

-- ---- the first of each id of outlets by rising id

-- no outlet
abbrev pub no_outlet : Outlet
no_outlet = record { id = 0; place = 0 }

-- an outlet with an id is the last that was kept
pub record IsLast (sorted : List Outlet) (i id : ℕ) (kept : List Outlet) : Type 0 where
  pub place : ℕ
  pub inside : place < i
  pub has : (slice_index_or sorted place no_outlet).id ≡ id
  pub some : found id kept ≡ None → ⊥

-- the first of each id of so many are kept, all below a next id
pub record AreKept (sorted : List Outlet) (i next : ℕ) (kept : List Outlet) : Type 0 where
  pub rises : IsRising (ids_of kept)
  pub below : AllByRecursion (λ id. id < next) (ids_of kept)
  pub same : (id : ℕ) → found id kept ≡ found id (take i sorted)
  pub last : (id : ℕ) → next ≡ suc id → IsLast sorted i id kept

-- none yet
pub kept-none : (sorted : List Outlet) → AreKept sorted 0 0 []
unfolding IsRising
kept-none sorted = record { rises = tt; below = tt; same = λ id. refl; last = λ id is. absurd (omega (arith, is)) }

rises-more : (ids : List ℕ) (id : ℕ) → IsRising ids → AllByRecursion (λ other. other < id) ids → IsRising (ids ++ id ∷ [])
unfolding IsRising
rises-more [] id rises below = (tt, tt)
rises-more (first ∷ ids) id rises below = (above ids rises.0, rises-more ids id rises.1 below.1)
  where
    above : (ids : List ℕ) → AllByRecursion (λ other. first < other) ids → AllByRecursion (λ other. first < other) (ids ++ id ∷ [])
    above [] all = (below.0, tt)
    above (other ∷ ids) all = (all.0, above ids all.1)

below-more : (ids : List ℕ) (id next : ℕ) → AllByRecursion (λ other. other < next) ids → next ≤ id → AllByRecursion (λ other. other < id + 1) (ids ++ id ∷ [])
below-more [] id next below least = (omega arith, tt)
below-more (other ∷ ids) id next below least = (omega (arith, below.0, least), below-more ids id next below.1 least)

below-id : (ids : List ℕ) (id next : ℕ) → AllByRecursion (λ other. other < next) ids → next ≤ id → AllByRecursion (λ other. other < id) ids
below-id [] id next below least = tt
below-id (other ∷ ids) id next below least = (omega (arith, below.0, least), below-id ids id next below.1 least)

-- the ids of so many rise, all below a next id
pub record AreRising (outlets : List Outlet) (i next : ℕ) : Type 0 where
  pub rises : IsRising (ids_of (take i outlets))
  pub below : AllByRecursion (λ id. id < next) (ids_of (take i outlets))

pub rising-none : (outlets : List Outlet) → AreRising outlets 0 0
unfolding IsRising
rising-none outlets = record { rises = tt; below = tt }

-- so do those of one more, where its id is not below it
pub rising-more : (outlets : List Outlet) (i next : ℕ) → AreRising outlets i next → i < length outlets → next ≤ (slice_index_or outlets i no_outlet).id → AreRising outlets (i + 1) ((slice_index_or outlets i no_outlet).id + 1)
rising-more outlets i next here inside least =
    let id = (slice_index_or outlets i no_outlet).id in
    let more = map_more (λ (outlet : Outlet). outlet.id) outlets i no_outlet inside in
    record {
      rises = rw more (rises-more (ids_of (take i outlets)) id here.rises (below-id (ids_of (take i outlets)) id next here.below least));
      below = rw more (below-more (ids_of (take i outlets)) id next here.below least);
    }

module _ (sorted : List Outlet) (i next : ℕ) (kept : List Outlet) (here : AreKept sorted i next kept) (inside : i < length sorted) where
  abbrev outlet : Outlet
  outlet = slice_index_or sorted i no_outlet

  found-more : (id : ℕ) → found id (take (i + 1) sorted) ≡ option_or (found id (take i sorted)) (found id (outlet ∷ []))
  found-more id = ap (found id) (take_more sorted i no_outlet inside) ∙ found-append id (take i sorted) (outlet ∷ [])

  own-more : (now : List Outlet) → now ≡ kept ++ outlet ∷ [] → (id : ℕ) → id ≡ outlet.id → found id now ≡ None → ⊥
  own-more now now_is id same none = by (found id kept) refl
    where
      all : found id now ≡ option_or (found id kept) (found id (outlet ∷ []))
      all = ap (found id) now_is ∙ found-append id kept (outlet ∷ [])

      by : (one : Option Outlet) → found id kept ≡ one → ⊥
      by None is =
          let clash : None ≡ Some outlet = sym none ∙ (all ∙ (ap (λ one. option_or one (found id (outlet ∷ []))) is ∙ (ap (λ n. found n (outlet ∷ [])) same ∙ found-own outlet []))) in cc
      by (Some one) is = let clash : None ≡ Some one = sym none ∙ (all ∙ ap (λ one. option_or one (found id (outlet ∷ []))) is) in cc

  -- one with a next id is kept
  pub kept-more : (now : List Outlet) → next ≤ outlet.id → now ≡ kept ++ outlet ∷ [] → AreKept sorted (i + 1) (outlet.id + 1) now
  kept-more now least now_is =
      let ids : ids_of now ≡ ids_of kept ++ outlet.id ∷ [] = ap ids_of now_is ∙ map-append (λ (one : Outlet). one.id) kept (outlet ∷ []) in
      record {
        rises = rw ids (rises-more (ids_of kept) outlet.id here.rises (below-id (ids_of kept) outlet.id next here.below least));
        below = rw ids (below-more (ids_of kept) outlet.id next here.below least);
        same = λ id. ap (found id) now_is ∙ (found-append id kept (outlet ∷ []) ∙ (ap (λ one. option_or one (found id (outlet ∷ []))) (here.same id) ∙ sym (found-more id)));
        last = λ id is. record {
          place = i;
          inside = omega arith;
          has = omega (arith, is);
          some = own-more now now_is id (omega (arith, is));
        };
      }

  -- one with the id of the last is not kept
  pub kept-same : IsNonDecreasingBy (λ (outlet : Outlet). outlet.id) sorted → outlet.id < next → AreKept sorted (i + 1) next kept
  kept-same sorts less = record {
    rises = here.rises;
    below = here.below;
    same = λ id. here.same id ∙ (same-all id (found id (take i sorted)) refl ∙ sym (found-more id));
    last = λ id is. let last = here.last id is in record { place = last.place; inside = omega (arith, last.inside); has = last.has; some = last.some };
  }
    where
      missed : (id n : ℕ) → next ≡ n → nat_eq id outlet.id ≡ true → found id (take i sorted) ≡ None → ⊥
      missed id zero is own none = absurd (omega (arith, less, is))
      missed id (suc m) is own none =
          let last = here.last m is in
          let low = sorts last.place i no_outlet (omega (arith, last.inside)) inside in
          let e = eqb-true id outlet.id own in
          let same : m ≡ id = omega (arith, low, last.has, e, less, is) in
          last.some (ap (λ n. found n kept) same ∙ (here.same id ∙ none))

      same-all : (id : ℕ) (one : Option Outlet) → found id (take i sorted) ≡ one → found id (take i sorted) ≡ option_or (found id (take i sorted)) (found id (outlet ∷ []))
      same-all id (Some one) is = is ∙ sym (ap (λ one. option_or one (found id (outlet ∷ []))) is)
      same-all id None is = is ∙ (none-of (nat_eq id outlet.id) refl ∙ sym (ap (λ one. option_or one (found id (outlet ∷ []))) is))
        where
          none-of : (b : Bool) → nat_eq id outlet.id ≡ b → None ≡ found id (outlet ∷ [])
          none-of true own = absurd (missed id next refl own is)
          none-of false other = sym (ap (λ b. cond b (Some outlet) None) other)
