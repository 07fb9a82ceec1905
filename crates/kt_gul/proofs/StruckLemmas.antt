-- The items that an event strikes, distribution by distribution.
use Rattle.std.proofs.Common.{◌≡◌, ◌⊎◌, ℕ, zero, suc, ◌+◌, ◌*◌, ◌^◌, ◌<◌, ◌≤◌, ◌&&◌, ◌||◌, Bool, true, false, nat_eq, List, [], ◌∷◌, ◌++◌, length, take, map, get_or, refl, sym, ap, subst, arith, ◌∙◌, inl, inr}
use Rattle.std.specs.List.{All, filter, list_any}
use Rattle.std.specs.List.Sorted.{IsPermutation, IsNonDecreasingBy, IsStrictlyIncreasing}
use Rattle.std.proofs.lemmas.Bool.{eqb-true, cases_lt}
use Rattle.std.proofs.lemmas.List.{get_or_default, take_all, take_more, get_or-map, length-map, map-append}
use Rattle.std.proofs.lemmas.List.Elements.{All-append, All-map, All-weaker, filter_passes}
use Rattle.std.proofs.lemmas.List.Sorted.{All-permutation, IsPermutation-map, IsPermutation-refl, IsPermutation-cons, IsPermutation-middle, IsPermutation-sym, IsPermutation-trans, IsPermutation-append_left}
use Rattle.kt_rec.specs.Rows.{Rows}
use Rattle.kt_rec.specs.Ranges.{AreInRange, IsCoverage}
use Rattle.kt_rec.specs.declared.exposure.Coverage.{Coverage}
use Rattle.kt_rec.specs.declared.exposure.Item.{Item}
use Rattle.kt_checks.specs.TableChecks.{tiv_of}
use Rattle.kt_stream.specs.Bins.{IsCdf}
use Rattle.kt_stream.specs.declared.entry.Cdf.{Cdf}
use Rattle.kt_damage.specs.declared.moments.DamageMoments.{DamageMoments}
use Rattle.kt_gul.specs.declared.struck.StruckItem.{StruckItem}
use Rattle.kt_gul.specs.GroundUp.{has_pair, bins_of, item_tiv}
use Rattle.kt_gul.specs.Coverage.{IsStruck}
use Rattle.kt_damage.specs.DamageMoments.{AreMoments}
use Rattle.kt_damage.specs.Sampled.{CanSample}
use Rattle.kt_gul.specs.StruckItems.{AreCdfs, AreStruck, AreInOrder, cdf_key, has_cdf, item_of, struck_key}

-- an insured value is at most 10^14
pub tiv_within : (coverages : List Coverage) (id : ℕ) → All IsCoverage coverages → tiv_of coverages id ≤ 10 ^ 14
tiv_within [] id ranges = omega arith
tiv_within (row ∷ rows) id ranges = by (nat_eq id row.coverage_id) refl (tiv_within rows id (λ k d below. ranges (suc k) d (omega arith)))
  where
    by : (b : Bool) → nat_eq id row.coverage_id ≡ b → tiv_of rows id ≤ 10 ^ 14 → tiv_of (row ∷ rows) id ≤ 10 ^ 14
    by true is rest = rw is (let first = ranges 0 row (omega arith) in first.tiv)
    by false is rest = rw is rest

-- what one of two tests that exclude each other passes, filtered apart
pub filters_apart : (p q r : Item → Bool) → ((x : Item) → r x ≡ (p x || q x)) → ((x : Item) → p x ≡ true → q x ≡ false) → (xs : List Item) → IsPermutation (filter r xs) (filter p xs ++ filter q xs)
filters_apart p q r either apart [] = IsPermutation-refl []
filters_apart p q r either apart (x ∷ xs) = by (p x) (q x) refl refl (filters_apart p q r either apart xs)
  where
    by : (a b : Bool) → p x ≡ a → q x ≡ b → IsPermutation (filter r xs) (filter p xs ++ filter q xs) → IsPermutation (filter r (x ∷ xs)) (filter p (x ∷ xs) ++ filter q (x ∷ xs))
    by true true is also rest = let no = apart x is in absurd cc
    by true false is also rest = rw (either x, is, also) (IsPermutation-cons x _ _ rest)
    by false true is also rest = rw (either x, is, also) (IsPermutation-trans _ _ _ (IsPermutation-cons x _ _ rest) (IsPermutation-sym _ _ (IsPermutation-middle (filter p xs) x (filter q xs))))
    by false false is also rest = rw (either x, is, also) rest

-- tests of a list with one more element
pub list_any-push : {X : Type 0} (p : X → Bool) (xs : List X) (x : X) → list_any p (xs ++ x ∷ []) ≡ (list_any p xs || p x)
list_any-push p [] x = by (p x)
  where
    by : (b : Bool) → (b || false) ≡ b
    by true = refl
    by false = refl
list_any-push p (y ∷ xs) x = by (p y) (list_any-push p xs x)
  where
    by : (b : Bool) → list_any p (xs ++ x ∷ []) ≡ (list_any p xs || p x) → (b || list_any p (xs ++ x ∷ [])) ≡ ((b || list_any p xs) || p x)
    by true rest = refl
    by false rest = rest

-- a test that no element of a front passes
list_any-none : {X : Type 0} (p : X → Bool) (xs : List X) (n : ℕ) (d : X) → n ≤ length xs → ((i : ℕ) → i < n → p (get_or xs i d) ≡ false) → list_any p (take n xs) ≡ false
list_any-none p xs zero d within none = refl
list_any-none p [] (suc n) d within none = refl
list_any-none p (x ∷ xs) (suc n) d within none =
    let first = none 0 (omega arith) in
    let rest = list_any-none p xs n d (omega arith) (λ i below. none (suc i) (omega arith)) in
    rw (first) rest

-- numbers that rise strictly, at any two places
pub rising_far : (xs : List ℕ) → IsStrictlyIncreasing xs → (i j : ℕ) → i < j → j < length xs → get_or xs i 0 < get_or xs j 0
rising_far xs rising i zero before below = absurd (omega arith)
rising_far xs rising i (suc j) before below = by (λ less. rising_far xs rising i j less (omega arith)) (cases_lt i j)
  where
    step : get_or xs j 0 < get_or xs (suc j) 0
    step = subst (λ k. get_or xs j 0 < get_or xs k 0) (omega arith) (rising j (omega arith))

    by : (i < j → get_or xs i 0 < get_or xs j 0) → (i < j) ⊎ (j ≤ i) → get_or xs i 0 < get_or xs (suc j) 0
    by earlier (inl less) = let far = earlier less in let one = step in omega arith
    by earlier (inr last) = let same : i ≡ j = omega arith in rw same step

-- what two true tests say
both_true : (a b : Bool) → (a && b) ≡ true → (a ≡ true) × (b ≡ true)
both_true true true is = (refl, refl)
both_true true false is = cc
both_true false b is = cc

-- an item of a distribution's pair has that key
pair_key_of : (cdf : Cdf) (row : Item) → has_pair cdf.areaperil cdf.vulnerability row ≡ true → cdf_key cdf ≡ row.areaperil_id * 2 ^ 32 + row.vulnerability_id
pair_key_of cdf row is =
    let parts = both_true (nat_eq row.areaperil_id cdf.areaperil) (nat_eq row.vulnerability_id cdf.vulnerability) is in
    let one = eqb-true row.areaperil_id cdf.areaperil parts.0 in
    let other = eqb-true row.vulnerability_id cdf.vulnerability parts.1 in
    omega arith

-- earlier distributions are of other pairs
earlier_other : (cdfs : List Cdf) (i j : ℕ) (d : Cdf) (row : Item) → IsStrictlyIncreasing (map cdf_key cdfs) → i < j → j < length cdfs → has_pair (get_or cdfs j d).areaperil (get_or cdfs j d).vulnerability row ≡ true → has_pair (get_or cdfs i d).areaperil (get_or cdfs i d).vulnerability row ≡ false
earlier_other cdfs i j d row rising before below has = by (has_pair (get_or cdfs i d).areaperil (get_or cdfs i d).vulnerability row) refl
  where
    less : cdf_key (get_or cdfs i d) < cdf_key (get_or cdfs j d)
    less =
        let far = rising_far (map cdf_key cdfs) rising i j before (omega (arith, length-map cdfs cdf_key)) in
        omega (arith, far, get_or-map cdf_key cdfs i d 0 (omega arith), get_or-map cdf_key cdfs j d 0 below)

    by : (b : Bool) → has_pair (get_or cdfs i d).areaperil (get_or cdfs i d).vulnerability row ≡ b → has_pair (get_or cdfs i d).areaperil (get_or cdfs i d).vulnerability row ≡ false
    by false is = is
    by true is = absurd (omega (arith, less, pair_key_of (get_or cdfs i d) row is, pair_key_of (get_or cdfs j d) row has))

-- the bins of an item's pair are those of the first distribution of the pair
bins_of-at : (cdfs : List Cdf) (j : ℕ) (d : Cdf) (row : Item) → j < length cdfs → ((i : ℕ) → i < j → has_pair (get_or cdfs i d).areaperil (get_or cdfs i d).vulnerability row ≡ false) → has_pair (get_or cdfs j d).areaperil (get_or cdfs j d).vulnerability row ≡ true → (get_or cdfs j d).bins ≡ bins_of cdfs row
bins_of-at [] j d row below others has = absurd (omega arith)
bins_of-at (cdf ∷ cdfs) zero d row below others has = rw has refl
bins_of-at (cdf ∷ cdfs) (suc j) d row below others has =
    let first = others 0 (omega arith) in
    rw (first) (bins_of-at cdfs j d row (omega arith) (λ i before. others (suc i) (omega arith)) has)

-- no distributions strike no items
pub struck_none : (rows : Rows) (cdfs : List Cdf) → AreStruck rows cdfs 0 []
struck_none rows cdfs = record { items_are = rw (none rows.items) (IsPermutation-refl []); each = λ k d below. absurd (omega arith) }
  where
    none : (items : List Item) → filter (has_cdf (take 0 cdfs)) items ≡ []
    none [] = refl
    none (row ∷ rows) = none rows

-- the items of a list of struck items
pub items_made : (cdf : ℕ) (moments : DamageMoments) (items : List Item) → map item_of (map (λ item. record { item = item; cdf = cdf; moments = moments }) items) ≡ items
items_made cdf moments [] = refl
items_made cdf moments (row ∷ rows) = ap (λ rows. row ∷ rows) (items_made cdf moments rows)

module _ (rows : Rows) (cdfs : List Cdf) (place : ℕ) (cdf : Cdf) (ranges : AreInRange rows) (are : AreCdfs (length rows.damage_bin_dict) cdfs) (below : place < length cdfs) (is : cdf ≡ get_or cdfs place cdf) where
  -- the test of a distribution's items
  abbrev has_it : Item → Bool
  has_it row = has_pair cdf.areaperil cdf.vulnerability row

  -- the same at the list's element
  at_place : (row : Item) → has_it row ≡ true → has_pair (get_or cdfs place cdf).areaperil (get_or cdfs place cdf).vulnerability row ≡ true
  at_place row has = subst (λ (cdf : Cdf). has_pair cdf.areaperil cdf.vulnerability row ≡ true) is has

  -- the items of one more distribution
  items_more : IsPermutation (filter (has_cdf (take (place + 1) cdfs)) rows.items) (filter (has_cdf (take place cdfs)) rows.items ++ filter has_it rows.items)
  items_more = filters_apart (has_cdf (take place cdfs)) has_it (has_cdf (take (place + 1) cdfs)) either apart rows.items
    where
      either : (row : Item) → has_cdf (take (place + 1) cdfs) row ≡ (has_cdf (take place cdfs) row || has_it row)
      either row =
          ap (λ cdfs. has_cdf cdfs row) (take_more cdfs place cdf below)
          ∙ (list_any-push (λ (cdf : Cdf). has_pair cdf.areaperil cdf.vulnerability row) (take place cdfs) (get_or cdfs place cdf)
          ∙ ap (λ (cdf : Cdf). has_cdf (take place cdfs) row || has_pair cdf.areaperil cdf.vulnerability row) (sym is))

      apart : (row : Item) → has_cdf (take place cdfs) row ≡ true → has_it row ≡ false
      apart row earlier = by (has_it row) refl
        where
          by : (b : Bool) → has_it row ≡ b → has_it row ≡ false
          by false other = other
          by true has =
              let none = list_any-none (λ (cdf : Cdf). has_pair cdf.areaperil cdf.vulnerability row) cdfs place cdf (omega arith) (λ i before. earlier_other cdfs i place cdf row are.rising before below (at_place row has)) in
              absurd cc

  -- an item of the distribution is struck
  is_struck : (moments : DamageMoments) → AreMoments cdf.bins moments → (row : Item) → has_it row ≡ true → IsStruck rows cdfs (record { item = row; cdf = place; moments = moments })
  is_struck moments moments_are row has =
      let bins : (get_or cdfs place cdf).bins ≡ bins_of cdfs row = bins_of-at cdfs place cdf row below (λ i before. earlier_other cdfs i place cdf row are.rising before below (at_place row has)) (at_place row has) in
      let own : cdf.bins ≡ bins_of cdfs row = ap (λ (cdf : Cdf). cdf.bins) is ∙ bins in
      let kept : IsCdf (length rows.damage_bin_dict) cdf = subst (λ (cdf : Cdf). IsCdf (length rows.damage_bin_dict) cdf) (sym is) (are.each place cdf below) in
      record {
        known = below;
        bins_are = λ d. same d ∙ bins;
        moments_are = subst (λ bins. AreMoments bins moments) own moments_are;
        ranges = subst (λ bins. CanSample (item_tiv rows row) rows.damage_bin_dict bins) own (record {
          value = tiv_within rows.coverages row.coverage_id ranges.coverages;
          ends = ranges.damage_bin_dict;
          few = omega (arith, kept.few);
          rising = kept.bins;
        });
      }
    where
      same : (d : Cdf) → (get_or cdfs place d).bins ≡ (get_or cdfs place cdf).bins
      same d = ap (λ (cdf : Cdf). cdf.bins) (get_or_default cdfs place d cdf below)

  -- the struck items of one more distribution
  pub struck_more : (moments : DamageMoments) (struck longer : List StruckItem) → AreMoments cdf.bins moments → AreStruck rows cdfs place struck → longer ≡ struck ++ map (λ item. record { item = item; cdf = place; moments = moments }) (filter has_it rows.items) → AreStruck rows cdfs (place + 1) longer
  struck_more moments struck longer moments_are here longer_is =
      let made : Item → StruckItem = λ item. record { item = item; cdf = place; moments = moments } in
      let items : map item_of longer ≡ map item_of struck ++ filter has_it rows.items =
      ap (map item_of) longer_is ∙ (map-append item_of struck (map made (filter has_it rows.items)) ∙ ap (λ more. map item_of struck ++ more) (items_made place moments (filter has_it rows.items))) in
      record {
        items_are = rw items (IsPermutation-trans _ _ _ items_more (IsPermutation-append_left (filter has_it rows.items) _ _ here.items_are));
        each = rw longer_is (All-append (IsStruck rows cdfs) struck (map made (filter has_it rows.items)) here.each
            (All-map (IsStruck rows cdfs) made (filter has_it rows.items) (All-weaker (λ row. has_it row ≡ true) (λ row. IsStruck rows cdfs (made row)) (is_struck moments moments_are) (filter has_it rows.items) (filter_passes has_it rows.items))));
      }

-- the items of all distributions, in order
pub in_order : (rows : Rows) (cdfs : List Cdf) (struck sorted : List StruckItem) → AreStruck rows cdfs (length cdfs) struck → IsPermutation struck sorted → IsNonDecreasingBy struck_key sorted → AreInOrder rows cdfs sorted
in_order rows cdfs struck sorted are moved rising = record {
  items_are = subst (λ cdfs. IsPermutation (filter (has_cdf cdfs) rows.items) (map item_of sorted)) (take_all (length cdfs) cdfs (omega arith)) (IsPermutation-trans _ _ _ are.items_are (IsPermutation-map item_of struck sorted moved));
  each = All-permutation (IsStruck rows cdfs) struck sorted moved are.each;
  rising = rising;
}
