-- Lanes that stand one behind the other in one list.
use Rattle.std.proofs.Common.{append_assoc, ◌≡◌, ℕ, zero, suc, ◌+◌, ◌*◌, ◌<◌, ◌≤◌, ◌-◌, List, [], ◌∷◌, ◌++◌, length, take, drop, replicate, slice_index, slice_index_or, slice_set, refl, sym, ap, ◌∙◌, arith}
use Rattle.std.proofs.lemmas.List.{length-drop, length-take-le, length-append, length-replicate, take_all, take_at, drop_at, take-append-drop, take-append-le, drop-append-le, drop-drop, drop-take, take-take, take-replicate, drop-replicate, get_or-replicate}
use Rattle.kt_lanes.specs.Lanes.{AreLanes, AreWide, column}
use Rattle.kt_lanes.specs.LaneLaws.{All-first}
use Rattle.kt_lanes.specs.SideBySide.{cut}

-- there are so many
pub cut-count : (width count : ℕ) (amounts : List ℕ) → length (cut width count amounts) ≡ count
cut-count width zero amounts = refl
cut-count width (suc count) amounts = ap suc (cut-count width count (drop width amounts))

-- each is as wide
pub cut-wide : (width count : ℕ) (amounts : List ℕ) → width * count ≤ length amounts → AreWide width (cut width count amounts)
cut-wide width zero amounts enough = λ k d below. absurd (omega arith)
cut-wide width (suc count) amounts enough =
    All-first (λ (lane : List ℕ). length lane ≡ width) (take width amounts) (cut width count (drop width amounts)) (length-take-le width amounts (omega (arith, enough)))
    (cut-wide width count (drop width amounts) (omega (arith, enough, length-drop width amounts)))

-- the lane in a place
pub cut-at : (width count : ℕ) (amounts : List ℕ) (place : ℕ) (d : List ℕ) → place < count → slice_index_or (cut width count amounts) place d ≡ take width (drop (width * place) amounts)
cut-at width zero amounts place d below = absurd (omega arith)
cut-at width (suc count) amounts zero d below = let e : 0 ≡ width * 0 = omega arith in ap (λ n. take width (drop n amounts)) e
cut-at width (suc count) amounts (suc place) d below =
    let e : width + width * place ≡ width * suc place = omega arith in
    cut-at width count (drop width amounts) place d (omega arith) ∙ (ap (take width) (drop-drop (width * place) width amounts) ∙ ap (λ n. take width (drop n amounts)) e)

-- it stands within the list
pub cut-inside : (width count place : ℕ) → place < count → width * place + width ≤ width * count
cut-inside width (suc count) zero below = omega arith
cut-inside width (suc count) (suc place) below = omega (arith, cut-inside width count place (omega arith))
cut-inside width zero place below = absurd (omega arith)

-- so do the first so many
few-inside : (width count few : ℕ) → few ≤ count → width * few ≤ width * count
few-inside width count zero within = omega arith
few-inside width zero (suc few) within = absurd (omega (arith, within))
few-inside width (suc count) (suc few) within = omega (arith, few-inside width count few (omega (arith, within)))

-- lanes behind others
pub cut-append : (width n m : ℕ) (amounts more : List ℕ) → length amounts ≡ width * n → cut width (n + m) (amounts ++ more) ≡ cut width n amounts ++ cut width m more
cut-append width zero m [] more long = let e : 0 + m ≡ m = omega arith in ap (λ k. cut width k more) e
cut-append width zero m (a ∷ amounts) more long = absurd (omega (arith, long))
cut-append width (suc n) m amounts more long =
    let e : suc n + m ≡ suc (n + m) = omega arith in
    let fits : width ≤ length amounts = omega (arith, long) in
    ap (λ k. cut width k (amounts ++ more)) e
    ∙ (ap (λ lane. lane ∷ cut width (n + m) (drop width (amounts ++ more))) (take-append-le width amounts more fits)
    ∙ ap (λ rest. take width amounts ∷ rest) (ap (cut width (n + m)) (drop-append-le width amounts more fits) ∙ cut-append width n m (drop width amounts) more (omega (arith, long, length-drop width amounts))))

-- one lane
pub cut-one : (width : ℕ) (lane : List ℕ) → length lane ≡ width → cut width 1 lane ≡ lane ∷ []
cut-one width lane long = ap (λ l. l ∷ []) (take_all width lane (omega (arith, long)))

-- lanes of some width are cut so
pub cut-width : (width other count : ℕ) (amounts : List ℕ) → length amounts ≡ other * count → AreWide width (cut other count amounts) → (length amounts ≡ width * count) × (cut other count amounts ≡ cut width count amounts)
cut-width width other zero amounts long wide = (omega (arith, long), refl)
cut-width width other (suc count) amounts long wide =
    let fits : other ≤ length amounts = omega (arith, long) in
    let first : length (take other amounts) ≡ width = wide 0 [] (omega arith) in
    let same : other ≡ width = sym (length-take-le other amounts fits) ∙ first in
    (long ∙ ap (λ n. n * suc count) same, ap (λ n. cut n (suc count) amounts) same)

-- lanes of some width, and more of that width
pub cut-both : (width one other n m : ℕ) (amounts more : List ℕ) → length amounts ≡ one * n → AreWide width (cut one n amounts) → length more ≡ other * m → AreWide width (cut other m more) → cut width (n + m) (amounts ++ more) ≡ cut one n amounts ++ cut other m more
cut-both width one other n m amounts more long wide more_long more_wide =
    let here = cut-width width one n amounts long wide in
    let there = cut-width width other m more more_long more_wide in
    cut-append width n m amounts more here.0 ∙ (ap (λ lanes. lanes ++ cut width m more) (sym here.1) ∙ ap (λ lanes. cut one n amounts ++ lanes) (sym there.1))

pub both-long : (width one other n m : ℕ) (amounts more : List ℕ) → length amounts ≡ one * n → AreWide width (cut one n amounts) → length more ≡ other * m → AreWide width (cut other m more) → length (amounts ++ more) ≡ width * (n + m)
both-long width one other n m amounts more long wide more_long more_wide =
    omega (arith, length-append amounts more, (cut-width width one n amounts long wide).0, (cut-width width other m more more_long more_wide).0)

-- lanes and one more
pub cut-push : (width n : ℕ) (amounts lane : List ℕ) → length amounts ≡ width * n → AreWide (length lane) (cut width n amounts) → cut (length lane) (n + 1) (amounts ++ lane) ≡ cut width n amounts ++ lane ∷ []
cut-push width n amounts lane long wide =
    let here = cut-width (length lane) width n amounts long wide in
    cut-append (length lane) n 1 amounts lane here.0 ∙ (ap (λ lanes. lanes ++ cut (length lane) 1 lane) (sym here.1) ∙ ap (λ lanes. cut width n amounts ++ lanes) (cut-one (length lane) lane refl))

pub push-long : (width n : ℕ) (amounts lane : List ℕ) → length amounts ≡ width * n → AreWide (length lane) (cut width n amounts) → length (amounts ++ lane) ≡ length lane * (n + 1)
push-long width n amounts lane long wide = omega (arith, length-append amounts lane, (cut-width (length lane) width n amounts long wide).0)

-- no amounts
pub cut-zeros : (width count : ℕ) → AreLanes width count (λ k. replicate count 0) (cut width count (replicate (width * count) 0))
cut-zeros width count = record {
  count_is = cut-count width count (replicate (width * count) 0);
  wide = cut-wide width count (replicate (width * count) 0) (omega (arith, length-replicate {A = ℕ} (width * count) 0));
  each = λ k below. zeros width count k below;
}
  where
    zeros : (width count k : ℕ) → k < width → column k (cut width count (replicate (width * count) 0)) ≡ replicate count 0
    zeros width zero k below = refl
    zeros width (suc count) k below =
        let all : List ℕ = replicate (width * suc count) 0 in
        let rest : width * suc count - width ≡ width * count = omega arith in
        let first : slice_index (take width all) k ≡ 0 = ap (λ lane. slice_index lane k) (take-replicate width (width * suc count) 0 (omega arith)) ∙ get_or-replicate width k 0 0 below in
        ap (λ n. n ∷ column k (cut width count (drop width all))) first
        ∙ ap (λ amounts. 0 ∷ amounts) (ap (λ amounts. column k (cut width count amounts)) (drop-replicate width (width * suc count) 0 ∙ ap (λ n. replicate n 0) rest) ∙ zeros width count k below)

-- ---- one lane in the place of another

take-split : (m n : ℕ) (xs : List ℕ) → take (m + n) xs ≡ take m xs ++ take n (drop m xs)
take-split zero n xs = let e : 0 + n ≡ n = omega arith in ap (λ k. take k xs) e
take-split (suc m) n [] = let e : suc m + n ≡ suc (m + n) = omega arith in ap (λ k. take {A = ℕ} k []) e ∙ sym (take_all n [] (omega arith))
take-split (suc m) n (x ∷ xs) = let e : suc m + n ≡ suc (m + n) = omega arith in ap (λ k. take k (x ∷ xs)) e ∙ ap (λ rest. x ∷ rest) (take-split m n xs)

pub cut-set : (width count place : ℕ) (amounts lane : List ℕ) → length amounts ≡ width * count → place < count → length lane ≡ width → cut width count (take (width * place) amounts ++ (lane ++ drop width (drop (width * place) amounts))) ≡ slice_set (cut width count amounts) place lane
cut-set width zero place amounts lane long below wide = absurd (omega (arith, below))
cut-set width (suc count) zero amounts lane long below wide =
    let none : width * 0 ≡ 0 = omega arith in
    ap (λ n. cut width (suc count) (take n amounts ++ (lane ++ drop width (drop n amounts)))) none
    ∙ (ap (λ first. first ∷ cut width count (drop width (lane ++ drop width amounts))) (take_at lane (drop width amounts) width wide)
    ∙ ap (λ rest. lane ∷ cut width count rest) (drop_at lane (drop width amounts) width wide))
cut-set width (suc count) (suc place) amounts lane long below wide =
    let p = width * place in
    let first = take width amounts in
    let rest = drop width amounts in
    let next : width * suc place ≡ width + p = omega arith in
    let fits : length first ≡ width = length-take-le width amounts (omega (arith, long)) in
    let more = take p rest ++ (lane ++ drop width (drop p rest)) in
    let all : take (width * suc place) amounts ++ (lane ++ drop width (drop (width * suc place) amounts)) ≡ first ++ more =
    ap (λ n. take n amounts ++ (lane ++ drop width (drop n amounts))) next
    ∙ (ap (λ front. front ++ (lane ++ drop width (drop (width + p) amounts))) (take-split width p amounts)
    ∙ (append_assoc first (take p rest) (lane ++ drop width (drop (width + p) amounts))
    ∙ ap (λ back. first ++ (take p rest ++ (lane ++ drop width back))) (sym (drop-drop p width amounts)))) in
    ap (cut width (suc count)) all
    ∙ (ap (λ one. one ∷ cut width count (drop width (first ++ more))) (take_at first more width fits)
    ∙ ap (λ lanes. first ∷ lanes) (ap (cut width count) (drop_at first more width fits) ∙ cut-set width count place rest lane (omega (arith, long, length-drop width amounts)) (omega (arith, below)) wide))

pub set-long : (width count place : ℕ) (amounts lane : List ℕ) → length amounts ≡ width * count → place < count → length lane ≡ width → length (take (width * place) amounts ++ (lane ++ drop width (drop (width * place) amounts))) ≡ width * count
set-long width count place amounts lane long below wide =
    let inside = cut-inside width count place below in
    omega (
      arith,
      long,
      inside,
      wide,
      length-append (take (width * place) amounts) (lane ++ drop width (drop (width * place) amounts)),
      length-append lane (drop width (drop (width * place) amounts)),
      length-take-le (width * place) amounts (omega (arith, long, inside)),
      length-drop width (drop (width * place) amounts),
      length-drop (width * place) amounts,
    )

-- ---- two lanes in the places of one another

module _ (width count first second : ℕ) (amounts : List ℕ) (long : length amounts ≡ width * count) (order : first < second) (below : second < count) where
  abbrev in_front : List ℕ
  in_front = take (width * second) amounts

  abbrev behind : List ℕ
  behind = drop (width * second) amounts

  abbrev first_lane : List ℕ
  first_lane = take width (drop (width * first) in_front)

  abbrev second_lane : List ℕ
  second_lane = take width behind

  -- what stands in front then, and what behind
  abbrev pub new_front : List ℕ
  new_front = take (width * first) in_front ++ (second_lane ++ drop width (drop (width * first) in_front))

  abbrev pub new_back : List ℕ
  new_back = first_lane ++ drop width behind

  front-room : width * first + width ≤ width * second
  front-room = cut-inside width second first order

  pub back-room : width * second + width ≤ length amounts
  back-room = omega (arith, long, cut-inside width count second below)

  front-long : length in_front ≡ width * second
  front-long = length-take-le (width * second) amounts (omega (arith, back-room))

  behind-long : width ≤ length behind
  behind-long = omega (arith, back-room, length-drop (width * second) amounts)

  second-long : length second_lane ≡ width
  second-long = length-take-le width behind behind-long

  after-long : width ≤ length (drop (width * first) in_front)
  after-long = omega (arith, front-room, front-long, length-drop (width * first) in_front)

  first-long : length first_lane ≡ width
  first-long = length-take-le width (drop (width * first) in_front) after-long

  pub new_front-long : length new_front ≡ width * second
  new_front-long =
      omega (
        arith,
        front-room,
        front-long,
        second-long,
        length-append (take (width * first) in_front) (second_lane ++ drop width (drop (width * first) in_front)),
        length-append second_lane (drop width (drop (width * first) in_front)),
        length-take-le (width * first) in_front (omega (arith, front-room, front-long)),
        length-drop width (drop (width * first) in_front),
        length-drop (width * first) in_front,
      )

  pub swapped-long : length (new_front ++ new_back) ≡ width * count
  swapped-long =
      omega (
        arith,
        long,
        back-room,
        first-long,
        new_front-long,
        length-append new_front new_back,
        length-append first_lane (drop width behind),
        length-drop width behind,
        length-drop (width * second) amounts,
      )

  -- the second lane stands in the place of the first
  abbrev one_set : List ℕ
  one_set = take (width * first) amounts ++ (second_lane ++ drop width (drop (width * first) amounts))

  rest-split : drop (width * first) amounts ≡ drop (width * first) in_front ++ behind
  rest-split =
      ap (drop (width * first)) (sym (take-append-drop (width * second) amounts))
      ∙ drop-append-le (width * first) in_front behind (omega (arith, front-room, front-long))

  one-split : one_set ≡ new_front ++ behind
  one-split =
      ap (λ (front : List ℕ). front ++ (second_lane ++ drop width (drop (width * first) amounts)))
      (ap (take (width * first)) (sym (take-append-drop (width * second) amounts))
      ∙ take-append-le (width * first) in_front behind (omega (arith, front-room, front-long)))
      ∙ (ap (λ (rest : List ℕ). take (width * first) in_front ++ (second_lane ++ rest)) (ap (drop width) rest-split ∙ drop-append-le width (drop (width * first) in_front) behind after-long)
      ∙ (ap (λ (rest : List ℕ). take (width * first) in_front ++ rest) (sym (append_assoc second_lane (drop width (drop (width * first) in_front)) behind))
      ∙ sym (append_assoc (take (width * first) in_front) (second_lane ++ drop width (drop (width * first) in_front)) behind)))

  both-set : take (width * second) one_set ++ (first_lane ++ drop width (drop (width * second) one_set)) ≡ new_front ++ new_back
  both-set =
      ap (λ (all : List ℕ). take (width * second) all ++ (first_lane ++ drop width (drop (width * second) all))) one-split
      ∙ (ap (λ (front : List ℕ). front ++ (first_lane ++ drop width (drop (width * second) (new_front ++ behind)))) (take_at new_front behind (width * second) new_front-long)
      ∙ ap (λ (back : List ℕ). new_front ++ (first_lane ++ drop width back)) (drop_at new_front behind (width * second) new_front-long))

  first-is : (d : List ℕ) → first_lane ≡ slice_index_or (cut width count amounts) first d
  first-is d =
      sym (take-append-le width (drop (width * first) in_front) behind after-long)
      ∙ (ap (take width) (sym rest-split) ∙ sym (cut-at width count amounts first d (omega (arith, order, below))))

  pub cut-swap : cut width count (new_front ++ new_back) ≡ slice_set (slice_set (cut width count amounts) first (slice_index_or (cut width count amounts) second [])) second (slice_index_or (cut width count amounts) first [])
  cut-swap =
      let inside : first < count = omega (arith, order, below) in
      ap (cut width count) (sym both-set)
      ∙ (cut-set width count second one_set first_lane (set-long width count first amounts second_lane long inside second-long) below first-long
      ∙ (ap (λ (all : List (List ℕ)). slice_set all second first_lane) (cut-set width count first amounts second_lane long inside second-long)
      ∙ (ap (λ (lane : List ℕ). slice_set (slice_set (cut width count amounts) first lane) second first_lane) (sym (cut-at width count amounts second [] below))
      ∙ ap (slice_set (slice_set (cut width count amounts) first (slice_index_or (cut width count amounts) second [])) second) (first-is []))))

-- ---- the first lanes

pub cut-take : (width count few : ℕ) (amounts : List ℕ) → few ≤ count → cut width few (take (width * few) amounts) ≡ take few (cut width count amounts)
cut-take width count zero amounts within = refl
cut-take width zero (suc few) amounts within = absurd (omega (arith, within))
cut-take width (suc count) (suc few) amounts within =
    let next : width * suc few ≡ width + width * few = omega arith in
    let all = take (width + width * few) amounts in
    ap (λ (n : ℕ). cut width (suc few) (take n amounts)) next
    ∙ (ap (λ (lane : List ℕ). lane ∷ cut width few (drop width all)) (take-take width (width + width * few) amounts (omega arith))
    ∙ ap (λ (lanes : List (List ℕ)). take width amounts ∷ lanes) (ap (cut width few) (drop-take width (width * few) amounts) ∙ cut-take width count few (drop width amounts) (omega (arith, within))))

-- ---- what is kept

module _ (width count : ℕ) (amounts : List ℕ) (long : length amounts ≡ width * count) (lanes : List (List ℕ)) (is : cut width count amounts ≡ lanes) (place : ℕ) (below : place < length lanes) where
  pub place-below : place < count
  place-below = omega (arith, below, ap length is, cut-count width count amounts)

  -- a lane stands within what is kept
  pub place-inside : width * place + width ≤ length amounts
  place-inside = omega (arith, long, cut-inside width count place place-below)

  pub lane-here : (seen : List ℕ) → seen ≡ amounts → (d : List ℕ) → take (width * place + width - width * place) (drop (width * place) seen) ≡ slice_index_or lanes place d
  lane-here seen seen_is d =
      let e : width * place + width - width * place ≡ width = omega arith in
      ap (λ n. take n (drop (width * place) seen)) e
      ∙ (ap (λ xs. take width (drop (width * place) xs)) seen_is
      ∙ (sym (cut-at width count amounts place d place-below) ∙ ap (λ all. slice_index_or all place d) is))

  pub part-wide : (seen : List ℕ) → seen ≡ amounts → length (take (width * place + width - width * place) (drop (width * place) seen)) ≡ width
  part-wide seen seen_is =
      let e : width * place + width - width * place ≡ width = omega arith in
      ap (λ n. length (take n (drop (width * place) seen))) e
      ∙ (ap (λ xs. length (take width (drop (width * place) xs))) seen_is ∙ length-take-le width (drop (width * place) amounts) (omega (arith, place-inside, length-drop (width * place) amounts)))

  -- a lane that takes its place
  module _ (seen lane : List ℕ) (seen_is : seen ≡ amounts) (wide : length lane ≡ width) where
    abbrev written : List ℕ
    written = take (width * place) seen ++ (lane ++ drop (width * place + width - width * place) (drop (width * place) seen))

    written-is : written ≡ take (width * place) amounts ++ (lane ++ drop width (drop (width * place) amounts))
    written-is =
        let e : width * place + width - width * place ≡ width = omega arith in
        ap (λ n. take (width * place) seen ++ (lane ++ drop n (drop (width * place) seen))) e
        ∙ ap (λ xs. take (width * place) xs ++ (lane ++ drop width (drop (width * place) xs))) seen_is

    pub written-long : length written ≡ width * count
    written-long = ap length written-is ∙ set-long width count place amounts lane long place-below wide

    pub written-set : cut width count written ≡ slice_set lanes place lane
    written-set = ap (cut width count) written-is ∙ (cut-set width count place amounts lane long place-below wide ∙ ap (λ all. slice_set all place lane) is)

-- the first lanes stand within what is kept
pub few-fit : (width count : ℕ) (amounts : List ℕ) → length amounts ≡ width * count → (lanes : List (List ℕ)) → cut width count amounts ≡ lanes → (few : ℕ) → few ≤ length lanes → width * few ≤ length amounts
few-fit width count amounts long lanes is few within = omega (arith, long, few-inside width count few (omega (arith, within, ap length is, cut-count width count amounts)))
