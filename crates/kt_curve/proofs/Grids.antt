-- Sums over all keys of a grid, zeros included, are sums over the entries alone.
use Rattle.std.proofs.Common.{◌≡◌, ⊎_elim, ℕ, zero, suc, ◌+◌, ◌*◌, ◌<◌, ◌≤◌, List, [], ◌∷◌, length, map, get_or, add-mul, length-append, arith, refl, sym, ap, ◌∙◌, cond, Bool, true, false, ◌&&◌, sum_by, nat_eq, All, ℤ, pos, negsuc, Option, Some, None, int_eq}
use Rattle.std.specs.List.{IsDistinct, AllByRecursion, filter, range_with_len}
use Rattle.std.proofs.lemmas.List.{length-map}
use Rattle.std.proofs.lemmas.List.Concat.{flat_map-cons}
use Rattle.std.specs.Map.{keys_of}
use Rattle.std.proofs.lemmas.List.Sums.{sum_by-cons, sum_by-append}
use Rattle.std.proofs.lemmas.List.Elements.{All-head, All-tail}
use Rattle.std.proofs.lemmas.List.FromFn.{length-map-range_with_len}
use Rattle.std.proofs.lemmas.Bool.{cases_lt}
use Rattle.std.proofs.lemmas.Bool.Decides.{nat_tests, Decides-int_eq, Decides-eqb}
use Rattle.std.proofs.lemmas.Map.{NonePasses, lookup-none}
use Rattle.std.proofs.lemmas.Map.Keys.{IsDistinct-head, IsDistinct-tail}
use Rattle.kt_rec.specs.declared.perspective.Perspective.{Perspective}
use Rattle.kt_rec.specs.declared.perspective.CellKey.{CellKey}
use Rattle.kt_cell.specs.declared.cell.Cell.{Cell}
use Rattle.kt_cell.specs.Losses.{same_key, one_if, key_of}
use Rattle.kt_curve.specs.Exceedance.{sidx_values}
use Rattle.kt_curve.specs.Grid.{keys_for, sidx_of_kind}
use Rattle.kt_cell.specs.Sets.{is_mean, same_bool, of_kind, IsGroup}
use Rattle.kt_cell.specs.Standing.{cell_at, sidx_in_range, FitsCells}
use Rattle.kt_cell.specs.SameKeys.{same_exact, same_itself, bool_same, pos_same}

-- how often a test holds
abbrev pub times : {K : Type 0} → (K → Bool) → List K → ℕ
times test keys = sum_by (λ key. one_if (test key)) keys

-- a sum where a test holds nowhere else but where the term was 0
point : {K : Type 0} (test : K → Bool) (c : ℕ) (h : K → ℕ) (keys : List K) → ((k : K) → test k ≡ true → h k ≡ 0) →
    sum_by (λ k. cond (test k) c (h k)) keys ≡ sum_by h keys + times test keys * c
point test c h [] none = omega arith
point test c h (k ∷ keys) none =
    rw (sum_by-cons (λ k. cond (test k) c (h k)) k keys, sum_by-cons h k keys, sum_by-cons (λ key. one_if (test key)) k keys, point test c h keys none) (here (test k) (none k))
  where
    here : (b : Bool) → (b ≡ true → h k ≡ 0) → cond b c (h k) + (sum_by h keys + times test keys * c) ≡ (h k + sum_by h keys) + (one_if b + times test keys) * c
    here true z = let e : h k ≡ 0 = z refl in simp (add-mul) (omega arith)
    here false z = simp (add-mul) (omega arith)

-- sums of the same terms
pub sum_by_same : {K : Type 0} (f g : K → ℕ) → ((k : K) → f k ≡ g k) → (keys : List K) → sum_by f keys ≡ sum_by g keys
sum_by_same f g same [] = refl
sum_by_same f g same (k ∷ keys) = rw (sum_by-cons f k keys, sum_by-cons g k keys, same k, sum_by_same f g same keys) refl

-- a function at a choice
pub at_choice : {X : Type 0} (f : X → ℕ) (b : Bool) (x y : X) → f (cond b x y) ≡ cond b (f x) (f y)
at_choice f true x y = refl
at_choice f false x y = refl

-- a key that is none of the others is not found among them
pub not_found : (key : CellKey) (es : List (CellKey × Cell)) → AllByRecursion (λ y. same_key key y ≡ false) (keys_of es) → cell_at es key ≡ None
not_found key es all = lookup-none (same_key key) es (none_passes es all)
  where
    none_passes : (es : List (CellKey × Cell)) → AllByRecursion (λ y. same_key key y ≡ false) (keys_of es) → NonePasses (same_key key) es
    none_passes [] all = tt
    none_passes (x ∷ es) all = (all.0, none_passes es all.1)

-- the sum over all keys is the sum over the entries, each as often as its key is among them
pub grid_sum : (f : Option Cell → ℕ) → f None ≡ 0 → (es : List (CellKey × Cell)) → IsDistinct same_key (keys_of es) → (keys : List CellKey) →
    sum_by (λ key. f (cell_at es key)) keys ≡ sum_by (λ e. times (λ key. same_key key e.0) keys * f (Some e.1)) es
grid_sum f none [] distinct keys = nothing keys
  where
    nothing : (keys : List CellKey) → sum_by (λ (key : CellKey). f None) keys ≡ 0
    nothing [] = refl
    nothing (k ∷ keys) = sum_by-cons (λ (key : CellKey). f None) k keys ∙ omega (arith, nothing keys)
grid_sum f none (e ∷ es) distinct keys =
    let rest = grid_sum f none es (IsDistinct-tail same_key e.0 (keys_of es) distinct) keys in
    let missing : cell_at es e.0 ≡ None = not_found e.0 es (IsDistinct-head same_key e.0 (keys_of es) distinct) in
    let zero_there : (k : CellKey) → same_key k e.0 ≡ true → f (cell_at es k) ≡ 0 = λ k same. ap (λ (key : CellKey). f (cell_at es key)) (same_exact k e.0 same) ∙ ap f missing ∙ none in
    let split : sum_by (λ key. f (cell_at (e ∷ es) key)) keys ≡ sum_by (λ key. cond (same_key key e.0) (f (Some e.1)) (f (cell_at es key))) keys =
    sum_by_same (λ key. f (cell_at (e ∷ es) key)) (λ key. cond (same_key key e.0) (f (Some e.1)) (f (cell_at es key))) (λ key. at_choice f (same_key key e.0) (Some e.1) (cell_at es key)) keys in
    let pointed : sum_by (λ key. cond (same_key key e.0) (f (Some e.1)) (f (cell_at es key))) keys ≡ sum_by (λ key. f (cell_at es key)) keys + times (λ key. same_key key e.0) keys * f (Some e.1) =
    point (λ key. same_key key e.0) (f (Some e.1)) (λ key. f (cell_at es key)) keys zero_there in
    omega (arith, split, pointed, rest, sum_by-cons (λ (x : CellKey × Cell). times (λ key. same_key key x.0) keys * f (Some x.1)) e es)

-- how often among the entries those that pass a test are taken
pub sum_filter : {X : Type 0} (p : X → Bool) (n : X → ℕ) (g : X → ℕ) (xs : List X) → All (λ x. n x ≡ one_if (p x)) xs → sum_by (λ x. n x * g x) xs ≡ sum_by g (filter p xs)
sum_filter p n g [] all = refl
sum_filter p n g (x ∷ xs) all =
    sum_by-cons (λ y. n y * g y) x xs ∙ ap (λ m. n x * g x + m) (sum_filter p n g xs (All-tail (λ y. n y ≡ one_if (p y)) x xs all)) ∙ here (p x) (All-head (λ y. n y ≡ one_if (p y)) x xs all)
  where
    here : (b : Bool) → n x ≡ one_if b → n x * g x + sum_by g (filter p xs) ≡ sum_by g (cond b (x ∷ filter p xs) (filter p xs))
    here true one = ap (λ m. m * g x + sum_by g (filter p xs)) one ∙ (let e : 1 * g x + sum_by g (filter p xs) ≡ g x + sum_by g (filter p xs) = omega arith in e) ∙ sym (sum_by-cons g x (filter p xs))
    here false none = ap (λ m. m * g x + sum_by g (filter p xs)) none ∙ omega arith

-- ---- how often a key is in a grid

-- a test of what a function gives
pub times_map : {K L : Type 0} (test : L → Bool) (h : K → L) (xs : List K) → times test (map h xs) ≡ times (λ x. test (h x)) xs
times_map test h [] = refl
times_map test h (x ∷ xs) =
    sum_by-cons (λ key. one_if (test key)) (h x) (map h xs) ∙ ap (λ n. one_if (test (h x)) + n) (times_map test h xs) ∙ sym (sum_by-cons (λ key. one_if (test (h key))) x xs)

-- a test that never holds
pub never : {K : Type 0} (xs : List K) → times (λ (x : K). false) xs ≡ 0
never [] = refl
never {K = K} (x ∷ xs) = sum_by-cons (λ (x : K). 0) x xs ∙ omega (arith, never xs)

-- a test that is answered alike
pub times_same : {K : Type 0} (one other : K → Bool) → ((x : K) → one x ≡ other x) → (xs : List K) → times one xs ≡ times other xs
times_same one other same xs = sum_by_same (λ k. one_if (one k)) (λ k. one_if (other k)) (λ k. ap one_if (same k)) xs

-- no number below a range is in it
range_below : (t a n : ℕ) → t < a → times (λ j. nat_eq j t) (range_with_len a n) ≡ 0
range_below t a zero below = refl
range_below t a (suc n) below =
    let apart : nat_eq a t ≡ false = grind (arith, nat_tests) in
    sum_by-cons (λ j. one_if (nat_eq j t)) a (range_with_len (a + 1) n) ∙ omega (arith, ap one_if apart, range_below t (a + 1) n (omega arith))

-- a number of a range is in it once
pub range_once : (t a n : ℕ) → a ≤ t → t < a + n → times (λ j. nat_eq j t) (range_with_len a n) ≡ 1
range_once t a zero from upto = absurd (omega arith)
range_once t a (suc n) from upto =
    sum_by-cons (λ j. one_if (nat_eq j t)) a (range_with_len (a + 1) n) ∙ ⊎_elim
    (λ (later : a < t). let apart : nat_eq a t ≡ false = grind (arith, nat_tests) in omega (arith, ap one_if apart, range_once t (a + 1) n (omega arith) (omega arith)))
    (λ (here : t ≤ a). let same : nat_eq a t ≡ true = grind (arith, nat_tests) in omega (arith, ap one_if same, range_below t (a + 1) n (omega arith)))
    (cases_lt a t)

-- keys of one summary are the same where their sidx and their periods are
pub same_by_parts : (p : Perspective) (s u : ℕ) (x y : ℤ) (i j : ℕ) → same_key (key_of p s u x i) (key_of p s u y j) ≡ int_eq x y && nat_eq i j
same_by_parts p s u x y i j =
    bool_same (same_key (key_of p s u x i) (key_of p s u y j)) (int_eq x y && nat_eq i j)
    (λ same. let is : key_of p s u x i ≡ key_of p s u y j = same_exact (key_of p s u x i) (key_of p s u y j) same in
    both_true (int_eq x y) (nat_eq i j) ((Decides-int_eq x y).1 (ap (λ k. k.sidx) is)) ((Decides-eqb i j).1 (ap (λ k. k.period) is)))
    (λ both. let parts = both_of (int_eq x y) (nat_eq i j) both in
    let is : key_of p s u x i ≡ key_of p s u y j = ap (λ z. key_of p s u z i) ((Decides-int_eq x y).0 parts.0) ∙ ap (λ n. key_of p s u y n) ((Decides-eqb i j).0 parts.1) in
    ap (λ k. same_key k (key_of p s u y j)) is ∙ same_itself (key_of p s u y j))
  where
    both_true : (a b : Bool) → a ≡ true → b ≡ true → a && b ≡ true
    both_true true b e f = f
    both_true false b e f = e

    both_of : (a b : Bool) → a && b ≡ true → (a ≡ true) × (b ≡ true)
    both_of true b e = (refl, e)
    both_of false b e = cc

-- the keys of one sidx, of which one has the period
sidx_times : (p : Perspective) (s u : ℕ) (x y : ℤ) (t n : ℕ) → 1 ≤ t → t ≤ n → times (λ key. same_key key (key_of p s u y t)) (map (key_of p s u x) (range_with_len 1 n)) ≡ one_if (int_eq x y)
sidx_times p s u x y t n from upto =
    times_map (λ key. same_key key (key_of p s u y t)) (key_of p s u x) (range_with_len 1 n)
    ∙ times_same (λ j. same_key (key_of p s u x j) (key_of p s u y t)) (λ j. int_eq x y && nat_eq j t) (λ j. same_by_parts p s u x y j t) (range_with_len 1 n)
    ∙ by_sidx (int_eq x y)
  where
    by_sidx : (b : Bool) → times (λ j. b && nat_eq j t) (range_with_len 1 n) ≡ one_if b
    by_sidx true = range_once t 1 n from (omega arith)
    by_sidx false = never (range_with_len 1 n)

-- the keys of all sidx
pub keys_times : (p : Perspective) (s u : ℕ) (y : ℤ) (t n : ℕ) (sidxs : List ℤ) → 1 ≤ t → t ≤ n → times (λ key. same_key key (key_of p s u y t)) (keys_for p s u sidxs n) ≡ times (λ x. int_eq x y) sidxs
keys_times p s u y t n [] from upto = refl
keys_times p s u y t n (x ∷ sidxs) from upto =
    ap (times (λ key. same_key key (key_of p s u y t))) (flat_map-cons (λ sidx. map (key_of p s u sidx) (range_with_len 1 n)) x sidxs)
    ∙ sum_by-append (λ key. one_if (same_key key (key_of p s u y t))) (map (key_of p s u x) (range_with_len 1 n)) (keys_for p s u sidxs n)
    ∙ (let a = sidx_times p s u x y t n from upto in let b = keys_times p s u y t n sidxs from upto in
    let both : times (λ key. same_key key (key_of p s u y t)) (map (key_of p s u x) (range_with_len 1 n)) + times (λ key. same_key key (key_of p s u y t)) (keys_for p s u sidxs n) ≡ one_if (int_eq x y) + times (λ z. int_eq z y) sidxs = omega (arith, a, b) in both)
    ∙ sym (sum_by-cons (λ z. one_if (int_eq z y)) x sidxs)

-- a sidx in range is once among the sidx of its kind
pub kind_times : (mean : Bool) (samples : ℕ) (y : ℤ) → sidx_in_range samples y ≡ true → times (λ x. int_eq x y) (sidx_of_kind mean samples) ≡ one_if (same_bool (is_mean y) mean)
kind_times true samples (pos zero) within = cc
kind_times true samples (pos (suc k)) within = refl
kind_times true samples (negsuc zero) within = refl
kind_times true samples (negsuc (suc k)) within = cc
kind_times false samples (pos zero) within = cc
kind_times false samples (pos (suc k)) within =
    let low : k < samples = grind (arith, nat_tests) in
    times_map (λ x. int_eq x (pos (suc k))) pos (range_with_len 1 samples)
    ∙ times_same (λ j. int_eq (pos j) (pos (suc k))) (λ j. nat_eq j (suc k)) (λ j. pos_same j (suc k)) (range_with_len 1 samples) ∙ range_once (suc k) 1 samples (omega arith) (omega arith)
kind_times false samples (negsuc zero) within = times_map (λ x. int_eq x (negsuc zero)) pos (range_with_len 1 samples) ∙ never (range_with_len 1 samples)
kind_times false samples (negsuc (suc k)) within = cc

-- ---- the entries of one summary

-- the sum over all keys of some sidx is the sum over the entries of those sidx
pub group_sum_by : (f : Option Cell → ℕ) → f None ≡ 0 → (p : Perspective) (s n samples u : ℕ) (group : List (CellKey × Cell)) (sidxs : List ℤ) (test : CellKey × Cell → Bool) → IsGroup p s n samples u group →
    ((e : CellKey × Cell) → sidx_in_range samples e.0.sidx ≡ true → times (λ x. int_eq x e.0.sidx) sidxs ≡ one_if (test e)) →
    sum_by (λ key. f (cell_at group key)) (keys_for p s u sidxs n) ≡ sum_by (λ e. f (Some e.1)) (filter test group)
group_sum_by f none p s n samples u group sidxs test is tested =
    grid_sum f none group is.distinct (keys_for p s u sidxs n)
    ∙ sum_filter test (λ e. times (λ key. same_key key e.0) (keys_for p s u sidxs n)) (λ e. f (Some e.1)) group
    (λ k d below. one (get_or group k d) (is.fitting k d below) (is.own k d below))
  where
    one : (e : CellKey × Cell) → FitsCells n samples e.0 e.1 → e.0 ≡ key_of p s u e.0.sidx e.0.period →
        times (λ key. same_key key e.0) (keys_for p s u sidxs n) ≡ one_if (test e)
    one e fits own =
        ap (λ k. times (λ key. same_key key k) (keys_for p s u sidxs n)) own
        ∙ keys_times p s u e.0.sidx e.0.period n sidxs fits.first fits.last ∙ tested e fits.sidx

-- the sum over all keys of a kind is the sum over the entries of that kind
pub group_sum : (f : Option Cell → ℕ) → f None ≡ 0 → (p : Perspective) (s n samples u : ℕ) (group : List (CellKey × Cell)) (mean : Bool) → IsGroup p s n samples u group →
    sum_by (λ key. f (cell_at group key)) (keys_for p s u (sidx_of_kind mean samples) n) ≡ sum_by (λ e. f (Some e.1)) (filter (of_kind mean) group)
group_sum f none p s n samples u group mean is =
    group_sum_by f none p s n samples u group (sidx_of_kind mean samples) (of_kind mean) is (λ e within. kind_times mean samples e.0.sidx within)

-- a sidx is among one where it is that one
pub single_times : (x y : ℤ) → times (λ z. int_eq z y) (x ∷ []) ≡ one_if (int_eq y x)
single_times x y =
    sum_by-cons (λ z. one_if (int_eq z y)) x [] ∙ (let e : one_if (int_eq x y) + 0 ≡ one_if (int_eq x y) = omega arith in e)
    ∙ ap one_if (bool_same (int_eq x y) (int_eq y x) (λ same. (Decides-int_eq y x).1 (sym ((Decides-int_eq x y).0 same))) (λ same. (Decides-int_eq x y).1 (sym ((Decides-int_eq y x).0 same))))

-- how many keys a kind has
pub length_keys : (p : Perspective) (s u n : ℕ) (sidxs : List ℤ) → length (keys_for p s u sidxs n) ≡ length sidxs * n
length_keys p s u n [] = omega arith
length_keys p s u n (x ∷ sidxs) =
    ap length (flat_map-cons (λ sidx. map (key_of p s u sidx) (range_with_len 1 n)) x sidxs)
    ∙ length-append (map (key_of p s u x) (range_with_len 1 n)) (keys_for p s u sidxs n)
    ∙ (let a : length (map (key_of p s u x) (range_with_len 1 n)) ≡ n = length-map-range_with_len (key_of p s u x) 1 n in
    let b = length_keys p s u n sidxs in
    let both : length (map (key_of p s u x) (range_with_len 1 n)) + length (keys_for p s u sidxs n) ≡ n + length sidxs * n = omega (arith, a, b) in
    both ∙ (let e : n + length sidxs * n ≡ suc (length sidxs) * n = omega arith in e))

-- a sidx has a value in each period
pub length_values : (p : Perspective) (s n u : ℕ) (amount : CellKey → ℕ) (sidx : ℤ) → length (sidx_values p s n amount u sidx) ≡ n
length_values p s n u amount sidx = length-map (keys_for p s u (sidx ∷ []) n) amount ∙ length_keys p s u n (sidx ∷ []) ∙ omega arith
