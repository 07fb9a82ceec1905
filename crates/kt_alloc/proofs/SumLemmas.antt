-- Sums over rows of which each key is of one row.
use Rattle.std.proofs.Common.{◌≡◌, ℕ, zero, ◌+◌, ◌||◌, Bool, true, false, cond, nat_eq, List, [], ◌∷◌, Option, Some, None, length, map, refl, sym, ap, ◌∙◌, arith, unwrap_or}
use Rattle.std.specs.Cmp.{IsEquivalence, nat_eq_equiv}
use Rattle.std.specs.List.{AllByRecursion, IsDistinct, cons_option, filter, filter_map, list_any, sum, sum_by, zip}
use Rattle.std.specs.Map.{lookup}
use Rattle.std.proofs.lemmas.List.Sums.{sum_by-cons}
use Rattle.kt_rec.specs.Sums.{each_then, sum_by-agree}

-- the amount of what may be absent
abbrev pub amount_of : {X : Type 0} → (X → ℕ) → Option X → ℕ
amount_of amount None = 0
amount_of amount (Some x) = amount x

-- nothing, whether it counts or not
pub either-none : (b : Bool) → cond b 0 0 ≡ zero
either-none true = refl
either-none false = refl

-- what holds of each holds of those of a list
pub each-of : {X : Type 0} (P : X → Type 0) → ((x : X) → P x) → (xs : List X) → AllByRecursion P xs
each-of P all [] = tt
each-of P all (x ∷ xs) = (all x, each-of P all xs)

-- what holds of each for every other holds for every other of each
pub each-all : {A X : Type 0} (P : A → X → Type 0) (xs : List X) → ((a : A) → AllByRecursion (P a) xs) → AllByRecursion (λ x. (a : A) → P a x) xs
each-all P [] all = tt
each-all P (x ∷ xs) all = (λ a. (all a).0, each-all P xs (λ a. (all a).1))

-- what holds of what each becomes
pub each-mapped : {X Y : Type 0} (P : Y → Type 0) (f : X → Y) (xs : List X) → AllByRecursion P (map f xs) → AllByRecursion (λ x. P (f x)) xs
each-mapped P f [] all = tt
each-mapped P f (x ∷ xs) all = (all.0, each-mapped P f xs all.1)

pub mapped-each : {X Y : Type 0} (P : Y → Type 0) (f : X → Y) (xs : List X) → AllByRecursion (λ x. P (f x)) xs → AllByRecursion P (map f xs)
mapped-each P f [] all = tt
mapped-each P f (x ∷ xs) all = (all.0, mapped-each P f xs all.1)

-- what holds of ids holds of those that pass a test, and they pass it
pub each-passing : (P : ℕ → Type 0) (test : ℕ → Bool) (ids : List ℕ) → AllByRecursion P ids → AllByRecursion (λ id. P id × (test id ≡ true)) (filter test ids)
each-passing P test [] all = tt
each-passing P test (id ∷ ids) all = by (test id) refl (each-passing P test ids all.1)
  where
    by : (b : Bool) → test id ≡ b → AllByRecursion (λ id. P id × (test id ≡ true)) (filter test ids) → AllByRecursion (λ id. P id × (test id ≡ true)) (cond b (id ∷ filter test ids) (filter test ids))
    by true passes rest = ((all.0, passes), rest)
    by false fails rest = rest

-- the amounts of what each becomes
pub sum_by-mapped : {X Y : Type 0} (amount : Y → ℕ) (f : X → Y) (xs : List X) → sum_by amount (map f xs) ≡ sum_by (λ x. amount (f x)) xs
sum_by-mapped amount f [] = refl
sum_by-mapped amount f (x ∷ xs) = omega (arith, sum_by-cons amount (f x) (map f xs), sum_by-cons (λ x. amount (f x)) x xs, sum_by-mapped amount f xs)

-- the amounts of what is made of some
pub sum_by-made : {X Y : Type 0} (amount : Y → ℕ) (f : X → Option Y) (xs : List X) → sum_by amount (filter_map f xs) ≡ sum_by (λ x. amount_of amount (f x)) xs
sum_by-made amount f [] = refl
sum_by-made {Y = Y} amount f (x ∷ xs) = by (f x) (sum_by-made amount f xs) ∙ sym (sum_by-cons (λ x. amount_of amount (f x)) x xs)
  where
    by : (made : Option Y) → sum_by amount (filter_map f xs) ≡ sum_by (λ x. amount_of amount (f x)) xs → sum_by amount (cons_option made (filter_map f xs)) ≡ amount_of amount made + sum_by (λ x. amount_of amount (f x)) xs
    by None rest = omega (arith, rest)
    by (Some y) rest = omega (arith, sum_by-cons amount y (filter_map f xs), rest)

module _ {X K : Type 0} {eq : K → K → Bool} (laws : IsEquivalence eq) (key : X → K) where
  -- the key of a row is compared from either side
  pub sum_by-turned : (amount : X → ℕ) (k : K) (xs : List X) → sum_by (λ x. cond (eq (key x) k) (amount x) 0) xs ≡ sum_by (λ x. cond (eq k (key x)) (amount x) 0) xs
  sum_by-turned amount k xs = sum_by-agree (λ x. cond (eq (key x) k) (amount x) 0) (λ x. cond (eq k (key x)) (amount x) 0) xs (each-of _ (λ x. ap (λ b. cond b (amount x) 0) (laws.symm (key x) k)) xs)

  -- rows whose keys are apart from one have nothing for it
  none-apart : (amount : X → ℕ) (k one : K) (xs : List X) → eq k one ≡ true → AllByRecursion (λ other. eq one other ≡ false) (map key xs) → sum_by (λ x. cond (eq k (key x)) (amount x) 0) xs ≡ 0
  none-apart amount k one [] same apart = refl
  none-apart amount k one (x ∷ xs) same apart =
      omega (
        arith,
        sum_by-cons (λ x. cond (eq k (key x)) (amount x) 0) x xs,
        ap (λ b. cond b (amount x) 0) (laws.congr k one (key x) same ∙ apart.0),
        none-apart amount k one xs same apart.1,
      )

  -- the amounts of the rows of a key are that of the row which is found
  pub sum_by-found : (amount : X → ℕ) (k : K) (xs : List X) → IsDistinct eq (map key xs) → sum_by (λ x. cond (eq k (key x)) (amount x) 0) xs ≡ amount_of amount (lookup (eq k) (map (λ x. (key x, x)) xs))
  unfolding IsDistinct
  sum_by-found amount k [] distinct = refl
  sum_by-found amount k (x ∷ xs) distinct = sum_by-cons (λ x. cond (eq k (key x)) (amount x) 0) x xs ∙ by (eq k (key x)) refl (sum_by-found amount k xs distinct.1)
    where
      by : (b : Bool) → eq k (key x) ≡ b → sum_by (λ x. cond (eq k (key x)) (amount x) 0) xs ≡ amount_of amount (lookup (eq k) (map (λ x. (key x, x)) xs)) → cond b (amount x) 0 + sum_by (λ x. cond (eq k (key x)) (amount x) 0) xs ≡ amount_of amount (cond b (Some x) (lookup (eq k) (map (λ x. (key x, x)) xs)))
      by true is rest = omega (arith, none-apart amount k (key x) xs is distinct.0)
      by false is rest = omega (arith, rest)

  -- so an amount of a key counts once where there is a row with it
  pub sum_by-once : (amount : ℕ) (k : K) (xs : List X) → IsDistinct eq (map key xs) → sum_by (λ x. cond (eq k (key x)) amount 0) xs ≡ cond (list_any (eq k) (map key xs)) amount 0
  sum_by-once amount k xs distinct = sum_by-found (λ x. amount) k xs distinct ∙ found xs
    where
      found : (xs : List X) → amount_of (λ (x : X). amount) (lookup (eq k) (map (λ x. (key x, x)) xs)) ≡ cond (list_any (eq k) (map key xs)) amount 0
      found [] = refl
      found (x ∷ xs) = by (eq k (key x)) (found xs)
        where
          by : (b : Bool) → amount_of (λ (x : X). amount) (lookup (eq k) (map (λ x. (key x, x)) xs)) ≡ cond (list_any (eq k) (map key xs)) amount 0 → amount_of (λ (x : X). amount) (cond b (Some x) (lookup (eq k) (map (λ x. (key x, x)) xs))) ≡ cond (b || list_any (eq k) (map key xs)) amount 0
          by true rest = refl
          by false rest = rest

  -- and the amounts of the rows with the key of a row are its own
  pub sum_by-own : (amount : X → ℕ) (xs : List X) → IsDistinct eq (map key xs) → AllByRecursion (λ x. sum_by (λ other. cond (eq (key other) (key x)) (amount other) 0) xs ≡ amount x) xs
  unfolding IsDistinct
  sum_by-own amount [] distinct = tt
  sum_by-own amount (x ∷ xs) distinct = (first, later xs distinct.0 (sum_by-own amount xs distinct.1))
    where
      first : sum_by (λ other. cond (eq (key other) (key x)) (amount other) 0) (x ∷ xs) ≡ amount x
      first =
          omega (
            arith,
            sum_by-cons (λ other. cond (eq (key other) (key x)) (amount other) 0) x xs,
            ap (λ b. cond b (amount x) 0) (laws.refl (key x)),
            sum_by-turned amount (key x) xs,
            none-apart amount (key x) (key x) xs (laws.refl (key x)) distinct.0,
          )

      later : (rest : List X) → AllByRecursion (λ other. eq (key x) other ≡ false) (map key rest) → AllByRecursion (λ y. sum_by (λ other. cond (eq (key other) (key y)) (amount other) 0) xs ≡ amount y) rest → AllByRecursion (λ y. sum_by (λ other. cond (eq (key other) (key y)) (amount other) 0) (x ∷ xs) ≡ amount y) rest
      later [] apart own = tt
      later (y ∷ rest) apart own = (
        omega (arith, sum_by-cons (λ other. cond (eq (key other) (key y)) (amount other) 0) x xs, ap (λ b. cond b (amount x) 0) apart.0, own.0),
        later rest apart.1 own.1,
      )

-- what is found of values beside distinct ids adds to the values
pub sum_by-beside : (ids values : List ℕ) → length ids ≡ length values → IsDistinct nat_eq ids → sum_by (λ id. unwrap_or (lookup (nat_eq id) (zip ids values)) 0) ids ≡ sum values
unfolding IsDistinct
sum_by-beside [] [] same distinct = refl
sum_by-beside [] (value ∷ values) same distinct = absurd (omega arith)
sum_by-beside (id ∷ ids) [] same distinct = absurd (omega arith)
sum_by-beside (id ∷ ids) (value ∷ values) same distinct =
    omega (
      arith,
      sum_by-cons (λ other. unwrap_or (lookup (nat_eq other) (zip (id ∷ ids) (value ∷ values))) 0) id ids,
      ap (λ b. unwrap_or (cond b (Some value) (lookup (nat_eq id) (zip ids values))) 0) (nat_eq_equiv.refl id),
      sum_by-agree (λ other. unwrap_or (lookup (nat_eq other) (zip (id ∷ ids) (value ∷ values))) 0) (λ other. unwrap_or (lookup (nat_eq other) (zip ids values)) 0) ids (each_then _ _ (λ other apart. ap (λ b. unwrap_or (cond b (Some value) (lookup (nat_eq other) (zip ids values))) 0) (nat_eq_equiv.symm other id ∙ apart)) ids distinct.0),
      sum_by-beside ids values (omega arith) distinct.1,
      sum_by-cons (λ (n : ℕ). n) value values,
    )
