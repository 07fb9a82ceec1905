-- Sums over lists of ids: of two amounts, of lists behind each other, in either order, and of what one id has.
-- The rule: docs/FINANCIAL_MODULE.md, "Allocation".
use Rattle.std.specs.Prelude.{◌≡◌, ℕ, ◌+◌, ◌≤◌, Bool, true, false, cond, nat_eq, ◌||◌, List, [], ◌∷◌, ◌++◌, map}
use Rattle.std.specs.List.{AllByRecursion, IsDistinct, filter, flat_map, list_any, sum_by}
use Rattle.std.specs.Cmp.{nat_eq_equiv}
use Rattle.std.proofs.Common.{refl, sym, ap, subst, ◌∙◌, arith}
use Rattle.std.proofs.lemmas.Bool.{eqb-true, or_left, or_right}
use Rattle.std.proofs.lemmas.List.Sums.{sum_by-cons, sum_by-append}

-- the sum of what is made of each
pub sum_by-map : {X Y : Type 0} (f : Y → ℕ) (g : X → Y) (xs : List X) → sum_by f (map g xs) ≡ sum_by (λ x. f (g x)) xs
sum_by-map f g [] = refl
sum_by-map f g (x ∷ xs) = omega (arith, sum_by-cons f (g x) (map g xs), sum_by-cons (λ y. f (g y)) x xs, sum_by-map f g xs)

module _ {X : Type 0} where
  -- the sum of two amounts of each
  pub sum_by-plus : (f g : X → ℕ) (xs : List X) → sum_by (λ x. f x + g x) xs ≡ sum_by f xs + sum_by g xs
  sum_by-plus f g [] = omega arith
  sum_by-plus f g (x ∷ xs) = omega (arith, sum_by-cons (λ y. f y + g y) x xs, sum_by-cons f x xs, sum_by-cons g x xs, sum_by-plus f g xs)

  -- amounts that agree have the same sum
  pub sum_by-agree : (f g : X → ℕ) (xs : List X) → AllByRecursion (λ x. f x ≡ g x) xs → sum_by f xs ≡ sum_by g xs
  sum_by-agree f g [] same = refl
  sum_by-agree f g (x ∷ xs) same = omega (arith, sum_by-cons f x xs, sum_by-cons g x xs, same.0, sum_by-agree f g xs same.1)

  -- amounts that are not above others have no greater sum
  pub sum_by-below : (f g : X → ℕ) (xs : List X) → ((x : X) → f x ≤ g x) → sum_by f xs ≤ sum_by g xs
  sum_by-below f g [] few = omega arith
  sum_by-below f g (x ∷ xs) few = omega (arith, sum_by-cons f x xs, sum_by-cons g x xs, few x, sum_by-below f g xs few)

  -- nothing of each adds to nothing
  pub sum_by-none : (xs : List X) → sum_by (λ (x : X). 0) xs ≡ 0
  sum_by-none [] = refl
  sum_by-none (x ∷ xs) = omega (arith, sum_by-cons (λ (y : X). 0) x xs, sum_by-none xs)

  -- the sum over those that pass a test
  pub sum_by-filter : (f : X → ℕ) (test : X → Bool) (xs : List X) → sum_by f (filter test xs) ≡ sum_by (λ x. cond (test x) (f x) 0) xs
  sum_by-filter f test [] = refl
  sum_by-filter f test (x ∷ xs) = by (test x) (sum_by-filter f test xs) ∙ sym (sum_by-cons (λ y. cond (test y) (f y) 0) x xs)
    where
      by : (b : Bool) → sum_by f (filter test xs) ≡ sum_by (λ y. cond (test y) (f y) 0) xs → sum_by f (cond b (x ∷ filter test xs) (filter test xs)) ≡ cond b (f x) 0 + sum_by (λ y. cond (test y) (f y) 0) xs
      by true rest = omega (arith, sum_by-cons f x (filter test xs), rest)
      by false rest = omega (arith, rest)

-- the sum over lists behind each other
pub sum_by-flat_map : {X Y : Type 0} (f : Y → ℕ) (g : X → List Y) (xs : List X) → sum_by f (flat_map g xs) ≡ sum_by (λ x. sum_by f (g x)) xs
sum_by-flat_map f g [] = refl
sum_by-flat_map f g (x ∷ xs) = omega (arith, sum_by-append f (g x) (flat_map g xs), sum_by-flat_map f g xs, sum_by-cons (λ y. sum_by f (g y)) x xs)

-- a sum over pairs, in either order
pub sum_by-swap : {X Y : Type 0} (f : X → Y → ℕ) (xs : List X) (ys : List Y) → sum_by (λ x. sum_by (f x) ys) xs ≡ sum_by (λ y. sum_by (λ x. f x y) xs) ys
sum_by-swap f [] ys = sym (sum_by-none ys)
sum_by-swap {X = X} {Y = Y} f (x ∷ xs) ys =
    sum_by-cons (λ z. sum_by (f z) ys) x xs
    ∙ (ap (λ n. sum_by (f x) ys + n) (sum_by-swap f xs ys)
    ∙ (sym (sum_by-plus (f x) (λ y. sum_by (λ z. f z y) xs) ys)
    ∙ sum_by-agree (λ y. f x y + sum_by (λ z. f z y) xs) (λ y. sum_by (λ z. f z y) (x ∷ xs)) ys (first ys)))
  where
    first : (rest : List Y) → AllByRecursion (λ y. f x y + sum_by (λ z. f z y) xs ≡ sum_by (λ z. f z y) (x ∷ xs)) rest
    first [] = tt
    first (y ∷ rest) = (sym (sum_by-cons (λ z. f z y) x xs), first rest)

-- an id that is apart from each of some is not among them
absent : (id first : ℕ) (ids : List ℕ) → id ≡ first → AllByRecursion (λ other. nat_eq first other ≡ false) ids → list_any (nat_eq id) ids ≡ false
absent id first [] same apart = refl
absent id first (other ∷ ids) same apart =
    let here : nat_eq id other ≡ false = rw same apart.0 in
    let rest = absent id first ids same apart.1 in
    rw (here, rest) refl

-- an amount of one id, over distinct ids: it counts once where the id is among them
pub sum_by-one : (amount id : ℕ) (ids : List ℕ) → IsDistinct nat_eq ids → sum_by (λ other. cond (nat_eq id other) amount 0) ids ≡ cond (list_any (nat_eq id) ids) amount 0
unfolding IsDistinct
sum_by-one amount id [] distinct = refl
sum_by-one amount id (first ∷ ids) distinct =
    sum_by-cons (λ other. cond (nat_eq id other) amount 0) first ids ∙ by (nat_eq id first) refl (sum_by-one amount id ids distinct.1)
  where
    by : (b : Bool) → nat_eq id first ≡ b → sum_by (λ other. cond (nat_eq id other) amount 0) ids ≡ cond (list_any (nat_eq id) ids) amount 0 → cond b amount 0 + sum_by (λ other. cond (nat_eq id other) amount 0) ids ≡ cond (b || list_any (nat_eq id) ids) amount 0
    by true is rest = let none = absent id first ids (eqb-true id first is) distinct.0 in omega (arith, rest ∙ ap (λ b. cond b amount 0) none)
    by false is rest = omega (arith, rest)

-- what holds of each of some lists holds of them behind each other
pub each_append : {X : Type 0} (P : X → Type 0) (xs ys : List X) → AllByRecursion P xs → AllByRecursion P ys → AllByRecursion P (xs ++ ys)
each_append P [] ys all more = more
each_append P (x ∷ xs) ys all more = (all.0, each_append P xs ys all.1 more)

pub each_flat_map : {X Y : Type 0} (P : X → Type 0) (Q : Y → Type 0) (g : X → List Y) → ((x : X) → P x → AllByRecursion Q (g x)) → (xs : List X) → AllByRecursion P xs → AllByRecursion Q (flat_map g xs)
each_flat_map P Q g makes [] all = tt
each_flat_map P Q g makes (x ∷ xs) all = each_append Q (g x) (flat_map g xs) (makes x all.0) (each_flat_map P Q g makes xs all.1)

-- what follows from what holds of each holds of each
pub each_then : {X : Type 0} (P Q : X → Type 0) → ((x : X) → P x → Q x) → (xs : List X) → AllByRecursion P xs → AllByRecursion Q xs
each_then P Q follows [] all = tt
each_then P Q follows (x ∷ xs) all = (follows x all.0, each_then P Q follows xs all.1)

-- each of some ids is among them
pub each_member : (ids : List ℕ) → AllByRecursion (λ id. list_any (nat_eq id) ids ≡ true) ids
each_member [] = tt
each_member (id ∷ ids) =
    (ap (λ b. b || list_any (nat_eq id) ids) (nat_eq_equiv.refl id), each_then _ _ (λ other h. or_right (nat_eq other id) (list_any (nat_eq other) ids) h) ids (each_member ids))

-- an id among some that passes a test is among those that pass it
pub member_filter : (test : ℕ → Bool) (id : ℕ) (ids : List ℕ) → test id ≡ true → list_any (nat_eq id) ids ≡ true → list_any (nat_eq id) (filter test ids) ≡ true
member_filter test id [] passes member = member
member_filter test id (first ∷ ids) passes member = by (nat_eq id first) refl member (member_filter test id ids passes)
  where
    kept : (b : Bool) → list_any (nat_eq id) (filter test ids) ≡ true → list_any (nat_eq id) (cond b (first ∷ filter test ids) (filter test ids)) ≡ true
    kept true rest = or_right (nat_eq id first) _ rest
    kept false rest = rest

    by : (b : Bool) → nat_eq id first ≡ b → (b || list_any (nat_eq id) ids) ≡ true → (list_any (nat_eq id) ids ≡ true → list_any (nat_eq id) (filter test ids) ≡ true) → list_any (nat_eq id) (filter test (first ∷ ids)) ≡ true
    by true is member rest =
        let here : test first ≡ true = subst (λ n. test n ≡ true) (eqb-true id first is) passes in
        rw here (or_left (nat_eq id first) _ is)
    by false is member rest = kept (test first) (rest member)

-- those of distinct ids that pass a test are distinct
pub distinct_filter : (test : ℕ → Bool) (ids : List ℕ) → IsDistinct nat_eq ids → IsDistinct nat_eq (filter test ids)
unfolding IsDistinct
distinct_filter test [] distinct = tt
distinct_filter test (id ∷ ids) distinct = by (test id) (distinct_filter test ids distinct.1)
  where
    apart : (P : ℕ → Type 0) (ids : List ℕ) → AllByRecursion P ids → AllByRecursion P (filter test ids)
    apart P [] all = tt
    apart P (other ∷ others) all = kept (test other) all.0 (apart P others all.1)
      where
        kept : (b : Bool) → P other → AllByRecursion P (filter test others) → AllByRecursion P (cond b (other ∷ filter test others) (filter test others))
        kept true here rest = (here, rest)
        kept false here rest = rest

    by : (b : Bool) → IsDistinct nat_eq (filter test ids) → IsDistinct nat_eq (cond b (id ∷ filter test ids) (filter test ids))
    by true rest = (apart (λ other. nat_eq id other ≡ false) ids distinct.0, rest)
    by false rest = rest
