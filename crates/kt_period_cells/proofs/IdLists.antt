-- The summaries of rows by rising summary: each once, and their texts.
use Rattle.std.proofs.Common.{◌≡◌, ℕ, suc, ◌+◌, ◌-◌, ◌<◌, ◌≤◌, List, [], ◌∷◌, ◌++◌, length, get_or, slice_index, take, arith, refl, sym, ap, ◌∙◌, cond, subst}
use Rattle.std.specs.Prelude.{Bool, true, false, ◌||◌, not, nat_eq, All}
use Rattle.std.specs.List.{AllByRecursion, list_any}
use Rattle.std.specs.List.Sorted.{IsNonDecreasingBy}
use Rattle.std.proofs.lemmas.Bool.Decides.{nat_tests, Decides-eqb}
use Rattle.std.proofs.lemmas.List.{take_more, get_or_default}
use Rattle.std.proofs.lemmas.List.Elements.{All-head, All-tail, All-push}
use Rattle.std.proofs.lemmas.List.Folds.{list_any-append}
use Rattle.kt_rec.specs.Rising.{IsRising}
use Rattle.kt_period_cells.specs.declared.group.SummaryRow.{SummaryRow}
use Rattle.kt_period_cells.specs.SummaryRows.{is_new}

-- what holds of all and of one more
all_push : (P : ℕ → Type 0) (xs : List ℕ) (x : ℕ) → AllByRecursion P xs → P x → AllByRecursion P (xs ++ x ∷ [])
all_push P [] x all here = (here, tt)
all_push P (y ∷ xs) x all here = (all.0, all_push P xs x all.1 here)

-- an id that is not above and differs is below
below : (a x : ℕ) → a ≤ x → not (nat_eq a x) ≡ true → a < x
below a x low differ = grind (arith, nat_tests)

-- whether an id is not the last of these, id by id
abbrev last_differs : ℕ → List ℕ → Bool
last_differs id [] = true
last_differs id (last ∷ []) = not (nat_eq last id)
last_differs id (first ∷ other ∷ ids) = last_differs id (other ∷ ids)

-- the same by place
new_is : (id : ℕ) (ids : List ℕ) → is_new id ids ≡ last_differs id ids
new_is id [] = refl
new_is id (last ∷ []) = refl
new_is id (first ∷ other ∷ ids) =
    let behind : length (first ∷ other ∷ ids) - 1 ≡ suc (length (other ∷ ids) - 1) = omega arith in
    ap (λ b. b || not (nat_eq (slice_index (first ∷ other ∷ ids) (length (first ∷ other ∷ ids) - 1)) id)) (some (length (other ∷ ids)))
    ∙ ap (λ i. not (nat_eq (slice_index (first ∷ other ∷ ids) i) id)) behind
    ∙ sym (ap (λ b. b || not (nat_eq (slice_index (other ∷ ids) (length (other ∷ ids) - 1)) id)) (some (length ids))) ∙ new_is id (other ∷ ids)
  where
    some : (n : ℕ) → nat_eq (suc n) 0 ≡ false
    some n = grind (arith, nat_tests)

-- a new id behind ids that are not above it
push_rises : (ids : List ℕ) (x : ℕ) → IsRising ids → All (λ id. id ≤ x) ids → last_differs x ids ≡ true → IsRising (ids ++ x ∷ [])
unfolding IsRising
push_rises [] x rising low new = (tt, tt)
push_rises (first ∷ []) x rising low new = ((below first x (All-head (λ id. id ≤ x) first [] low) new, tt), (tt, tt))
push_rises (first ∷ other ∷ ids) x rising low new =
    let next : first < other = rising.0.0 in
    let least : other ≤ x = All-head (λ id. id ≤ x) other ids (All-tail (λ id. id ≤ x) first (other ∷ ids) low) in
    (all_push (λ id. first < id) (other ∷ ids) x rising.0 (omega (arith, next, least)), push_rises (other ∷ ids) x rising.1 (All-tail (λ id. id ≤ x) first (other ∷ ids) low) new)

-- a new id behind ids that are not above it
pub rising_push : (ids : List ℕ) (x : ℕ) → IsRising ids → All (λ id. id ≤ x) ids → is_new x ids ≡ true → IsRising (ids ++ x ∷ [])
rising_push ids x rising low new = push_rises ids x rising low (sym (new_is x ids) ∙ new)

-- no ids
pub rising_none : (ids : List ℕ) → ids ≡ [] → IsRising ids
unfolding IsRising
rising_none ids none = rw none tt

-- an id that is not new is there
last_there : (ids : List ℕ) (x : ℕ) → last_differs x ids ≡ false → list_any (nat_eq x) ids ≡ true
last_there [] x old = cc
last_there (last ∷ []) x old = grind (arith, nat_tests)
last_there (first ∷ other ∷ ids) x old = ap (λ b. nat_eq x first || b) (last_there (other ∷ ids) x old) ∙ always (nat_eq x first)
  where
    always : (a : Bool) → (a || true) ≡ true
    always true = refl
    always false = refl

-- some of one more
any_more : {X : Type 0} (test : X → Bool) (xs : List X) (i : ℕ) (x : X) → i < length xs → x ≡ get_or xs i x → list_any test (take (i + 1) xs) ≡ (list_any test (take i xs) || test x)
any_more test xs i x within is =
    ap (list_any test) (take_more xs i x within ∙ ap (λ y. take i xs ++ y ∷ []) (sym is)) ∙ list_any-append test (take i xs) (x ∷ []) ∙ ap (λ b. list_any test (take i xs) || b) (or_false (test x))
  where
    or_false : (a : Bool) → (a || false) ≡ a
    or_false true = refl
    or_false false = refl

-- the ids of one place more
pub ids_more : (places : List SummaryRow) (i : ℕ) (place : SummaryRow) (ids : List ℕ) → i < length places → place ≡ get_or places i place →
    ((id : ℕ) → list_any (nat_eq id) ids ≡ list_any (λ p. nat_eq id p.summary) (take i places)) →
    (id : ℕ) → list_any (nat_eq id) (ids ++ place.summary ∷ []) ≡ list_any (λ p. nat_eq id p.summary) (take (i + 1) places)
ids_more places i place ids within is so_far id =
    list_any-append (nat_eq id) ids (place.summary ∷ []) ∙ ap (λ b. list_any (nat_eq id) ids || b) (or_false (nat_eq id place.summary)) ∙ ap (λ b. b || nat_eq id place.summary) (so_far id)
    ∙ sym (any_more (λ (p : SummaryRow). nat_eq id p.summary) places i place within is)
  where
    or_false : (a : Bool) → (a || false) ≡ a
    or_false true = refl
    or_false false = refl

-- where its id is there already
pub ids_same : (places : List SummaryRow) (i : ℕ) (place : SummaryRow) (ids : List ℕ) → i < length places → place ≡ get_or places i place → is_new place.summary ids ≡ false →
    ((id : ℕ) → list_any (nat_eq id) ids ≡ list_any (λ p. nat_eq id p.summary) (take i places)) →
    (id : ℕ) → list_any (nat_eq id) ids ≡ list_any (λ p. nat_eq id p.summary) (take (i + 1) places)
ids_same places i place ids within is old so_far id =
    by_test (nat_eq id place.summary) refl ∙ ap (λ b. b || nat_eq id place.summary) (so_far id) ∙ sym (any_more (λ (p : SummaryRow). nat_eq id p.summary) places i place within is)
  where
    by_test : (b : Bool) → nat_eq id place.summary ≡ b → list_any (nat_eq id) ids ≡ (list_any (nat_eq id) ids || nat_eq id place.summary)
    by_test true same =
        let there : list_any (nat_eq id) ids ≡ true = ap (λ n. list_any (nat_eq n) ids) ((Decides-eqb id place.summary).0 same) ∙ last_there ids place.summary (sym (new_is place.summary ids) ∙ old) in
        there ∙ sym (ap (λ b. b || nat_eq id place.summary) there)
    by_test false same = sym (ap (λ b. list_any (nat_eq id) ids || b) same ∙ or_false (list_any (nat_eq id) ids))
      where
        or_false : (a : Bool) → (a || false) ≡ a
        or_false true = refl
        or_false false = refl

-- no id is above those of later places
abbrev pub AreLow : List SummaryRow → ℕ → List ℕ → Type 0
AreLow places i ids = (j : ℕ) (d : SummaryRow) → i ≤ j → j < length places → All (λ id. id ≤ (get_or places j d).summary) ids

-- with the id of one place more
pub low_more : (places : List SummaryRow) (i : ℕ) (place : SummaryRow) (ids : List ℕ) → IsNonDecreasingBy (λ (p : SummaryRow). p.summary) places → i < length places → place ≡ get_or places i place → AreLow places i ids → AreLow places (i + 1) (ids ++ place.summary ∷ [])
low_more places i place ids rising within is low j d after inside =
    All-push (λ id. id ≤ (get_or places j d).summary) ids place.summary (low j d (omega (arith, after)) inside)
    (let here : place.summary ≡ (get_or places i d).summary = ap (λ (p : SummaryRow). p.summary) (is ∙ get_or_default places i place d within) in omega (arith, here, rising i j d (omega (arith, after)) inside))

-- without
pub low_same : (places : List SummaryRow) (i : ℕ) (ids : List ℕ) → AreLow places i ids → AreLow places (i + 1) ids
low_same places i ids low j d after inside = low j d (omega (arith, after)) inside

-- ids that are not above that of a place
pub low_here : (places : List SummaryRow) (i : ℕ) (place : SummaryRow) (ids : List ℕ) → i < length places → place ≡ get_or places i place → AreLow places i ids → All (λ id. id ≤ place.summary) ids
low_here places i place ids within is low = subst (λ (p : SummaryRow). All (λ id. id ≤ p.summary) ids) (sym is) (low i place (omega arith) within)

-- the ids of the first places
pub record AreIds (places : List SummaryRow) (i : ℕ) (ids : List ℕ) : Type 0 where
  pub rising : IsRising ids
  pub members : (id : ℕ) → list_any (nat_eq id) ids ≡ list_any (λ p. nat_eq id p.summary) (take i places)
  pub low : AreLow places i ids

-- an id behind others where it is not the last
pub with_id : (places : List SummaryRow) (i : ℕ) (place : SummaryRow) (ids new : List ℕ) (b : Bool) → IsNonDecreasingBy (λ (p : SummaryRow). p.summary) places → i < length places → place ≡ get_or places i place → is_new place.summary ids ≡ b →
    new ≡ cond b (ids ++ place.summary ∷ []) ids → IsRising ids → ((id : ℕ) → list_any (nat_eq id) ids ≡ list_any (λ p. nat_eq id p.summary) (take i places)) → AreLow places i ids → AreIds places (i + 1) new
with_id places i place ids new true order within is fresh new_is rising members low =
    rw new_is (record {
      rising = rising_push ids place.summary rising (low_here places i place ids within is low) fresh;
      members = ids_more places i place ids within is members;
      low = low_more places i place ids order within is low;
    })
with_id places i place ids new false order within is old new_is rising members low =
    rw new_is (record { rising = rising; members = ids_same places i place ids within is old members; low = low_same places i ids low })
