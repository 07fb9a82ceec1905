-- Lists of facts, and lists in which each element differs from those behind it: their parts.
-- The rules: docs/STREAMS.md, "Runs".
use Rattle.std.proofs.Common.{◌≡◌, ℕ, Bool, false, List, [], ◌∷◌, ◌++◌, take, drop, sym, ap, ◌∙◌, append_assoc, append-nil, subst, take-append-drop, flat_map}
use Rattle.std.specs.List.{AllByRecursion, IsDistinct}
use Rattle.std.proofs.lemmas.Map.Keys.{IsDistinct-tail}

-- a part of a list that stands in one piece
pub record IsStretch {A : Type 0} (part whole : List A) : Type 0 where
  pub front : List A
  pub back : List A
  pub is : whole ≡ front ++ (part ++ back)

module _ {A : Type 0} (P : A → Type 0) where
  -- what holds of the elements of two lists holds of those of both, and back
  pub all_joined : (xs ys : List A) → AllByRecursion P xs → AllByRecursion P ys → AllByRecursion P (xs ++ ys)
  all_joined [] ys all others = others
  all_joined (x ∷ xs) ys all others = (all.0, all_joined xs ys all.1 others)

  pub all_front : (xs ys : List A) → AllByRecursion P (xs ++ ys) → AllByRecursion P xs
  all_front [] ys all = tt
  all_front (x ∷ xs) ys all = (all.0, all_front xs ys all.1)

  pub all_back : (xs ys : List A) → AllByRecursion P (xs ++ ys) → AllByRecursion P ys
  all_back [] ys all = all
  all_back (x ∷ xs) ys all = all_back xs ys all.1

  -- what holds of a list holds of a stretch of it
  pub all_stretch : (part whole : List A) → IsStretch part whole → AllByRecursion P whole → AllByRecursion P part
  all_stretch part whole stretch all = all_front part stretch.back (all_back stretch.front (part ++ stretch.back) (subst (AllByRecursion P) stretch.is all))

  -- what holds of the lists of all events holds of these lists one after the other
  pub all_of_events : (of : ℕ → List A) (events : List ℕ) → AllByRecursion (λ (event : ℕ). AllByRecursion P (of event)) events → AllByRecursion P (flat_map of events)
  all_of_events of [] all = tt
  all_of_events of (event ∷ later) all = all_joined (of event) (flat_map of later) all.0 (all_of_events of later all.1)

-- one fact of each element gives another
pub all_by : {A : Type 0} (P Q : A → Type 0) → ((x : A) → P x → Q x) → (xs : List A) → AllByRecursion P xs → AllByRecursion Q xs
all_by P Q gives [] all = tt
all_by P Q gives (x ∷ xs) all = (gives x all.0, all_by P Q gives xs all.1)

module _ {A : Type 0} (same : A → A → Bool) where
  -- parts of a list in which each element differs from those behind it
  pub distinct_front : (xs ys : List A) → IsDistinct same (xs ++ ys) → IsDistinct same xs
  unfolding IsDistinct
  distinct_front [] ys distinct = tt
  distinct_front (x ∷ xs) ys distinct = (all_front (λ (y : A). same x y ≡ false) xs ys distinct.0, distinct_front xs ys distinct.1)

  pub distinct_back : (xs ys : List A) → IsDistinct same (xs ++ ys) → IsDistinct same ys
  distinct_back [] ys distinct = distinct
  distinct_back (x ∷ xs) ys distinct = distinct_back xs ys (IsDistinct-tail same x (xs ++ ys) distinct)

  pub distinct_stretch : (part whole : List A) → IsStretch part whole → IsDistinct same whole → IsDistinct same part
  distinct_stretch part whole stretch distinct = distinct_front part stretch.back (distinct_back stretch.front (part ++ stretch.back) (subst (IsDistinct same) stretch.is distinct))

module _ {A : Type 0} where
  -- the whole list is a stretch of itself
  pub whole_stretch : (xs : List A) → IsStretch xs xs
  whole_stretch xs = record { front = []; back = []; is = sym (append-nil xs) }

  -- what stands from one place up to another is a stretch
  pub slice_stretch : (xs : List A) (from to : ℕ) → IsStretch (drop from (take to xs)) xs
  slice_stretch xs from to = record {
    front = take from (take to xs);
    back = drop to xs;
    is = sym (take-append-drop to xs) ∙ ap (λ (ys : List A). ys ++ drop to xs) (sym (take-append-drop from (take to xs))) ∙ append_assoc (take from (take to xs)) (drop from (take to xs)) (drop to xs);
  }
