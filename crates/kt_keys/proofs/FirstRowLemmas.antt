-- Steps of a search for the first row, and the totals of keys.
use Rattle.std.proofs.Common.{◌≡◌, ℕ, ◌+◌, ◌<◌, ◌≤◌, Bool, true, false, cond, List, [], ◌∷◌, ◌++◌, length, get_or, take, drop, refl, ap, sym, ◌∙◌, arith, Option, Some, add-zero, unwrap_or}
use Rattle.std.proofs.lemmas.List.{take_more, drop_more, length-take-le}
use Rattle.std.specs.Cmp.{IsEquivalence}
use Rattle.std.proofs.lemmas.List.Folds.{list_any_more}
use Rattle.std.proofs.lemmas.List.Sums.{sum_by_more}
use Rattle.std.specs.List.{list_any}
use Rattle.std.specs.Prelude.{not, ◌||◌}
use Rattle.kt_keys.specs.TotalLaws.{total_of-same}
use Rattle.kt_keys.specs.FirstRow.{first_refused_after, total_of}

-- a row that is not refused leaves the search to the rows behind it
pub refused-step : {A : Type 0} (refuses : List A → A → Bool) (rows : List A) (i : ℕ) (row : A) (all : Option ℕ) → i < length rows → row ≡ get_or rows i row → refuses (take i rows) row ≡ false → first_refused_after refuses (take i rows) (drop i rows) ≡ all → first_refused_after refuses (take (i + 1) rows) (drop (i + 1) rows) ≡ all
refused-step refuses rows i row all h is passes known =
    ap (λ front. first_refused_after refuses front (drop (i + 1) rows)) (take_more rows i row h ∙ ap (λ x. take i rows ++ x ∷ []) (sym is))
    ∙ (sym (ap (λ b. cond b (Some (length (take i rows) + 1)) (first_refused_after refuses (take i rows ++ row ∷ []) (drop (i + 1) rows))) passes)
    ∙ (sym (ap (λ rest. first_refused_after refuses (take i rows) rest) (drop_more rows i row h ∙ ap (λ x. x ∷ drop (i + 1) rows) (sym is)))
    ∙ known))

-- a row that is refused ends the search
pub refused-here : {A : Type 0} (refuses : List A → A → Bool) (rows : List A) (i : ℕ) (row : A) (all : Option ℕ) → i < length rows → row ≡ get_or rows i row → refuses (take i rows) row ≡ true → first_refused_after refuses (take i rows) (drop i rows) ≡ all → Some (i + 1) ≡ all
refused-here refuses rows i row all h is refused known =
    ap (λ n. Some (n + 1)) (sym (length-take-le i rows (omega arith)))
    ∙ (sym (ap (λ b. cond b (Some (length (take i rows) + 1)) (first_refused_after refuses (take i rows ++ row ∷ []) (drop (i + 1) rows))) refused)
    ∙ (sym (ap (λ rest. first_refused_after refuses (take i rows) rest) (drop_more rows i row h ∙ ap (λ x. x ∷ drop (i + 1) rows) (sym is)))
    ∙ known))

-- what is denied is false
pub not_true : (b : Bool) → not b ≡ true → b ≡ false
not_true true h = absurd (cc)
not_true false h = refl

-- what is not denied is true
pub not_false : (b : Bool) → not b ≡ false → b ≡ true
not_false true h = refl
not_false false h = absurd (cc)

-- a choice of two numbers is within what both are within
pub cond-le : (b : Bool) (x y most : ℕ) → x ≤ most → y ≤ most → cond b x y ≤ most
cond-le true x y most left right = left
cond-le false x y most left right = right

-- the value at a key after a value was put in at one
pub value-step : (b : Bool) (new old : Option ℕ) (value total grown : ℕ) → new ≡ cond b (Some value) old → unwrap_or old 0 ≡ total → value ≡ grown → unwrap_or new 0 ≡ cond b grown total
value-step true new old value total grown put was is = ap (λ o. unwrap_or o 0) put ∙ is
value-step false new old value total grown put was is = ap (λ o. unwrap_or o 0) put ∙ was

module _ {K : Type 0} {same : K → K → Bool} (laws : IsEquivalence same) where
  -- whether a key is among the rows after one more row
  pub member-step : (keys : List K) (i : ℕ) (key other : K) (new old : Bool) → i < length keys → key ≡ get_or keys i key → new ≡ cond (same key other) true old → old ≡ list_any (same other) (take i keys) → new ≡ list_any (same other) (take (i + 1) keys)
  member-step keys i key other new old h is put was =
      put ∙ (ap (λ b. cond b true old) (laws.symm key other)
      ∙ (ap (λ b. cond (same other key) true b) was
      ∙ (by (list_any (same other) (take i keys)) (same other key)
      ∙ (ap (λ x. list_any (same other) (take i keys) || same other x) is
      ∙ sym (list_any_more (same other) keys i key h)))))
    where
      by : (before last : Bool) → cond last true before ≡ (before || last)
      by true true = refl
      by true false = refl
      by false true = refl
      by false false = refl

  -- the totals after one more part: that of its key has grown
  pub total_of-step : (parts : List (K × ℕ)) (i : ℕ) (part : K × ℕ) → i < length parts → part ≡ get_or parts i part → (key : K) → total_of same (take (i + 1) parts) key ≡ cond (same part.0 key) (total_of same (take i parts) part.0 + part.1) (total_of same (take i parts) key)
  total_of-step parts i part h is key =
      sum_by_more (λ x. cond (same key x.0) x.1 0) parts i part h
      ∙ (ap (λ (x : K × ℕ). total_of same (take i parts) key + cond (same key x.0) x.1 0) (sym is)
      ∙ (ap (λ b. total_of same (take i parts) key + cond b part.1 0) (laws.symm key part.0)
      ∙ by (same part.0 key) refl))
    where
      by : (b : Bool) → same part.0 key ≡ b → total_of same (take i parts) key + cond b part.1 0 ≡ cond b (total_of same (take i parts) part.0 + part.1) (total_of same (take i parts) key)
      by true e = ap (λ n. n + part.1) (sym (total_of-same laws (take i parts) part.0 key e))
      by false e = add-zero _
