-- Rows that rise as far as a loop has come.
-- The rule: docs/TABLES.md, "Lookups".
use Rattle.std.proofs.Common.{◌≡◌, ℕ, ◌+◌, ◌-◌, ◌<◌, ◌≤◌, ◌++◌, List, [], ◌∷◌, length, get_or, take, sym, subst, ap, ◌∙◌, arith}
use Rattle.std.proofs.lemmas.List.{get_or_read, get_or-take, length-take-le, take_all, take_more}
use Rattle.std.proofs.lemmas.List.Sorted.{IsNonDecreasingBy-push, IsNonDecreasingBy-short}
use Rattle.std.specs.List.Sorted.{IsNonDecreasingBy}

-- the first rows rise, and the last of them is not above a last key
pub record RisesTo {X : Type 0} (key : X → ℕ) (rows : List X) (i last : ℕ) : Type 0 where
  pub rising : IsNonDecreasingBy key (take i rows)
  pub below : (d : X) → 0 < i → key (get_or rows (i - 1) d) ≤ last

module _ {X : Type 0} (key : X → ℕ) (rows : List X) where
  -- no row rises
  pub rises_none : (last : ℕ) → RisesTo key rows 0 last
  rises_none last = record { rising = IsNonDecreasingBy-short key [] (omega arith); below = λ d some. absurd (omega arith) }

  -- one more row that is not below the last
  pub rises_more : (i last : ℕ) (row : X) → i < length rows → row ≡ get_or rows i row → last ≤ key row → RisesTo key rows i last → RisesTo key rows (i + 1) (key row)
  rises_more i last row within read above so_far = record {
    rising = subst (IsNonDecreasingBy key) (sym (take_more rows i row within ∙ ap (λ x. take i rows ++ x ∷ []) (sym read))) (IsNonDecreasingBy-push key (take i rows) row so_far.rising top);
    below = λ d some. let same : i + 1 - 1 ≡ i = omega arith in let here : key row ≡ key (get_or rows i d) = ap key (get_or_read rows i row within read d) in rw same (omega arith);
  }
    where
      top : (d : X) → 0 < length (take i rows) → key (get_or (take i rows) (length (take i rows) - 1) d) ≤ key row
      top d some =
          let long = length-take-le i rows (omega arith) in
          let before = so_far.below d (omega arith) in
          rw (long, get_or-take i rows (i - 1) d (omega arith)) (omega arith)

  -- all rows rise
  pub rises_all : (i last : ℕ) → length rows ≤ i → RisesTo key rows i last → IsNonDecreasingBy key rows
  rises_all i last all so_far = subst (IsNonDecreasingBy key) (take_all i rows all) so_far.rising
