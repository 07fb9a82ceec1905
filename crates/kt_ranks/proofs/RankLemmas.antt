-- The ranks that a curve asks for, a return period at a time.
use Rattle.std.proofs.Common.{◌≡◌, ℕ, ◌+◌, ◌-◌, ◌/◌, ◌<◌, ◌≤◌, List, [], ◌∷◌, ◌++◌, length, get_or, take, drop, take_all, arith, subst, sym, ap, ◌∙◌, append_assoc, cond, Bool, true, false, nat_le}
use Rattle.std.proofs.lemmas.Bool.Decides.{nat_tests}
use Rattle.std.proofs.lemmas.List.{append-nil, take_more, take_rest, flat_map_more, drop_all, length-drop}
use Rattle.kt_ranks.specs.Ranks.{Falls, curve_ranks}

-- the two ranks of a return period, if there is one
abbrev asked : ℕ → ℕ → List ℕ
asked count return = cond (nat_le return count) ((count / return - 1) ∷ count / return ∷ []) []

-- the ranks of the return periods so far, and those of the next one
next_ranks : (count : ℕ) (returns : List ℕ) (i : ℕ) → i < length returns → curve_ranks count (take i returns) ++ asked count (get_or returns i 0) ≡ curve_ranks count (take (i + 1) returns)
next_ranks count returns i inside = flat_map_more (asked count) [] (take i returns) (get_or returns i 0) ∙ ap (λ (more : List ℕ). curve_ranks count more) (sym (take_more returns i 0 inside))

-- one return period more, which is at most the number of values
pub ranks_more : (count period : ℕ) (returns ranks middle new : List ℕ) (i : ℕ) → i < length returns → period ≡ get_or returns i 0 → period ≤ count → ranks ≡ curve_ranks count (take i returns) →
    middle ≡ ranks ++ (count / period - 1) ∷ [] → new ≡ middle ++ (count / period) ∷ [] → new ≡ curve_ranks count (take (i + 1) returns)
ranks_more count period returns ranks middle new i inside is low there one two =
    let yes : nat_le (get_or returns i 0) count ≡ true = grind (arith, nat_tests, is, low) in
    two ∙ ap (λ (items : List ℕ). items ++ (count / period) ∷ []) one ∙ append_assoc ranks ((count / period - 1) ∷ []) ((count / period) ∷ [])
    ∙ ap (λ (items : List ℕ). items ++ (count / period - 1) ∷ (count / period) ∷ []) there
    ∙ ap (λ (return : ℕ). curve_ranks count (take i returns) ++ (count / return - 1) ∷ (count / return) ∷ []) is
    ∙ ap (λ (known : Bool). curve_ranks count (take i returns) ++ cond known ((count / get_or returns i 0 - 1) ∷ (count / get_or returns i 0) ∷ []) []) (sym yes)
    ∙ next_ranks count returns i inside

-- one return period more, which is above the number of values
pub ranks_kept : (count period : ℕ) (returns ranks : List ℕ) (i : ℕ) → i < length returns → period ≡ get_or returns i 0 → count < period → ranks ≡ curve_ranks count (take i returns) → ranks ≡ curve_ranks count (take (i + 1) returns)
ranks_kept count period returns ranks i inside is high there =
    let no : nat_le (get_or returns i 0) count ≡ false = grind (arith, nat_tests, is, high) in
    there ∙ sym (append-nil (curve_ranks count (take i returns)))
    ∙ ap (λ (known : Bool). curve_ranks count (take i returns) ++ cond known ((count / get_or returns i 0 - 1) ∷ (count / get_or returns i 0) ∷ []) []) (sym no)
    ∙ next_ranks count returns i inside

-- what is written over a whole vector is what it holds then
pub written_over : (old new : List ℕ) (len : ℕ) → len ≡ length old → length new ≡ length old → take len (new ++ drop (length new) old) ≡ new
written_over old new len is same =
    ap (λ (rest : List ℕ). take len (new ++ rest)) (drop_all (length new) old (omega (arith, same)))
    ∙ ap (λ (items : List ℕ). take len items) (append-nil new) ∙ take_all len new (omega (arith, is, same))

-- the ranks behind the first of falling ones fall
pub later_fall : (ranks : List ℕ) → 1 ≤ length ranks → Falls ranks → Falls (take (length ranks - 1) (drop 1 ranks))
later_fall [] some falls = absurd (omega (arith, some))
later_fall (rank ∷ ranks) some falls = subst (λ (later : List ℕ). Falls later) (sym (take_rest (rank ∷ ranks) 1)) falls.1

-- there are fewer of them
pub later_fewer : (ranks : List ℕ) → 1 ≤ length ranks → length (take (length ranks - 1) (drop 1 ranks)) < length ranks
later_fewer ranks some = subst (λ (later : List ℕ). length later < length ranks) (sym (take_rest ranks 1)) (omega (arith, some, length-drop 1 ranks))
