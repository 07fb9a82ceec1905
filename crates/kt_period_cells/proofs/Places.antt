-- Where rows stand among others, also after one is put in the place of another, or behind all.
use Rattle.std.proofs.Common.{◌≡◌, ℕ, zero, suc, ◌<◌, List, [], ◌∷◌, ◌++◌, length, get_or, set, arith, refl, sym, ap, ◌∙◌, subst, cond, Some, None, Option}
use Rattle.std.specs.Prelude.{Bool, true, false}
use Rattle.std.specs.Option.{option_map, option_or}
use Rattle.std.proofs.lemmas.List.{map-append}
use Rattle.std.proofs.Math.Seq.{map-set_same}
use Rattle.kt_period_cells.specs.declared.row_key.RowKey.{RowKey}
use Rattle.kt_period_cells.specs.declared.row.Row.{Row}
use Rattle.kt_period_cells.specs.Rows.{same_row, row_keys, place_of, Apart, Keeps}
use Rattle.kt_period_cells.proofs.RowKeys.{row_exact, row_itself, same_row_back}

-- the answers of a search behind the first
pub not_first : (b : Bool) (o : Option ℕ) → cond b (Some 0) (option_map suc o) ≡ None → (b ≡ false) × (o ≡ None)
not_first true o none = cc
not_first false None none = (refl, refl)
not_first false (Some i) none = cc

-- a row's place, told from a search
pub found_first : (b : Bool) (o : Option ℕ) → cond b (Some 0) (option_map suc o) ≡ Some 0 → b ≡ true
found_first true o found = refl
found_first false None found = cc
found_first false (Some i) found = let wrong : suc i ≡ 0 = some_place found in absurd (omega (arith, wrong))
  where
    some_place : {m n : ℕ} → Some m ≡ Some n → m ≡ n
    some_place same = cc

-- and behind the first
pub found_later : (b : Bool) (o : Option ℕ) (i : ℕ) → cond b (Some 0) (option_map suc o) ≡ Some (suc i) → (b ≡ false) × (o ≡ Some i)
found_later true o i found = let wrong : 0 ≡ suc i = some_place found in absurd (omega (arith, wrong))
  where
    some_place : {m n : ℕ} → Some m ≡ Some n → m ≡ n
    some_place same = cc
found_later false None i found = cc
found_later false (Some j) i found = let same : suc j ≡ suc i = some_place found in (refl, ap Some (omega (arith, same)))
  where
    some_place : {m n : ℕ} → Some m ≡ Some n → m ≡ n
    some_place same = cc

-- a row that is found is one of the rows
pub placed_within : (key : RowKey) (rows : List Row) (i : ℕ) → place_of key (row_keys rows) ≡ Some i → i < length rows
placed_within key [] i found = cc
placed_within key (row ∷ rows) zero found = omega arith
placed_within key (row ∷ rows) (suc i) found =
    let behind = found_later (same_row key row.key) (place_of key (row_keys rows)) i found in omega (arith, placed_within key rows i behind.1)

-- and has the key
pub placed_key : (key : RowKey) (rows : List Row) (i : ℕ) (row : Row) → place_of key (row_keys rows) ≡ Some i → row ≡ get_or rows i row → row.key ≡ key
placed_key key [] i row found is = cc
placed_key key (first ∷ rows) zero row found is =
    ap (λ (r : Row). r.key) is ∙ sym (row_exact key first.key (found_first (same_row key first.key) (place_of key (row_keys rows)) found))
placed_key key (first ∷ rows) (suc i) row found is =
    let behind = found_later (same_row key first.key) (place_of key (row_keys rows)) i found in placed_key key rows i row behind.1 is

-- the keys of rows of which one changes
pub keys_set : (rows : List Row) (i : ℕ) (old new : Row) → old ≡ get_or rows i old → new.key ≡ old.key → row_keys (set rows i new) ≡ row_keys rows
keys_set rows i old new is same = map-set_same (λ (row : Row). row.key) rows i new old (same ∙ ap (λ (row : Row). row.key) is)

-- where a row stands with one more behind the others
pub place_push : (key : RowKey) (keys : List RowKey) (more : RowKey) → place_of key (keys ++ more ∷ []) ≡ option_or (place_of key keys) (cond (same_row key more) (Some (length keys)) None)
place_push key [] more = by_test (same_row key more)
  where
    by_test : (b : Bool) → cond b (Some 0) (option_map suc None) ≡ option_or None (cond b (Some 0) None)
    by_test true = refl
    by_test false = refl
place_push key (first ∷ keys) more =
    by_test (same_row key first) (place_of key keys) (same_row key more) (place_of key (keys ++ more ∷ [])) (place_push key keys more)
  where
    by_test : (b : Bool) (o : Option ℕ) (c : Bool) (new : Option ℕ) → new ≡ option_or o (cond c (Some (length keys)) None) →
        cond b (Some 0) (option_map suc new) ≡ option_or (cond b (Some 0) (option_map suc o)) (cond c (Some (suc (length keys))) None)
    by_test true o c new is = refl
    by_test false (Some i) c new is = ap (option_map suc) is
    by_test false None true new is = ap (option_map suc) is
    by_test false None false new is = ap (option_map suc) is

-- where a row stands once one that is none of them was put behind the others, as an index answers that notes its place
pub place_more : (key q : RowKey) (keys : List RowKey) → place_of key keys ≡ None → cond (same_row key q) (Some (length keys)) (place_of q keys) ≡ place_of q (keys ++ key ∷ [])
place_more key q keys missing = by_test (same_row key q) refl ∙ sym (place_push q keys key)
  where
    or_none : (o : Option ℕ) → option_or o None ≡ o
    or_none (Some x) = refl
    or_none None = refl

    by_test : (b : Bool) → same_row key q ≡ b → cond b (Some (length keys)) (place_of q keys) ≡ option_or (place_of q keys) (cond (same_row q key) (Some (length keys)) None)
    by_test true same =
        let key_is_q : key ≡ q = row_exact key q same in
        let none_there : place_of q keys ≡ None = subst (λ (k : RowKey). place_of k keys ≡ None) key_is_q missing in
        let back : same_row q key ≡ true = subst (λ (k : RowKey). same_row k key ≡ true) key_is_q (row_itself key) in
        rw (none_there, back) refl
    by_test false other = rw (same_row_back key q other) (sym (or_none (place_of q keys)))

-- a new row stands apart from the others
pub apart_push : (keys : List RowKey) (more : RowKey) → Apart keys → place_of more keys ≡ None → Apart (keys ++ more ∷ [])
apart_push [] more apart missing = (refl, tt)
apart_push (first ∷ keys) more apart missing =
    let behind = not_first (same_row more first) (place_of more keys) missing in (
      place_push first keys more ∙ ap (λ o. option_or o (cond (same_row first more) (Some (length keys)) None)) apart.0 ∙ ap (λ b. cond b (Some (length keys)) None) (same_row_back more first behind.0),
      apart_push keys more apart.1 behind.1,
    )

-- the keys with one more row
pub keys_push : (rows : List Row) (new : Row) (key : RowKey) → new.key ≡ key → row_keys (rows ++ new ∷ []) ≡ row_keys rows ++ key ∷ []
keys_push rows new key same = map-append (λ (row : Row). row.key) rows (new ∷ []) ∙ ap (λ k. row_keys rows ++ k ∷ []) same

-- as many keys as rows
pub length_keys : (rows : List Row) → length (row_keys rows) ≡ length rows
length_keys [] = refl
length_keys (row ∷ rows) = ap suc (length_keys rows)

-- a new row stands behind the others
pub place_last : (rows : List Row) (new : Row) (key : RowKey) → new.key ≡ key → place_of key (row_keys rows) ≡ None → place_of key (row_keys (rows ++ new ∷ [])) ≡ Some (length rows)
place_last rows new key same missing =
    ap (place_of key) (keys_push rows new key same) ∙ place_push key (row_keys rows) key ∙ ap (λ o. option_or o (cond (same_row key key) (Some (length (row_keys rows))) None)) missing
    ∙ ap (λ b. cond b (Some (length (row_keys rows))) None) (row_itself key) ∙ ap Some (length_keys rows)

-- the rows stay where they stood
pub keeps_push : (keys : List RowKey) (more : RowKey) → Keeps keys (keys ++ more ∷ [])
keeps_push keys more row place found = place_push row keys more ∙ ap (λ o. option_or o (cond (same_row row more) (Some (length keys)) None)) found
