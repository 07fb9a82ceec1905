-- Where keys begin and end among rows by rising key, known from the rows beside a place.
use Rattle.std.proofs.Common.{◌≡◌, ℕ, ◌+◌, ◌-◌, ◌<◌, ◌≤◌, true, false, List, length, get_or, drop, nat_lt, nat_le, leb, Bool, refl, sym, subst, ap, ◌∙◌, arith, length-drop}
use Rattle.std.specs.List.Sorted.{IsNonDecreasingBy}
use Rattle.std.proofs.lemmas.List.{get_or-drop, get_or_read}
use Rattle.std.proofs.lemmas.Bool.{ltb-true, leb-true, leb-false}
use Rattle.std.proofs.lemmas.Bool.Decides.{nat_tests}
use Rattle.kt_index.specs.KeyEnds.{IsBelow, IsUpto}

-- tests of keys
is_lower : (m n : ℕ) → m < n → nat_lt m n ≡ true
is_lower m n h = grind (arith, nat_tests)

not_lower : (m n : ℕ) → n ≤ m → nat_lt m n ≡ false
not_lower m n h = grind (arith, nat_tests)

is_upto : (m n : ℕ) → m ≤ n → nat_le m n ≡ true
is_upto m n h = grind (arith, nat_tests)

not_upto : (m n : ℕ) → n < m → nat_le m n ≡ false
not_upto m n h = grind (arith, nat_tests)

-- the key that was read of a row is that of the row, whatever stands where none is
pub seen : {X : Type 0} (key : X → ℕ) (rows : List X) (i : ℕ) (row : X) → i < length rows → row ≡ get_or rows i row → (n : ℕ) → n ≡ key row → (d : X) → key (get_or rows i d) ≡ n
seen key rows i row within read n is d = sym (is ∙ ap key (get_or_read rows i row within read d))

module _ {X : Type 0} (key : X → ℕ) (rows : List X) (rising : IsNonDecreasingBy key rows) where
  -- a row that is not below a key, behind one that is
  pub below_at : (low place : ℕ) → ((d : X) → low ≤ key (get_or rows place d)) → ((d : X) → 0 < place → key (get_or rows (place - 1) d) < low) → place < length rows → IsBelow key rows low place
  below_at low place here before within = (
    λ k d least under. let next = before d (omega arith) in let up = rising k (place - 1) d (omega arith) (omega arith) in is_lower (key (get_or rows k d)) low (omega arith),
    λ k d least under. let next = here d in let up = rising place k d least under in not_lower (key (get_or rows k d)) low (omega arith),
  )

  -- rows are up to a greatest, where the last of them is, and the row behind them is above it
  pub upto_at : (top count : ℕ) → ((d : X) → 0 < count → key (get_or rows (count - 1) d) ≤ top) → ((d : X) → count < length rows → top < key (get_or rows count d)) → count ≤ length rows → IsUpto key rows top count
  upto_at top count last next within = (
    λ k d least under. let here = last d (omega arith) in let up = rising k (count - 1) d (omega arith) (omega arith) in is_upto (key (get_or rows k d)) top (omega arith),
    λ k d least under. let here = next d (omega arith) in let up = rising count k d least under in not_upto (key (get_or rows k d)) top (omega arith),
  )

  -- one row is, where the next is above it
  pub upto_one : (top : ℕ) → ((d : X) → key (get_or rows 0 d) ≤ top) → ((d : X) → 1 < length rows → top < key (get_or rows 1 d)) → 0 < length rows → IsUpto key rows top 1
  upto_one top first second some = upto_at top 1 (λ d under. first d) second (omega arith)

-- rows up to a greatest behind those below a least
pub upto_behind : {X : Type 0} (key : X → ℕ) (rows : List X) (low top start found : ℕ) → low ≤ top → start ≤ length rows → IsBelow key rows low start → IsUpto key (drop start rows) top found → IsUpto key rows top (start + found)
upto_behind {X} key rows low top start found order within below upto = (front, back)
  where
    shifted : (k : ℕ) (d : X) → start ≤ k → get_or (drop start rows) (k - start) d ≡ get_or rows k d
    shifted k d from = subst (λ n. get_or (drop start rows) (k - start) d ≡ get_or rows n d) {x = start + (k - start)} {y = k} (omega arith) (get_or-drop start rows (k - start) d)

    front : (k : ℕ) (d : X) → 0 ≤ k → k < start + found → nat_le (key (get_or rows k d)) top ≡ true
    front k d least under = by (leb start k) refl
      where
        by : (b : Bool) → leb start k ≡ b → nat_le (key (get_or rows k d)) top ≡ true
        by true is = let from = leb-true start k is in subst (λ row. nat_le (key row) top ≡ true) (shifted k d from) (upto.0 (k - start) d (omega arith) (omega arith))
        by false is = let early = leb-false start k is in let less = ltb-true (key (get_or rows k d)) low (below.0 k d (omega arith) early) in is_upto (key (get_or rows k d)) top (omega arith)

    back : (k : ℕ) (d : X) → start + found ≤ k → k < length rows → nat_le (key (get_or rows k d)) top ≡ false
    back k d from inside = subst (λ row. nat_le (key row) top ≡ false) (shifted k d (omega arith)) (upto.1 (k - start) d (omega arith) (omega (arith, length-drop start rows)))
