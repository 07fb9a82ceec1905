-- The pairs of rows that rise: each is that of the last row, or stands behind all.
use Rattle.std.proofs.Common.{◌≡◌, ℕ, ◌+◌, ◌*◌, ◌-◌, ◌<◌, ◌≤◌, List, [], ◌∷◌, ◌++◌, length, get_or, refl, ap, sym, subst, ◌∙◌, Less, Equal, Greater, arith, suc}
use Rattle.std.specs.List.{AllByRecursion}
use Rattle.std.specs.BTreeSet.{insert_key}
use Rattle.std.specs.Ordering.{nat_cmp, ordering_then, match_ordering}
use Rattle.std.proofs.lemmas.Grind.{common_steps}
use Rattle.std.proofs.lemmas.List.Elements.{All-from_recursion, All-head, All-tail}
use Rattle.kt_tables.specs.Lookups.{pair_order}
use Rattle.kt_tables.specs.PairLaws.{ArePairsRising}
use Rattle.kt_tables.specs.PairsMade.{ArePairsUpto, IsLastPair, IsNotLastPair, IsPairUpto}

-- a pair whose number is lower stands before
lower : (a b c d : ℕ) → b < 4294967296 → d < 4294967296 → a * 4294967296 + b < c * 4294967296 + d → ordering_then (nat_cmp c a) (nat_cmp d b) ≡ Greater
lower a b c d short other less = grind (arith, common_steps)

-- a pair is no other than itself
itself : (a b c d : ℕ) → a ≡ c → b ≡ d → ordering_then (nat_cmp c a) (nat_cmp d b) ≡ Equal
itself a b c d first second = grind (arith, common_steps)

-- what stands before another has a lower number
has_lower : (a b c d : ℕ) → b < 4294967296 → d < 4294967296 → ordering_then (nat_cmp a c) (nat_cmp b d) ≡ Less → a * 4294967296 + b < c * 4294967296 + d
has_lower a b c d short other is = grind (arith, common_steps)

-- a number that is not above another and of another pair is below it
strictly : (a b c d : ℕ) → b < 4294967296 → d < 4294967296 → a * 4294967296 + b ≤ c * 4294967296 + d → (a ≡ c → b ≡ d → ⊥) → a * 4294967296 + b < c * 4294967296 + d
strictly a b c d short other upto apart = grind arith

-- what stands before another, which stands behind it
turned : (a b c d : ℕ) → ordering_then (nat_cmp a c) (nat_cmp b d) ≡ Less → ordering_then (nat_cmp c a) (nat_cmp d b) ≡ Greater
turned a b c d is = grind (arith, common_steps)

-- the last of two pairs and more is that of those behind the first
last_at : (x y : ℕ × ℕ) (pairs : List (ℕ × ℕ)) (d : ℕ × ℕ) → get_or (x ∷ y ∷ pairs) (length (x ∷ y ∷ pairs) - 1) d ≡ get_or (y ∷ pairs) (length pairs) d
last_at x y pairs d = ap {A = ℕ} (λ n. get_or (x ∷ y ∷ pairs) n d) {x = length (x ∷ y ∷ pairs) - 1} {y = suc (length pairs)} (omega arith)

-- and so is that of those
last_of : (y : ℕ × ℕ) (pairs : List (ℕ × ℕ)) (d : ℕ × ℕ) → get_or (y ∷ pairs) (length (y ∷ pairs) - 1) d ≡ get_or (y ∷ pairs) (length pairs) d
last_of y pairs d = ap {A = ℕ} (λ n. get_or (y ∷ pairs) n d) {x = length (y ∷ pairs) - 1} {y = length pairs} (omega arith)

module _ (pair : ℕ × ℕ) where
  -- a pair that stands behind all is put behind them
  pub put_behind : (pairs : List (ℕ × ℕ)) → AllByRecursion (λ x. pair_order pair x ≡ Greater) pairs → insert_key pair_order pairs pair ≡ pairs ++ pair ∷ []
  put_behind [] all = refl
  put_behind (x ∷ pairs) all = ap (λ order. match_ordering order (pair ∷ x ∷ pairs) (x ∷ pairs) (x ∷ insert_key pair_order pairs pair)) all.0 ∙ ap (λ rest. x ∷ rest) (put_behind pairs all.1)

  -- the last of rising pairs is there already
  pub put_again : (pairs : List (ℕ × ℕ)) → ArePairsRising pairs → IsLastPair pairs pair → insert_key pair_order pairs pair ≡ pairs
  put_again [] rising last = absurd (let some = last.0 in omega arith)
  put_again (x ∷ []) rising last =
      let same = last.1 pair in
      ap (λ order. match_ordering order (pair ∷ x ∷ []) (x ∷ []) (x ∷ pair ∷ [])) (itself x.0 x.1 pair.0 pair.1 same.0 same.1)
  put_again (x ∷ y ∷ pairs) rising last =
      let behind = All-from_recursion (λ other. pair_order x other ≡ Less) (y ∷ pairs) rising.0 (length pairs) pair (omega arith) in
      let same = last.1 pair in
      let at : ℕ × ℕ = get_or (y ∷ pairs) (length pairs) pair in
      let first : at.0 ≡ pair.0 = ap (λ (p : ℕ × ℕ). p.0) (sym (last_at x y pairs pair)) ∙ same.0 in
      let second : at.1 ≡ pair.1 = ap (λ (p : ℕ × ℕ). p.1) (sym (last_at x y pairs pair)) ∙ same.1 in
      let less : ordering_then (nat_cmp x.0 pair.0) (nat_cmp x.1 pair.1) ≡ Less = ap (λ n. ordering_then (nat_cmp x.0 n) (nat_cmp x.1 pair.1)) (sym first) ∙ (ap (λ n. ordering_then (nat_cmp x.0 at.0) (nat_cmp x.1 n)) (sym second) ∙ behind) in
      ap (λ order. match_ordering order (pair ∷ x ∷ y ∷ pairs) (x ∷ y ∷ pairs) (x ∷ insert_key pair_order (y ∷ pairs) pair)) (turned x.0 x.1 pair.0 pair.1 less)
      ∙ ap (λ rest. x ∷ rest) (put_again (y ∷ pairs) rising.1 (omega arith, λ d. subst (λ (p : ℕ × ℕ). (p.0 ≡ pair.0) × (p.1 ≡ pair.1)) (last_at x y pairs d ∙ sym (last_of y pairs d)) (last.1 d)))

  -- a pair that is above all, and not the last, stands behind all
  pub above_all : (pairs : List (ℕ × ℕ)) → ArePairsRising pairs → ArePairsUpto pair pairs → pair.1 < 4294967296 → IsNotLastPair pairs pair → AllByRecursion (λ x. pair_order pair x ≡ Greater) pairs
  above_all [] rising upto short other = tt
  above_all (x ∷ []) rising upto short other =
      let here = All-head (IsPairUpto pair) x [] upto in
      (lower x.0 x.1 pair.0 pair.1 here.0 short (strictly x.0 x.1 pair.0 pair.1 here.0 short here.1 (other pair (omega arith))), tt)
  above_all (x ∷ y ∷ pairs) rising upto short other =
      let here = All-head (IsPairUpto pair) x (y ∷ pairs) upto in
      let last : ℕ × ℕ = get_or (y ∷ pairs) (length pairs) pair in
      let behind = All-from_recursion (λ z. pair_order x z ≡ Less) (y ∷ pairs) rising.0 (length pairs) pair (omega arith) in
      let there = All-tail (IsPairUpto pair) x (y ∷ pairs) upto (length pairs) pair (omega arith) in
      let less = has_lower x.0 x.1 last.0 last.1 here.0 there.0 behind in
      (lower x.0 x.1 pair.0 pair.1 here.0 short (omega (arith, less, there.1)), above_all (y ∷ pairs) rising.1 (All-tail (IsPairUpto pair) x (y ∷ pairs) upto) short (λ d some. subst (λ (p : ℕ × ℕ). p.0 ≡ pair.0 → p.1 ≡ pair.1 → ⊥) (last_at x y pairs d ∙ sym (last_of y pairs d)) (other d (omega arith))))
