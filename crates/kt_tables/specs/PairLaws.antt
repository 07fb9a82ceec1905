-- The pairs of items rise, and are exactly those that some item has.
-- The rules: docs/TABLES.md, "Tables".
use Rattle.std.specs.Prelude.{◌≡◌, ℕ, ◌&&◌, ◌||◌, nat_eq, Bool, true, false, List, [], ◌∷◌}
use Rattle.std.specs.List.{AllByRecursion, fold, list_any}
use Rattle.std.specs.BTreeSet.{insert_key}
use Rattle.std.specs.Ordering.{nat_cmp, ordering_then, match_ordering}
use Rattle.std.specs.declared.cmp.Ordering.{Ordering}
use Rattle.std.specs.declared.cmp.Ordering.TheVariants.{Less, Equal, Greater}
use Rattle.std.proofs.Common.{refl, sym, ap, ◌∙◌, arith}
use Rattle.std.proofs.lemmas.Grind.{common_steps}
use Rattle.kt_rec.specs.declared.exposure.Item.{Item}
use Rattle.kt_keys.specs.Keys.{same_pair}
use Rattle.kt_tables.specs.Lookups.{item_pairs, pair_of, pair_order}

-- pairs rise: each stands before those behind it
abbrev pub ArePairsRising : List (ℕ × ℕ) → Type 0
ArePairsRising [] = Unit {0}
ArePairsRising (pair ∷ pairs) = AllByRecursion (λ other. pair_order pair other ≡ Less) pairs × ArePairsRising pairs

-- ---- the order of pairs

-- what stands before a pair stands before those behind it
before-next : (a b c d e f : ℕ) → ordering_then (nat_cmp a c) (nat_cmp b d) ≡ Less → ordering_then (nat_cmp c e) (nat_cmp d f) ≡ Less → ordering_then (nat_cmp a e) (nat_cmp b f) ≡ Less
before-next a b c d e f one other = grind (arith, common_steps)

-- of two pairs of which one stands behind the other, the other stands before it
turned : (a b c d : ℕ) → ordering_then (nat_cmp a c) (nat_cmp b d) ≡ Greater → ordering_then (nat_cmp c a) (nat_cmp d b) ≡ Less
turned a b c d is = grind (arith, common_steps)

-- pairs of which none stands before the other are the same
equal-same : (a b c d p q : ℕ) → ordering_then (nat_cmp a c) (nat_cmp b d) ≡ Equal → (nat_eq p a && nat_eq q b) ≡ (nat_eq p c && nat_eq q d)
equal-same a b c d p q is = grind (arith, common_steps)

-- ---- one pair more

module _ (pair : ℕ × ℕ) where
  -- a pair stands before all that stand behind a later one
  before-all : (first : ℕ × ℕ) (pairs : List (ℕ × ℕ)) → pair_order pair first ≡ Less → AllByRecursion (λ other. pair_order first other ≡ Less) pairs → AllByRecursion (λ other. pair_order pair other ≡ Less) pairs
  before-all first [] is all = tt
  before-all first (other ∷ pairs) is all = (before-next pair.0 pair.1 first.0 first.1 other.0 other.1 is all.0, before-all first pairs is all.1)

  -- what stands before all, and before the pair, stands before all with it
  all-insert : (first : ℕ × ℕ) (pairs : List (ℕ × ℕ)) → pair_order first pair ≡ Less → AllByRecursion (λ other. pair_order first other ≡ Less) pairs → AllByRecursion (λ other. pair_order first other ≡ Less) (insert_key pair_order pairs pair)
  all-insert first [] is all = (is, tt)
  all-insert first (other ∷ pairs) is all = by (pair_order pair other) (all-insert first pairs is all.1)
    where
      by : (order : Ordering) → AllByRecursion (λ x. pair_order first x ≡ Less) (insert_key pair_order pairs pair) → AllByRecursion (λ x. pair_order first x ≡ Less) (match_ordering order (pair ∷ other ∷ pairs) (other ∷ pairs) (other ∷ insert_key pair_order pairs pair))
      by Less rest = (is, all)
      by Equal rest = all
      by Greater rest = (all.0, rest)

  -- rising pairs rise with one more
  insert-rises : (pairs : List (ℕ × ℕ)) → ArePairsRising pairs → ArePairsRising (insert_key pair_order pairs pair)
  insert-rises [] rises = (tt, tt)
  insert-rises (first ∷ pairs) rises = by (pair_order pair first) refl (insert-rises pairs rises.1)
    where
      by : (order : Ordering) → pair_order pair first ≡ order → ArePairsRising (insert_key pair_order pairs pair) → ArePairsRising (match_ordering order (pair ∷ first ∷ pairs) (first ∷ pairs) (first ∷ insert_key pair_order pairs pair))
      by Less is rest = ((is, before-all first pairs is rises.0), rises)
      by Equal is rest = rises
      by Greater is rest = (all-insert first pairs (turned pair.0 pair.1 first.0 first.1 is) rises.0, rest)

  -- they are those before, and that one
  insert-member : (pairs : List (ℕ × ℕ)) (other : ℕ × ℕ) → list_any (same_pair other) (insert_key pair_order pairs pair) ≡ (same_pair other pair || list_any (same_pair other) pairs)
  insert-member [] other = refl
  insert-member (first ∷ pairs) other = by (pair_order pair first) refl (insert-member pairs other)
    where
      again : (a c : Bool) → (a || c) ≡ (a || (a || c))
      again true c = refl
      again false c = refl

      swap : (a b c : Bool) → (a || (b || c)) ≡ (b || (a || c))
      swap true true c = refl
      swap true false c = refl
      swap false b c = refl

      by : (order : Ordering) → pair_order pair first ≡ order → list_any (same_pair other) (insert_key pair_order pairs pair) ≡ (same_pair other pair || list_any (same_pair other) pairs) → list_any (same_pair other) (match_ordering order (pair ∷ first ∷ pairs) (first ∷ pairs) (first ∷ insert_key pair_order pairs pair)) ≡ (same_pair other pair || (same_pair other first || list_any (same_pair other) pairs))
      by Less is rest = refl
      by Equal is rest = again (same_pair other first) _ ∙ ap (λ b. b || (same_pair other first || list_any (same_pair other) pairs)) (sym (equal-same pair.0 pair.1 first.0 first.1 other.0 other.1 is))
      by Greater is rest = ap (λ b. same_pair other first || b) rest ∙ swap (same_pair other first) (same_pair other pair) _

-- ---- the pairs of items

-- pairs with those of items behind them
abbrev with_items : List (ℕ × ℕ) → List Item → List (ℕ × ℕ)
with_items pairs items = fold (λ before row. insert_key pair_order before (pair_of row)) pairs items

items-rise : (pairs : List (ℕ × ℕ)) (items : List Item) → ArePairsRising pairs → ArePairsRising (with_items pairs items)
items-rise pairs [] rises = rises
items-rise pairs (row ∷ items) rises = items-rise (insert_key pair_order pairs (pair_of row)) items (insert-rises (pair_of row) pairs rises)

items-member : (pairs : List (ℕ × ℕ)) (items : List Item) (other : ℕ × ℕ) → list_any (same_pair other) (with_items pairs items) ≡ (list_any (same_pair other) pairs || list_any (λ row. same_pair other (pair_of row)) items)
items-member pairs [] other = sym (nothing _)
  where
    nothing : (b : Bool) → (b || false) ≡ b
    nothing true = refl
    nothing false = refl
items-member pairs (row ∷ items) other =
    items-member (insert_key pair_order pairs (pair_of row)) items other
    ∙ (ap (λ b. b || list_any (λ x. same_pair other (pair_of x)) items) (insert-member (pair_of row) pairs other)
    ∙ turn (same_pair other (pair_of row)) (list_any (same_pair other) pairs) (list_any (λ x. same_pair other (pair_of x)) items))
  where
    turn : (a b c : Bool) → ((a || b) || c) ≡ (b || (a || c))
    turn true true c = refl
    turn true false c = refl
    turn false b c = refl

-- the pairs of items rise
pub pairs-rise : (items : List Item) → ArePairsRising (item_pairs items)
pairs-rise items = items-rise [] items tt

-- and they are those that some item has
pub pairs-member : (items : List Item) (pair : ℕ × ℕ) → list_any (same_pair pair) (item_pairs items) ≡ list_any (λ row. same_pair pair (pair_of row)) items
pairs-member items pair = items-member [] items pair
