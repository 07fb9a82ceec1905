-- Lemmas on what a unit gives to its children.
use Rattle.std.proofs.Common.{◌≡◌, ℕ, zero, suc, ◌+◌, ◌*◌, ◌<◌, ◌≤◌, Bool, true, false, cond, nat_eq, List, [], ◌∷◌, ◌++◌, length, map, drop, get_or, refl, sym, ap, ◌∙◌, arith, drop-cons, add-one, append_assoc, append-nil}
use Rattle.std.specs.List.{sum, sum_by}
use Rattle.std.proofs.Math.Nat.{div-zero}
use Rattle.std.proofs.lemmas.Bool.{eqb-true}
use Rattle.std.proofs.lemmas.List.{drop_all}
use Rattle.std.proofs.lemmas.List.Sums.{sum_by-cons, sum-map}
use Rattle.kt_money.specs.Sharing.{Sharing, share_of, shares_after, share_out}
use Rattle.kt_rules.specs.Amounts.{total, weight}
use Rattle.kt_rules.specs.declared.carry.Carry.{Carry}
use Rattle.kt_fmtree.specs.Carried.{added}
use Rattle.kt_fmtree.specs.Placed.{weights, due, parts_from}
use Rattle.kt_fmtree.specs.declared.part.PlacedPart.{PlacedPart}

-- one more amount
pub given-more : (start at amount : ℕ) (left rest : List ℕ) (now more all : List PlacedPart) → left ≡ amount ∷ rest → now ++ parts_from (start + at) left ≡ all → more ≡ now ++ record { place = start + at; amount = amount } ∷ [] → more ++ parts_from (start + (at + 1)) rest ≡ all
given-more start at amount left rest now more all left_is so_far more_is =
    let e : start + (at + 1) ≡ start + at + 1 = omega arith in
    ap (λ n. more ++ parts_from n rest) e
    ∙ (ap (λ ps. ps ++ parts_from (start + at + 1) rest) more_is
    ∙ (append_assoc now _ _
    ∙ (ap (λ xs. now ++ parts_from (start + at) xs) (sym left_is) ∙ so_far)))

-- the next of amounts
pub next-of : (f : Carry → ℕ) (children : List Carry) (at : ℕ) (d : Carry) → at < length children → map f (drop at children) ≡ f (get_or children at d) ∷ map f (drop (at + 1) children)
next-of f children at d below =
    let next : drop at children ≡ get_or children at d ∷ drop (at + 1) children = rw (add-one, drop-cons children at d) refl in
    ap (map f) next

-- ---- weights

due-is : (amount n : ℕ) → due amount (suc n) ≡ amount
due-is amount n = by (nat_eq (suc n) 0) refl
  where
    by : (b : Bool) → nat_eq (suc n) 0 ≡ b → cond b 0 amount ≡ amount
    by true none = let zero_is = eqb-true (suc n) 0 none in absurd (omega arith)
    by false some = refl

-- what is due has the shares of the amount
pub due-shares : (amount all given : ℕ) (further : List ℕ) → shares_after (due amount all) all given further ≡ shares_after amount all given further
due-shares amount (suc n) given further = ap (λ t. shares_after t (suc n) given further) (due-is amount n)
due-shares amount zero given [] = refl
due-shares amount zero given (w ∷ further) =
    let here : share_of 0 0 given w ≡ share_of amount 0 given w = omega (arith, div-zero (0 * (given + w)), div-zero (0 * given), div-zero (amount * (given + w)), div-zero (amount * given)) in
    ap (λ x. x ∷ shares_after 0 0 (given + w) further) here ∙ ap (λ xs. share_of amount 0 given w ∷ xs) (due-shares amount zero (given + w) further)

added-loss : (children : List Carry) → (added children).loss ≡ sum_by (λ carry. carry.loss) children
added-loss [] = refl
added-loss (carry ∷ children) = omega (arith, sum_by-cons (λ (c : Carry). c.loss) carry children, added-loss children)

added-total : (children : List Carry) → total (added children) ≡ sum_by total children
added-total [] = refl
added-total (carry ∷ children) = omega (arith, sum_by-cons total carry children, added-total children)

-- the weights of children add to that of all
pub weight-all : (children : List Carry) → weight (added children).loss (added children) ≡ sum (weights children)
weight-all children =
    ap (λ n. weight n (added children)) (added-loss children)
    ∙ (by (nat_eq (sum_by (λ carry. carry.loss) children) 0)
    ∙ sym (sum-map (weight (sum_by (λ carry. carry.loss) children)) children))
  where
    by : (b : Bool) → cond b (total (added children)) (added children).loss ≡ sum_by (λ carry. cond b (total carry) carry.loss) children
    by true = added-total children
    by false = added-loss children

-- ---- shares, one after the other

-- how far an amount has been shared out
pub record IsSharingOut (children : List Carry) (start amount : ℕ) (old now : List PlacedPart) (carried all : ℕ) (sharing : Sharing) (at : ℕ) : Type 0 where
  pub total_is : sharing.total ≡ due amount all
  pub weights_are : sharing.weights ≡ all
  pub left : sharing.given + sum (map (weight carried) (drop at children)) ≡ all
  pub parts_are : now ++ parts_from (start + at) (shares_after (due amount all) all sharing.given (map (weight carried) (drop at children))) ≡ old ++ parts_from start (share_out amount (weights children))

pub sharing-begins : (children : List Carry) (start amount : ℕ) (old : List PlacedPart) (every : Carry) (all least wide : ℕ) (sharing : Sharing) → every ≡ added children → all ≡ weight every.loss every → least ≡ due amount all → wide ≡ all → sharing ≡ record { total = least; weights = wide; given = 0 } → IsSharingOut children start amount old old every.loss all sharing 0
sharing-begins children start amount old every all least wide sharing every_is all_is least_is wide_is sharing_is =
    let loss : every.loss ≡ sum_by (λ carry. carry.loss) children = ap (λ (c : Carry). c.loss) every_is ∙ added-loss children in
    let sums : all ≡ sum (weights children) = all_is ∙ (ap (λ (c : Carry). weight c.loss c) every_is ∙ weight-all children) in
    let e : start + 0 ≡ start = omega arith in
    record {
      total_is = ap (λ (s : Sharing). s.total) sharing_is ∙ least_is;
      weights_are = ap (λ (s : Sharing). s.weights) sharing_is ∙ wide_is;
      left = ap (λ (s : Sharing). s.given + sum (map (weight every.loss) children)) sharing_is ∙ (ap (λ n. 0 + sum (map (weight n) children)) loss ∙ (none (sum (weights children)) ∙ sym sums));
      parts_are =
          ap (λ (s : Sharing). old ++ parts_from (start + 0) (shares_after (due amount all) all s.given (map (weight every.loss) children))) sharing_is
          ∙ (ap (λ n. old ++ parts_from n (shares_after (due amount all) all 0 (map (weight every.loss) children))) e
          ∙ (ap (λ n. old ++ parts_from start (shares_after (due amount all) all 0 (map (weight n) children))) loss
          ∙ (ap (λ xs. old ++ parts_from start xs) (due-shares amount all 0 (weights children))
          ∙ ap (λ n. old ++ parts_from start (shares_after amount n 0 (weights children))) sums)));
    }
  where
    none : (n : ℕ) → 0 + n ≡ n
    none n = omega arith

pub sharing-fits : (children : List Carry) (start amount : ℕ) (old now : List PlacedPart) (carried all : ℕ) (sharing : Sharing) (at : ℕ) (d : Carry) → at < length children → IsSharingOut children start amount old now carried all sharing at → sharing.given + weight carried (get_or children at d) ≤ sharing.weights
sharing-fits children start amount old now carried all sharing at d below so_far =
    omega (arith, so_far.left, so_far.weights_are, ap sum (next-of (weight carried) children at d below), sum_by-cons (λ (n : ℕ). n) (weight carried (get_or children at d)) (map (weight carried) (drop (at + 1) children)))

pub sharing-goes : (children : List Carry) (start amount : ℕ) (old now more : List PlacedPart) (carried all : ℕ) (sharing after : Sharing) (at share : ℕ) (d : Carry) → at < length children → IsSharingOut children start amount old now carried all sharing at
    → share ≡ share_of sharing.total sharing.weights sharing.given (weight carried (get_or children at d))
    → after ≡ record sharing { given = sharing.given + weight carried (get_or children at d) }
    → more ≡ now ++ record { place = start + at; amount = share } ∷ []
    → IsSharingOut children start amount old more carried all after (at + 1)
sharing-goes children start amount old now more carried all sharing after at share d below so_far share_is after_is more_is =
    let w = weight carried (get_or children at d) in
    let next = next-of (weight carried) children at d below in
    let given : after.given ≡ sharing.given + w = ap (λ (s : Sharing). s.given) after_is in
    let same : share ≡ share_of (due amount all) all sharing.given w = share_is ∙ (ap (λ t. share_of t sharing.weights sharing.given w) so_far.total_is ∙ ap (λ n. share_of (due amount all) n sharing.given w) so_far.weights_are) in
    record {
      total_is = ap (λ (s : Sharing). s.total) after_is ∙ so_far.total_is;
      weights_are = ap (λ (s : Sharing). s.weights) after_is ∙ so_far.weights_are;
      left = omega (arith, given, so_far.left, ap sum next, sum_by-cons (λ (n : ℕ). n) w (map (weight carried) (drop (at + 1) children)));
      parts_are =
          given-more start at share
          (shares_after (due amount all) all sharing.given (map (weight carried) (drop at children)))
          (shares_after (due amount all) all after.given (map (weight carried) (drop (at + 1) children)))
          now more _
          (ap (shares_after (due amount all) all sharing.given) next
          ∙ (ap (λ s. s ∷ shares_after (due amount all) all (sharing.given + w) (map (weight carried) (drop (at + 1) children))) (sym same)
          ∙ ap (λ g. share ∷ shares_after (due amount all) all g (map (weight carried) (drop (at + 1) children))) (sym given)))
          so_far.parts_are more_is;
    }

-- at the end all shares stand there
pub sharing-ends : (children : List Carry) (start amount : ℕ) (old now : List PlacedPart) (carried all : ℕ) (sharing : Sharing) (at : ℕ) → length children ≤ at → IsSharingOut children start amount old now carried all sharing at → now ≡ old ++ parts_from start (share_out amount (weights children))
sharing-ends children start amount old now carried all sharing at behind so_far =
    sym (append-nil now)
    ∙ (ap (λ left. now ++ parts_from (start + at) (shares_after (due amount all) all sharing.given (map (weight carried) left))) (sym (drop_all at children behind)) ∙ so_far.parts_are)
