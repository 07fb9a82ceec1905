-- The worked examples of docs/FINANCIAL_MODULE.md on policy losses and their allocation, by computing.
-- The rules: docs/FINANCIAL_MODULE.md, "Policy losses", "Allocation".
use Rattle.std.specs.Prelude.{◌≡◌, ℕ, [], ◌∷◌, cond, nat_eq}
use Rattle.std.proofs.Common.{refl}
use Rattle.kt_rules.specs.Rules.{rule_of}
use Rattle.kt_fmtree.specs.Tree.{policy_loss}
use Rattle.kt_fmtree.specs.Sharing.{allocated}
use Rattle.kt_fmtree.specs.Programme.{tree_of}
use Rattle.kt_fmtree.specs.ExampleRows.{two_layers, given_back}

-- the losses of items 1 and 2
abbrev losses : ℕ → ℕ → ℕ → ℕ
losses first second id = cond (nat_eq id 1) first (cond (nat_eq id 2) second 0)

-- losses of 100.00 and 50.00 come up as 90.00 and 40.00, of which the layers pay 50.00 and 25.00
first_layer : policy_loss (tree_of two_layers 0) (losses 10000 5000) 1 1 ≡ 5000
unfolding two_layers rule_of
first_layer = refl

second_layer : policy_loss (tree_of two_layers 0) (losses 10000 5000) 1 2 ≡ 2500
unfolding two_layers rule_of
second_layer = refl

-- by ground-up losses
first_at_once : allocated (tree_of two_layers 0) (losses 10000 5000) 1 1 1 ≡ 3333 ∷ 1667 ∷ []
unfolding two_layers rule_of
first_at_once = refl

second_at_once : allocated (tree_of two_layers 0) (losses 10000 5000) 1 1 2 ≡ 1666 ∷ 834 ∷ []
unfolding two_layers rule_of
second_at_once = refl

-- by carried losses
first_down : allocated (tree_of two_layers 0) (losses 10000 5000) 2 1 1 ≡ 3461 ∷ 1539 ∷ []
unfolding two_layers rule_of
first_down = refl

second_down : allocated (tree_of two_layers 0) (losses 10000 5000) 2 1 2 ≡ 1730 ∷ 770 ∷ []
unfolding two_layers rule_of
second_down = refl

-- deductibles of 60.00 take both losses of 50.00, and a maximum of 30.00 gives 70.00 back
back : policy_loss (tree_of given_back 0) (losses 5000 5000) 1 1 ≡ 7000
unfolding given_back rule_of
back = refl

-- no loss was carried, so the ground-up losses are the weights
back_down : allocated (tree_of given_back 0) (losses 5000 5000) 2 1 1 ≡ 3500 ∷ 3500 ∷ []
unfolding given_back rule_of
back_down = refl
