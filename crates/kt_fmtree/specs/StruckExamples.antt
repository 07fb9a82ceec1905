-- The worked example of docs/FINANCIAL_MODULE.md on struck units, by computing.
-- The rule: docs/FINANCIAL_MODULE.md, "Levels".
use Rattle.std.specs.Prelude.{◌≡◌, ℕ, true, false, [], ◌∷◌, cond, nat_eq, Some, None}
use Rattle.std.proofs.Common.{refl}
use Rattle.kt_rules.specs.Rules.{rule_of}
use Rattle.kt_fmtree.specs.Tree.{Tree, policy_loss}
use Rattle.kt_fmtree.specs.Programme.{tree_of}
use Rattle.kt_fmtree.specs.ExampleRows.{two_layers}
use Rattle.kt_fmtree.specs.Struck.{is_struck, struck}

-- the two items under two layers, where item 2 alone has a loss
abbrev second_struck : Tree
second_struck = struck (tree_of two_layers 0) (2 ∷ [])

-- a loss of 50.00 of item 2
abbrev second_alone : ℕ → ℕ
second_alone id = cond (nat_eq id 2) 5000 0

-- unit 2 and the top are struck, and unit 1 is not
second_is : is_struck (tree_of two_layers 0) (2 ∷ []) 1 2 ≡ true
unfolding two_layers
second_is = refl

first_is_not : is_struck (tree_of two_layers 0) (2 ∷ []) 1 1 ≡ false
unfolding two_layers
first_is_not = refl

top_is : is_struck (tree_of two_layers 0) (2 ∷ []) 2 1 ≡ true
unfolding two_layers
top_is = refl

-- so the tree has item 2, unit 2 and the top alone
ids_left : second_struck.ids ≡ 2 ∷ []
unfolding two_layers
ids_left = refl

tops_left : second_struck.tops ≡ 1 ∷ []
unfolding two_layers
tops_left = refl

beneath_top : second_struck.children 2 1 ≡ 2 ∷ []
unfolding two_layers
beneath_top = refl

from_second : second_struck.next (2, 2) ≡ Some 1
unfolding two_layers
from_second = refl

from_first : second_struck.next (2, 1) ≡ None
unfolding two_layers
from_first = refl

-- the 40.00 that come to the top are within the first layer, and the second pays nothing, as in the whole tree
first_layer : policy_loss second_struck second_alone 1 1 ≡ 4000
unfolding two_layers rule_of
first_layer = refl

second_layer : policy_loss second_struck second_alone 1 2 ≡ 0
unfolding two_layers rule_of
second_layer = refl

first_layer_whole : policy_loss (tree_of two_layers 0) second_alone 1 1 ≡ 4000
unfolding two_layers rule_of
first_layer_whole = refl
