-- Lists of which elements were left out.
-- The rules: docs/OUTPUTS.md, "Files of a run".
use Rattle.std.specs.Prelude.{Bool, true, false, cond, List, [], ◌∷◌, ◌++◌, map}
use Rattle.std.specs.List.{filter, flat_map}

-- the first list is the second one without some of its elements
pub data IsSublist (A : Type 0) : List A → List A → Type 0 where
  none : IsSublist A [] []
  left_out : {some all : List A} (one : A) → IsSublist A some all → IsSublist A some (one ∷ all)
  kept : {some all : List A} (one : A) → IsSublist A some all → IsSublist A (one ∷ some) (one ∷ all)

-- no element is left
pub nothing_of : {A : Type 0} (all : List A) → IsSublist A [] all
nothing_of [] = none
nothing_of (one ∷ all) = left_out one (nothing_of all)

-- all elements are left
pub all_of : {A : Type 0} (all : List A) → IsSublist A all all
all_of [] = none
all_of (one ∷ all) = kept one (all_of all)

-- parts of two lists, one behind the other
pub parts_joined : {A : Type 0} {first first_all second second_all : List A} → IsSublist A first first_all → IsSublist A second second_all → IsSublist A (first ++ second) (first_all ++ second_all)
parts_joined none rest = rest
parts_joined (left_out one part) rest = left_out one (parts_joined part rest)
parts_joined (kept one part) rest = kept one (parts_joined part rest)

-- the elements that pass a test
pub those_that_pass : {A : Type 0} (test : A → Bool) (all : List A) → IsSublist A (filter test all) all
those_that_pass test [] = none
those_that_pass {A = A} test (one ∷ all) = by (test one) (those_that_pass test all)
  where
    by : (passes : Bool) → IsSublist A (filter test all) all → IsSublist A (cond passes (one ∷ filter test all) (filter test all)) (one ∷ all)
    by true part = kept one part
    by false part = left_out one part

-- what is made of the elements that are left
pub images : {A B : Type 0} (made : A → B) {some all : List A} → IsSublist A some all → IsSublist B (map made some) (map made all)
images made none = none
images made (left_out one part) = left_out (made one) (images made part)
images made (kept one part) = kept (made one) (images made part)

-- the lists that are made of them, one behind the other
pub lists_of : {A B : Type 0} (made : A → List B) {some all : List A} → IsSublist A some all → IsSublist B (flat_map made some) (flat_map made all)
lists_of made none = none
lists_of made (left_out one part) = parts_joined (nothing_of (made one)) (lists_of made part)
lists_of made (kept one part) = parts_joined (all_of (made one)) (lists_of made part)
