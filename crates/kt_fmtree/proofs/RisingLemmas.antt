-- What is sorted and has each number once is rising.
use Rattle.std.proofs.Common.{◌≡◌, ℕ, Bool, true, false, List, nat_eq, eqb, refl, sym, ◌∙◌}
use Rattle.std.specs.List.{dedup, list_any}
use Rattle.std.specs.List.Sorted.{IsPermutation, IsSorted}
use Rattle.std.specs.Ordering.{nat_cmp}
use Rattle.std.specs.Cmp.{nat_eq_equiv}
use Rattle.std.proofs.lemmas.Bool.{eqb-true, true≢false}
use Rattle.std.proofs.lemmas.List.Kept.{Contains-dedup_nat, Contains-from_dedup}
use Rattle.std.proofs.lemmas.List.Sorted.{list_any-IsPermutation}
use Rattle.std.proofs.lemmas.Map.Keys.{IsStrictlyIncreasing-dedup}
use Rattle.std.proofs.lemmas.Map.Views.{list_any-from_Contains, Contains-from_any}
use Rattle.kt_rec.specs.Rising.{rising, rising-member, rising-rises, rising-unique}
use Rattle.kt_rec.specs.RisingLaws.{rises-from_strict}

-- what is sorted, with each number once, are the rising numbers
pub sorted-rising : (xs sorted : List ℕ) → IsPermutation xs sorted → IsSorted nat_cmp sorted → dedup eqb sorted ≡ rising xs
sorted-rising xs sorted moved ordered =
    rising-unique (dedup eqb sorted) (rising xs) (rises-from_strict (dedup eqb sorted) (IsStrictlyIncreasing-dedup sorted ordered)) (rising-rises xs)
    (λ id. same id (list_any (nat_eq id) sorted) refl ∙ (sym (list_any-IsPermutation (nat_eq id) xs sorted moved) ∙ sym (rising-member xs id)))
  where
    same : (id : ℕ) (b : Bool) → list_any (nat_eq id) sorted ≡ b → list_any (nat_eq id) (dedup eqb sorted) ≡ list_any (nat_eq id) sorted
    same id true is = list_any-from_Contains nat_eq_equiv id (dedup eqb sorted) (Contains-dedup_nat sorted id (Contains-from_any eqb-true id sorted is)) ∙ sym is
    same id false is = none (list_any (nat_eq id) (dedup eqb sorted)) refl ∙ sym is
      where
        none : (b : Bool) → list_any (nat_eq id) (dedup eqb sorted) ≡ b → list_any (nat_eq id) (dedup eqb sorted) ≡ false
        none true there = let here = list_any-from_Contains nat_eq_equiv id sorted (Contains-from_dedup eqb sorted id (Contains-from_any eqb-true id (dedup eqb sorted) there)) in absurd (true≢false (sym here ∙ is))
        none false there = there
