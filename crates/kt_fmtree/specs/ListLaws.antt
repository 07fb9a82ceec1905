-- Lists that stand one behind the other, with one more behind them, and the one in a place.
-- The rule: docs/FINANCIAL_MODULE.md, "Levels".
use Rattle.std.specs.Prelude.{◌≡◌, ℕ, zero, suc, ◌+◌, ◌-◌, ◌<◌, List, [], ◌∷◌, ◌++◌, length, map, take, drop, slice_index_or}
use Rattle.std.proofs.Common.{refl, sym, ap, subst, ◌∙◌, arith, get_or}
use Rattle.std.proofs.lemmas.List.{length-append, length-drop, take_all, drop-append-le, take-append-le, drop_at}
use Rattle.kt_fmtree.specs.Lists.{AreEnds, IsSpan, lists_from, start_at}
use Rattle.kt_fmtree.specs.LoopLaws.{map-goes}

module _ {X : Type 0} where
  -- a list behind others changes none of them
  span-stays : (start end : ℕ) (all more : List X) → IsSpan start end (length all) → take (end - start) (drop start (all ++ more)) ≡ take (end - start) (drop start all)
  span-stays start end all more span =
      let after = span.after in
      let within = span.within in
      let long = length-drop start all in
      ap (take (end - start)) (drop-append-le start all more (omega (arith, after, within))) ∙ take-append-le (end - start) (drop start all) more (omega (arith, long, within))

  -- the last list is what stands behind the others
  last-span : (start : ℕ) (all more : List X) → start ≡ length all → take (length (all ++ more) - start) (drop start (all ++ more)) ≡ more
  last-span start all more is =
      let long = length-append all more in
      ap (take (length (all ++ more) - start)) (drop_at all more start (sym is))
      ∙ take_all (length (all ++ more) - start) more (omega (arith, long, is))

  -- one list more
  pub lists-push : (start : ℕ) (all more : List X) (ends : List ℕ) → AreEnds start (length all) ends → lists_from start (all ++ more) (ends ++ length (all ++ more) ∷ []) ≡ lists_from start all ends ++ more ∷ []
  lists-push start all more [] is = ap (λ list. list ∷ []) (last-span start all more is)
  lists-push start all more (end ∷ ends) are = λ i. span-stays start end all more are.0 i ∷ lists-push end all more ends are.1 i

  -- and its end
  pub ends-push : (start : ℕ) (all more : List X) (ends : List ℕ) → AreEnds start (length all) ends → AreEnds start (length (all ++ more)) (ends ++ length (all ++ more) ∷ [])
  ends-push start all more [] is = let long = length-append all more in (record { after = omega (arith, long, is); within = omega arith }, refl)
  ends-push start all more (end ∷ ends) are =
      let long = length-append all more in
      let within = are.0.within in
      (record { after = are.0.after; within = omega (arith, long, within) }, ends-push end all more ends are.1)

  -- there are as many lists as ends
  pub lists-count : (start : ℕ) (all : List X) (ends : List ℕ) → length (lists_from start all ends) ≡ length ends
  lists-count start all [] = refl
  lists-count start all (end ∷ ends) = ap suc (lists-count end all ends)

  -- the list in a place
  pub list-at : (start : ℕ) (all : List X) (ends : List ℕ) (place : ℕ) → place < length ends → take (get_or ends place 0 - start_at start ends place) (drop (start_at start ends place) all) ≡ slice_index_or (lists_from start all ends) place []
  list-at start all [] place below = absurd (omega arith)
  list-at start all (end ∷ ends) zero below = refl
  list-at start all (end ∷ ends) (suc place) below = list-at end all ends place (omega arith)

  -- what is made of each, as lists of which one more is put behind the others
  pub lists-go : {Y : Type 0} (f : Y → List X) (xs : List Y) (i : ℕ) (d : Y) (all now more : List X) (ends later : List ℕ) (end : ℕ) → i < length xs → AreEnds 0 (length all) ends → lists_from 0 all ends ≡ map f (take i xs) → now ≡ all ++ more → later ≡ ends ++ end ∷ [] → end ≡ length now → more ≡ f (get_or xs i d) → lists_from 0 now later ≡ map f (take (i + 1) xs)
  lists-go f xs i d all now more ends later end below are so_far now_is later_is end_is more_is =
      map-goes f xs i d (lists_from 0 all ends) (lists_from 0 now later) more below so_far
      ((λ j. lists_from 0 (now_is j) ((later_is ∙ ap (λ n. ends ++ n ∷ []) (end_is ∙ ap length now_is)) j)) ∙ lists-push 0 all more ends are) more_is

  -- and their ends
  pub ends-go : (all now more : List X) (ends later : List ℕ) (end : ℕ) → AreEnds 0 (length all) ends → now ≡ all ++ more → later ≡ ends ++ end ∷ [] → end ≡ length now → AreEnds 0 (length now) later
  ends-go all now more ends later end are now_is later_is end_is =
      subst (λ found. AreEnds 0 (length found) later) (sym now_is)
      (subst (AreEnds 0 (length (all ++ more))) (sym (later_is ∙ ap (λ n. ends ++ n ∷ []) (end_is ∙ ap length now_is))) (ends-push 0 all more ends are))

-- the first list begins where all do
pub start-first : (start : ℕ) (ends : List ℕ) (place : ℕ) → place ≡ 0 → start ≡ start_at start ends place
start-first start ends place first = subst (λ n. start ≡ start_at start ends n) (sym first) refl

-- a list begins where the one before it ends
pub start-before : (start : ℕ) (ends : List ℕ) (place : ℕ) → place < length ends → start_at start ends (suc place) ≡ get_or ends place 0
start-before start [] place below = absurd (omega arith)
start-before start (end ∷ ends) zero below = refl
start-before start (end ∷ ends) (suc place) below = start-before end ends place (omega arith)

-- the list in a place lies among all
pub span-at : (start count : ℕ) (ends : List ℕ) (place : ℕ) → AreEnds start count ends → place < length ends → IsSpan (start_at start ends place) (get_or ends place 0) count
span-at start count [] place are below = absurd (omega arith)
span-at start count (end ∷ ends) zero are below = are.0
span-at start count (end ∷ ends) (suc place) are below = span-at end count ends place are.1 (omega arith)
