-- The texts that hands have made, and the files that they are for.
use Rattle.std.proofs.Common.{◌≡◌, ℕ, ◌+◌, ◌-◌, ◌<◌, ◌≤◌, List, [], length, map, take, drop, get_or, Option, None, Some, Result, Ok, Err, arith, sym, ap, subst, ◌∙◌, length-take-le}
use Rattle.std.proofs.lemmas.List.{get_or-map, get_or-take, get_or-drop, length-drop}
use Rattle.std.specs.Prelude.{All, IfOk, IfSome, Vec}
use Rattle.std.specs.declared.alloc.Global.{Global}
use Rattle.kt_outputs.specs.Hands.{IsHandOf, IsTaken}
use Rattle.kt_outputs.specs.declared.hands.MadeText.{MadeText}

module _ {F : Type 0} (text : F → List ℕ) (files : List F) where
  -- the text that is wanted at a place is that of the file there
  pub wanted_at : (place : ℕ) (file : F) → place < length files → file ≡ get_or files place file → get_or (map text files) place [] ≡ text file
  wanted_at place file within is = get_or-map text files place file [] within ∙ ap text (sym is)

  -- so it is for a group of files of the list
  pub wanted_of_group : (first count at : ℕ) (file : F) → first + count ≤ length files → at < count → file ≡ get_or files (first + at) file → get_or (map text (take count (drop first files))) at [] ≡ text file
  wanted_of_group first count at file within below is =
      let all : length (take count (drop first files)) ≡ count = length-take-le count (drop first files) (omega (arith, within, length-drop first files)) in
      get_or-map text (take count (drop first files)) at file [] (omega (arith, all, below))
      ∙ ap text (get_or-take count (drop first files) at file below ∙ get_or-drop first files at file ∙ sym is)

  -- the text that was taken for a file of a group is that of the file
  pub taken_for : {E : Type 0} (first count at : ℕ) (file : F) (taken : Result (Option (List ℕ)) E) → first + count ≤ length files → at < count → file ≡ get_or files (first + at) file → IfOk taken (IsTaken (map text (take count (drop first files))) at) → IfOk taken (λ one. IfSome one (λ bytes. bytes ≡ text file))
  taken_for first count at file (Err lacks) within below is are = tt
  taken_for first count at file (Ok None) within below is are = tt
  taken_for first count at file (Ok (Some one)) within below is are = are ∙ wanted_of_group first count at file within below is

  -- what hands have made of a group, which is a part of the list
  pub hands_of_group : {E : Type 0} (first count : ℕ) (made hands : List (Result (Vec MadeText Global) E)) → hands ≡ made → All (IsHandOf (map text (take (first + count - first) (drop first files)))) made → All (IsHandOf (map text (take count (drop first files)))) hands
  hands_of_group {E} first count made hands same are =
      let size : first + count - first ≡ count = omega arith in
      subst (All (IsHandOf {E = E} (map text (take count (drop first files))))) (sym same) (subst (λ (n : ℕ). All (IsHandOf {E = E} (map text (take n (drop first files)))) made) size are)
