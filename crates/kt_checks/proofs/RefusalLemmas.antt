-- The first refusal of two groups of checks.
use Rattle.std.proofs.Common.{◌≡◌, true, false, List, [], ◌∷◌, ◌++◌, refl, ap, sym, ◌∙◌, Option, Some, None}
use Rattle.std.specs.Prelude.{is_some}
use Rattle.std.specs.List.{fold}
use Rattle.std.specs.Option.{option_or}
use Rattle.kt_keys.specs.declared.need.Refusal.{Refusal}
use Rattle.kt_keys.specs.Refusals.{first_of}

-- what is found stays found
fold-found : (found : Refusal) (refusals : List (Option Refusal)) → Some found ≡ fold option_or (Some found) refusals
fold-found found [] = refl
fold-found found (refusal ∷ refusals) = fold-found found refusals

-- a group and a later one, from what was found before
fold-append : (start : Option Refusal) (group later : List (Option Refusal)) → fold option_or start (group ++ later) ≡ fold option_or (fold option_or start group) later
fold-append start [] later = refl
fold-append start (refusal ∷ group) later = fold-append (option_or start refusal) group later

-- where the first group refuses, it decides
pub found_first : (found : Option Refusal) (group later : List (Option Refusal)) → is_some found ≡ true → found ≡ first_of group → found ≡ first_of (group ++ later)
found_first None group later h is = cc
found_first (Some found) group later h is = fold-found found later ∙ (ap (λ o. fold option_or o later) is ∙ sym (fold-append None group later))

-- where the first group refuses nothing, the later one decides
pub found_later : (found rest : Option Refusal) (group later : List (Option Refusal)) → is_some found ≡ false → found ≡ first_of group → rest ≡ first_of later → rest ≡ first_of (group ++ later)
found_later None rest group later h is now = now ∙ (ap (λ o. fold option_or o later) is ∙ sym (fold-append None group later))
found_later (Some found) rest group later h is now = cc
