-- Texts that hands have made for files of a list.
-- The rules: docs/REFUSALS.md, "Statuses".
use Rattle.std.specs.Prelude.{◌≡◌, ℕ, List, [], Option, Result, Vec, All, IfOk, IfSome, slice_index_or}
use Rattle.std.specs.declared.alloc.Global.{Global}
use Rattle.kt_outputs.specs.declared.hands.MadeText.{MadeText}

-- a text that was made is the one that is wanted at its place
abbrev pub IsTextOf : List (List ℕ) → MadeText → Type 0
IsTextOf wanted made = made.text ≡ slice_index_or wanted made.place []

-- each text of a hand is, where there was memory
abbrev pub IsHandOf : {E : Type 0} → List (List ℕ) → Result (Vec MadeText Global) E → Type 0
IsHandOf wanted hand = IfOk hand (λ made. All (IsTextOf wanted) made.items)

-- a text that is taken for a place is the one that is wanted there
abbrev pub IsTaken : List (List ℕ) → ℕ → Option (List ℕ) → Type 0
IsTaken wanted place taken = IfSome taken (λ text. text ≡ slice_index_or wanted place [])
