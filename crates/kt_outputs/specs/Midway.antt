-- How far the appending of a text in blocks is.
-- The rules: docs/REFUSALS.md, "Statuses".
use Rattle.std.specs.Prelude.{◌≡◌, ℕ, List, ◌++◌, Option, Result, Ok, Err}
use Rattle.kt_out.specs.NamedFiles.{FileMap}
use Rattle.kt_out.specs.Appending.{AppendsText, AppendsFront}

-- a front of the whole text was added, some of it is pending, and the rest is not made yet
pub record IsMidway (before now : Option FileMap) (name whole pending rest : List ℕ) : Type 0 where
  pub front : List ℕ
  pub is_whole : whole ≡ front ++ (pending ++ rest)
  pub added : AppendsText before now name front

-- what appending some of what is pending comes to
abbrev pub Spills : {T E : Type 0} → Option FileMap → Option FileMap → List ℕ → List ℕ → List ℕ → List ℕ → Result T E → Type 0
Spills before now name whole pending rest (Ok done) = IsMidway before now name whole pending rest
Spills before now name whole pending rest (Err fault) = AppendsFront before now name whole
