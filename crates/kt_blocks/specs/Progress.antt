-- How far the writing of a text in blocks is.
-- The rules: docs/COMMANDS.md, "tobin and tocsv".
use Rattle.std.specs.Prelude.{◌≡◌, ℕ, List, ◌++◌, Result, Ok, Err}
use Rattle.kt_cells.specs.Stops.{Tells}
use Rattle.kt_cells.specs.declared.stop.TableStop.{TableStop}
use Rattle.kt_out.specs.Writing.{SinkState, WritesBytes, WritesAll}
use Rattle.kt_out.specs.declared.fault.Fault.{Fault}
use Rattle.kt_blocks.specs.declared.stop.TextStop.{TextStop}
use Rattle.kt_blocks.specs.declared.stop.TextStop.TheVariants.{Refused, Unwritten}

-- the sink has taken a front of the whole text, some of it is pending, and the rest is not made yet
pub record IsMidway (before now : SinkState) (whole pending rest : List ℕ) : Type 0 where
  pub front : List ℕ
  pub is_whole : whole ≡ front ++ (pending ++ rest)
  pub wrote : WritesBytes before now front

-- what writing some of what is pending comes to
abbrev pub Spills : {T : Type 0} → SinkState → SinkState → List ℕ → List ℕ → List ℕ → Result T Fault → Type 0
Spills before now whole pending rest (Ok done) = IsMidway before now whole pending rest
Spills {T} before now whole pending rest (Err fault) = WritesAll {T = T} before now whole (Err fault)

-- the text that is made of a file was written; a file that is refused writes nothing
abbrev pub WritesText : {T : Type 0} → Result (List ℕ) TableStop → SinkState → SinkState → Result T TextStop → Type 0
WritesText made before now (Ok done) = (text : List ℕ) × (made ≡ Ok text) × WritesBytes before now text
WritesText made before now (Err (Refused stop)) = Tells made stop × (now ≡ before)
WritesText {T} made before now (Err (Unwritten fault)) = (text : List ℕ) × (made ≡ Ok text) × WritesAll {T = T} before now text (Err fault)
