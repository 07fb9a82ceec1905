-- What the fold of a run stands for beside the rows that were made with its parts.
-- The rules: docs/ARCHITECTURE.md, "A run of all stages".
use Rattle.std.specs.Prelude.{◌≡◌, ℕ, List, map}
use Rattle.kt_files.specs.MadeRows.{AreRowsOf}
use Rattle.kt_files.specs.declared.made.FileRows.{FileRows}
use Rattle.kt_fold.specs.Folds.{FitsFold, FoldStart, StandsBehind, StopsBehind}
use Rattle.kt_fold.specs.ReadyParts.{AreMadeFor}
use Rattle.kt_fold.specs.declared.fold.FoldStop.{FoldStop}
use Rattle.kt_fold.specs.declared.part.PartBlock.{PartBlock}
use Rattle.kt_rec.specs.Rows.{Rows}
use Rattle.kt_chain.specs.Rounds.{IsPart, RoundParts}
use Rattle.kt_chain.specs.declared.text_fold.TextFold.{TextFold}
use Rattle.kt_chain.specs.declared.text_fold.TextPart.{TextPart}

-- the parts alone, and their rows alone
abbrev pub parts_of : List TextPart → List PartBlock
parts_of texts = map (λ one. one.part) texts

abbrev pub rows_of : List TextPart → List (List FileRows)
rows_of texts = map (λ one. one.made) texts

-- a part that may be made, with rows of its blocks
pub record IsTextPart (round : RoundParts) (number : ℕ) (text : TextPart) : Type 0 where
  pub part : IsPart round number text.part
  pub made : AreRowsOf round.terms.samples round.rows text.part.blocks text.made

-- the rows that are kept are those of the first parts that are
abbrev pub AreRowsOfParts : ℕ → Rows → List (List FileRows) → List PartBlock → Type 0
AreRowsOfParts samples rows made parts = AreMadeFor (λ part own. AreRowsOf samples rows part.blocks own) made parts

-- those of a fold, whose parts are kept
abbrev pub KeepsRows : TextFold → Type 0
KeepsRows fold = AreRowsOfParts fold.inner.cells.samples fold.inner.rows fold.made.items fold.inner.kept

-- the fold stands for the parts, and all their rows are kept
pub record TextsStand (start : FoldStart) (fold : TextFold) (texts : List TextPart) : Type 0 where
  pub parts : StandsBehind start fold.inner (parts_of texts)
  pub made : fold.made.items ≡ rows_of texts

-- the fold has stopped behind the parts, whose rows are kept: at a refusal, or for want of memory
pub record TextsStop (start : FoldStart) (fold : TextFold) (texts : List TextPart) (text : TextPart) (stop : FoldStop) : Type 0 where
  pub parts : StopsBehind start fold.inner (parts_of texts) text.part stop
  pub made : fold.made.items ≡ rows_of texts

-- a part fits where it fits the fold
abbrev pub FitsTexts : TextFold → TextPart → Type 0
FitsTexts fold text = FitsFold fold.inner text.part
