-- What a fold of parts stands for.
-- The rules: docs/ARCHITECTURE.md, "A run of all stages"; docs/REFUSALS.md, "Order".
use Rattle.std.specs.Prelude.{◌≡◌, ◌⊎◌, ℕ, List, [], ◌∷◌, ◌++◌, drop, take, Option, Some, None, Result, Ok, Err}
use Rattle.std.specs.List.{AllByRecursion, flat_map}
use Rattle.kt_cell.specs.Losses.{Added}
use Rattle.kt_cell.specs.Standing.{KeptCells, StandsFor}
use Rattle.kt_ends.specs.declared.status.Refusal.{Refusal}
use Rattle.kt_ends.specs.declared.status.Refusal.TheVariants as refusal
use Rattle.kt_block.specs.Block.{AreSummaries}
use Rattle.kt_block.specs.declared.block.EventBlock.{EventBlock}
use Rattle.kt_periods.specs.Adding.{first_refusal}
use Rattle.kt_rec.specs.Rows.{Rows}
use Rattle.kt_fold.specs.Added.{block_added, blocks_added}
use Rattle.kt_fold.specs.Limits.{limit_refusal}
use Rattle.kt_fold.specs.declared.fold.BlockStop.{BlockStop}
use Rattle.kt_fold.specs.declared.fold.FoldStop.{FoldStop}
use Rattle.kt_fold.specs.declared.fold.FoldStop.TheVariants as fold_stop
use Rattle.kt_fold.specs.declared.part.PartBlock.{PartBlock}
use Rattle.kt_fold.specs.declared.part.RefusedRow.{RefusedRow}

-- the records of the blocks of a part are those of a stream with so many samples
abbrev pub IsGoodPart : ℕ → PartBlock → Type 0
IsGoodPart samples part = AllByRecursion (λ block. AreSummaries samples block.summaries) part.blocks

-- ---- what a fold of parts stands for

-- the blocks of parts, one after the other
abbrev pub blocks_of : List PartBlock → List EventBlock
blocks_of parts = flat_map (λ part. part.blocks) parts

-- no row of a part was refused
abbrev pub IsWhole : PartBlock → Type 0
IsWhole part = part.refused ≡ None

-- behind a history of records the blocks of parts were added, none of which was refused, and they are kept
pub record AreTaken (rows : Rows) (history : List Added) (parts : List PartBlock) (cells : KeptCells) (kept : List PartBlock) : Type 0 where
  pub whole : AllByRecursion IsWhole parts
  pub clear : first_refusal history (blocks_added rows (blocks_of parts)) ≡ None
  pub stands : StandsFor (history ++ blocks_added rows (blocks_of parts)) cells
  pub kept_are : kept ≡ parts

-- why a part stops the fold behind some of its blocks: the next block passes a limit, or there is none and a row was refused
abbrev pub IsReason : Rows → List Added → List EventBlock → Option RefusedRow → Refusal → Type 0
IsReason rows before [] None why = ⊥
IsReason rows before [] (Some row) why = why ≡ refusal.Row row.event row.row row.cause
IsReason rows before (block ∷ later) refused why = first_refusal before (block_added rows block) ≡ Some why

-- a part with some of its blocks
abbrev pub with_blocks : List EventBlock → PartBlock → PartBlock
with_blocks blocks part = record { blocks = blocks; refused = part.refused }

-- a fold has stopped in a part, behind some of its blocks, which are kept behind the parts before it
pub record HasStopped (rows : Rows) (history : List Added) (parts : List PartBlock) (part : PartBlock) (why : Refusal) (kept : List PartBlock) : Type 0 where
  pub whole : AllByRecursion IsWhole parts
  pub taken : List EventBlock
  pub rest : List EventBlock
  pub are : part.blocks ≡ taken ++ rest
  pub clear : first_refusal history (blocks_added rows (blocks_of parts ++ taken)) ≡ None
  pub reason : IsReason rows (history ++ blocks_added rows (blocks_of parts ++ taken)) rest part.refused why
  pub kept_are : kept ≡ parts ++ with_blocks taken part ∷ []

-- why a stop of the fold refuses the run; none where memory was wanting
abbrev pub fold_refusal : FoldStop → Option Refusal
fold_refusal (fold_stop.Cell event limit) = Some (limit_refusal event limit)
fold_refusal (fold_stop.Row row) = Some (refusal.Row row.event row.row row.cause)
fold_refusal fold_stop.OutOfMemory = None

-- Memory was wanting behind parts, in the next one or behind it: no record of the parts and of some blocks of this one was refused, and the
-- parts are kept alone, or with these blocks of this one
pub record HasWanted (rows : Rows) (history : List Added) (parts : List PartBlock) (part : PartBlock) (kept : List PartBlock) : Type 0 where
  pub whole : AllByRecursion IsWhole parts
  pub taken : List EventBlock
  pub rest : List EventBlock
  pub are : part.blocks ≡ taken ++ rest
  pub clear : first_refusal history (blocks_added rows (blocks_of parts ++ taken)) ≡ None
  pub kept_are : (kept ≡ parts) ⊎ (kept ≡ parts ++ with_blocks taken part ∷ [])

-- how a fold has stopped by why it did: at a refusal, or for want of memory
abbrev pub StopsBy : Rows → List Added → List PartBlock → PartBlock → Option Refusal → List PartBlock → Type 0
StopsBy rows history parts part None kept = HasWanted rows history parts part kept
StopsBy rows history parts part (Some why) kept = HasStopped rows history parts part why kept

-- a fold as contracts see it: the rows of its tables, its cells, and the parts that it keeps
pub record FoldState : Type 0 where
  pub rows : Rows
  pub cells : KeptCells
  pub kept : List PartBlock

-- what a fold begins a round with: the rows of its tables, the number of samples, and all records that were added before
pub record FoldStart : Type 0 where
  pub rows : Rows
  pub samples : ℕ
  pub history : List Added

-- a fold stands for parts behind its start
pub record StandsBehind (start : FoldStart) (fold : FoldState) (parts : List PartBlock) : Type 0 where
  pub same : fold.rows ≡ start.rows
  pub samples : fold.cells.samples ≡ start.samples
  pub taken : AreTaken start.rows start.history parts fold.cells fold.kept

-- a fold has stopped behind parts, in the next one
pub record StopsBehind (start : FoldStart) (fold : FoldState) (parts : List PartBlock) (part : PartBlock) (stop : FoldStop) : Type 0 where
  pub same : fold.rows ≡ start.rows
  pub samples : fold.cells.samples ≡ start.samples
  pub stops : StopsBy start.rows start.history parts part (fold_refusal stop) fold.kept

-- a part that a fold can take: its records are those of a stream with as many samples
abbrev pub FitsFold : FoldState → PartBlock → Type 0
FitsFold fold part = IsGoodPart fold.cells.samples part

-- ---- adding records

-- why adding records stopped: the first of them that passes a limit, or memory is wanting
abbrev pub StopsAdding : List Added → List Added → Option Refusal → Type 0
StopsAdding history added None = Unit {0}
StopsAdding history added (Some why) = first_refusal history added ≡ Some why

-- what adding records to cells did: all are added, or it stopped
abbrev pub AddsAll : List Added → List Added → KeptCells → Result (Unit {0}) FoldStop → Type 0
AddsAll history added cells (Ok done) = (first_refusal history added ≡ None) × StandsFor (history ++ added) cells
AddsAll history added cells (Err stop) = StopsAdding history added (fold_refusal stop)

-- adding blocks stopped at one of them: all before it were added
pub record StopsAtBlock (rows : Rows) (history : List Added) (blocks : List EventBlock) (place : ℕ) (stop : FoldStop) : Type 0 where
  pub clear : first_refusal history (blocks_added rows (take place blocks)) ≡ None
  pub block : EventBlock
  pub later : List EventBlock
  pub is : drop place blocks ≡ block ∷ later
  pub reason : StopsAdding (history ++ blocks_added rows (take place blocks)) (block_added rows block) (fold_refusal stop)

-- what adding blocks did
abbrev pub AddsBlocks : Rows → List Added → List EventBlock → KeptCells → Result (Unit {0}) BlockStop → Type 0
AddsBlocks rows history blocks cells (Ok done) = (first_refusal history (blocks_added rows blocks) ≡ None) × StandsFor (history ++ blocks_added rows blocks) cells
AddsBlocks rows history blocks cells (Err at) = StopsAtBlock rows history blocks at.place at.stop
