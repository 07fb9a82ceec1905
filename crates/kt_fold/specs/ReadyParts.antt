-- Ready cells of the blocks of a part.
-- The rules: docs/ARCHITECTURE.md, "A run of all stages".
use Rattle.std.specs.Prelude.{◌≡◌, All, List, [], ◌∷◌, Option, Some, None}
use Rattle.kt_block.specs.declared.block.EventBlock.{EventBlock}
use Rattle.kt_cell.specs.Standing.{StandsFor}
use Rattle.kt_rec.specs.Rows.{Rows}
use Rattle.kt_tables.specs.Lookups.{occurrences_of}
use Rattle.kt_fold.specs.Added.{block_added}
use Rattle.kt_fold.specs.declared.ready.ReadyBlock.{ReadyBlock}

-- what was made for the elements of a list, in their order: for those behind the last nothing was
abbrev pub AreMadeFor : {X R : Type 0} → (X → R → Type 0) → List R → List X → Type 0
AreMadeFor of [] xs = Unit {0}
AreMadeFor of (r ∷ made) [] = ⊥
AreMadeFor of (r ∷ made) (x ∷ xs) = of x r × AreMadeFor of made xs

-- all records of an event's block are of the event
abbrev pub IsOfEvent : EventBlock → Type 0
IsOfEvent block = All (λ summaries. All (λ entry. entry.event ≡ block.event) summaries.records) block.summaries

-- cells that stand for the records of an event's block alone, where the event has these occurrences
abbrev pub IsReadyBlock : EventBlock → Option ReadyBlock → Type 0
IsReadyBlock block None = Unit {0}
IsReadyBlock block (Some ready) = (rows : Rows) → occurrences_of rows block.event ≡ ready.at.items → StandsFor (block_added rows block) ready.cells

-- those of blocks, block by block
abbrev pub AreReadyBlocks : List EventBlock → List (Option ReadyBlock) → Type 0
AreReadyBlocks blocks ready = AreMadeFor IsReadyBlock ready blocks
