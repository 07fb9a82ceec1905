-- The rows of the blocks so far are appended.
use Rattle.std.proofs.Common.{◌≡◌, ◌++◌, take}
use Rattle.std.specs.List.{flat_map}
use Rattle.kt_files.specs.Parts.{block_text}
use Rattle.kt_files.proofs.made.push_blocks.Given as goal

abbrev pub invariant-loop-block : goal.invariant-loop-block
invariant-loop-block l = l.out ≡ l.initial.out ++ flat_map (block_text l.samples l.portfolio.rows l.file) (take l.block-index l.blocks)
