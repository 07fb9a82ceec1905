-- What of the blocks of events the tables over all periods add up.
-- The rule: docs/CALCULATION.md, "Periods".
use Rattle.std.specs.Prelude.{List, map}
use Rattle.std.specs.List.{flat_map}
use Rattle.kt_cell.specs.Losses.{Added}
use Rattle.kt_block.specs.declared.block.EventBlock.{EventBlock}
use Rattle.kt_block.specs.declared.block.Summaries.{Summaries}
use Rattle.kt_rec.specs.Rows.{Rows}
use Rattle.kt_stream.specs.declared.entry.SummaryRecord.{SummaryRecord}
use Rattle.kt_tables.specs.Lookups.{occurrences_of}

-- a summary record with its set, and the occurrences of its event
abbrev pub record_added : Rows → Summaries → SummaryRecord → Added
record_added rows summaries entry = record { perspective = summaries.perspective; set = summaries.set; entry = entry; at = occurrences_of rows entry.event }

-- the records of summaries of a set
abbrev pub summaries_added : Rows → Summaries → List Added
summaries_added rows summaries = map (record_added rows summaries) summaries.records

-- the records of an event's block, set by set
abbrev pub block_added : Rows → EventBlock → List Added
block_added rows block = flat_map (summaries_added rows) block.summaries

-- the records of blocks, one after the other
abbrev pub blocks_added : Rows → List EventBlock → List Added
blocks_added rows blocks = flat_map (block_added rows) blocks
