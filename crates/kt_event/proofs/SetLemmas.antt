-- The summaries of sets, which stand behind others.
use Rattle.std.proofs.Common.{◌≡◌, ℕ, List, ◌++◌, map, sym, ◌∙◌}
use Rattle.std.specs.Prelude.{All}
use Rattle.std.proofs.lemmas.List.Elements.{All-map, recursion_from_All}
use Rattle.kt_event.specs.Losses.{summaries_of}
use Rattle.kt_block.specs.Block.{AreSummaries}
use Rattle.kt_block.specs.Terms.{summary_set}
use Rattle.kt_block.specs.declared.block.Summaries.{Summaries}
use Rattle.kt_rec.specs.ListLaws.{map-map}
use Rattle.kt_rec.specs.Rows.{Rows}
use Rattle.kt_rec.specs.declared.perspective.Perspective.{Perspective}
use Rattle.kt_stream.specs.Summary.{IsSummary}
use Rattle.kt_stream.specs.declared.entry.LossRecord.{LossRecord}
use Rattle.kt_sum.specs.SetSums.{set_records}
use Rattle.kt_sum.specs.declared.set_records.SetRecords.{SetRecords}
use Rattle.kt_rec.specs.Sums.{each_append}

-- the summaries of a set of a perspective
abbrev pub of_set : Perspective → SetRecords → Summaries
of_set perspective one = record { perspective = perspective; set = one.set; records = one.records }

-- those that are made for numbers of sets are those of the sets
pub sets_made : (rows : Rows) (perspective : Perspective) (rule : ℕ) (losses : List LossRecord) (numbers : List ℕ) → map (of_set perspective) (map (set_records perspective rows rule losses) numbers) ≡ map (summaries_of rows rule losses) (map (summary_set perspective) numbers)
sets_made rows perspective rule losses numbers = map-map (of_set perspective) (set_records perspective rows rule losses) numbers ∙ sym (map-map (summaries_of rows rule losses) (summary_set perspective) numbers)

-- their records are those of a stream
pub sets_good : (samples : ℕ) (perspective : Perspective) (before : List Summaries) (made : List SetRecords) → AreSummaries samples before → All (λ one. All (IsSummary samples) one.records) made → AreSummaries samples (before ++ map (of_set perspective) made)
sets_good samples perspective before made good all =
    each_append (λ (one : Summaries). All (IsSummary samples) one.records) before (map (of_set perspective) made) good
    (recursion_from_All (λ (one : Summaries). All (IsSummary samples) one.records) (map (of_set perspective) made) (All-map (λ (one : Summaries). All (IsSummary samples) one.records) (of_set perspective) made all))
