use Rattle.std.proofs.Common.{List, sym, ap, subst, ◌∙◌}
use Rattle.std.specs.Prelude.{All}
use Rattle.kt_block.specs.declared.block.Summaries.{Summaries}
use Rattle.kt_files.specs.Parts.{records_of_set}
use Rattle.kt_files.proofs.RecordLemmas.{records_are_good}
use Rattle.kt_files.proofs.blocks.push_block.Goals as goal
use Rattle.kt_stream.specs.Summary.{IsSummary}
use Rattle.kt_stream.specs.declared.entry.SummaryRecord.{SummaryRecord}

pub push_records-requires-clause-records : goal.push_records-requires-clause-records
push_records-requires-clause-records c =
    subst (λ (records : List SummaryRecord). All (IsSummary c.args.samples) records)
    (sym (c.records_of_set-records.ensures ∙ ap (λ (summaries : List Summaries). records_of_set c.in-OfSet.set summaries) c.as_slice.ensures.value))
    (records_are_good c.args.samples c.in-OfSet.set c.args.block.now.summaries c.requires.records)
