-- The summary streams of the parts of a split run, joined, give the four tables of the run of all stages.
use Rattle.std.proofs.Common.{◌≡◌, ◌+◌, ℕ, true, List, [], ◌∷◌, length, map, refl, ap, ◌∙◌, flat_map}
use Rattle.kt_chain.specs.Events.{run_input}
use Rattle.kt_chain.specs.SetRecords.{set_records}
use Rattle.kt_chain.specs.SetRecords.{file_table, stream_gives_file}
use Rattle.kt_ends.specs.declared.status.Status.TheVariants.{Done}
use Rattle.kt_block.specs.Terms.{AreTerms}
use Rattle.kt_block.specs.declared.terms.SummarySet.{SummarySet}
use Rattle.kt_block.specs.declared.terms.Terms.{Terms}
use Rattle.kt_loop.specs.Outcome.{gives}
use Rattle.kt_out.specs.NamedFiles.{FileMap}
use Rattle.kt_periods.specs.PeriodTables.{contents_outcome}
use Rattle.kt_periods.specs.declared.table.PeriodTable.{PeriodTable}
use Rattle.kt_periods.specs.declared.table.PeriodTable.TheVariants.{AverageAnnualLoss, ExceedanceCurve}
use Rattle.kt_rec.specs.Rows.{Rows}
use Rattle.kt_stream.specs.Grammar.{placed_from}
use Rattle.kt_stream.specs.Header.{header_size}
use Rattle.kt_stream.specs.Summary.{summary_form}
use Rattle.kt_stream.specs.declared.entry.Placed.{Placed}
use Rattle.kt_stream.specs.declared.entry.SummaryRecord.{SummaryRecord}
use Rattle.kt_stream.specs.declared.kind.StreamKind.TheVariants.{Summary}
use Rattle.kt_tables.specs.Lookups.{event_ids}
use Rattle.kt_split.proofs.Served.{served_averages, served_curves, served_losses}
use Rattle.kt_split.specs.RunDone.{IsDoneOver}
use Rattle.kt_split.specs.RunInParts.{GivesFiles, JoinedGiveFiles}
use Rattle.kt_split.specs.SplitRuns.{GivesTables, JoinedGiveTables, file_text, set_contents}

entries_are : (at : ℕ) (xs : List SummaryRecord) → map (λ (placed : Placed SummaryRecord). placed.entry) (placed_from summary_form at xs) ≡ xs
entries_are at [] = refl
entries_are at (x ∷ xs) = ap (λ (later : List SummaryRecord). x ∷ later) (entries_are (at + length (summary_form.bytes x)) xs)

module _ (files : FileMap) (terms : Terms) (rows : Rows) (are : AreTerms terms) (done : IsDoneOver files terms rows) (set : SummarySet) where
  -- the table over all periods of the records of all events in the set is the text of its file
  file_of : (kind : PeriodTable) → contents_outcome kind rows (set_contents terms rows files set) ≡ gives Done (file_text terms rows files set (file_table kind))
  file_of kind =
      let records = flat_map (set_records (run_input terms rows files) set) (event_ids rows) in
      stream_gives_file (run_input terms rows files) set kind (record { samples = terms.samples; set = set.set }) (placed_from summary_form (header_size Summary) records) done.done refl refl (entries_are (header_size Summary) records)

  files_given : (summaries : List ℕ) → GivesTables files terms rows set summaries → GivesFiles files terms rows set summaries
  files_given summaries tables = record {
    event_losses = tables.event_losses;
    period_losses = tables.period_losses (served_losses files terms rows are done.loads true);
    averages = tables.averages (served_averages files terms rows are done.loads) ∙ file_of AverageAnnualLoss;
    curves = λ curve. tables.curves curve (served_curves files terms rows are done.loads curve) ∙ file_of (ExceedanceCurve curve);
  }

  pub joined_give_files : JoinedGiveTables files terms rows set → JoinedGiveFiles files terms rows set
  joined_give_files tables n names kept some are_files = files_given _ (tables n names kept some are_files)
