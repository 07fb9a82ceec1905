-- The records of a set among summaries, and the tables that gain nothing of them.
use Rattle.std.proofs.Common.{◌≡◌, ℕ, Bool, true, false, List, [], ◌∷◌, ◌++◌, refl, sym, ap, ◌∙◌, append-nil}
use Rattle.std.specs.Prelude.{All, if◌then◌else◌}
use Rattle.std.specs.List.{flat_map}
use Rattle.std.proofs.lemmas.List.Elements.{All-from_recursion}
use Rattle.kt_block.specs.Block.{AreSummaries}
use Rattle.kt_block.specs.declared.block.EventBlock.{EventBlock}
use Rattle.kt_block.specs.declared.block.Summaries.{Summaries}
use Rattle.kt_block.specs.declared.terms.SummarySet.{SummarySet}
use Rattle.kt_files.specs.Parts.{block_text, is_of_set, record_rows, records_of_set}
use Rattle.kt_files.specs.declared.file.OutputFile.{OutputFile}
use Rattle.kt_files.specs.declared.file.OutputFile.TheVariants.{OfSet}
use Rattle.kt_files.specs.declared.file.SetTable.{SetTable}
use Rattle.kt_rec.specs.Rows.{Rows}
use Rattle.kt_stream.specs.Summary.{IsSummary}
use Rattle.kt_stream.specs.declared.entry.SummaryRecord.{SummaryRecord}

-- the records of a set are those of a stream where all are
pub records_are_good : (samples : ℕ) (set : SummarySet) (summaries : List Summaries) → AreSummaries samples summaries → All (IsSummary samples) (records_of_set set summaries)
records_are_good samples set [] good = All-from_recursion (IsSummary samples) [] tt
records_are_good samples set (one ∷ more) good = by (is_of_set set one) (records_are_good samples set more good.1)
  where
    by : (found : Bool) → All (IsSummary samples) (records_of_set set more) → All (IsSummary samples) (if found then one.records else records_of_set set more)
    by true later = good.0
    by false later = later

-- no element gives anything
nothing_of_each : {A : Type 0} (text : A → List ℕ) → ((one : A) → text one ≡ []) → (all : List A) → flat_map text all ≡ []
nothing_of_each text none [] = refl
nothing_of_each text none (one ∷ all) = ap (λ (front : List ℕ). front ++ flat_map text all) (none one) ∙ nothing_of_each text none all

-- a file gains nothing by blocks where its table has no row of a record
pub file_gains_nothing : (samples : ℕ) (rows : Rows) (file : OutputFile) (set : SummarySet) (table : SetTable) (blocks : List EventBlock) (text : List ℕ) → ((entry : SummaryRecord) → record_rows samples rows table entry ≡ []) → file ≡ OfSet set table → text ≡ text ++ flat_map (block_text samples rows file) blocks
file_gains_nothing samples rows file set table blocks text none is =
    sym (append-nil text)
    ∙ ap (λ (rest : List ℕ). text ++ rest) (sym (nothing_of_each (block_text samples rows (OfSet set table)) (λ block. nothing_of_each (record_rows samples rows table) none (records_of_set set block.summaries)) blocks))
    ∙ ap (λ (one : OutputFile). text ++ flat_map (block_text samples rows one) blocks) (sym is)

-- a table gains nothing by records that have no row in it
pub gains_nothing : (samples : ℕ) (rows : Rows) (table other : SetTable) (records : List SummaryRecord) (text : List ℕ) → ((entry : SummaryRecord) → record_rows samples rows other entry ≡ []) → table ≡ other → text ≡ text ++ flat_map (record_rows samples rows table) records
gains_nothing samples rows table other records text none is =
    sym (append-nil text)
    ∙ ap (λ (rest : List ℕ). text ++ rest) (sym (nothing_of_each (record_rows samples rows other) none records))
    ∙ ap (λ (one : SetTable). text ++ flat_map (record_rows samples rows one) records) (sym is)
