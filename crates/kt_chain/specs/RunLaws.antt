-- What holds of every run.
-- The rules: docs/REFUSALS.md, "Order"; docs/OUTPUTS.md, "Files of a run".
use Rattle.std.proofs.Common.{refl, ap, ◌∙◌}
use Rattle.std.specs.Prelude.{◌≡◌, ℕ, List, [], ◌∷◌, ◌++◌, Option, Some}
use Rattle.std.specs.List.{flat_map}
use Rattle.kt_ends.specs.declared.status.Refusal.{Refusal}
use Rattle.kt_block.specs.declared.terms.SummarySet.{SummarySet}
use Rattle.kt_files.specs.declared.file.OutputFile.TheVariants.{OfSet}
use Rattle.kt_files.specs.declared.file.SetTable.TheVariants.{AverageAnnualLoss, ExceedanceCurve}
use Rattle.kt_files.specs.Parts.{record_rows, records_of_set}
use Rattle.kt_rec.specs.declared.curve.Curve.{Curve}
use Rattle.kt_tables.specs.Lookups.{event_ids}
use Rattle.kt_chain.specs.Events.{RunInput, block_of}
use Rattle.kt_chain.specs.Files.{event_text, files_upto, text_upto}
use Rattle.kt_chain.specs.Outcome.{chain_outcome, event_refusal, reached_outcome, run_reaches}
use Rattle.kt_chain.specs.Reached.{AreFirst, NextIsRefused, NoneRefused, come_first, comes_next, none_refused}

-- what is made of each of some things is nothing, and so is all of it
none_of : {X : Type 0} (made : X → List ℕ) → ((x : X) → made x ≡ []) → (xs : List X) → flat_map made xs ≡ []
none_of made none [] = refl
none_of made none (x ∷ xs) = ap (λ (front : List ℕ). front ++ flat_map made xs) (none x) ∙ none_of made none xs

-- the events that are done are the first of the list
pub done_first : (run : RunInput) → AreFirst (run_reaches run).done (event_ids run.rows)
done_first run = come_first (event_refusal run) (event_ids run.rows)

-- none of them is refused
pub done_passed : (run : RunInput) → NoneRefused (event_refusal run) [] (run_reaches run).done
done_passed run = none_refused (event_refusal run) (event_ids run.rows)

-- and the next one is, where one is refused
pub next_event_refused : (run : RunInput) (why : Refusal) → (run_reaches run).refusal ≡ Some why → NextIsRefused (event_refusal run) (run_reaches run).done (event_ids run.rows) why
next_event_refused run why is = comes_next (event_refusal run) (event_ids run.rows) why is

-- where an event is refused the files hold the rows of those that are done
pub refused_files : (run : RunInput) (why : Refusal) → (run_reaches run).refusal ≡ Some why → (chain_outcome run).files ≡ files_upto run (run_reaches run).done
refused_files run why is = ap (λ (one : Option Refusal). (reached_outcome run (run_reaches run).done one).files) is

-- then a table over all periods has nothing
pub averages_empty : (run : RunInput) (done : List ℕ) (set : SummarySet) → text_upto run done (OfSet set AverageAnnualLoss) ≡ []
averages_empty run done set =
    none_of (event_text run (OfSet set AverageAnnualLoss)) (λ event. none_of (record_rows run.terms.samples run.rows AverageAnnualLoss) (λ entry. refl) (records_of_set set (block_of run event).summaries)) done

pub curves_empty : (run : RunInput) (done : List ℕ) (set : SummarySet) (curve : Curve) → text_upto run done (OfSet set (ExceedanceCurve curve)) ≡ []
curves_empty run done set curve =
    none_of (event_text run (OfSet set (ExceedanceCurve curve))) (λ event. none_of (record_rows run.terms.samples run.rows (ExceedanceCurve curve)) (λ entry. refl) (records_of_set set (block_of run event).summaries)) done
