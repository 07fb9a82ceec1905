-- That the tools give, from the joined streams of the parts of the event list, the files of the run of all stages.
-- The rules: docs/COMMANDS.md, "Split runs".
use Rattle.std.specs.Prelude.{◌≡◌, ◌≤◌, ℕ, true, List, []}
use Rattle.std.specs.List.{range_with_len}
use Rattle.kt_ends.specs.declared.status.Status.TheVariants.{Done}
use Rattle.kt_block.specs.declared.terms.SummarySet.{SummarySet}
use Rattle.kt_block.specs.declared.terms.Terms.{Terms}
use Rattle.kt_files.specs.declared.file.SetTable.TheVariants.{AverageAnnualLoss, EventLoss, ExceedanceCurve, PeriodLoss}
use Rattle.kt_kat.specs.Outcome.{kat_outcome}
use Rattle.kt_loop.specs.Outcome.{gives}
use Rattle.kt_out.specs.NamedFiles.{FileMap}
use Rattle.kt_rec.specs.Rows.{Rows}
use Rattle.kt_rec.specs.declared.curve.Curve.{Curve}
use Rattle.kt_words.specs.declared.command.Command.TheVariants.{Aalcalc, Eltcalc, Leccalc, Pltcalc}
use Rattle.kt_tools.specs.Outcome.{command_outcome}
use Rattle.kt_split.specs.SplitRuns.{AreFiles, file_text, part_outcome, split_stages}

-- the tools over these bytes give the four tables that the run of all stages makes of a set
pub record GivesFiles (files : FileMap) (terms : Terms) (rows : Rows) (set : SummarySet) (summaries : List ℕ) : Type 0 where
  pub event_losses : command_outcome [] (Eltcalc true) files summaries ≡ gives Done (file_text terms rows files set EventLoss)
  pub period_losses : command_outcome [] (Pltcalc true) files summaries ≡ gives Done (file_text terms rows files set PeriodLoss)
  pub averages : command_outcome [] Aalcalc files summaries ≡ gives Done (file_text terms rows files set AverageAnnualLoss)
  pub curves : (curve : Curve) → command_outcome [] (Leccalc curve) files summaries ≡ gives Done (file_text terms rows files set (ExceedanceCurve curve))

-- so it is of the summary streams of all parts, joined
abbrev pub JoinedGiveFiles : FileMap → Terms → Rows → SummarySet → Type 0
JoinedGiveFiles files terms rows set =
    (n : ℕ) (names : List (List ℕ)) (kept : FileMap) → 1 ≤ n → AreFiles kept (λ p. (part_outcome files (split_stages terms set.perspective set.set) p n).output) names (range_with_len 1 n)
    → GivesFiles files terms rows set (kat_outcome names kept).output
