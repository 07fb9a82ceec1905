-- What is kept for the lookups, from what makes it.
use Rattle.std.proofs.Common.{◌≡◌, ◌∙◌, ℕ, List, map, ap, subst, sym, nat_eq, Result, Ok, Err, HashMap, BuildHasherDefault, FoldHasher}
use Rattle.std.specs.Map.{lookup}
use Rattle.std.specs.Result.{IfOk}
use Rattle.kt_rec.specs.Rows.{Rows}
use Rattle.kt_keys.specs.UnitTable.{value_of}
use Rattle.kt_keys.specs.declared.unit_table.UnitTable.{UnitTable}
use Rattle.kt_rec.specs.declared.exposure.Coverage.{Coverage}
use Rattle.kt_rec.specs.declared.perspective.Perspective.{Perspective}
use Rattle.kt_rec.specs.declared.perspective.Perspective.TheVariants.{Il, Ri}
use Rattle.kt_exposure.specs.declared.exposure.SummaryUnit.{SummaryUnit}
use Rattle.kt_tables.specs.declared.summaries.Summaries.{Summaries}
use Rattle.kt_tables.specs.Lookups.{summary_rows}
use Rattle.kt_tables.specs.Kept.{AreExposures, AreSummaries, AreSummariesOf, AreTivs}

-- the insured values, made of the table of coverages
pub tivs_made : (rows : Rows) (list : List Coverage) (tivs : UnitTable ℕ) → list ≡ rows.coverages → ((coverage : ℕ) → value_of tivs (0, coverage) ≡ lookup (nat_eq coverage) (map (λ row. (row.coverage_id, row.tiv)) list)) → AreTivs rows tivs
tivs_made rows list tivs is known = λ coverage. known coverage ∙ ap (λ (found : List Coverage). lookup (nat_eq coverage) (map (λ row. (row.coverage_id, row.tiv)) found)) is

-- the summaries of rows, with the exposures of a perspective, are those of the perspective
pub summaries_made : {E : Type 0} (perspective : Perspective) (rows : Rows) (list : List SummaryUnit) (exposures : HashMap (ℕ × ℕ) ℕ (BuildHasherDefault FoldHasher)) (found : Result Summaries E) → list ≡ summary_rows perspective rows → IfOk found (AreSummaries list) → IfOk found (λ summaries. summaries.exposures ≡ exposures) → IfOk found (λ summaries. (rule : ℕ) → AreExposures perspective rows rule exposures → AreSummariesOf perspective rows rule summaries)
summaries_made perspective rows list exposures (Ok summaries) is kept same = λ rule known. record {
  of_ids = subst (λ (found : List SummaryUnit). AreSummaries found summaries) is kept;
  exposures = subst (λ (found : HashMap (ℕ × ℕ) ℕ (BuildHasherDefault FoldHasher)). AreExposures perspective rows rule found) (sym same) known;
}
summaries_made perspective rows list exposures (Err stop) is kept same = tt

-- net losses have the summaries of insured ones
pub net_summaries : (rows : Rows) (rule : ℕ) (summaries : Summaries) → AreSummariesOf Il rows rule summaries → AreSummariesOf Ri rows rule summaries
net_summaries rows rule summaries kept = record { of_ids = kept.of_ids; exposures = kept.exposures }
