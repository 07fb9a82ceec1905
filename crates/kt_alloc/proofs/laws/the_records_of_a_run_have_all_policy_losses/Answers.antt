use Rattle.std.proofs.Common.{◌∙◌}
use Rattle.std.proofs.lemmas.List.Elements.{All-from_recursion}
use Rattle.kt_tables.specs.PortfolioLaws.{keys_kept}
use Rattle.kt_fmtree.specs.Programme.{tree_of}
use Rattle.kt_rec.specs.Sums.{each_then}
use Rattle.kt_levels.specs.Shares.{taken_loss}
use Rattle.kt_runs.specs.Records.{insured_range}
use Rattle.kt_alloc.proofs.RecordLemmas.{made-all}
use Rattle.kt_alloc.proofs.laws.the_records_of_a_run_have_all_policy_losses.Goals as goal

pub returns : goal.returns
returns c = record {
  conserved = λ portfolio has samples records.
      let rows = portfolio.rows in
      let tree = tree_of rows 0 in
      All-from_recursion _ (insured_range samples)
      (each_then _ _ (λ sidx same. same ∙ c.all_outputs_have_all_policy_losses.ensures.conserved portfolio has (taken_loss tree records sidx)) (insured_range samples) (made-all rows.fm_xref (keys_kept portfolio has.valid).outputs tree portfolio.need.rule samples records));
}
