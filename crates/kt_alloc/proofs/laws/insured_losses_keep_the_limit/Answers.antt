use Rattle.std.proofs.Common.{arith}
use Rattle.kt_structure.specs.ProgrammeLaws.{tree_of-is}
use Rattle.kt_structure.specs.Ready.{ready}
use Rattle.kt_tables.specs.PortfolioLaws.{keys_kept}
use Rattle.kt_fmtree.specs.Programme.{tree_of}
use Rattle.kt_levels.specs.Shares.{taken_loss}
use Rattle.kt_alloc.proofs.WithinLemmas.{insured-few}
use Rattle.kt_alloc.proofs.laws.insured_losses_keep_the_limit.Goals as goal

pub returns : goal.returns
returns c = record {
  within = λ portfolio has samples records few sidx.
      let rows = portfolio.rows in
      let whole = c.all_outputs_have_all_policy_losses.ensures.conserved portfolio has (taken_loss (tree_of rows 0) records sidx) in
      omega (arith, insured-few rows has.valid.in_range (tree_of-is rows 0 (ready portfolio has.valid 0 (omega arith) has.programme).has) records sidx portfolio.need.rule samples (keys_kept portfolio has.valid).outputs whole, few sidx);
}
