use Rattle.std.proofs.Common.{refl, inl, inr}
use Rattle.kt_files.specs.declared.file.SetTable.TheVariants.{AverageAnnualLoss, ExceedanceCurve}
use Rattle.kt_files.proofs.RecordLemmas.{gains_nothing}
use Rattle.kt_files.proofs.blocks.push_records.Goals as goal

pub returns-in-AverageAnnualLoss-clause-ok : goal.returns-in-AverageAnnualLoss-clause-ok
returns-in-AverageAnnualLoss-clause-ok c =
    elim c.in-AverageAnnualLoss.is [
      | inl is ↦ gains_nothing c.args.samples c.args.portfolio.now.rows c.args.table AverageAnnualLoss c.args.records.now c.args.out.now (λ entry. refl) is
      | inr is ↦ gains_nothing c.args.samples c.args.portfolio.now.rows c.args.table (ExceedanceCurve is.0) c.args.records.now c.args.out.now (λ entry. refl) is.1
    ]
