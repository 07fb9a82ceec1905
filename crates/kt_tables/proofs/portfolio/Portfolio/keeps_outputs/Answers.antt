use Rattle.kt_tables.specs.PortfolioLaws.{outputs_kept}
use Rattle.kt_tables.proofs.portfolio.Portfolio.keeps_outputs.Goals as goal

pub returns : goal.returns
returns c = record { kept = outputs_kept c.args.self.now c.is_valid.ensures.valid c.requires.programme c.requires.terms c.requires.outputs }
