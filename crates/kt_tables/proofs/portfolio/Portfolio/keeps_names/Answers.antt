use Rattle.kt_tables.specs.PortfolioLaws.{names_kept}
use Rattle.kt_tables.proofs.portfolio.Portfolio.keeps_names.Goals as goal

pub returns : goal.returns
returns c = record { kept = names_kept c.args.self.now c.is_valid.ensures.valid }
