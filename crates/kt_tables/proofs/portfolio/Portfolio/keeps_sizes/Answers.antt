use Rattle.kt_tables.specs.PortfolioLaws.{sizes_kept}
use Rattle.kt_tables.proofs.portfolio.Portfolio.keeps_sizes.Goals as goal

pub returns : goal.returns
returns c = record { kept = sizes_kept c.args.self.now c.is_valid.ensures.valid }
