use Rattle.kt_tables.specs.PortfolioLaws.{programmes_kept}
use Rattle.kt_tables.proofs.portfolio.Portfolio.keeps_programmes.Goals as goal

pub returns : goal.returns
returns c = record { kept = programmes_kept c.args.self.now c.is_valid.ensures.valid }
