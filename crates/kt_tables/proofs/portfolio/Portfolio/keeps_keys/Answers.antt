use Rattle.kt_tables.specs.PortfolioLaws.{keys_kept}
use Rattle.kt_tables.proofs.portfolio.Portfolio.keeps_keys.Goals as goal

pub returns : goal.returns
returns c = record { kept = keys_kept c.args.self.now c.is_valid.ensures.valid }
