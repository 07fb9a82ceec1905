use Rattle.kt_tables.specs.PeriodLaws.{keeps_periods}
use Rattle.kt_tables.proofs.portfolio.Portfolio.keeps_periods.Goals as goal

pub returns : goal.returns
returns c = record { kept = keeps_periods c.args.self.now c.is_valid.ensures.valid c.requires.loaded }
