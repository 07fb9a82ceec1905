use Rattle.kt_tables.specs.DamageLaws.{keeps_damage}
use Rattle.kt_tables.proofs.portfolio.Portfolio.keeps_damage.Goals as goal

pub returns : goal.returns
returns c = record { kept = keeps_damage c.args.self.now c.is_valid.ensures.valid c.requires.loaded }
