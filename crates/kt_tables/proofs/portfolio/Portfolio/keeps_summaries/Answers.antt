use Rattle.kt_tables.proofs.SummaryLemmas.{summaries_kept}
use Rattle.kt_tables.proofs.portfolio.Portfolio.keeps_summaries.Goals as goal

pub returns : goal.returns
returns c = record { kept = summaries_kept c.args.self.now c.is_valid.ensures.valid }
