use Rattle.kt_block.specs.Terms.{summary_set}
use Rattle.kt_rec.specs.declared.perspective.Perspective.TheVariants.{Gul}
use Rattle.kt_split.specs.RunDone.{ends_over}
use Rattle.kt_split.proofs.DoneFiles.{joined_give_files}
use Rattle.kt_split.proofs.DoneStages.{gul_summaries_run}
use Rattle.kt_split.proofs.SplitLaws.{gul_tables_given}
use Rattle.kt_split.proofs.laws.joined_ground_up_summaries_give_the_files.Goals as goal

pub returns : goal.returns
returns c = record {
  tables = λ words files terms rows set some most has ends fits.
      let done = ends_over words files terms rows ends in
      joined_give_files files terms rows ends.are done (summary_set Gul set) (gul_tables_given terms rows files (c.ground_up_facts.ensures.facts files terms rows ends.are ends.loads) set some most has (gul_summaries_run files terms rows ends.are done set fits));
}
