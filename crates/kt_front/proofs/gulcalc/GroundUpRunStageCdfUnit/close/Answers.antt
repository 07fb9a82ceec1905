use Rattle.std.proofs.Common.{length}
use Rattle.kt_front.proofs.GulLemmas.{are_cdfs}
use Rattle.kt_front.proofs.gulcalc.GroundUpRunStageCdfUnit.close.Goals as goal

pub put_ground_up-requires-clause-cdfs : goal.put_ground_up-requires-clause-cdfs
put_ground_up-requires-clause-cdfs c = are_cdfs (length c.args.self.now.portfolio.now.rows.damage_bin_dict) c.args._head c.args.run.now c.requires.good c.requires.rising
