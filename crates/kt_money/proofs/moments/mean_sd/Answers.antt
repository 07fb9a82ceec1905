-- The deviation meets its defining bounds.
use Rattle.std.proofs.Common.{◌≡◌, arith}
use Rattle.std.proofs.lemmas.Grind.{common_steps}
use Rattle.kt_money.specs.Rounding.{deviation_of}
use Rattle.kt_money.specs.RoundingLaws.{deviation_of-is}
use Rattle.kt_money.proofs.moments.mean_sd.Goals as goal

pub returns-clause-exact : goal.returns-clause-exact
returns-clause-exact c =
    let value : c.deviation.result ≡ deviation_of c.args.n c.args.sum c.args.sumsq = grind (arith, common_steps) in
    rw value (deviation_of-is c.args.n c.args.sum c.args.sumsq)

pub returns-clause-mean : goal.returns-clause-mean
returns-clause-mean c = grind (arith, common_steps)

pub returns-clause-deviation : goal.returns-clause-deviation
returns-clause-deviation c = grind (arith, common_steps)
