-- The deviation meets its defining bounds.
use Rattle.std.proofs.Common.{◌≡◌, arith}
use Rattle.std.proofs.lemmas.Grind.{common_steps}
use Rattle.kt_money.specs.Weighted.{weighted_deviation_of}
use Rattle.kt_money.specs.WeightedLaws.{weighted_deviation_of-is}
use Rattle.kt_money.proofs.weighted.weighted_mean_sd.Goals as goal

pub returns-clause-exact : goal.returns-clause-exact
returns-clause-exact c =
    let value : c.deviation.result ≡ weighted_deviation_of c.args.count c.args.weights c.args.total c.args.squares = grind (arith, common_steps) in
    rw value (weighted_deviation_of-is c.args.count c.args.weights c.args.total c.args.squares c.requires.weighed)
