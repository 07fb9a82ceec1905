use Rattle.std.proofs.Common.{◌+◌, ap, arith, refl}
use Rattle.kt_runs.proofs.PairsKept.{kept-more}
use Rattle.kt_runs.proofs.kept_pairs.keep_pair.Goals as goal

pub returns-clause-kept : goal.returns-clause-kept
returns-clause-kept c pairs here = kept-more pairs c.args.used _ c.args.pair.now.loss c.args.pair.now c.args.room.now c.write_pair.new.bytes here c.requires.room refl (λ above. ap (λ n. c.args.used + n) (c.length_of.ensures.some above)) (λ zero. omega (arith, c.length_of.ensures.none zero)) c.write_pair.ensures.value
