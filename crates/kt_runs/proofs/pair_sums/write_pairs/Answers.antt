use Rattle.std.proofs.Common.{◌++◌, ◌∙◌, List, ap, arith, subst, sym, refl}
use Rattle.kt_runs.specs.PairRoom.{AreEnded, AreIn, with_loss}
use Rattle.kt_stream.specs.declared.entry.Pair.{Pair}
use Rattle.kt_runs.specs.PairSums.{pairs_upto}
use Rattle.kt_runs.proofs.PairSumsLemmas.{pairs_more}
use Rattle.kt_runs.proofs.pair_sums.write_pairs.Goals as goal

pub loop-place-init : goal.loop-place-init
loop-place-init c = record { room = refl; few = omega arith; are = record { used_is = refl; bytes_are = refl } }

pub loop-place-preserved : goal.loop-place-preserved
loop-place-preserved c =
    let here = c.loop-place.invariant in
    let place = c.loop-place.place in
    let sums = c.args.sums.now in
    record {
      room = c.keep_pair-used.ensures.room ∙ here.room;
      few = omega (arith, here.few, c.keep_pair-used.ensures.few);
      are = subst (λ (pairs : List Pair). AreIn pairs c.keep_pair-used.result c.keep_pair-used.new.room) (ap (λ (pair : Pair). pairs_upto c.args.least sums place ++ with_loss pair) c.pair_at-pair.ensures.value ∙ sym (pairs_more c.args.least sums place)) (c.keep_pair-used.ensures.kept (pairs_upto c.args.least sums place) here.are);
    }

pub returns-clause-value : goal.returns-clause-value
returns-clause-value c = subst (λ n. AreEnded (pairs_upto c.args.least c.args.sums.now n) c.end_pairs.result c.end_pairs.new.room) (omega (arith, c.loop-place-test.false, c.loop-place.auto.place-end)) (c.end_pairs.ensures.ended (pairs_upto c.args.least c.args.sums.now c.loop-place.place) c.loop-place.invariant.are)
