use Rattle.std.proofs.Common.{◌≤◌, ◌++◌, ◌∙◌, List, pos, length, ap, arith, slice_index, subst, refl, take}
use Rattle.std.proofs.lemmas.List.{take_all}
use Rattle.std.proofs.lemmas.List.Elements.{All-from_recursion}
use Rattle.kt_runs.specs.PairRoom.{AreEnded, AreIn, with_loss}
use Rattle.kt_runs.specs.Sidx.{pair_of}
use Rattle.kt_stream.specs.Pairs.{IsPair}
use Rattle.kt_stream.specs.declared.entry.Pair.{Pair}
use Rattle.kt_runs.specs.RowLaws.{made-more}
use Rattle.kt_ri.specs.Left.{left_at, pairs_left}
use Rattle.kt_ri.proofs.left.write_left.Goals as goal

-- a pair for want of another
abbrev none : Pair
none = record { sidx = pos 0; loss = 0 }

pub loop-pair-init : goal.loop-pair-init
loop-pair-init c = record { room = refl; few = omega arith; are = record { used_is = refl; bytes_are = refl } }

pub pair_left-requires-clause-sidx : goal.pair_left-requires-clause-sidx
pair_left-requires-clause-sidx c = (All-from_recursion (IsPair c.args.samples) c.args.pairs.now c.requires.pairs c.loop-pair.pair-index none c.loop-pair-test.true).sidx

pub loop-pair-preserved : goal.loop-pair-preserved
loop-pair-preserved c =
    let here = c.loop-pair.invariant in
    let i = c.loop-pair.pair-index in
    let ceded = slice_index c.args.ceded.now in
    let left = pairs_left ceded (take i c.args.pairs.now) in
    record {
      room = c.keep_pair-used.ensures.room ∙ here.room;
      few = omega (arith, here.few, c.keep_pair-used.ensures.few);
      are = subst (λ (pairs : List Pair). AreIn pairs c.keep_pair-used.result c.keep_pair-used.new.room)
          (made-more (λ (pair : Pair). pair_of pair.sidx (left_at ceded pair.sidx pair.loss)) c.args.pairs.now left (left ++ with_loss c.pair_left.result) i none c.loop-pair-test.true refl (ap (λ (pair : Pair). left ++ with_loss pair) c.pair_left.ensures.value))
          (c.keep_pair-used.ensures.kept left here.are);
    }

pub returns-clause-value : goal.returns-clause-value
returns-clause-value c =
    let pairs = c.args.pairs.now in
    let i = c.loop-pair.pair-index in
    let ceded = slice_index c.args.ceded.now in
    let past : length pairs ≤ i = omega (arith, c.loop-pair-test.false) in
    subst (λ (pairs : List Pair). AreEnded (pairs_left ceded pairs) c.end_pairs.result c.end_pairs.new.room) (take_all i pairs past) (c.end_pairs.ensures.ended (pairs_left ceded (take i pairs)) c.loop-pair.invariant.are)
