use Rattle.std.proofs.Common.{◌∙◌, ◌++◌, ◌+◌, ◌∷◌, List, None, ap, arith, drop, refl, suc, take, sym, subst}
use Rattle.std.specs.List.{flat_map}
use Rattle.std.proofs.Math.Seq.{drop-cons}
use Rattle.std.proofs.lemmas.List.{take_all}
use Rattle.std.proofs.lemmas.List.Elements.{All-from_recursion}
use Rattle.kt_block.specs.Block.{AreSummaries}
use Rattle.kt_block.specs.declared.block.EventBlock.{EventBlock}
use Rattle.kt_fold.specs.Added.{block_added, blocks_added}
use Rattle.kt_fold.specs.ReadyParts.{AreMadeFor, IsReadyBlock}
use Rattle.kt_fold.proofs.ReadyLemmas.{left_made, next_made}
use Rattle.kt_fold.proofs.FoldLemmas.{HasAdded, all_added, each_added, none_added}
use Rattle.kt_fold.proofs.fold.add_blocks.Goals as goal

pub add_ready-requires-clause-ready : goal.add_ready-requires-clause-ready
add_ready-requires-clause-ready c =
    subst (IsReadyBlock c.index-blocks-place.result) (sym c.next-own.ensures.value)
    (next_made IsReadyBlock c.args.blocks.now c.loop-place.place c.index-blocks-place.result c.loop-place-test.true c.index-blocks-place.is c.loop-place.ready None tt c.loop-place.invariant.ready)

pub loop-place-preserved : goal.loop-place-preserved
loop-place-preserved c = record {
  added = λ history stands.
      let before = c.loop-place.invariant.added history stands in
      each_added (block_added c.args.portfolio.now.rows) c.args.blocks.now c.loop-place.place c.index-blocks-place.result c.loop-place-test.true c.index-blocks-place.is history c.loop-place.cells c.add_ready.new.cells before (c.in_default.ensures.added (history ++ flat_map (block_added c.args.portfolio.now.rows) (take c.loop-place.place c.args.blocks.now)) before.stands);
  periods = c.in_default.ensures.size.0 ∙ c.loop-place.invariant.periods;
  samples = c.in_default.ensures.size.1 ∙ c.loop-place.invariant.samples;
  ready =
      subst (λ (left : List _). AreMadeFor IsReadyBlock left (drop (c.loop-place.place + 1) c.args.blocks.now)) (sym c.next-own.ensures.rest)
      (left_made IsReadyBlock c.args.blocks.now c.loop-place.place c.index-blocks-place.result c.loop-place-test.true c.index-blocks-place.is c.loop-place.ready c.loop-place.invariant.ready);
}

pub loop-place-init : goal.loop-place-init
loop-place-init c = record { added = λ history stands. none_added history c.args.cells.now stands; periods = refl; samples = refl; ready = c.requires.ready }

pub add_ready-requires-clause-same : goal.add_ready-requires-clause-same
add_ready-requires-clause-same c = c.loop-place.invariant.periods ∙ c.requires.same

pub add_ready-requires-clause-good : goal.add_ready-requires-clause-good
add_ready-requires-clause-good c =
    let samples = c.args.cells.now.samples in
    let own = All-from_recursion (λ (block : EventBlock). AreSummaries samples block.summaries) c.args.blocks.now c.requires.good c.loop-place.place c.index-blocks-place.result c.loop-place-test.true in
    subst (λ n. AreSummaries n c.index-blocks-place.result.summaries) (sym c.loop-place.invariant.samples) (subst (λ (block : EventBlock). AreSummaries samples block.summaries) (sym c.index-blocks-place.is) own)

pub returns-in-Err-clause-added : goal.returns-in-Err-clause-added
returns-in-Err-clause-added c history stands =
    let before = c.loop-place.invariant.added history stands in
    let at = c.loop-place.place in
    let blocks = c.args.blocks.now in
    record {
      clear = before.clear;
      block = c.index-blocks-place.result;
      later = drop (suc at) blocks;
      is = drop-cons blocks at c.index-blocks-place.result c.loop-place-test.true ∙ ap (λ (one : EventBlock). one ∷ drop (suc at) blocks) (sym c.index-blocks-place.is);
      reason = c.in-Err.ensures.added (history ++ blocks_added c.args.portfolio.now.rows (take at blocks)) before.stands;
    }

pub returns-in-Err-clause-size : goal.returns-in-Err-clause-size
returns-in-Err-clause-size c = (c.in-Err.ensures.size.0 ∙ c.loop-place.invariant.periods, c.in-Err.ensures.size.1 ∙ c.loop-place.invariant.samples)

pub returns-clause-added : goal.returns-clause-added
returns-clause-added c history stands =
    let blocks = c.args.blocks.now in
    let added = blocks_added c.args.portfolio.now.rows in
    all_added history (added blocks) c.loop-place.cells
    (subst (λ (front : List EventBlock). HasAdded history (added front) c.loop-place.cells) (take_all c.loop-place.place blocks (omega (arith, c.loop-place-test.false))) (c.loop-place.invariant.added history stands))
