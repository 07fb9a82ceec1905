use Rattle.std.proofs.Common.{◌≡◌, ◌∙◌, ◌+◌, ◌∷◌, ◌<◌, [], drop, length, take, List, ℕ, Ok, Err, Some, ap, sym, subst, arith}
use Rattle.std.specs.Prelude.{slice_index_or}
use Rattle.std.specs.List.{AllByRecursion}
use Rattle.kt_event.specs.Losses.{event_result}
use Rattle.kt_block.specs.Block.{AreSummaries}
use Rattle.kt_event.specs.Plan.{IsOrMemory, terms_of}
use Rattle.kt_block.specs.declared.block.EventBlock.{EventBlock}
use Rattle.kt_load.specs.EventRows.{EventRows}
use Rattle.kt_rec.specs.declared.foot_rows.ModelStop.{ModelStop}
use Rattle.kt_rec.specs.declared.hazard.FootRow.{FootRow}
use Rattle.kt_stream.specs.Pairs.{IsId}
use Rattle.kt_rec.specs.Sums.{each_append}
use Rattle.kt_chain.specs.Rounds.{part_of}
use Rattle.kt_chain.proofs.RowLemmas.{next_given}
use Rattle.kt_chain.proofs.WorkLemmas.{behind, block_found, block_more, row_ends, row_found}
use Rattle.kt_chain.proofs.work.part_between.Goals as goal

pub event_block-requires-clause-event : goal.event_block-requires-clause-event
event_block-requires-clause-event c =
    let none : EventRows = record { event = 0; rows = [] } in
    let inside : c.loop-n.n < length c.args.given.now = omega (arith, c.loop-n-test.true, c.requires.within) in
    subst IsId (sym (c.event-event.ensures.value none)) (c.requires.events c.loop-n.n none inside)

pub loop-n-preserved : goal.loop-n-preserved
loop-n-preserved c =
    let terms = terms_of c.args.plan.now in
    let rows = c.args.portfolio.now.rows in
    let none : EventRows = record { event = 0; rows = [] } in
    let n = c.loop-n.n in
    let events = take c.args.behind c.args.given.now in
    let whole = part_of terms rows (drop c.args.first events) in
    let one = slice_index_or c.args.given.now n none in
    let later = drop (n + 1) events in
    let exact = subst (λ (event : ℕ). IsOrMemory (event_result terms rows event one.rows) (Ok c.in-Ok.block)) (c.event-event.ensures.value none)
    (subst (λ (foot : List FootRow). IsOrMemory (event_result terms rows c.event-event.result foot) (Ok c.in-Ok.block)) (c.rows.ensures.value none) c.in-Ok.ensures.exact) in
    record {
      whole = subst (λ (blocks : List EventBlock). whole ≡ behind blocks (part_of terms rows later)) (sym c.in_ok-push-in-Ok.ensures.ok)
          (block_more terms rows one c.loop-n.blocks c.in-Ok.block whole later (block_found terms rows one c.in-Ok.block exact)
          (c.loop-n.invariant.whole ∙ ap (λ (given : List EventRows). behind c.loop-n.blocks (part_of terms rows given)) (next_given c.args.given.now c.args.behind n none c.loop-n-test.true c.requires.within)));
      good = subst (AllByRecursion (λ (block : EventBlock). AreSummaries terms.samples block.summaries)) (sym c.in_ok-push-in-Ok.ensures.ok)
          (each_append (λ (block : EventBlock). AreSummaries terms.samples block.summaries) c.loop-n.blocks (c.in-Ok.block ∷ []) c.loop-n.invariant.good (c.in-Ok.ensures.good, tt));
    }

pub returns-in-Err-Row-clause-value : goal.returns-in-Err-Row-clause-value
returns-in-Err-Row-clause-value c =
    let terms = terms_of c.args.plan.now in
    let rows = c.args.portfolio.now.rows in
    let none : EventRows = record { event = 0; rows = [] } in
    let n = c.loop-n.n in
    let events = take c.args.behind c.args.given.now in
    let whole = part_of terms rows (drop c.args.first events) in
    let one = slice_index_or c.args.given.now n none in
    let later = drop (n + 1) events in
    let row = c.in-Err-Row.row in
    let cause = c.in-Err-Row.cause in
    let exact = subst (λ (event : ℕ). IsOrMemory (event_result terms rows event one.rows) (Err c.in-Err-Row.field-0)) (c.event-event.ensures.value none)
    (subst (λ (foot : List FootRow). IsOrMemory (event_result terms rows c.event-event.result foot) (Err c.in-Err-Row.field-0)) (c.rows.ensures.value none) c.in-Err-Row.ensures.exact) in
    let found = row_found terms rows one row cause (subst (λ (stop : ModelStop). IsOrMemory (event_result terms rows one.event one.rows) (Err stop)) c.in-Err-Row.field-0-is exact) in
    let ends = subst (λ (event : ℕ). record { blocks = c.loop-n.blocks; refused = Some (record { event = event; row = row; cause = cause }) } ≡ whole) (sym (c.event-event.ensures.value none))
    (row_ends terms rows one c.loop-n.blocks whole later row cause found
    (c.loop-n.invariant.whole ∙ ap (λ (given : List EventRows). behind c.loop-n.blocks (part_of terms rows given)) (next_given c.args.given.now c.args.behind n none c.loop-n-test.true c.requires.within))) in
    rw c.in-Err-Row.field-0-is ends
