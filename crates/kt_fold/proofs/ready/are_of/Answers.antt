-- One record more is of the event.
use Rattle.std.proofs.Common.{◌≡◌, ℕ, take, take_all, arith, sym, subst}
use Rattle.std.specs.Prelude.{All}
use Rattle.std.proofs.lemmas.Bool.Decides.{nat_tests}
use Rattle.std.proofs.lemmas.List.Elements.{All-push}
use Rattle.kt_stream.specs.declared.entry.SummaryRecord.{SummaryRecord}
use Rattle.kt_fold.proofs.ListLemmas.{one_taken, same_place}
use Rattle.kt_fold.proofs.ready.are_of.Goals as goal

-- a record is of an event
abbrev IsOf : ℕ → SummaryRecord → Type 0
IsOf event entry = entry.event ≡ event

pub loop-entry-preserved : goal.loop-entry-preserved
loop-entry-preserved c =
    let at = same_place c.as_slice-entry-items.result.now c.args.summaries.now.records c.loop-entry.entry-index c.entry-item.result c.as_slice-entry-items.ensures.value c.loop-entry-test.true c.entry-item.is in
    let here : IsOf c.args.event c.entry-item.result = grind (arith, nat_tests, c.if-entry-event.false) in
    subst (All (IsOf c.args.event)) (sym (one_taken c.args.summaries.now.records c.loop-entry.entry-index c.entry-item.result at.0 at.1))
    (All-push (IsOf c.args.event) (take c.loop-entry.entry-index c.args.summaries.now.records) c.entry-item.result c.loop-entry.invariant here)

pub returns : goal.returns
returns c = λ yes.
    subst (All (IsOf c.args.event)) (take_all c.loop-entry.entry-index c.args.summaries.now.records (rw c.as_slice-entry-items.ensures.value at c.loop-entry-test.false)) c.loop-entry.invariant
