-- The records of one set more are of the event.
use Rattle.std.proofs.Common.{◌≡◌, ℕ, take, take_all, refl, sym, subst}
use Rattle.std.specs.Prelude.{All}
use Rattle.std.proofs.lemmas.List.Elements.{All-push}
use Rattle.kt_block.specs.declared.block.Summaries.{Summaries}
use Rattle.kt_fold.proofs.ListLemmas.{one_taken, same_place}
use Rattle.kt_fold.proofs.ready.is_of_event.Goals as goal

-- the records of a set are of an event
abbrev AreOf : ℕ → Summaries → Type 0
AreOf event summaries = All (λ entry. entry.event ≡ event) summaries.records

pub loop-summaries-preserved : goal.loop-summaries-preserved
loop-summaries-preserved c =
    let at = same_place c.as_slice-summaries-items.result.now c.args.block.now.summaries c.loop-summaries.summaries-index c.summaries-item.result c.as_slice-summaries-items.ensures.value c.loop-summaries-test.true c.summaries-item.is in
    subst (All (AreOf c.args.block.now.event)) (sym (one_taken c.args.block.now.summaries c.loop-summaries.summaries-index c.summaries-item.result at.0 at.1))
    (All-push (AreOf c.args.block.now.event) (take c.loop-summaries.summaries-index c.args.block.now.summaries) c.summaries-item.result c.loop-summaries.invariant (c.if-not-are_of.ensures refl))

pub returns : goal.returns
returns c = λ yes.
    subst (All (AreOf c.args.block.now.event)) (take_all c.loop-summaries.summaries-index c.args.block.now.summaries (rw c.as_slice-summaries-items.ensures.value at c.loop-summaries-test.false)) c.loop-summaries.invariant
