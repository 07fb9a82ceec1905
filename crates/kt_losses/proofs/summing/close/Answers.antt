use Rattle.std.proofs.Common.{List, refl, subst}
use Rattle.kt_loop.specs.Runs.{bare}
use Rattle.kt_losses.specs.Summed.{StandsAt}
use Rattle.kt_losses.specs.Tables.{perspective_of}
use Rattle.kt_stream.specs.declared.entry.LossRecord.{LossRecord}
use Rattle.kt_stream.specs.declared.entry.Placed.{Placed}
use Rattle.kt_losses.proofs.SummingLemmas.{closed_none, stands_empty}
use Rattle.kt_losses.proofs.summing.close.Goals as goal

pub returns-then-not-last-clause-closed : goal.returns-then-not-last-clause-closed
returns-then-not-last-clause-closed c = λ portfolio of run stands.
    let none = stands.none c.if-not-last.true in
    (closed_none of portfolio run c.args.out.now none, subst (λ (run : List (Placed LossRecord)). StandsAt portfolio of run c.args.last.now c.args.summaries.now) none stands)

pub returns-clause-closed : goal.returns-clause-closed
returns-clause-closed c = λ portfolio of run stands.
    let whose = perspective_of of.items in
    let put = c.in_ok-put.ensures in (
      put.text portfolio whose of.set (bare run) (stands.holds c.args.head.samples c.requires.ready) (stands.event_is c.if-not-last.false),
      stands_empty portfolio of c.args.head.samples _ c.put.new.self refl put.ready (put.holds portfolio whose of.set stands.are),
    )
