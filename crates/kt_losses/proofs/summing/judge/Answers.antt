use Rattle.std.proofs.Common.{◌≡◌, true, sym, ◌∙◌}
use Rattle.kt_loop.specs.Runs.{bare}
use Rattle.kt_losses.specs.Known.{has_id}
use Rattle.kt_losses.specs.Tables.{perspective_of}
use Rattle.kt_runs.specs.RunLosses.{goes_past}
use Rattle.kt_losses.proofs.SummingLemmas.{no_refusal, past_refusal, stands_more}
use Rattle.kt_losses.proofs.summing.judge.Goals as goal

pub returns-then-not-add-clause-judged : goal.returns-then-not-add-clause-judged
returns-then-not-add-clause-judged c = λ portfolio of run stands goes.
    let placed = c.args.placed.now in
    let known : has_id c.args.ids.now placed.entry.id ≡ true = sym c.is_among.ensures.value ∙ c.if-not-is_among.false in
    let exact = c.add.ensures.exact portfolio (perspective_of of.items) of.set (bare run) (stands.holds c.args.head.samples c.requires.ready) in
    past_refusal (has_id c.args.ids.now placed.entry.id) (goes_past (bare run) placed.entry) c.add.result placed.at known exact c.if-not-add.true

pub returns-clause-judged : goal.returns-clause-judged
returns-clause-judged c = λ portfolio of run stands goes.
    let placed = c.args.placed.now in
    let known : has_id c.args.ids.now placed.entry.id ≡ true = sym c.is_among.ensures.value ∙ c.if-not-is_among.false in
    let holds = stands.holds c.args.head.samples c.requires.ready in
    let exact = c.add.ensures.exact portfolio (perspective_of of.items) of.set (bare run) holds in (
      no_refusal (has_id c.args.ids.now placed.entry.id) (goes_past (bare run) placed.entry) c.add.result placed.at known exact c.if-not-add.false,
      stands_more portfolio of run placed c.args.last.now c.args.summaries.now c.add.new.self c.args.head.samples stands goes (c.add.ensures.ready c.if-not-add.false) (c.add.ensures.kept portfolio (perspective_of of.items) of.set (bare run) holds c.if-not-add.false),
    )
