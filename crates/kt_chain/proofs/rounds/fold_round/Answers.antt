use Rattle.std.proofs.Common.{◌∙◌, ◌+◌, ◌*◌, ◌-◌, ◌/◌, ◌≤◌, [], ℕ, List, ◌≡◌, Err, length, ap, sym, subst}
use Rattle.kt_fold.specs.declared.fold.FoldStop.{FoldStop}
use Rattle.kt_chain.proofs.RoundLemmas.{begins, enough, few_parts, round_passes, round_stopped, start_of, stopped_at, why_answered}
use Rattle.kt_chain.specs.Events.{RunInput}
use Rattle.kt_chain.specs.Rounds.{RoundParts, part_count}
use Rattle.kt_chain.specs.TextFolds.{IsTextPart, KeepsRows, TextsStand, TextsStop}
use Rattle.kt_chain.proofs.TextFoldLemmas.{keeps_all, keeps_front, parts_folded, parts_stopped}
use Rattle.kt_block.specs.declared.terms.Terms.{Terms}
use Rattle.kt_fold.specs.Folds.{IsGoodPart, fold_refusal}
use Rattle.kt_chain.specs.Runs.{AreGivenRows, FoldsTo, IsFolded, RunShares}
use Rattle.kt_load.specs.EventRows.{ids_of}
use Rattle.kt_event.specs.Plan.{terms_of}
use Rattle.kt_chain.proofs.rounds.fold_round.Goals as goal

pub run_round-requires-clause-fits : goal.run_round-requires-clause-fits
run_round-requires-clause-fits g c = λ lifetimes outlive k text below is.
    c.requires.fits text.part (subst (λ (run : RunShares). IsGoodPart run.terms.samples text.part) c.run.view_is is.part.good)

pub run_round-requires-clause-count : goal.run_round-requires-clause-count
run_round-requires-clause-count g c = λ lifetimes outlive.
    few_parts c.run.inside.batch c.count.result c.run.invariant.some
    (subst (λ (n : ℕ). n ≤ 16 * c.run.inside.batch) (sym c.count.ensures.value) (subst (λ (run : RunShares). length c.args.given.now ≤ 16 * run.batch) (sym c.run.view_is) c.requires.few))

pub returns-in-Ok-clause-folds : goal.returns-in-Ok-clause-folds
returns-in-Ok-clause-folds g c = λ input done terms rows given folded.
    let round : RoundParts = record { terms = terms_of c.run.inside.plan.now; rows = c.run.inside.portfolio.now.rows; given = c.args.given.now; batch = c.run.inside.batch } in
    let terms_are = terms ∙ sym (ap (λ (run : RunShares). run.terms) c.run.view_is) in
    let rows_are = rows ∙ sym (ap (λ (run : RunShares). run.portfolio.rows) c.run.view_is) in
    let start = start_of input done in
    let ended = c.in-Ok.ensures.round start [] (record { parts = begins input done c.args.fold.now.inner folded; made = c.clear.ensures.items }) in (
      round_passes input round terms_are rows_are given done
          c.run_round.new.fold.inner _ (parts_folded round start (ap (λ (t : Terms). t.samples) terms_are) rows_are c.run_round.new.fold _ ended)
          (subst (λ (n : ℕ). length c.args.given.now ≤ part_count c.run.inside.batch n * c.run.inside.batch) (sym c.count.ensures.value) (enough c.run.inside.batch (length c.args.given.now) c.run.invariant.some)),
      keeps_all round start (ap (λ (t : Terms). t.samples) terms_are) rows_are c.run_round.new.fold _ ended,
    )

pub returns-in-Ok-clause-fits : goal.returns-in-Ok-clause-fits
returns-in-Ok-clause-fits g c = λ part good. c.run_round.ensures.fits (record { part = part; made = [] }) (c.requires.fits part good)

pub returns-in-Err-OutOfMemory-clause-fits : goal.returns-in-Err-OutOfMemory-clause-fits
returns-in-Err-OutOfMemory-clause-fits g c = λ part good. c.run_round.ensures.fits (record { part = part; made = [] }) (c.requires.fits part good)

pub returns-clause-folds : goal.returns-clause-folds
returns-clause-folds g c =
    why_answered (fold_refusal c.in-Err-Fold.stop) c.why_stopped.result (λ refusal. (input : RunInput) (done : List ℕ) → input.terms ≡ c.args.run.now.terms → input.rows ≡ c.args.run.now.portfolio.rows → AreGivenRows input c.args.given.now → IsFolded input done c.args.fold.now.inner → FoldsTo input done (ids_of c.args.given.now) refusal c.run_round.new.fold.inner × KeepsRows c.run_round.new.fold) c.why_stopped.ensures
    (λ why is. λ input done terms rows given folded.
    let round : RoundParts = record { terms = terms_of c.run.inside.plan.now; rows = c.run.inside.portfolio.now.rows; given = c.args.given.now; batch = c.run.inside.batch } in
    let count = (c.count.result + c.run.inside.batch - 1) / c.run.inside.batch in
    let terms_are = terms ∙ sym (ap (λ (run : RunShares). run.terms) c.run.view_is) in
    let rows_are = rows ∙ sym (ap (λ (run : RunShares). run.portfolio.rows) c.run.view_is) in
    let samples_are = ap (λ (t : Terms). t.samples) terms_are in
    let start = start_of input done in
    let stopped = stopped_at (IsTextPart round) _ (TextsStand start c.run_round.new.fold) (TextsStop start c.run_round.new.fold) [] count c.in-Err-Fold.field-0-0 _ c.in-Err-Fold.stop c.in-Err-Fold.field-0-is
    (c.in-Err-Fold.ensures.round start [] (record { parts = begins input done c.args.fold.now.inner folded; made = c.clear.ensures.items })) in (
      round_stopped input round terms_are rows_are given done
          c.run_round.new.fold.inner count c.in-Err-Fold.field-0-0 c.in-Err-Fold.stop
          (parts_stopped round start samples_are rows_are c.run_round.new.fold count c.in-Err-Fold.field-0-0 c.in-Err-Fold.stop stopped) why is,
      keeps_front round start samples_are rows_are c.run_round.new.fold count c.in-Err-Fold.field-0-0 c.in-Err-Fold.stop stopped why is,
    ))

pub returns-clause-fits : goal.returns-clause-fits
returns-clause-fits g c = λ part good. c.run_round.ensures.fits (record { part = part; made = [] }) (c.requires.fits part good)
