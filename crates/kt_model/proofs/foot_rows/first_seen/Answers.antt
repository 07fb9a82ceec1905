use Rattle.std.proofs.Common.{◌∙◌, subst, sym, get_or, take}
use Rattle.std.proofs.lemmas.List.{get_or_default}
use Rattle.kt_rec.specs.declared.hazard.FootRow.{FootRow}
use Rattle.kt_model.specs.Seen.{IsSeen}
use Rattle.kt_model.proofs.JudgeLemmas.{seen_to, passes_on, refuses_at}
use Rattle.kt_model.proofs.foot_rows.first_seen.Goals as goal

pub loop-index-preserved : goal.loop-index-preserved
loop-index-preserved c =
    let none : FootRow = record { areaperil = 0; intensity = 0; prob = 0 } in
    let rows = c.args.rows.now in
    let i = c.loop-index.index in
    let row = get_or rows i none in
    let is = get_or_default rows i none row c.loop-index-test.true in
    record {
      seen = subst (λ seen. IsSeen seen c.see.new.self) (seen_to rows i row c.loop-index-test.true is) (c.in_ok-cause.ensures.seen (take i rows) c.loop-index.invariant.seen c.in_default.is);
      first = passes_on rows i row c.loop-index-test.true is c.loop-index.invariant.first (sym (c.in_ok-cause.ensures.cause (take i rows) c.loop-index.invariant.seen) ∙ c.in_default.is);
    }

pub returns-in-Some-clause-first : goal.returns-in-Some-clause-first
returns-in-Some-clause-first c =
    let none : FootRow = record { areaperil = 0; intensity = 0; prob = 0 } in
    let rows = c.args.rows.now in
    let i = c.loop-index.index in
    let row = get_or rows i none in
    let is = get_or_default rows i none row c.loop-index-test.true in
    sym (refuses_at rows i row c.loop-index-test.true is c.in-Some.cause c.loop-index.invariant.first (sym (c.in_ok-cause.ensures.cause (take i rows) c.loop-index.invariant.seen) ∙ c.in-Some.is))
