use Rattle.std.proofs.Common.{◌≡◌, ◌+◌, ◌∙◌, ap, arith, sym, unwrap_or}
use Rattle.kt_rec.specs.FootRows.{areaperil_total}
use Rattle.kt_model.proofs.SeenLemmas.{cause_twice, cause_sum, cause_none, seen_more, fine_prob}
use Rattle.kt_model.proofs.foot_rows.Seen.see.Goals as goal

pub returns-then-not-branch-clause-cause : goal.returns-then-not-branch-clause-cause
returns-then-not-branch-clause-cause c = λ rows is. cause_twice rows c.args.row.now c.args.self.now is (sym c.in_default.ensures.value) _ c.in_ok-insert.ensures.added c.if-not-branch.true

pub returns-then-total-gt1001000-clause-cause : goal.returns-then-total-gt1001000-clause-cause
returns-then-total-gt1001000-clause-cause c = λ rows is.
    let was : c.unwrap_or-before.result ≡ areaperil_total rows c.args.row.now.areaperil = c.unwrap_or-before.ensures ∙ (ap (λ o. unwrap_or o 0) (c.copied.ensures ∙ c.get.ensures.value) ∙ is.totals c.args.row.now.areaperil) in
    let low = is.within c.args.row.now.areaperil in
    let short = fine_prob c.args.row.now (sym c.in_default.ensures.value) in
    let total : c.saturating_add-total.result ≡ areaperil_total rows c.args.row.now.areaperil + c.args.row.now.prob = omega arith in
    cause_sum rows c.args.row.now c.args.self.now is (sym c.in_default.ensures.value) _ c.in_ok-insert.ensures.added c.if-not-branch.false c.saturating_add-total.result total c.if-total-gt1001000.true

pub returns-clause-cause : goal.returns-clause-cause
returns-clause-cause c = λ rows is.
    let was : c.unwrap_or-before.result ≡ areaperil_total rows c.args.row.now.areaperil = c.unwrap_or-before.ensures ∙ (ap (λ o. unwrap_or o 0) (c.copied.ensures ∙ c.get.ensures.value) ∙ is.totals c.args.row.now.areaperil) in
    let low = is.within c.args.row.now.areaperil in
    let total : c.saturating_add-total.result ≡ areaperil_total rows c.args.row.now.areaperil + c.args.row.now.prob = omega arith in
    cause_none rows c.args.row.now c.args.self.now is (sym c.in_default.ensures.value) _ c.in_ok-insert.ensures.added c.if-not-branch.false c.saturating_add-total.result total c.if-total-gt1001000.false

pub returns-clause-seen : goal.returns-clause-seen
returns-clause-seen c = λ rows is _.
    let was : c.unwrap_or-before.result ≡ areaperil_total rows c.args.row.now.areaperil = c.unwrap_or-before.ensures ∙ (ap (λ o. unwrap_or o 0) (c.copied.ensures ∙ c.get.ensures.value) ∙ is.totals c.args.row.now.areaperil) in
    let low = is.within c.args.row.now.areaperil in
    let total : c.saturating_add-total.result ≡ areaperil_total rows c.args.row.now.areaperil + c.args.row.now.prob = omega arith in
    seen_more rows c.args.row.now c.args.self.now _ is c.saturating_add-total.result total c.if-total-gt1001000.false c.in_ok-insert.ensures.updates.0 c.in_ok-insert-2.ensures.updates.0
