-- The totals are as wide as there are places, and the insured value is that of each item.
use Rattle.std.proofs.Common.{ℕ, ap, sym, subst, ◌∙◌}
use Rattle.std.proofs.lemmas.Result.{IfOk-from_err}
use Rattle.kt_checks.specs.TableChecks.{tiv_of}
use Rattle.kt_gul.specs.Coverage.{IsRow}
use Rattle.kt_gul.proofs.FrontLemmas.{nothing_put, where_refused}
use Rattle.kt_gul.proofs.coverage.push_group.Goals as goal

pub group_losses-requires-clause-value : goal.group_losses-requires-clause-value
group_losses-requires-clause-value g c = λ k d below. c.requires.value ∙ ap (tiv_of c.args.portfolio.now.rows.coverages) (sym (c.requires.group.together k d below))

pub group_losses-requires-clause-zeros : goal.group_losses-requires-clause-zeros
group_losses-requires-clause-zeros g c = subst (λ (width : ℕ). IsRow (λ place. 0) width c.clear.new.sums) c.requires.totals c.clear.ensures.value

pub push_losses-requires-clause-losses : goal.push_losses-requires-clause-losses
push_losses-requires-clause-losses g c = c.deref.ensures.value ∙ c.in_ok-losses.ensures.value

pub push_losses-requires-clause-totals : goal.push_losses-requires-clause-totals
push_losses-requires-clause-totals g c = c.in_ok-losses.ensures.totals

pub push_losses-requires-clause-most : goal.push_losses-requires-clause-most
push_losses-requires-clause-most g c = c.in_ok-losses.ensures.most

pub returns : goal.returns
returns g c = record { takes = c.in_ok-push_losses.ensures.takes; ok = c.in_ok-push_losses.ensures.ok; front = tt }

pub returns-in_err-push_losses : goal.returns-in_err-push_losses
returns-in_err-push_losses g c = record {
  takes = IfOk-from_err c.from_residual-in_err-push_losses.result _ c.from_residual-in_err-push_losses.ensures.0;
  ok = IfOk-from_err c.from_residual-in_err-push_losses.result _ c.from_residual-in_err-push_losses.ensures.0;
  front = where_refused c.from_residual-in_err-push_losses.result c.in_err-push_losses.ensures.front;
}

pub returns-in_err-losses : goal.returns-in_err-losses
returns-in_err-losses g c = record {
  takes = IfOk-from_err c.from_residual.result _ c.from_residual.ensures.0;
  ok = IfOk-from_err c.from_residual.result _ c.from_residual.ensures.0;
  front = where_refused c.from_residual.result (nothing_put (g.E.Exit.pieces c.args.exit.now));
}

pub returns-then-group-eq1 : goal.returns-then-group-eq1
returns-then-group-eq1 g c = record { takes = c.push_single.ensures.takes; ok = c.push_single.ensures.ok; front = c.push_single.ensures.front }
