use Rattle.std.proofs.Common.{◌+◌, ◌<◌, length, ap, arith, sym, ◌∙◌}
use Rattle.std.proofs.lemmas.Result.{IfOk-from_err}
use Rattle.kt_checks.specs.TableChecks.{tiv_of}
use Rattle.kt_gul.specs.declared.struck.StruckItem.{StruckItem}
use Rattle.kt_gul.proofs.FrontLemmas.{nothing_put, where_refused}
use Rattle.kt_gul.proofs.SingleLemmas.{losses_of_one, total_of_one}
use Rattle.kt_gul.proofs.coverage.push_single.Goals as goal

-- what stands where there is no item
none : StruckItem
none = record { item = record { item_id = 0; coverage_id = 0; areaperil_id = 0; vulnerability_id = 0; group_id = 0 }; cdf = 0; moments = record { mean = 0; deviation = 0 } }

pub struck_losses-requires-clause-value : goal.struck_losses-requires-clause-value
unfolding none
struck_losses-requires-clause-value g c = c.requires.value ∙ ap (tiv_of c.args.portfolio.now.rows.coverages) (sym (c.requires.group.together 0 none (omega (arith, c.requires.single))))

pub struck_losses-requires-clause-struck : goal.struck_losses-requires-clause-struck
unfolding none
struck_losses-requires-clause-struck g c = c.requires.group.struck 0 none (omega (arith, c.requires.single))

pub push_plain-requires-clause-losses : goal.push_plain-requires-clause-losses
unfolding none
push_plain-requires-clause-losses g c =
    c.deref.ensures.value ∙ losses_of_one c.args.portfolio.now.rows c.args.draw.event (c.args.draw.samples + 2) c.args.cdfs.now c.args.group.now none c.args.losses.items c.in_ok-losses.losses.items c.requires.single c.requires.empty c.in_ok-losses.ensures.value

pub push_plain-requires-clause-plain : goal.push_plain-requires-clause-plain
push_plain-requires-clause-plain g c _ place later inside =
    let below : 0 < length c.args.group.now = omega (arith, c.requires.single) in
    let struck = c.requires.group.struck 0 none below in
    total_of_one c.args.portfolio.now.rows c.args.draw.event c.args.cdfs.now c.args.group.now (tiv_of c.args.portfolio.now.rows.coverages c.args.coverage) place none c.requires.single struck.ranges.ends (ap (tiv_of c.args.portfolio.now.rows.coverages) (sym (c.requires.group.together 0 none below))) later

pub returns-in_err-losses : goal.returns-in_err-losses
returns-in_err-losses g c = record {
  takes = IfOk-from_err c.from_residual.result _ c.from_residual.ensures.0;
  ok = IfOk-from_err c.from_residual.result _ c.from_residual.ensures.0;
  front = where_refused c.from_residual.result (nothing_put (g.E.Exit.pieces c.args.exit.now));
}

pub returns-in_err-push_plain : goal.returns-in_err-push_plain
returns-in_err-push_plain g c = record {
  takes = IfOk-from_err c.from_residual-in_err-push_plain.result _ c.from_residual-in_err-push_plain.ensures.0;
  ok = IfOk-from_err c.from_residual-in_err-push_plain.result _ c.from_residual-in_err-push_plain.ensures.0;
  front = where_refused c.from_residual-in_err-push_plain.result c.in_err-push_plain.ensures.front;
}

pub returns : goal.returns
returns g c = record { takes = c.in_ok-push_plain.ensures.takes; ok = c.in_ok-push_plain.ensures.ok; front = tt }
